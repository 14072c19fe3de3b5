-- Options may stand in any order.
use Rattle.std.proofs.Common.{◌≡◌, Bool, true, false, cond, is_some, Option, Some, None, List, ◌∷◌, refl, sym, ap, ◌∙◌}
use Rattle.std.specs.Prelude.{codes, option_and_then}
use Rattle.std.specs.Str.{bytes_eq}
use Rattle.clap.specs.Walk.{Text}
use Rattle.fp_words.specs.Words.{Given, is_plain, options_of, with_option, with_value}
use Rattle.fp_words.proofs.OptionLemmas.{Name, analyses, show, workers, value_at, with_named}

-- ---- options by name

abbrev named_by : Bool → Bool → Bool → Option Name
named_by a s w = cond a (Some analyses) (cond s (Some show) (cond w (Some workers) None))

abbrev name_of : Text → Option Name
name_of word = named_by (bytes_eq word (codes "--analyses")) (bytes_eq word (codes "--show")) (bytes_eq word (codes "--workers"))

abbrev add : Given → Option Name → Text → Option Given
add given None value = None
add given (Some name) value = cond (is_some (value_at given name)) None (Some (with_named given name value))

with_value-add : (given : Given) (word value : Text) → with_value given word value ≡ add given (name_of word) value
with_value-add given word value = by_case (bytes_eq word (codes "--analyses")) (bytes_eq word (codes "--show")) (bytes_eq word (codes "--workers"))
  where
    by_case : (a s w : Bool) → cond a (cond (is_some given.analyses) None (Some (with_named given analyses value))) (cond s (cond (is_some given.show) None (Some (with_named given show value))) (cond w (cond (is_some given.workers) None (Some (with_named given workers value))) None)) ≡ add given (named_by a s w) value
    by_case true s w = refl
    by_case false true w = refl
    by_case false false true = refl
    by_case false false false = refl

-- ---- two options, either first

abbrev no_more : Given → Option Given
no_more given = None

never : (o : Option Given) → option_and_then no_more o ≡ None
never None = refl
never (Some given) = refl

apart : (p q : Bool) (f g : Given → Option Given) (first second both : Given) → f first ≡ cond q None (Some both) → g second ≡ cond p None (Some both) → option_and_then f (cond p None (Some first)) ≡ option_and_then g (cond q None (Some second))
apart true true f g first second both e h = refl
apart true false f g first second both e h = sym h
apart false true f g first second both e h = e
apart false false f g first second both e h = e ∙ sym h

twice : (p : Bool) (f g : Given → Option Given) (first second : Given) → f first ≡ None → g second ≡ None → option_and_then f (cond p None (Some first)) ≡ option_and_then g (cond p None (Some second))
twice true f g first second e h = refl
twice false f g first second e h = e ∙ sym h

named-swap : (given : Given) (n m : Name) (x y : Text) → option_and_then (λ g. add g (Some m) y) (add given (Some n) x) ≡ option_and_then (λ g. add g (Some n) x) (add given (Some m) y)
named-swap given analyses analyses x y = twice (is_some given.analyses) (λ g. add g (Some analyses) y) (λ g. add g (Some analyses) x) (with_named given analyses x) (with_named given analyses y) refl refl
named-swap given analyses show x y = apart (is_some given.analyses) (is_some given.show) (λ g. add g (Some show) y) (λ g. add g (Some analyses) x) (with_named given analyses x) (with_named given show y) (record given { analyses = Some x; show = Some y }) refl refl
named-swap given analyses workers x y = apart (is_some given.analyses) (is_some given.workers) (λ g. add g (Some workers) y) (λ g. add g (Some analyses) x) (with_named given analyses x) (with_named given workers y) (record given { analyses = Some x; workers = Some y }) refl refl
named-swap given show analyses x y = apart (is_some given.show) (is_some given.analyses) (λ g. add g (Some analyses) y) (λ g. add g (Some show) x) (with_named given show x) (with_named given analyses y) (record given { analyses = Some y; show = Some x }) refl refl
named-swap given show show x y = twice (is_some given.show) (λ g. add g (Some show) y) (λ g. add g (Some show) x) (with_named given show x) (with_named given show y) refl refl
named-swap given show workers x y = apart (is_some given.show) (is_some given.workers) (λ g. add g (Some workers) y) (λ g. add g (Some show) x) (with_named given show x) (with_named given workers y) (record given { show = Some x; workers = Some y }) refl refl
named-swap given workers analyses x y = apart (is_some given.workers) (is_some given.analyses) (λ g. add g (Some analyses) y) (λ g. add g (Some workers) x) (with_named given workers x) (with_named given analyses y) (record given { analyses = Some y; workers = Some x }) refl refl
named-swap given workers show x y = apart (is_some given.workers) (is_some given.show) (λ g. add g (Some show) y) (λ g. add g (Some workers) x) (with_named given workers x) (with_named given show y) (record given { show = Some y; workers = Some x }) refl refl
named-swap given workers workers x y = twice (is_some given.workers) (λ g. add g (Some workers) y) (λ g. add g (Some workers) x) (with_named given workers x) (with_named given workers y) refl refl

add-swap : (given : Given) (n m : Option Name) (x y : Text) → option_and_then (λ g. add g m y) (add given n x) ≡ option_and_then (λ g. add g n x) (add given m y)
add-swap given None None x y = refl
add-swap given None (Some m) x y = sym (never (add given (Some m) y))
add-swap given (Some n) None x y = never (add given (Some n) x)
add-swap given (Some n) (Some m) x y = named-swap given n m x y

value-swap : (given : Given) (a x b y : Text) → option_and_then (λ g. with_value g b y) (with_value given a x) ≡ option_and_then (λ g. with_value g a x) (with_value given b y)
value-swap given a x b y =
    (λ i. option_and_then (λ g. with_value-add g b y i) (with_value-add given a x i))
    ∙ add-swap given (name_of a) (name_of b) x y
    ∙ (λ i. option_and_then (λ g. sym (with_value-add g a x) i) (sym (with_value-add given b y) i))

option-swap : (given : Given) (a x b y : Text) → option_and_then (λ g. with_option g b y) (with_option given a x) ≡ option_and_then (λ g. with_option g a x) (with_option given b y)
option-swap given a x b y = by_case (is_plain x) (is_plain y)
  where
    by_case : (p q : Bool) → option_and_then (λ g. cond q (with_value g b y) None) (cond p (with_value given a x) None) ≡ option_and_then (λ g. cond p (with_value g a x) None) (cond q (with_value given b y) None)
    by_case true true = value-swap given a x b y
    by_case true false = never (with_value given a x)
    by_case false true = sym (never (with_value given b y))
    by_case false false = refl

-- ---- the words

after_both : (given : Given) (a x b y : Text) (rest : List Text) → is_plain a ≡ false → is_plain b ≡ false → options_of given (a ∷ x ∷ b ∷ y ∷ rest) ≡ option_and_then (λ more. options_of more rest) (option_and_then (λ g. with_option g b y) (with_option given a x))
after_both given a x b y rest pa pb =
    ap (λ c. cond c (Some (given, a ∷ x ∷ b ∷ y ∷ rest)) (option_and_then (λ g. options_of g (b ∷ y ∷ rest)) (with_option given a x))) pa
    ∙ ap (λ c. option_and_then (λ g. cond c (Some (g, b ∷ y ∷ rest)) (option_and_then (λ more. options_of more rest) (with_option g b y))) (with_option given a x)) pb
    ∙ joined (with_option given a x)
  where
    joined : (o : Option Given) → option_and_then (λ g. option_and_then (λ more. options_of more rest) (with_option g b y)) o ≡ option_and_then (λ more. options_of more rest) (option_and_then (λ g. with_option g b y) o)
    joined None = refl
    joined (Some g) = refl

-- two options that stand side by side may change places
pub options-swap : (given : Given) (a x b y : Text) (rest : List Text) → is_plain a ≡ false → is_plain b ≡ false → options_of given (a ∷ x ∷ b ∷ y ∷ rest) ≡ options_of given (b ∷ y ∷ a ∷ x ∷ rest)
options-swap given a x b y rest pa pb =
    after_both given a x b y rest pa pb
    ∙ ap (option_and_then (λ more. options_of more rest)) (option-swap given a x b y)
    ∙ sym (after_both given b y a x rest pb pa)
