-- What the first of some classes gives that gives something, and what all of them give.
use Rattle.std.proofs.Common.{◌≡◌, ℕ, Bool, true, false, cond, List, [], ◌∷◌, ◌++◌, filter, flat_map, Option, Some, None, refl, sym, ap, ◌∙◌}
use Rattle.std.specs.Prelude.{option_and_then}
use Rattle.std.specs.Option.{option_or, option_to_list}
use Rattle.std.proofs.lemmas.Grind.{flat_map-append}
use Rattle.std.proofs.lemmas.List.Elements.{filter-append}
use Rattle.fp_facts.specs.Resolution.{first_given, first_of}

-- ---- the first

or-first : (a b c : Option ℕ) → option_or (option_or a b) c ≡ option_or a (option_or b c)
or-first None b c = refl
or-first (Some x) b c = refl

pub first-append : (give : ℕ → Option ℕ) (xs ys : List ℕ) → first_given give (xs ++ ys) ≡ option_or (first_given give xs) (first_given give ys)
first-append give [] ys = refl
first-append give (x ∷ xs) ys = ap (option_or (give x)) (first-append give xs ys) ∙ sym (or-first (give x) (first_given give xs) (first_given give ys))

pub first-of_each : (give : ℕ → Option ℕ) (f : ℕ → List ℕ) (xs : List ℕ) → first_given give (flat_map f xs) ≡ first_given (λ x. first_given give (f x)) xs
first-of_each give f [] = refl
first-of_each give f (x ∷ xs) = first-append give (f x) (flat_map f xs) ∙ ap (option_or (first_given give (f x))) (first-of_each give f xs)

-- the first of all that they give
first-in : (o rest : Option ℕ) (more : List ℕ) → first_of more ≡ rest → first_of (option_to_list o ++ more) ≡ option_or o rest
first-in None rest more is = is
first-in (Some x) rest more is = refl

pub first-of_all : (give : ℕ → Option ℕ) (xs : List ℕ) → first_of (flat_map (λ x. option_to_list (give x)) xs) ≡ first_given give xs
first-of_all give [] = refl
first-of_all give (x ∷ xs) = first-in (give x) (first_given give xs) (flat_map (λ y. option_to_list (give y)) xs) (first-of_all give xs)

-- ---- all of them

pub each-of_each : {X Y Z : Type 0} (f : Y → List Z) (g : X → List Y) (xs : List X) → flat_map f (flat_map g xs) ≡ flat_map (λ x. flat_map f (g x)) xs
each-of_each f g [] = refl
each-of_each f g (x ∷ xs) = flat_map-append f (g x) (flat_map g xs) ∙ ap (λ l. flat_map f (g x) ++ l) (each-of_each f g xs)

-- a test of what is given
abbrev pub passing : (ℕ → Bool) → Option ℕ → Option ℕ
passing test o = option_and_then (λ m. cond (test m) (Some m) None) o

kept : (test : ℕ → Bool) (o : Option ℕ) → filter test (option_to_list o) ≡ option_to_list (passing test o)
kept test None = refl
kept test (Some m) = elim (test m) as (λ b. cond b (m ∷ []) [] ≡ option_to_list (cond b (Some m) None)) [
  | true ↦ refl
  | false ↦ refl
]

pub all-passing : (test : ℕ → Bool) (give : ℕ → Option ℕ) (xs : List ℕ) → filter test (flat_map (λ x. option_to_list (give x)) xs) ≡ flat_map (λ x. option_to_list (passing test (give x))) xs
all-passing test give [] = refl
all-passing test give (x ∷ xs) =
    let rest = flat_map (λ y. option_to_list (give y)) xs in
    filter-append test (option_to_list (give x)) rest
    ∙ ap (λ l. l ++ filter test rest) (kept test (give x))
    ∙ ap (λ l. option_to_list (passing test (give x)) ++ l) (all-passing test give xs)

-- a test of those that give
pub all-chosen : (test : ℕ → Bool) (give : ℕ → Option ℕ) (xs : List ℕ) → flat_map (λ x. option_to_list (give x)) (filter test xs) ≡ flat_map (λ x. option_to_list (cond (test x) (give x) None)) xs
all-chosen test give [] = refl
all-chosen test give (x ∷ xs) =
    let all : List ℕ → List ℕ = λ l. flat_map (λ y. option_to_list (give y)) l in
    (elim (test x) as (λ b. all (cond b (x ∷ filter test xs) (filter test xs)) ≡ option_to_list (cond b (give x) None) ++ all (filter test xs)) [
      | true ↦ refl
      | false ↦ refl
    ])
    ∙ ap (λ l. option_to_list (cond (test x) (give x) None) ++ l) (all-chosen test give xs)
