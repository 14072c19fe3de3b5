-- What words that ask for a run ask for.
use Rattle.std.proofs.Common.{◌≡◌, ℕ, Bool, true, false, List, [], ◌∷◌, cond, Option, Some, None, refl, sym, ap, subst, ◌∙◌}
use Rattle.std.specs.Prelude.{option_map, option_and_then}
use Rattle.std.specs.List.{list_all}
use Rattle.std.proofs.lemmas.Option.{none-some, same_Some}
use Rattle.fp_words.specs.Words.{Given, RunAsked, asked, is_plain, none_given, one_worker, options_of, order_of, run_of, run_with, run_asked}
use Rattle.fp_words.specs.Lists.{list_items}
use Rattle.fp_top.specs.Words.{asked_of}
use Rattle.fp_words.specs.Words.Asked.{Run, Generate}

and_then_holds : {X Y : Type 0} (P : Y → Type 0) (f : X → Option Y) (o : Option X) → ((x : X) (y : Y) → f x ≡ Some y → P y) → (y : Y) → option_and_then f o ≡ Some y → P y
and_then_holds P f None holds y is = absurd (none-some y is)
and_then_holds P f (Some x) holds y is = holds x y is

map_holds : {X Y : Type 0} (P : Y → Type 0) (f : X → Y) (o : Option X) → ((x : X) → P (f x)) → (y : Y) → option_map f o ≡ Some y → P y
map_holds P f None holds y is = absurd (none-some y is)
map_holds P f (Some x) holds y is = subst P (same_Some (f x) y is) (holds x)

-- it shows what was asked for alone, and no cycles
abbrev IsShort : RunAsked → Type 0
IsShort run = (run.all ≡ false) × (run.cycles ≡ false)

if_some : (b : Bool) (o : Option RunAsked) (r : RunAsked) → cond b o None ≡ Some r → o ≡ Some r
if_some true o r is = is
if_some false o r is = absurd (none-some r is)

run_with-short : (given : Given) (dir : List ℕ) (roots : List (List ℕ)) (r : RunAsked) → run_with given dir roots ≡ Some r → IsShort r
run_with-short given dir roots =
    and_then_holds IsShort _ (option_and_then list_items given.analyses) (λ analyses.
    and_then_holds IsShort _ (option_and_then list_items given.show) (λ show.
    map_holds IsShort (λ workers. asked dir roots analyses show workers) (option_and_then one_worker given.workers) (λ workers. (refl, refl))))

run_of-short : (given : Given) (words : List (List ℕ)) (r : RunAsked) → run_of given words ≡ Some r → IsShort r
run_of-short given [] r is = absurd (none-some r is)
run_of-short given (dir ∷ roots) r is = run_with-short given dir roots r (if_some (list_all is_plain (dir ∷ roots)) (run_with given dir roots) r is)

asked-short : (words : List (List ℕ)) (r : RunAsked) → run_asked words ≡ Some r → (r.all ≡ false) × (r.cycles ≡ false)
asked-short words = and_then_holds IsShort _ (options_of none_given words) (λ parts r is. run_of-short parts.0 parts.1 r is)

run-known : (o : Option RunAsked) (r : RunAsked) → option_map Run o ≡ Some (Run r) → o ≡ Some r
run-known None r is = absurd (none-some (Run r) is)
run-known (Some q) r is = let same : Run q ≡ Run r = same_Some (Run q) (Run r) is in cc

never-generate : (o : Option RunAsked) (seed classes workers : ℕ) → option_map Run o ≡ Some (Generate seed classes workers) → ⊥
never-generate None seed classes workers is = none-some (Generate seed classes workers) is
never-generate (Some q) seed classes workers is = let same : Run q ≡ Generate seed classes workers = same_Some (Run q) (Generate seed classes workers) is in cc

order-none : (o : Option RunAsked) → option_map Run o ≡ None → o ≡ None
order-none None is = refl
order-none (Some q) is = absurd (none-some (Run q) (sym is))

order-is : (words : List (List ℕ)) → order_of words ≡ option_map Run (run_asked words)
unfolding order_of
order-is words = refl

pub asked-run : (words : List (List ℕ)) (r : RunAsked) → order_of words ≡ Some (Run r) → asked_of words ≡ Some r
asked-run words r is = run-known (run_asked words) r (sym (order-is words) ∙ is)

pub short-run : (words : List (List ℕ)) (r : RunAsked) → order_of words ≡ Some (Run r) → (r.all ≡ false) × (r.cycles ≡ false)
short-run words r is = asked-short words r (run-known (run_asked words) r (sym (order-is words) ∙ is))

pub asked-none : (words : List (List ℕ)) → order_of words ≡ None → asked_of words ≡ None
asked-none words is = order-none (run_asked words) (sym (order-is words) ∙ is)

pub order-of-none : (words : List (List ℕ)) → asked_of words ≡ None → order_of words ≡ None
order-of-none words is = order-is words ∙ ap (option_map Run) is

pub never : (words : List (List ℕ)) (seed classes workers : ℕ) → order_of words ≡ Some (Generate seed classes workers) → ⊥
never words seed classes workers is = never-generate (run_asked words) seed classes workers (sym (order-is words) ∙ is)
