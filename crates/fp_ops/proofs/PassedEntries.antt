-- What each of a list passes.
use Rattle.std.proofs.Common.{◌≡◌, ℕ, zero, suc, ◌+◌, ◌<◌, Bool, true, List, [], ◌∷◌, Option, Some, None, Result, Ok, length, refl, sym, ap, ◌∙◌, subst, arith}
use Rattle.std.specs.Prelude.{slice_get, is_some}
use Rattle.std.specs.List.{list_all}
use Rattle.std.proofs.lemmas.Bool.{and_parts}
use Rattle.fp_model.specs.declared.fault.FileFault.{FileFault}
use Rattle.fp_model.specs.References.{each_checked}
use Rattle.fp_model.proofs.Readers.{opened}

pub each_passes : {A : Type 0} (spelled : A → List ℕ) (check : ℕ → A → Result (Unit {0}) FileFault) (at : ℕ) (xs : List A) → each_checked spelled check at xs ≡ Ok tt → (i : ℕ) (x : A) → slice_get xs i ≡ Some x → (here : ℕ) × (check here x ≡ Ok tt)
unfolding each_checked
each_passes spelled check at [] e i x is = absurd (cc)
each_passes spelled check at (y ∷ xs) e zero x is = opened (check at y) _ (λ u passed more. let same : y ≡ x = cc in (at, subst (λ z. check at z ≡ Ok tt) same passed)) e
each_passes spelled check at (y ∷ xs) e (suc i) x is = opened (check at y) _ (λ u passed more. each_passes spelled check (at + length (spelled y)) xs more i x is) e

pub each_of : {A : Type 0} (test : A → Bool) (xs : List A) → list_all test xs ≡ true → (i : ℕ) (x : A) → slice_get xs i ≡ Some x → test x ≡ true
each_of test [] all i x is = absurd (cc)
each_of test (y ∷ xs) all zero x is = let same : y ≡ x = cc in ap test (sym same) ∙ (and_parts (test y) (list_all test xs) all).0
each_of test (y ∷ xs) all (suc i) x is = each_of test xs (and_parts (test y) (list_all test xs) all).1 i x is

pub some_is : {A : Type 0} (o : Option A) → is_some o ≡ true → (x : A) × (o ≡ Some x)
some_is None is = absurd (cc)
some_is (Some x) is = (x, refl)

pub item_there : {A : Type 0} (xs : List A) (i : ℕ) → i < length xs → is_some (slice_get xs i) ≡ true
item_there [] i lt = absurd (omega arith)
item_there (x ∷ xs) zero lt = refl
item_there (x ∷ xs) (suc i) lt = item_there xs i (omega arith)
