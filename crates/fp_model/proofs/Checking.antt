-- A loop that checks one thing after the other.
use Rattle.std.proofs.Common.{◌≡◌, ℕ, suc, ◌+◌, ◌<◌, ◌≤◌, List, ◌∷◌, length, get_or, drop, Result, Ok, refl, sym, ap, ◌∙◌, add-one, drop-cons, length-append}
use Rattle.std.specs.List.{flat_map}
use Rattle.std.proofs.lemmas.List.{drop_all}
use Rattle.fp_model.specs.declared.fault.FileFault.{FileFault}
use Rattle.fp_model.specs.Reading.{Fails}
use Rattle.fp_model.specs.References.{each_checked}
use Rattle.fp_model.proofs.Many.{Fails-bind}

-- the next of a list, and what is behind it
pub next_item : {A : Type 0} (xs : List A) (i : ℕ) (x : A) → i < length xs → x ≡ get_or xs i x → drop i xs ≡ x ∷ drop (i + 1) xs
next_item xs i x lt is = rw add-one (drop-cons xs i x lt ∙ ap (λ y. y ∷ drop (suc i) xs) (sym is))

module _ {A : Type 0} (spelled : A → List ℕ) (check : ℕ → A → Result (Unit {0}) FileFault) (xs : List A) (i at : ℕ) (x : A) (lt : i < length xs) (is : x ≡ get_or xs i x) where
  here : drop i xs ≡ x ∷ drop (i + 1) xs
  here = next_item xs i x lt is

  -- the loop goes on behind a thing that passed
  pub each-next : check at x ≡ Ok tt → each_checked spelled check at (drop i xs) ≡ each_checked spelled check (at + length (spelled x)) (drop (i + 1) xs)
  unfolding each_checked
  each-next e = ap (each_checked spelled check at) here ∙ rw e refl

  -- it fails where a thing does
  pub each-fails : (e : FileFault) → Fails e (check at x) → Fails e (each_checked spelled check at (drop i xs))
  unfolding each_checked
  each-fails e h = rw here (Fails-bind e (check at x) (λ _. each_checked spelled check (at + length (spelled x)) (drop (i + 1) xs)) h)

  -- how many bytes are left
  pub each-size : length (flat_map spelled (drop i xs)) ≡ length (spelled x) + length (flat_map spelled (drop (i + 1) xs))
  each-size = ap (λ t. length (flat_map spelled t)) here ∙ length-append (spelled x) (flat_map spelled (drop (i + 1) xs))

pub each-end : {A : Type 0} (spelled : A → List ℕ) (check : ℕ → A → Result (Unit {0}) FileFault) (xs : List A) (i at : ℕ) → length xs ≤ i → each_checked spelled check at (drop i xs) ≡ Ok tt
unfolding each_checked
each-end spelled check xs i at le = ap (each_checked spelled check at) (drop_all i xs le)
