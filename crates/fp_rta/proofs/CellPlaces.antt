-- The places of cells are below their number.
use Rattle.std.proofs.Common.{◌≡◌, ◌≢◌, ◌<◌, ◌||◌, ◌+◌, ℕ, Bool, true, false, IsTrue, List, [], ◌∷◌, Option, Some, None, Contains, cond, get_or, length, take, slice_get, refl, ap, subst, ◌∙◌, arith, inl, inr, zero, suc}
use Rattle.std.specs.Prelude.{option_map, unwrap_or}
use Rattle.std.specs.List.{flat_map}
use Rattle.std.specs.Option.{option_to_list}
use Rattle.std.proofs.lemmas.Bool.{cases_lt}
use Rattle.fp_cells.specs.declared.kind.KindId.{KindId}
use Rattle.fp_cells.specs.declared.kind.KindId.TheVariants as kind
use Rattle.fp_cells.specs.declared.kind.Entity.{Entity}
use Rattle.fp_cells.specs.declared.kind.Entity.TheVariants as entity
use Rattle.fp_cells.specs.Cells.{Cell, IsNumbering, first_place, has_cell, is_cell_of, places_of, total_places}
use Rattle.fp_facts.specs.Hierarchy.{has_number}
use Rattle.fp_facts.proofs.ListedNumbers.{has-append}
use Rattle.fp_eqs.specs.Tests.{either, same-place}
use Rattle.fp_eqs.proofs.Told.{or-false}
use Rattle.fp_rta.specs.Places.{inst_place, inst_places, reach_place, reach_places}

some-places : (bits : ℕ) → 0 < places_of bits
some-places bits = omega arith

pub place-below : (cells : List Cell) (k : KindId) (e : Entity) (p : ℕ) → first_place cells k e ≡ Some p → p < total_places cells
place-below [] k e p h = cc
place-below (cell ∷ cells) k e p h = by-test (place-below cells k e) (is_cell_of k e cell) (first_place cells k e) refl h
  where
    by-test : ((q : ℕ) → first_place cells k e ≡ Some q → q < total_places cells) → (here : Bool) (rest : Option ℕ) → first_place cells k e ≡ rest → cond here (Some 0) (option_map (λ place. places_of cell.bits + place) rest) ≡ Some p → p < total_places (cell ∷ cells)
    by-test below true rest is h = (let same : 0 ≡ p = cc in omega (arith, same, some-places cell.bits))
    by-test below false None is h = cc
    by-test below false (Some q) is h = (let same : places_of cell.bits + q ≡ p = cc in omega (arith, same, below q is))

-- a place that is given by a list of places
given-below : (places : ℕ) (o : Option ℕ) (p : ℕ) → ((q : ℕ) → o ≡ Some q → q < places) → IsTrue (has_number (option_to_list o) p) → p < places
given-below places None p h k = cc
given-below places (Some q) p h k = subst (λ r. r < places) (same-place q p (subst (λ b. IsTrue b) (or-false _) k)) (h q refl)

pub listed-below : (places : ℕ) (f : ℕ → Option ℕ) (xs : List ℕ) (p : ℕ) → ((x q : ℕ) → f x ≡ Some q → q < places) → IsTrue (has_number (flat_map (λ x. option_to_list (f x)) xs) p) → p < places
listed-below places f [] p h k = cc
listed-below places f (x ∷ xs) p h k =
    let here = option_to_list (f x) in
    let rest = flat_map (λ y. option_to_list (f y)) xs in
    elim (either (has_number here p) (has_number rest p) (subst (λ b. IsTrue b) (has-append here rest p) k)) [
      | inl now ↦ given-below places (f x) p (h x) now
      | inr later ↦ listed-below places f xs p h later
    ]

pub insts-below : (cells : List Cell) (classes : List ℕ) (p : ℕ) → IsTrue (has_number (inst_places cells classes) p) → p < total_places cells
insts-below cells classes p h = listed-below (total_places cells) (inst_place cells) classes p (λ x q e. place-below cells kind.Inst (entity.Class x) q e) h

pub reaches-below : (cells : List Cell) (methods : List ℕ) (p : ℕ) → IsTrue (has_number (reach_places cells methods) p) → p < total_places cells
reaches-below cells methods p h = listed-below (total_places cells) (reach_place cells) methods p (λ x q e. place-below cells kind.Reach (entity.Method x) q e) h

known-some : (cells : List Cell) (k : KindId) (e : Entity) → IsTrue (has_cell cells k e) → first_place cells k e ≢ None
known-some [] k e h none = cc
known-some (cell ∷ cells) k e h none = by-test (known-some cells k e) (is_cell_of k e cell) (first_place cells k e) refl h none
  where
    by-test : (IsTrue (has_cell cells k e) → first_place cells k e ≢ None) → (here : Bool) (rest : Option ℕ) → first_place cells k e ≡ rest → IsTrue (here || has_cell cells k e) →
        cond here (Some 0) (option_map (λ place. places_of cell.bits + place) rest) ≡ None → ⊥
    by-test later true rest is h none = cc
    by-test later false None is h none = later h is
    by-test later false (Some q) is h none = cc

-- a cell that there is has a place
pub known-place : (cells : List Cell) (k : KindId) (e : Entity) → IsTrue (has_cell cells k e) → unwrap_or (first_place cells k e) 0 < total_places cells
known-place [] k e h = cc
known-place (cell ∷ cells) k e h = by-test (known-place cells k e) (known-some cells k e) (is_cell_of k e cell) (first_place cells k e) refl h
  where
    by-test : (IsTrue (has_cell cells k e) → unwrap_or (first_place cells k e) 0 < total_places cells) → (IsTrue (has_cell cells k e) → first_place cells k e ≢ None) → (here : Bool) (rest : Option ℕ) → first_place cells k e ≡ rest → IsTrue (here || has_cell cells k e) →
        unwrap_or (cond here (Some 0) (option_map (λ place. places_of cell.bits + place) rest)) 0 < total_places (cell ∷ cells)
    by-test later some true rest is h = omega (arith, some-places cell.bits)
    by-test later some false None is h = absurd (some h is)
    by-test later some false (Some q) is h = (let below = later h in let same : unwrap_or (first_place cells k e) 0 ≡ q = ap (λ o. unwrap_or o 0) is in omega (arith, below, same))

get-slice : {X : Type 0} (xs : List X) (k : ℕ) (d : X) → k < length xs → slice_get xs k ≡ Some (get_or xs k d)
get-slice [] k d lt = absurd (omega arith)
get-slice (x ∷ xs) zero d lt = refl
get-slice (x ∷ xs) (suc k) d lt = get-slice xs k d (omega arith)

-- the places of a cell are below the number of all
pub cell-within : (cells : List Cell) (cell : Cell) → IsNumbering cells → Contains cells cell → (i : ℕ) → i < places_of cell.bits → unwrap_or (first_place cells cell.kind cell.entity) 0 + i < total_places cells
cell-within cells cell numbered at i lt =
    let k = at.0 in
    let there : slice_get cells k ≡ Some cell = get-slice cells k cell at.1 ∙ ap Some at.2 in
    let first : unwrap_or (first_place cells cell.kind cell.entity) 0 ≡ total_places (take k cells) = ap (λ o. unwrap_or o 0) (numbered.first k cell there) in
    let place = total_places (take k cells) + i in
    elim (cases_lt place (total_places cells)) [
      | inl below ↦ omega (arith, below, first)
      | inr past ↦ (let own = numbered.owned k i cell there lt in let none = numbered.above place past in cc)
    ]
