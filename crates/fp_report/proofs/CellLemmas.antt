-- The cell that begins at a place.
use Rattle.std.proofs.Common.{◌≡◌, ℕ, zero, suc, ◌+◌, ◌≤◌, ◌==◌, Bool, true, false, cond, List, [], ◌∷◌, drop, All, Option, Some, None, ⊎_elim, refl, sym, ap, subst, ◌∙◌, arith, add-one}
use Rattle.std.specs.Prelude.{slice_get, option_map}
use Rattle.std.proofs.lemmas.Bool.{cases_Bool, cond-true, cond-false, eqb-true}
use Rattle.std.proofs.lemmas.List.Elements.{All-head, All-tail}
use Rattle.std.proofs.lemmas.Option.{none-some, same_Some}
use Rattle.fp_cells.specs.declared.kind.KindId.{KindId}
use Rattle.fp_cells.specs.declared.kind.Entity.{Entity}
use Rattle.fp_cells.specs.Cells.{Cell, cell_from, places_of, total_places}
use Rattle.fp_report.specs.Report.{demanded_from}

-- what holds of each cell holds of it
pub cell_from-all : (P : Cell → Type 0) (cells : List Cell) (first place : ℕ) (cell : Cell) → All P cells → cell_from cells first place ≡ Some cell → P cell
cell_from-all P [] first place cell all is = absurd (none-some cell is)
cell_from-all P (c ∷ cs) first place cell all is =
    ⊎_elim
    (λ here. subst P (same_Some c cell (sym (cond-true (first == place) (Some c) (cell_from cs (first + places_of c.bits) place) here) ∙ is)) (All-head P c cs all))
    (λ later. cell_from-all P cs (first + places_of c.bits) place cell (All-tail P c cs all)
    (sym (cond-false (first == place) (Some c) (cell_from cs (first + places_of c.bits) place) later) ∙ is))
    (cases_Bool (first == place))

-- its places lie among those of all cells
pub cell_from-room : (cells : List Cell) (first place : ℕ) (cell : Cell) → cell_from cells first place ≡ Some cell → place + places_of cell.bits ≤ first + total_places cells
cell_from-room [] first place cell is = absurd (none-some cell is)
cell_from-room (c ∷ cs) first place cell is =
    ⊎_elim
    (λ here.
    let same : c ≡ cell = same_Some c cell (sym (cond-true (first == place) (Some c) (cell_from cs (first + places_of c.bits) place) here) ∙ is) in
    let at : first ≡ place = eqb-true first place here in
    let size : places_of c.bits ≡ places_of cell.bits = ap (λ (x : Cell). places_of x.bits) same in
    within first place (places_of c.bits) (places_of cell.bits) (total_places cs) at size)
    (λ later. further first place (places_of c.bits) (places_of cell.bits) (total_places cs)
    (cell_from-room cs (first + places_of c.bits) place cell
    (sym (cond-false (first == place) (Some c) (cell_from cs (first + places_of c.bits) place) later) ∙ is)))
    (cases_Bool (first == place))
  where
    within : (f p s t n : ℕ) → f ≡ p → s ≡ t → p + t ≤ f + (s + n)
    within f p s t n a b = omega (arith, a, b)

    further : (f p s t n : ℕ) → p + t ≤ (f + s) + n → p + t ≤ f + (s + n)
    further f p s t n h = omega (arith, h)

-- a cell as its parts
abbrev pub parts_of : Cell → KindId × Entity × ℕ
parts_of c = (c.kind, c.entity, c.bits)

-- the parts that were told are those of a cell
known : (P : Cell → Type 0) (found : Option Cell) (k : KindId) (e : Entity) (b : ℕ) → Some (k, e, b) ≡ option_map parts_of found → ((cell : Cell) → found ≡ Some cell → P cell) → P (record { kind = k; entity = e; bits = b })
known P None k e b is holds = absurd (none-some (k, e, b) (sym is))
known P (Some cell) k e b is holds =
    let same : (k, e, b) ≡ (cell.kind, cell.entity, cell.bits) = same_Some (k, e, b) (parts_of cell) is in
    subst (λ (x : KindId × Entity × ℕ). P (record { kind = x.0; entity = x.1; bits = x.2 })) (sym same) (holds cell refl)

-- what holds of each cell holds of the one that begins at a place, whose places lie among all
pub begun-all : (P : Cell → Type 0) (cells : List Cell) (place : ℕ) (k : KindId) (e : Entity) (b : ℕ) → All P cells → Some (k, e, b) ≡ option_map parts_of (cell_from cells 0 place) → P (record { kind = k; entity = e; bits = b })
begun-all P cells place k e b all is = known P (cell_from cells 0 place) k e b is (λ cell found. cell_from-all P cells 0 place cell all found)

pub begun-room : (cells : List Cell) (place : ℕ) (k : KindId) (e : Entity) (b : ℕ) → Some (k, e, b) ≡ option_map parts_of (cell_from cells 0 place) → place + places_of b ≤ total_places cells
begun-room cells place k e b is = known (λ cell. place + places_of cell.bits ≤ total_places cells) (cell_from cells 0 place) k e b is (λ cell found. omega (arith, cell_from-room cells 0 place cell found))

-- the cells from one on begin with it
from_one : (cells : List Cell) (i : ℕ) (cell : Cell) → slice_get cells i ≡ Some cell → drop i cells ≡ cell ∷ drop (i + 1) cells
from_one [] i cell is = absurd (none-some cell is)
from_one (c ∷ cs) zero cell is = ap (λ x. x ∷ cs) (same_Some c cell is)
from_one (c ∷ cs) (suc i) cell is = rw (add-one (suc i)) (from_one cs i cell is ∙ ap (λ n. cell ∷ drop n cs) (add-one i))

pub demanded-step : (f : ℕ → Bool) (cells : List Cell) (i first : ℕ) (k : KindId) (e : Entity) (b : ℕ) → Some (k, e, b) ≡ option_map parts_of (slice_get cells i)
    → demanded_from f first (drop i cells) ≡ cond (f first) 1 0 + demanded_from f (first + places_of b) (drop (i + 1) cells)
demanded-step f cells i first k e b is =
    known (λ cell. demanded_from f first (drop i cells) ≡ cond (f first) 1 0 + demanded_from f (first + places_of cell.bits) (drop (i + 1) cells)) (slice_get cells i) k e b is
    (λ cell found. ap (demanded_from f first) (from_one cells i cell found))

pub places-step : (cells : List Cell) (i : ℕ) (k : KindId) (e : Entity) (b : ℕ) → Some (k, e, b) ≡ option_map parts_of (slice_get cells i)
    → total_places (drop i cells) ≡ places_of b + total_places (drop (i + 1) cells)
places-step cells i k e b is =
    known (λ cell. total_places (drop i cells) ≡ places_of cell.bits + total_places (drop (i + 1) cells)) (slice_get cells i) k e b is
    (λ cell found. ap total_places (from_one cells i cell found))

pub some-places : (b : ℕ) → 1 ≤ places_of b
some-places b = omega arith

one-or-none : (b : Bool) → cond b 1 0 ≤ 1
one-or-none true = omega arith
one-or-none false = omega arith

-- a cell is counted
pub count-step : (f : ℕ → Bool) (cells : List Cell) (i count first one size : ℕ) (k : KindId) (e : Entity) (b : ℕ) → Some (k, e, b) ≡ option_map parts_of (slice_get cells i) → one ≡ cond (f first) 1 0 → size ≡ places_of b
    → count + demanded_from f first (drop i cells) ≡ demanded_from f 0 cells → count + one + demanded_from f (first + size) (drop (i + 1) cells) ≡ demanded_from f 0 cells
count-step f cells i count first one size k e b is one_is size_is before =
    rw (one_is, size_is) (regrouped count (cond (f first) 1 0) (demanded_from f first (drop i cells)) (demanded_from f (first + places_of b) (drop (i + 1) cells)) (demanded-step f cells i first k e b is) ∙ before)
  where
    regrouped : (c o whole rest : ℕ) → whole ≡ o + rest → c + o + rest ≡ c + whole
    regrouped c o whole rest h = omega (arith, h)

pub room-step : (cells : List Cell) (i first size : ℕ) (k : KindId) (e : Entity) (b : ℕ) → Some (k, e, b) ≡ option_map parts_of (slice_get cells i) → size ≡ places_of b
    → first + total_places (drop i cells) ≡ total_places cells → first + size + total_places (drop (i + 1) cells) ≡ total_places cells
room-step cells i first size k e b is size_is before = omega (arith, size_is, before, places-step cells i k e b is)

pub few-step : (f : ℕ → Bool) (count first one size b : ℕ) → one ≡ cond (f first) 1 0 → size ≡ places_of b → count ≤ first → count + one ≤ first + size
few-step f count first one size b one_is size_is before = omega (arith, one_is, size_is, before, one-or-none (f first), some-places b)
