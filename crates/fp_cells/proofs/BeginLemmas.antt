-- Where cells begin.
use Rattle.std.proofs.Common.{◌≡◌, ◌==◌, ℕ, zero, suc, ◌+◌, ◌-◌, ◌<◌, ◌≤◌, nat_lt, Bool, true, false, cond, List, [], ◌∷◌, Option, None, Some, length, slice_get, option_and_then, refl, sym, ap, subst, ◌∙◌, arith, zero-add}
use Rattle.std.proofs.lemmas.Bool.{ltb-true, ltb-false}
use Rattle.std.proofs.lemmas.Bool.Decides.{nat_tests}
use Rattle.std.proofs.lemmas.Option.{slice_get-map}
use Rattle.std.specs.Option.{option_map}
use Rattle.std.specs.Map.{lookup}
use Rattle.fp_cells.specs.declared.kind.KindId.{KindId}
use Rattle.fp_cells.specs.declared.kind.Entity.{Entity}
use Rattle.fp_cells.specs.declared.cells.Spot.{Spot}
use Rattle.fp_cells.specs.contracts.kind.KindIdEq.TheImpl.Laws.{laws-law as kind_laws}
use Rattle.fp_cells.specs.contracts.kind.EntityEq.TheImpl.Laws.{laws-law as entity_laws}
use Rattle.fp_cells.specs.Cells.{Cell, AreDistinct, cell_at, cell_from, has_cell, is_cell_of, owners_of, places_of, total_places}
use Rattle.fp_cells.specs.Spots.{Entry, cells_of, AreNumbered}
use Rattle.fp_cells.proofs.CellLemmas.{is_cell_of-symm, is_key, length-owners_of}
use Rattle.fp_cells.proofs.NumberingLemmas.{slice_get-replicate_first, slice_get-replicate_rest}

-- what is told of a cell
abbrev pub told_cell : Cell → KindId × Entity × ℕ
told_cell c = (c.kind, c.entity, c.bits)

-- no cell begins before the first one
cell_from-before : (cells : List Cell) (first place : ℕ) → place < first → cell_from cells first place ≡ None
cell_from-before [] first place h = refl
cell_from-before (c ∷ cells) first place h =
    let other : (first == place) ≡ false = grind (arith, nat_tests) in
    ap (λ b. cond b (Some c) (cell_from cells (first + places_of c.bits) place)) other
    ∙ cell_from-before cells (first + places_of c.bits) place (omega arith)

-- nor behind the last one
cell_from-behind : (cells : List Cell) (first place : ℕ) → first + total_places cells ≤ place → cell_from cells first place ≡ None
cell_from-behind [] first place h = refl
cell_from-behind (c ∷ cells) first place h =
    let other : (first == place) ≡ false = grind (arith, nat_tests) in
    ap (λ b. cond b (Some c) (cell_from cells (first + places_of c.bits) place)) other
    ∙ cell_from-behind cells (first + places_of c.bits) place (omega arith)

pub length-cells : (cells : List Cell) → length cells ≤ total_places cells
length-cells [] = omega arith
length-cells (c ∷ cells) = omega (arith, length-cells cells)

-- who owns a place of the cell
same_owner : (c : Cell) (kind : KindId) (entity : Entity) → ◌≡◌ {A = Option (KindId × Entity)} (Some (c.kind, c.entity)) (Some (kind, entity)) → (c.kind ≡ kind) × (c.entity ≡ entity)
same_owner c kind entity h =
    let pair : ◌≡◌ {A = KindId × Entity} (c.kind, c.entity) (kind, entity) = cc in
    (ap (λ (p : KindId × Entity). p.0) pair, ap (λ (p : KindId × Entity). p.1) pair)

-- a cell that has the kind and the entity of no other one isn't that of their places
owner_differs : (cells : List Cell) (place : ℕ) (kind : KindId) (entity : Entity) (c : Cell) → has_cell cells c.kind c.entity ≡ false → cell_at cells place ≡ Some (kind, entity) → is_cell_of kind entity c ≡ false
owner_differs [] place kind entity c h at = absurd (cc)
owner_differs (d ∷ cells) place kind entity c h at =
    let n = places_of d.bits in
    let head : is_cell_of c.kind c.entity d ≡ false = grind arith in
    let rest : has_cell cells c.kind c.entity ≡ false = grind arith in
    (elim (nat_lt place n) as (λ b. nat_lt place n ≡ b → is_cell_of kind entity c ≡ false) [
      | true ↦ λ small.
          let own = same_owner d kind entity (sym (slice_get-replicate_first n (d.kind, d.entity) (owners_of cells) place (ltb-true place n small)) ∙ at) in
          ap (λ k. is_cell_of k entity c) (sym own.0) ∙ ap (λ e. is_cell_of d.kind e c) (sym own.1) ∙ is_cell_of-symm d c ∙ head
      | false ↦ λ big.
          let past = ltb-false place n big in
          let more : place ≡ n + (place - n) = omega arith in
          owner_differs cells (place - n) kind entity c rest (sym (slice_get-replicate_rest n (d.kind, d.entity) (owners_of cells) place (place - n) more) ∙ at)
    ]) refl

told-cond : (b : Bool) (c : Cell) → option_map told_cell (cond b (Some c) None) ≡ cond b (Some (told_cell c)) None
told-cond true c = refl
told-cond false c = refl

module _ (kind : KindId) (entity : Entity) where
  -- what a spot says of the cell that begins at the place
  abbrev pub begun_at : ℕ → Spot → Option (KindId × Entity × ℕ)
  begun_at place s = cond (s.first == place) (Some (kind, entity, s.bits)) None

  key_here : (c : Cell) → c.kind ≡ kind → c.entity ≡ entity → is_cell_of kind entity c ≡ true
  key_here c k e =
      let a = kind_laws.refl c.kind in
      let b = entity_laws.refl c.entity in
      let own : is_cell_of c.kind c.entity c ≡ true = grind arith in
      ap (λ v. is_cell_of v entity c) (sym k) ∙ ap (λ v. is_cell_of c.kind v c) (sym e) ∙ own

  -- the place is one of the first cell's
  begins_head : (n : ℕ) (e : Entry) (es : List Entry) (place : ℕ) → AreNumbered n (e ∷ es) → place < places_of e.1.bits → e.0.0 ≡ kind → e.0.1 ≡ entity →
      option_map told_cell (cell_from (cells_of (e ∷ es)) n (n + place)) ≡ option_and_then (begun_at (n + place)) (lookup (is_key kind entity) (e ∷ es))
  begins_head n e es place num lt k i =
      let c : Cell = record { kind = e.0.0; entity = e.0.1; bits = e.1.bits } in
      let here = key_here c k i in
      ap (λ o. option_map told_cell (cond (n == n + place) (Some c) o)) (cell_from-before (cells_of es) (n + places_of e.1.bits) (n + place) (omega arith))
      ∙ told-cond (n == n + place) c
      ∙ ap (λ v. cond (n == n + place) (Some (v, e.0.1, e.1.bits)) None) k
      ∙ ap (λ v. cond (n == n + place) (Some (kind, v, e.1.bits)) None) i
      ∙ ap (λ v. cond (v == n + place) (Some (kind, entity, e.1.bits)) None) (sym num.0)
      ∙ ap (λ b. option_and_then (begun_at (n + place)) (cond b (Some e.1) (lookup (is_key kind entity) es))) (sym here)

  begins_from : (n : ℕ) (es : List Entry) (place : ℕ) → AreNumbered n es → AreDistinct (cells_of es) → cell_at (cells_of es) place ≡ Some (kind, entity) →
      option_map told_cell (cell_from (cells_of es) n (n + place)) ≡ option_and_then (begun_at (n + place)) (lookup (is_key kind entity) es)
  begins_from n [] place num distinct at = absurd (cc)
  begins_from n (e ∷ es) place num distinct at =
      let m = places_of e.1.bits in
      let c : Cell = record { kind = e.0.0; entity = e.0.1; bits = e.1.bits } in
      (elim (nat_lt place m) as (λ b. nat_lt place m ≡ b → option_map told_cell (cell_from (cells_of (e ∷ es)) n (n + place)) ≡ option_and_then (begun_at (n + place)) (lookup (is_key kind entity) (e ∷ es))) [
        | true ↦ λ small.
            let lt = ltb-true place m small in
            let own = same_owner c kind entity (sym (slice_get-replicate_first m e.0 (owners_of (cells_of es)) place lt) ∙ at) in
            begins_head n e es place num lt own.0 own.1
        | false ↦ λ big.
            let past = ltb-false place m big in
            let more : place ≡ m + (place - m) = omega arith in
            let along : n + place ≡ (n + m) + (place - m) = omega arith in
            let at_rest : cell_at (cells_of es) (place - m) ≡ Some (kind, entity) = sym (slice_get-replicate_rest m e.0 (owners_of (cells_of es)) place (place - m) more) ∙ at in
            let other : (n == n + place) ≡ false = grind (arith, nat_tests) in
            let differs = owner_differs (cells_of es) (place - m) kind entity c distinct.0 at_rest in
            let P : ℕ → Type 0 = λ p. option_map told_cell (cell_from (cells_of es) (n + m) p) ≡ option_and_then (begun_at p) (lookup (is_key kind entity) es) in
            ap (λ b. option_map told_cell (cond b (Some c) (cell_from (cells_of es) (n + m) (n + place)))) other
            ∙ subst P (sym along) (begins_from (n + m) es (place - m) num.1 distinct.1 at_rest)
            ∙ ap (λ b. option_and_then (begun_at (n + place)) (cond b (Some e.1) (lookup (is_key kind entity) es))) (sym differs)
      ]) refl

  -- the cell that begins at the place, by the spot that was found for the place's owner
  pub begins_found : (es : List Entry) (place : ℕ) (found : Option Spot) → AreNumbered 0 es → AreDistinct (cells_of es) → cell_at (cells_of es) place ≡ Some (kind, entity) → found ≡ lookup (is_key kind entity) es →
      option_and_then (begun_at place) found ≡ option_map told_cell (cell_from (cells_of es) 0 place)
  begins_found es place found num distinct at is =
      let P : ℕ → Type 0 = λ p. option_map told_cell (cell_from (cells_of es) 0 p) ≡ option_and_then (begun_at p) (lookup (is_key kind entity) es) in
      ap (option_and_then (begun_at place)) is ∙ sym (subst P (zero-add place) (begins_from 0 es place num distinct at))

-- where no cell has the place, none begins there
owner_some : {A : Type 0} (xs : List A) (i : ℕ) → slice_get xs i ≡ None → length xs ≤ i
owner_some [] i h = omega arith
owner_some (x ∷ xs) zero h = absurd (cc)
owner_some (x ∷ xs) (suc i) h = omega (arith, owner_some xs i h)

pub begins_none : (cells : List Cell) (place : ℕ) → cell_at cells place ≡ None → cell_from cells 0 place ≡ None
begins_none cells place h =
    let past = owner_some (owners_of cells) place h in
    cell_from-behind cells 0 place (omega (arith, length-owners_of cells))

twice : (o : Option Entry) → option_map told_cell (option_map (λ e. record { kind = e.0.0; entity = e.0.1; bits = e.1.bits }) o) ≡ option_map (λ e. (e.0.0, e.0.1, e.1.bits)) o
twice None = refl
twice (Some e) = refl

-- the cell of an entry by its number
pub entry_cell : (es : List Entry) (i : ℕ) (found : Option Entry) → found ≡ slice_get es i →
    option_map told_cell (slice_get (cells_of es) i) ≡ option_map (λ e. (e.0.0, e.0.1, e.1.bits)) found
entry_cell es i found is =
    ap (option_map told_cell) (slice_get-map _ es i) ∙ twice (slice_get es i) ∙ ap (option_map (λ e. (e.0.0, e.0.1, e.1.bits))) (sym is)
