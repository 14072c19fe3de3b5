-- The places of cells are numbered one to one.
use Rattle.std.proofs.Common.{◌≡◌, ℕ, zero, suc, ◌+◌, ◌<◌, ◌≤◌, Bool, true, false, cond, ◌&&◌, List, [], ◌∷◌, ◌++◌, Option, None, Some, length, replicate, take, is_some, slice_get, refl, sym, ap, ◌∙◌, arith, rules, zero-add}
use denote.Enum.Bare.{same_true}
use Rattle.std.proofs.lemmas.Option.{slice_get_past}
use Rattle.std.specs.Option.{option_map}
use Rattle.fp_cells.specs.declared.kind.KindId.{KindId}
use Rattle.fp_cells.specs.declared.kind.Entity.{Entity}
use Rattle.fp_cells.specs.declared.kind.Entity.TheVariants.{Class, Field, Method, Site}
use Rattle.fp_cells.specs.contracts.kind.KindId.{the_type}
use Rattle.fp_cells.specs.contracts.kind.KindIdPartialEq.TheImpl.{ghosts as kinds}
use Rattle.fp_cells.specs.contracts.kind.EntityPartialEq.TheImpl.{ghosts as entities}
use Rattle.fp_cells.specs.contracts.kind.KindIdEq.TheImpl.Laws.{laws-law as kind_laws}
use Rattle.fp_cells.specs.contracts.kind.EntityEq.TheImpl.Laws.{laws-law as entity_laws}
use Rattle.fp_cells.specs.Cells.{Cell, AreDistinct, IsNumbering, cell_at, first_place, has_cell, is_cell_of, owners_of, places_of, total_places}
use Rattle.fp_cells.proofs.CellLemmas.{is_cell_of-symm, length-owners_of}

-- ---- equal kinds and entities are the same

same_kind : (a b : KindId) → kinds.eq a b ≡ true → a ≡ b
same_kind a b h = same_true the_type (search rules) a b h

same_entity : (a b : Entity) → entities.eq a b ≡ true → a ≡ b
same_entity (Class a) (Class b) h = let e : a ≡ b = search rules in ap Class e
same_entity (Field a) (Field b) h = let e : a ≡ b = grind arith in ap Field e
same_entity (Method a) (Method b) h = let e : a ≡ b = grind arith in ap Method e
same_entity (Site a) (Site b) h = search rules
same_entity (Class a) (Field b) h = absurd (cc)
same_entity (Class a) (Method b) h = grind arith
same_entity (Class a) (Site b) h = search rules
same_entity (Field a) (Class b) h = absurd (cc)
same_entity (Field a) (Method b) h = absurd (cc)
same_entity (Field a) (Site b) h = absurd (cc)
same_entity (Method a) (Class b) h = absurd (cc)
same_entity (Method a) (Field b) h = absurd (cc)
same_entity (Method a) (Site b) h = absurd (cc)
same_entity (Site a) (Class b) h = absurd (cc)
same_entity (Site a) (Field b) h = absurd (cc)
same_entity (Site a) (Method b) h = absurd (cc)

-- ---- the owners of places

pub slice_get-replicate_first : {A : Type 0} (n : ℕ) (x : A) (ys : List A) (k : ℕ) → k < n → slice_get (replicate n x ++ ys) k ≡ Some x
slice_get-replicate_first zero x ys k h = elim h [ ]
slice_get-replicate_first (suc n) x ys zero h = refl
slice_get-replicate_first (suc n) x ys (suc k) h = slice_get-replicate_first n x ys k (omega arith)

pub slice_get-replicate_rest : {A : Type 0} (n : ℕ) (x : A) (ys : List A) (m k : ℕ) → m ≡ n + k → slice_get (replicate n x ++ ys) m ≡ slice_get ys k
slice_get-replicate_rest zero x ys m k h = ap (slice_get ys) (h ∙ zero-add k)
slice_get-replicate_rest (suc n) x ys zero k h = absurd (omega arith)
slice_get-replicate_rest (suc n) x ys (suc m) k h = slice_get-replicate_rest n x ys m k (omega arith)

is_some-within : {A : Type 0} (xs : List A) (k : ℕ) → k < length xs → is_some (slice_get xs k) ≡ true
is_some-within [] k h = elim h [ ]
is_some-within (x ∷ xs) zero h = refl
is_some-within (x ∷ xs) (suc k) h = is_some-within xs k (omega arith)

-- ---- cells that are there

shifted : (o : Option ℕ) (n place : ℕ) → option_map (λ p. n + p) o ≡ Some place → (q : ℕ) × (o ≡ Some q) × (place ≡ n + q)
shifted None n place h = absurd (cc)
shifted (Some q) n place h = let e : n + q ≡ place = cc in (q, refl, sym e)

both : (a b : Bool) → (a && b) ≡ true → (a ≡ true) × (b ≡ true)
both true b h = (refl, h)
both false b h = absurd (cc)

-- a cell of the kind and the entity has them
same_cell : (kind : KindId) (entity : Entity) (cell : Cell) → is_cell_of kind entity cell ≡ true →
    ◌≡◌ {A = Option (KindId × Entity)} (Some (cell.kind, cell.entity)) (Some (kind, entity))
same_cell kind entity cell h =
    let parts = both (kinds.eq kind cell.kind) (entities.eq entity cell.entity) h in
    let k : kind ≡ cell.kind = same_kind kind cell.kind parts.0 in
    let e : entity ≡ cell.entity = same_entity entity cell.entity parts.1 in
    cc

place_back : (cells : List Cell) (kind : KindId) (entity : Entity) (place : ℕ) → first_place cells kind entity ≡ Some place → cell_at cells place ≡ Some (kind, entity)
place_back [] kind entity place h = absurd (cc)
place_back (c ∷ cells) kind entity place h =
    let n = places_of c.bits in
    let rest = first_place cells kind entity in
    (elim (is_cell_of kind entity c) as (λ b. is_cell_of kind entity c ≡ b → cond b (Some 0) (option_map (λ p. n + p) rest) ≡ Some place → cell_at (c ∷ cells) place ≡ Some (kind, entity)) [
      | true ↦ λ same is.
          let start : 0 ≡ place = cc in
          let within : place < n = omega arith in
          slice_get-replicate_first n (c.kind, c.entity) (owners_of cells) place within ∙ same_cell kind entity c same
      | false ↦ λ _ is.
          let (q, there, more) = shifted rest n place is in
          slice_get-replicate_rest n (c.kind, c.entity) (owners_of cells) place q more ∙ place_back cells kind entity q there
    ]) refl h

is_cell_of-refl : (c : Cell) → is_cell_of c.kind c.entity c ≡ true
is_cell_of-refl c = let k = kind_laws.refl c.kind in let e = entity_laws.refl c.entity in grind arith

others_differ : (cells : List Cell) (kind : KindId) (entity : Entity) (i : ℕ) (cell : Cell) → has_cell cells kind entity ≡ false → slice_get cells i ≡ Some cell → is_cell_of kind entity cell ≡ false
others_differ [] kind entity i cell h at = absurd (cc)
others_differ (c ∷ cells) kind entity zero cell h at =
    let same : c ≡ cell = cc in
    let head : is_cell_of kind entity c ≡ false = grind arith in
    ap (is_cell_of kind entity) (sym same) ∙ head
others_differ (c ∷ cells) kind entity (suc i) cell h at =
    let rest : has_cell cells kind entity ≡ false = grind arith in
    others_differ cells kind entity i cell rest at

place_first : (cells : List Cell) (i : ℕ) (cell : Cell) → AreDistinct cells → slice_get cells i ≡ Some cell → first_place cells cell.kind cell.entity ≡ Some (total_places (take i cells))
place_first [] i cell d at = absurd (cc)
place_first (c ∷ cells) zero cell d at =
    let same : c ≡ cell = cc in
    let here : is_cell_of cell.kind cell.entity c ≡ true = ap (λ v. is_cell_of v.kind v.entity c) (sym same) ∙ is_cell_of-refl c in
    ap (λ b. cond b (Some 0) (option_map (λ p. places_of c.bits + p) (first_place cells cell.kind cell.entity))) here
place_first (c ∷ cells) (suc i) cell d at =
    let other : is_cell_of cell.kind cell.entity c ≡ false = is_cell_of-symm cell c ∙ others_differ cells c.kind c.entity i cell d.0 at in
    ap (λ b. cond b (Some 0) (option_map (λ p. places_of c.bits + p) (first_place cells cell.kind cell.entity))) other
    ∙ ap (option_map (λ p. places_of c.bits + p)) (place_first cells i cell d.1 at)

place_owned : (cells : List Cell) (i k : ℕ) (cell : Cell) → slice_get cells i ≡ Some cell → k < places_of cell.bits → cell_at cells (total_places (take i cells) + k) ≡ Some (cell.kind, cell.entity)
place_owned [] i k cell at h = absurd (cc)
place_owned (c ∷ cells) zero k cell at h =
    let same : c ≡ cell = cc in
    let bits : c.bits ≡ cell.bits = ap (λ v. v.bits) same in
    let within : k < places_of c.bits = rw bits h in
    ap (cell_at (c ∷ cells)) (zero-add k) ∙ slice_get-replicate_first (places_of c.bits) (c.kind, c.entity) (owners_of cells) k within
    ∙ ap (λ v. Some (v.kind, v.entity)) same
place_owned (c ∷ cells) (suc i) k cell at h =
    slice_get-replicate_rest (places_of c.bits) (c.kind, c.entity) (owners_of cells) (places_of c.bits + total_places (take i cells) + k) (total_places (take i cells) + k) (omega arith)
    ∙ place_owned cells i k cell at h

places_apart : (cells : List Cell) (i j : ℕ) (cell : Cell) → slice_get cells i ≡ Some cell → i < j → total_places (take i cells) + places_of cell.bits ≤ total_places (take j cells)
places_apart [] i j cell at h = absurd (cc)
places_apart (c ∷ cells) i zero cell at h = absurd (omega arith)
places_apart (c ∷ cells) zero (suc j) cell at h =
    let same : c ≡ cell = cc in
    let bits : places_of c.bits ≡ places_of cell.bits = ap (λ v. places_of v.bits) same in
    omega arith
places_apart (c ∷ cells) (suc i) (suc j) cell at h = omega (arith, places_apart cells i j cell at (omega arith))

pub numbering : (cells : List Cell) → AreDistinct cells → IsNumbering cells
numbering cells distinct = record {
  back = place_back cells;
  first = λ i cell at. place_first cells i cell distinct at;
  owned = place_owned cells;
  apart = places_apart cells;
  below = λ place h. is_some-within (owners_of cells) place (omega (arith, length-owners_of cells));
  above = λ place h. slice_get_past (owners_of cells) place (omega (arith, length-owners_of cells));
}
