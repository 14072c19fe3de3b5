-- How cells are found and added.
use Rattle.std.proofs.Common.{◌≡◌, ℕ, ◌+◌, ◌<◌, ◌^◌, Bool, true, false, cond, ◌&&◌, ◌||◌, List, [], ◌∷◌, ◌++◌, Option, None, Some, is_some, length, replicate, take, take_all, ◌-◌, refl, sym, ap, ◌∙◌, arith, add-zero, zero-add, length-append}
use Rattle.std.proofs.lemmas.List.{append_assoc, append-nil, map-append, length-replicate}
use Rattle.std.proofs.lemmas.List.Folds.{list_any-append}
use Rattle.std.specs.Option.{option_map}
use Rattle.std.specs.Map.{lookup}
use Rattle.indexmap.specs.IndexMap.{insert_entry}
use Rattle.fp_cells.specs.declared.kind.KindId.{KindId}
use Rattle.fp_cells.specs.declared.kind.Entity.{Entity}
use Rattle.fp_cells.specs.declared.cells.Spot.{Spot}
use Rattle.fp_cells.specs.contracts.kind.KindIdPartialEq.TheImpl.{ghosts as kinds}
use Rattle.fp_cells.specs.contracts.kind.EntityPartialEq.TheImpl.{ghosts as entities}
use Rattle.fp_cells.specs.contracts.kind.KindIdEq.TheImpl.Laws.{laws-law as kind_laws}
use Rattle.fp_cells.specs.contracts.kind.EntityEq.TheImpl.Laws.{laws-law as entity_laws}
use Rattle.fp_cells.specs.Cells.{Cell, AreDistinct, first_place, has_cell, is_cell_of, owners_of, places_of, total_places}
use Rattle.fp_cells.specs.Spots.{Entry, cells_of, AreNumbered, IsCellTable}

-- ---- finding

option_map-plus : (n m : ℕ) (o : Option ℕ) → option_map (λ p. n + p) (option_map (λ p. m + p) o) ≡ option_map (λ p. (n + m) + p) o
option_map-plus n m None = refl
option_map-plus n m (Some p) = let e : n + (m + p) ≡ (n + m) + p = omega arith in ap Some e

option_map-zero : (o : Option ℕ) → option_map (λ p. 0 + p) o ≡ o
option_map-zero None = refl
option_map-zero (Some p) = ap Some (zero-add p)

is_some-map : (f : ℕ → ℕ) (o : Option ℕ) → is_some (option_map f o) ≡ is_some o
is_some-map f None = refl
is_some-map f (Some p) = refl

module _ (kind : KindId) (entity : Entity) where
  abbrev pub is_key : KindId × Entity → Bool
  is_key key = kinds.eq kind key.0 && entities.eq entity key.1

  -- the spot of a cell has its first place
  first_place-lookup : (n : ℕ) (es : List Entry) → AreNumbered n es →
      option_map (λ s. s.first) (lookup is_key es) ≡ option_map (λ p. n + p) (first_place (cells_of es) kind entity)
  first_place-lookup n [] h = refl
  first_place-lookup n (e ∷ es) h =
      let m = places_of e.1.bits in
      let rest = first_place-lookup (n + m) es h.1 ∙ sym (option_map-plus n m (first_place (cells_of es) kind entity)) in
      elim (is_key e.0) as (λ b. option_map (λ s. s.first) (cond b (Some e.1) (lookup is_key es))
      ≡ option_map (λ p. n + p) (cond b (Some 0) (option_map (λ p. m + p) (first_place (cells_of es) kind entity)))) [
        | true ↦ ap Some (h.0 ∙ sym (add-zero n))
        | false ↦ rest
      ]

  pub first_place-found : (es : List Entry) (found : Option Spot) → AreNumbered 0 es → found ≡ lookup is_key es →
      option_map (λ s. s.first) found ≡ first_place (cells_of es) kind entity
  first_place-found es found h is =
      ap (option_map (λ s. s.first)) is ∙ first_place-lookup 0 es h ∙ option_map-zero (first_place (cells_of es) kind entity)

  -- a cell that is there has a first place
  pub is_some-first_place : (cells : List Cell) → is_some (first_place cells kind entity) ≡ has_cell cells kind entity
  is_some-first_place [] = refl
  is_some-first_place (c ∷ cells) =
      elim (is_cell_of kind entity c) as (λ b. is_some (cond b (Some 0) (option_map (λ p. places_of c.bits + p) (first_place cells kind entity))) ≡ (b || has_cell cells kind entity)) [
        | true ↦ refl
        | false ↦ is_some-map _ (first_place cells kind entity) ∙ is_some-first_place cells
      ]

  -- a cell that is not there has no spot
  pub lookup-absent : (es : List Entry) → has_cell (cells_of es) kind entity ≡ false → lookup is_key es ≡ None
  lookup-absent [] h = refl
  lookup-absent (e ∷ es) h =
      (elim (is_key e.0) as (λ b. (b || has_cell (cells_of es) kind entity) ≡ false → cond b (Some e.1) (lookup is_key es) ≡ None) [
        | true ↦ λ g. cc
        | false ↦ λ g. lookup-absent es g
      ]) h

-- ---- adding

pub numbered-push : (n : ℕ) (es : List Entry) (e : Entry) → AreNumbered n es → e.1.first ≡ n + total_places (cells_of es) → AreNumbered n (es ++ e ∷ [])
numbered-push n [] e h is = (is ∙ add-zero n, tt)
numbered-push n (d ∷ es) e h is =
    let more : e.1.first ≡ (n + places_of d.1.bits) + total_places (cells_of es) = omega arith in
    (h.0, numbered-push (n + places_of d.1.bits) es e h.1 more)

pub total_places-push : (cells : List Cell) (cell : Cell) → total_places (cells ++ cell ∷ []) ≡ total_places cells + places_of cell.bits
total_places-push [] cell = omega arith
total_places-push (c ∷ cells) cell = omega (arith, total_places-push cells cell)

pub owners_of-push : (cells : List Cell) (cell : Cell) → owners_of (cells ++ cell ∷ []) ≡ owners_of cells ++ replicate (places_of cell.bits) (cell.kind, cell.entity)
owners_of-push [] cell = append-nil _
owners_of-push (c ∷ cells) cell =
    ap (λ v. replicate (places_of c.bits) (c.kind, c.entity) ++ v) (owners_of-push cells cell) ∙ sym (append_assoc (replicate (places_of c.bits) (c.kind, c.entity)) (owners_of cells) (replicate (places_of cell.bits) (cell.kind, cell.entity)))

pub length-owners_of : (cells : List Cell) → length (owners_of cells) ≡ total_places cells
length-owners_of [] = refl
length-owners_of (c ∷ cells) =
    let own : length (replicate (places_of c.bits) (c.kind, c.entity)) ≡ places_of c.bits = length-replicate (places_of c.bits) (c.kind, c.entity) in
    length-append (replicate (places_of c.bits) (c.kind, c.entity)) (owners_of cells)
    ∙ ap (λ n. n + length (owners_of cells)) own ∙ ap (λ n. places_of c.bits + n) (length-owners_of cells)

-- the same cell, whichever is asked for
pub is_cell_of-symm : (c d : Cell) → is_cell_of c.kind c.entity d ≡ is_cell_of d.kind d.entity c
is_cell_of-symm c d = let k = kind_laws.symm c.kind d.kind in let e = entity_laws.symm c.entity d.entity in cc

pub AreDistinct-push : (cells : List Cell) (cell : Cell) → AreDistinct cells → has_cell cells cell.kind cell.entity ≡ false → AreDistinct (cells ++ cell ∷ [])
AreDistinct-push [] cell h absent = (refl, tt)
AreDistinct-push (c ∷ cells) cell h absent =
    let more = list_any-append (is_cell_of c.kind c.entity) cells (cell ∷ []) in
    let swap = is_cell_of-symm c cell in
    let other : is_cell_of cell.kind cell.entity c ≡ false = grind arith in
    let rest : has_cell cells cell.kind cell.entity ≡ false = grind arith in
    let was : has_cell cells c.kind c.entity ≡ false = h.0 in
    let still : has_cell (cells ++ cell ∷ []) c.kind c.entity ≡ false = grind arith in
    (still, AreDistinct-push cells cell h.1 rest)

abbrev pub same_key : KindId × Entity → KindId × Entity → Bool
same_key a b = kinds.eq a.0 b.0 && entities.eq a.1 b.1

-- a new cell's spot goes last
insert_entry-absent : (es : List Entry) (kind : KindId) (entity : Entity) (spot : Spot) → has_cell (cells_of es) kind entity ≡ false →
    insert_entry same_key es (kind, entity) spot ≡ es ++ ((kind, entity), spot) ∷ []
insert_entry-absent [] kind entity spot h = refl
insert_entry-absent (e ∷ es) kind entity spot h =
    (elim (is_key kind entity e.0) as (λ b. (b || has_cell (cells_of es) kind entity) ≡ false →
    cond b ((e.0, spot) ∷ es) (e ∷ insert_entry same_key es (kind, entity) spot) ≡ e ∷ (es ++ ((kind, entity), spot) ∷ [])) [
      | true ↦ λ g. cc
      | false ↦ λ g. ap (λ v. e ∷ v) (insert_entry-absent es kind entity spot g)
    ]) h

-- a cell was added to the entries `es`
pub record Added (es longer : List Entry) (more : List (KindId × Entity)) (cell : Cell) : Type 0 where
  pub table : IsCellTable longer more
  pub cells : cells_of longer ≡ cells_of es ++ cell ∷ []

module _ (es longer : List Entry) (owners more : List (KindId × Entity)) (kind : KindId) (entity : Entity) (spot : Spot) (end count : ℕ)
    (table : IsCellTable es owners)
    (absent : has_cell (cells_of es) kind entity ≡ false)
    (few : total_places (cells_of es) + places_of spot.bits < 2 ^ 32)
    (first : spot.first ≡ total_places (cells_of es))
    (counts : count ≡ length owners)
    (ends : end ≡ spot.first + places_of spot.bits)
    (inserted : longer ≡ insert_entry same_key es (kind, entity) spot)
    (resized : more ≡ take end owners ++ replicate (end - count) (kind, entity)) where
  abbrev added : Cell
  added = record { kind = kind; entity = entity; bits = spot.bits }

  entries_are : longer ≡ es ++ ((kind, entity), spot) ∷ []
  entries_are = inserted ∙ insert_entry-absent es kind entity spot absent

  cells_of-added : cells_of longer ≡ cells_of es ++ added ∷ []
  cells_of-added = ap cells_of entries_are ∙ map-append _ es (((kind, entity), spot) ∷ [])

  owners_are : more ≡ owners_of (cells_of longer)
  owners_are =
      let all : take end owners ≡ owners = take_all end owners (omega (arith, table.counted)) in
      let n : end - count ≡ places_of spot.bits = omega (arith, table.counted) in
      resized ∙ ap (λ v. v ++ replicate (end - count) (kind, entity)) all
      ∙ ap (λ v. owners ++ replicate v (kind, entity)) n
      ∙ ap (λ v. v ++ replicate (places_of spot.bits) (kind, entity)) table.owned
      ∙ sym (owners_of-push (cells_of es) added)
      ∙ ap owners_of (sym cells_of-added)

  counted_are : length more ≡ total_places (cells_of longer)
  counted_are = ap length owners_are ∙ length-owners_of (cells_of longer)

  distinct-added : AreDistinct (cells_of longer)
  distinct-added = rw cells_of-added (AreDistinct-push (cells_of es) added table.distinct absent)

  pub added-whole : Added es longer more added
  added-whole = record {
    table = record {
      numbered = rw entries_are (numbered-push 0 es ((kind, entity), spot) table.numbered (first ∙ sym (zero-add _)));
      owned = owners_are;
      counted = counted_are;
      few = let total = ap total_places cells_of-added ∙ total_places-push (cells_of es) added in omega (arith, counted_are, total);
      distinct = distinct-added;
    };
    cells = cells_of-added;
  }
