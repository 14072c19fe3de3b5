-- Cells, and the places that they take.
use Rattle.std.specs.Prelude.{◌≡◌, ℕ, ◌+◌, ◌/◌, ◌<◌, ◌≤◌, ◌==◌, max, Bool, true, false, ◌&&◌, List, [], ◌∷◌, ◌++◌, Option, None, Some, if◌then◌else◌, replicate, is_some, slice_get, take, ⊤}
use Rattle.std.specs.Option.{option_map}
use Rattle.std.specs.List.{list_any}
use Rattle.fp_cells.specs.declared.kind.KindId.{KindId}
use Rattle.fp_cells.specs.declared.kind.Entity.{Entity}
use Rattle.fp_cells.specs.contracts.kind.KindIdPartialEq.TheImpl.{ghosts as kinds}
use Rattle.fp_cells.specs.contracts.kind.EntityPartialEq.TheImpl.{ghosts as entities}

-- a cell: the kind of its property, what the property is of, and how many bits its value has
pub record Cell : Type 0 where
  pub kind : KindId
  pub entity : Entity
  pub bits : ℕ

-- how many places a value of so many bits takes: one for each 64 bits, at least one
abbrev pub places_of : ℕ → ℕ
places_of bits = max 1 ((bits + 63) / 64)

-- how many places the cells have together
abbrev pub total_places : List Cell → ℕ
total_places [] = 0
total_places (cell ∷ cells) = places_of cell.bits + total_places cells

-- the cell that each place belongs to, by its kind and entity, in the order of the places
abbrev pub owners_of : List Cell → List (KindId × Entity)
owners_of [] = []
owners_of (cell ∷ cells) = replicate (places_of cell.bits) (cell.kind, cell.entity) ++ owners_of cells

-- the cell that the place belongs to
abbrev pub cell_at : List Cell → ℕ → Option (KindId × Entity)
cell_at cells place = slice_get (owners_of cells) place

-- whether the cell is that of the kind and the entity
abbrev pub is_cell_of : KindId → Entity → Cell → Bool
is_cell_of kind entity cell = kinds.eq kind cell.kind && entities.eq entity cell.entity

-- whether there is a cell of the kind and the entity
abbrev pub has_cell : List Cell → KindId → Entity → Bool
has_cell cells kind entity = list_any (is_cell_of kind entity) cells

-- the first place of the cell of the kind and the entity: the places of the cells before it come first
abbrev pub first_place : List Cell → KindId → Entity → Option ℕ
first_place [] kind entity = None
first_place (cell ∷ cells) kind entity =
    if is_cell_of kind entity cell then Some 0 else option_map (λ place. places_of cell.bits + place) (first_place cells kind entity)

-- the cell whose first place this is, where the first of the cells begins at `first`
abbrev pub cell_from : List Cell → (first place : ℕ) → Option Cell
cell_from [] first place = None
cell_from (cell ∷ cells) first place = if first == place then Some cell else cell_from cells (first + places_of cell.bits) place

-- no kind and entity have two cells
abbrev pub AreDistinct : List Cell → Type 0
AreDistinct [] = ⊤
AreDistinct (cell ∷ cells) = (has_cell cells cell.kind cell.entity ≡ false) × AreDistinct cells

-- the places of the cells are numbered one to one
pub record IsNumbering (cells : List Cell) : Type 0 where
  -- a first place leads back to its cell
  pub back : (kind : KindId) (entity : Entity) (place : ℕ) → first_place cells kind entity ≡ Some place → cell_at cells place ≡ Some (kind, entity)
  -- a cell's first place comes after the places of the cells before it
  pub first : (i : ℕ) (cell : Cell) → slice_get cells i ≡ Some cell → first_place cells cell.kind cell.entity ≡ Some (total_places (take i cells))
  -- each of its places belongs to it
  pub owned : (i k : ℕ) (cell : Cell) → slice_get cells i ≡ Some cell → k < places_of cell.bits → cell_at cells (total_places (take i cells) + k) ≡ Some (cell.kind, cell.entity)
  -- the places of a later cell come later
  pub apart : (i j : ℕ) (cell : Cell) → slice_get cells i ≡ Some cell → i < j → total_places (take i cells) + places_of cell.bits ≤ total_places (take j cells)
  -- each place below the total belongs to a cell, and no other place does
  pub below : (place : ℕ) → place < total_places cells → is_some (cell_at cells place) ≡ true
  pub above : (place : ℕ) → total_places cells ≤ place → cell_at cells place ≡ None
