-- The cells that a map of spots stands for.
use Rattle.std.specs.Prelude.{◌≡◌, ℕ, ◌+◌, ◌<◌, ◌^◌, List, [], ◌∷◌, length, map, ⊤}
use Rattle.fp_cells.specs.declared.kind.KindId.{KindId}
use Rattle.fp_cells.specs.declared.kind.Entity.{Entity}
use Rattle.fp_cells.specs.declared.cells.Spot.{Spot}
use Rattle.fp_cells.specs.Cells.{Cell, AreDistinct, owners_of, places_of, total_places}

abbrev pub Entry : Type 0
Entry = (KindId × Entity) × Spot

-- the cells of the entries, in their order
abbrev pub cells_of : List Entry → List Cell
cells_of entries = map (λ e. record { kind = e.0.0; entity = e.0.1; bits = e.1.bits }) entries

-- each cell's first place comes after the places of the cells before it, which begin at `first`
abbrev pub AreNumbered : ℕ → List Entry → Type 0
AreNumbered first [] = ⊤
AreNumbered first (e ∷ entries) = (e.1.first ≡ first) × AreNumbered (first + places_of e.1.bits) entries

-- what holds of the spots and of the owners of the places
pub record IsCellTable (entries : List Entry) (owners : List (KindId × Entity)) : Type 0 where
  pub numbered : AreNumbered 0 entries
  pub owned : owners ≡ owners_of (cells_of entries)
  pub counted : length owners ≡ total_places (cells_of entries)
  pub few : length owners < 2 ^ 32
  pub distinct : AreDistinct (cells_of entries)
