-- What a walk over the cells of a set has told.
use Rattle.std.specs.Prelude.{◌≡◌, ℕ, ◌+◌, nat_lt, List, if◌then◌else◌}
use Rattle.fp_model.specs.ClassSet.{SetView}
use Rattle.fp_cells.specs.Cells.{Cell, total_places}
use Rattle.fp_system.specs.Limits.{most_places}
use Rattle.fp_system.specs.Shows.{HasFound}

-- a number of places, where one more than a system may have stands for any number above that, too
abbrev pub told_places : ℕ → ℕ
told_places n = if nat_lt most_places n then most_places + 1 else n

-- the places that the cells take, and the items that name one of them
pub record HasSurveyed (set : SetView) (items : List (List ℕ)) (places : ℕ) (found : List (List ℕ)) (cells : List Cell) : Type 0 where
  pub counted : places ≡ told_places (total_places cells)
  pub noted : HasFound set items found cells
