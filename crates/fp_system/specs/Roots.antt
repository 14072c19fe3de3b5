-- Which roots are methods with code, by the texts that were found.
use Rattle.std.specs.Prelude.{◌≡◌, ℕ, true, List}
use Rattle.std.specs.List.{list_any}
use Rattle.std.specs.Str.{bytes_eq}
use Rattle.fp_base.specs.Names.{has_name}
use Rattle.fp_model.specs.ClassSet.{SetView}
use Rattle.fp_cells.specs.Cells.{Cell}
use Rattle.fp_cells.specs.Entities.{entity_text}
use Rattle.fp_system.specs.Java.{first_failing, is_root}

-- the texts that name an entity of one of the cells have been found
abbrev pub HasEntities : SetView → List (List ℕ) → List (List ℕ) → List Cell → Type 0
HasEntities set wanted found cells =
    (text : List ℕ) → has_name wanted text ≡ true → has_name found text ≡ list_any (λ cell. bytes_eq text (entity_text set cell.entity)) cells

-- the first root that wasn't found is the first that is no method with code
abbrev pub FindsRoots : SetView → List (List ℕ) → List (List ℕ) → Type 0
FindsRoots set roots found = first_failing (has_name found) roots ≡ first_failing (is_root set) roots
