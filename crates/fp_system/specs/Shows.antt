-- Which cells a table of shown items shows.
use Rattle.std.specs.Prelude.{◌≡◌, ℕ, ◌+◌, Bool, true, ◌||◌, List, [], ◌∷◌, ◌++◌, replicate, if◌then◌else◌, ⊤}
use Rattle.std.specs.List.{flat_map, list_any}
use Rattle.std.specs.Str.{bytes_eq}
use Rattle.fp_base.specs.Names.{has_name}
use Rattle.fp_model.specs.ClassSet.{SetView}
use Rattle.fp_cells.specs.Cells.{Cell, places_of}
use Rattle.fp_cells.specs.Entities.{IsEntityOf, kind_text, entity_text}
use Rattle.fp_system.specs.Java.{first_failing, is_item, is_kind_text}
use Rattle.fp_system.specs.Texts.{part_before}

-- the text that names a cell: `kind=entity`
abbrev pub cell_text : SetView → Cell → List ℕ
cell_text set cell = kind_text cell.kind ++ (61 ∷ entity_text set cell.entity)

-- the cell's kind or its text is among the items, by a test of these
abbrev pub is_marked : SetView → (List ℕ → Bool) → Cell → Bool
is_marked set has cell = has (kind_text cell.kind) || has (cell_text set cell)

-- whether each place is of a marked cell
abbrev pub marked_flags : SetView → (List ℕ → Bool) → List Cell → List Bool
marked_flags set has cells = flat_map (λ cell. replicate (places_of cell.bits) (is_marked set has cell)) cells

-- the first places of the marked cells
abbrev pub marked_from : SetView → (List ℕ → Bool) → ℕ → List Cell → List ℕ
marked_from set has first [] = []
marked_from set has first (cell ∷ cells) =
    (if is_marked set has cell then first ∷ [] else []) ++ marked_from set has (first + places_of cell.bits) cells

-- the first part of each item has been noted
abbrev pub KnowsParts : List (List ℕ) → List (List ℕ) → Type 0
KnowsParts items parts = (text : List ℕ) → has_name items text ≡ true → has_name parts (part_before text) ≡ true

-- the items that name one of the cells have been noted
abbrev pub HasFound : SetView → List (List ℕ) → List (List ℕ) → List Cell → Type 0
HasFound set items found cells = (text : List ℕ) → has_name items text ≡ true → has_name found text ≡ list_any (λ cell. bytes_eq text (cell_text set cell)) cells

-- the first item that is neither a kind nor noted is the first that names nothing
abbrev pub FindsItems : SetView → List (List ℕ) → List (List ℕ) → Type 0
FindsItems set show found = first_failing (λ item. is_kind_text item || has_name found item) show ≡ first_failing (is_item set) show

-- each cell is of an entity of the set
abbrev pub AreEntitiesOf : SetView → List Cell → Type 0
AreEntitiesOf set [] = ⊤
AreEntitiesOf set (cell ∷ cells) = IsEntityOf set cell.entity × AreEntitiesOf set cells
