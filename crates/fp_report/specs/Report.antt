-- The report on the cells of a solved system.
use Rattle.std.specs.Prelude.{◌≡◌, ◌≢◌, ℕ, ◌+◌, ◌==◌, ◌<◌, Bool, ◌&&◌, List, [], ◌∷◌, ◌++◌, codes, length, map, slice_get, slice_index_or, unwrap_or, All, None, if◌then◌else◌}
use Rattle.std.specs.List.{range_with_len}
use Rattle.std.specs.Option.{option_map_or}
use Rattle.std.specs.Fmt.{decimal}
use Rattle.fp_base.specs.Order.{in_text_order}
use Rattle.fp_model.specs.declared.class.SiteId.{SiteId}
use Rattle.fp_model.specs.ClassSet.{SetView, methods_of}
use Rattle.fp_cells.specs.declared.kind.KindId.{KindId}
use Rattle.fp_cells.specs.declared.kind.KindId.TheVariants.{Callees}
use Rattle.fp_cells.specs.declared.kind.Entity.{Entity}
use Rattle.fp_cells.specs.declared.kind.Entity.TheVariants as entity
use Rattle.fp_cells.specs.Cells.{Cell, cell_from, places_of, total_places}
use Rattle.fp_cells.specs.Entities.{IsEntityOf, entity_text, kind_text, method_texts}
use Rattle.fp_cells.specs.Texts.{FitsKind, value_text_of}

abbrev pub is_site : SiteId → SiteId → Bool
is_site a b = (a.method == b.method) && (a.pc == b.pc)

-- the methods of the first pair of a site, none where there is none
abbrev pub targets_of : List (SiteId × List ℕ) → SiteId → List ℕ
targets_of [] site = []
targets_of (pair ∷ pairs) site = if is_site pair.0 site then pair.1 else targets_of pairs site

-- the pair at a place is of the site, and has its methods
pub record IsSiteAt (targets : List (SiteId × List ℕ)) (site : SiteId) (at : ℕ) : Type 0 where
  pub within : at < length targets
  pub methods_are : (d : SiteId × List ℕ) → (slice_index_or targets at d).1 ≡ targets_of targets site

-- the methods that a cell of callees has a bit for
abbrev pub cell_targets : List (SiteId × List ℕ) → KindId → Entity → List ℕ
cell_targets targets Callees (entity.Site site) = targets_of targets site
cell_targets targets _ _ = []

-- and their texts
abbrev pub target_texts : SetView → List ℕ → List (List ℕ)
target_texts set methods = map (λ m. unwrap_or (slice_get (method_texts set) m) []) methods

-- the words of the places of a cell that begins there
abbrev pub cell_words : (ℕ → ℕ) → (first bits : ℕ) → List ℕ
cell_words values first bits = map values (range_with_len first (places_of bits))

-- the line of a cell that begins at a place, without its end: its kind, its entity and its value
abbrev pub cell_line : SetView → List (SiteId × List ℕ) → (ℕ → ℕ) → ℕ → Cell → List ℕ
cell_line set targets values first cell =
    kind_text cell.kind ++ (32 ∷ (entity_text set cell.entity ++ (32 ∷
    value_text_of cell.kind (cell_words values first cell.bits) (target_texts set (cell_targets targets cell.kind cell.entity)))))

-- the line of the cell whose first place this is
abbrev pub line_at : SetView → List Cell → List (SiteId × List ℕ) → (ℕ → ℕ) → ℕ → List ℕ
line_at set cells targets values place = option_map_or (cell_line set targets values place) (cell_from cells 0 place) []

-- how many cells are demanded, where the first of the cells begins at `first`
abbrev pub demanded_from : (ℕ → Bool) → (first : ℕ) → List Cell → ℕ
demanded_from wanted first [] = 0
demanded_from wanted first (cell ∷ cells) = (if wanted first then 1 else 0) + demanded_from wanted (first + places_of cell.bits) cells

-- the line of the number of demanded cells
abbrev pub count_line : ℕ → List ℕ
count_line n = codes "cells " ++ (decimal n ++ codes "\n")

-- The report: a line for each shown cell, in the order of their bytes, and the number of demanded cells.
unfoldable pub report : SetView → List Cell → List (SiteId × List ℕ) → List ℕ → (ℕ → ℕ) → (ℕ → Bool) → List (List ℕ)
report set cells targets shown values wanted =
    map (λ line. line ++ 10 ∷ []) (in_text_order (map (line_at set cells targets values) shown))
    ++ count_line (demanded_from wanted 0 cells) ∷ []

-- a cell's entity is of the set, and its places are those of its kind, with the targets' bits and that of the outside
pub record IsCellOf (set : SetView) (targets : List (SiteId × List ℕ)) (cell : Cell) : Type 0 where
  pub of_set : IsEntityOf set cell.entity
  pub methods : All (λ m. m < length (methods_of set.classes)) (cell_targets targets cell.kind cell.entity)
  pub places : FitsKind cell.kind (places_of cell.bits) (length (cell_targets targets cell.kind cell.entity))

-- what a report may be made of: cells of the set, a value and a mark for each place, and first places of cells
pub record IsReportable (set : SetView) (cells : List Cell) (targets : List (SiteId × List ℕ)) (shown : List ℕ) (values wanted : ℕ) : Type 0 where
  pub of_set : All (IsCellOf set targets) cells
  pub first_places : All (λ p. cell_from cells 0 p ≢ None) shown
  pub value_count : values ≡ total_places cells
  pub mark_count : wanted ≡ total_places cells
