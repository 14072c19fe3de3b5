-- The words that places start with, by whichever analyses are selected.
use Rattle.std.specs.Prelude.{ℕ, ◌-◌, ◌*◌, Bool, List, map, if◌then◌else◌}
use Rattle.std.specs.List.{flat_map, range_with_len}
use Rattle.fp_cells.specs.Cells.{Cell, places_of}
use Rattle.fp_system.specs.Java.{analysis_of, full_word}

-- the words of a cell that has so many bits
abbrev pub words_of : Bool → ℕ → List ℕ
words_of selected bits = map (λ i. if selected then 0 else full_word (bits - 64 * i)) (range_with_len 0 (places_of bits))

-- those of all cells, where an analysis is selected that passes the test
abbrev pub start_words : (List ℕ → Bool) → List Cell → List ℕ
start_words selects cells = flat_map (λ cell. words_of (selects (analysis_of cell.kind)) cell.bits) cells
