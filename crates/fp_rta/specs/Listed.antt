-- The lists of places of bits, while they are made.
use Rattle.std.specs.Prelude.{ℕ, ◌+◌, Bool, false, List, [], ◌∷◌, option_and_then, slice_get, slice_index_or}
use Rattle.fp_cells.specs.Cells.{Cell}
use Rattle.fp_rta.specs.declared.candidate.Candidate.{Candidate}
use Rattle.fp_rta.specs.Places.{reach_place}

-- that of a bit
abbrev pub places_at : List (List ℕ) → (bit : ℕ) → List ℕ
places_at lists bit = slice_index_or lists bit []

-- a candidate by its places
abbrev pub built_one : List Cell → (flags : List Bool) → (targets : List ℕ) → (bit : ℕ) → List ℕ → Candidate
built_one cells flags targets bit places = record {
  always = slice_index_or flags bit false;
  sources = places;
  target = option_and_then (reach_place cells) (slice_get targets bit);
}

-- candidates of lists, the first of which has a bit
abbrev pub built : List Cell → (flags : List Bool) → (targets : List ℕ) → (bit : ℕ) → List (List ℕ) → List Candidate
built cells flags targets bit [] = []
built cells flags targets bit (places ∷ lists) = built_one cells flags targets bit places ∷ built cells flags targets (bit + 1) lists
