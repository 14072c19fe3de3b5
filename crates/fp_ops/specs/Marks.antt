-- Marks by place.
use Rattle.std.specs.Prelude.{ℕ, Bool, false, List, slice_index_or}

-- the place is marked
abbrev pub is_marked : List Bool → ℕ → Bool
is_marked marks place = slice_index_or marks place false
