-- Lists that are parts of one list.
use Rattle.std.specs.Prelude.{◌≡◌, ◌≤◌, ◌-◌, ℕ, List, All, drop, length, map, take}
use Rattle.fp_hier.specs.declared.superinterfaces.Part.{Part}

-- the part lies within so many names
pub record IsWithin (n : ℕ) (p : Part) : Type 0 where
  pub ordered : p.first ≤ p.end
  pub ended : p.end ≤ n

abbrev pub part_of : List ℕ → Part → List ℕ
part_of names p = take (p.end - p.first) (drop p.first names)

-- the parts are these lists
pub record AreParts (lists : List (List ℕ)) (names : List ℕ) (parts : List Part) : Type 0 where
  pub told : map (part_of names) parts ≡ lists
  pub within : All (IsWithin (length names)) parts
