-- Walks over the superinterfaces of the classes of a set.
use Rattle.std.specs.Prelude.{◌≡◌, ◌≤◌, ◌<◌, ◌+◌, ◌==◌, ℕ, List, length, slice_index, if◌then◌else◌}
use Rattle.std.specs.List.{sum_by}
use Rattle.fp_model.specs.declared.class.Class.{Class}
use Rattle.fp_facts.specs.Hierarchy.{has_number, met_from}

-- what a walk has met at its end that has met some names and is still to visit others
abbrev pub walk_from : List Class → (met names : List ℕ) → List ℕ
walk_from classes met names = met_from classes (length classes + 1) met names

-- what a class weighs until its name is met
abbrev pub unmet_weight : (Class → ℕ) → List ℕ → Class → ℕ
unmet_weight weight met c = if has_number met c.name then 0 else weight c

-- how many superinterfaces those classes list whose own names were not met
abbrev pub unmet_interfaces : List Class → List ℕ → ℕ
unmet_interfaces classes met = sum_by (unmet_weight (λ c. length c.interfaces) met) classes

-- so many names have a mark each, and the marks that are the number of this walk are those of the names that it has met
pub record AreMarked (names walk : ℕ) (marks met : List ℕ) : Type 0 where
  pub long : length marks ≡ names
  pub marked : (n : ℕ) → n < names → (slice_index marks n == walk) ≡ has_number met n
  pub below : (n : ℕ) → slice_index marks n ≤ walk
