-- Which classes a code begins to initialise, by its steps.
use Rattle.std.specs.Prelude.{ℕ, Bool, false, List, length, filter, slice_index_or}
use Rattle.std.specs.List.{flat_map}
use Rattle.std.specs.Option.{option_to_list}
use Rattle.fp_model.specs.declared.class.Class.{Class}
use Rattle.fp_model.specs.ClassSet.{SetView}
use Rattle.fp_facts.specs.Initialisation.{has_initialiser, initialised_by, with_ancestors}
use Rattle.fp_facts.specs.Selection.{ascending_among}
use Rattle.fp_facts.specs.Steps.{Step}

-- the classes that the instructions of steps begin to initialise, without their ancestors
abbrev pub initialised_of : List Class → List Step → List ℕ
initialised_of classes steps = flat_map (λ s. option_to_list (initialised_by classes s.instr)) steps

-- the classes with an initialiser among these and their ancestors, ascending
abbrev pub begun_by : SetView → List Step → List ℕ
begun_by set steps =
    ascending_among (length set.classes)
    (filter (has_initialiser set) (flat_map (λ s. flat_map (with_ancestors set.classes) (option_to_list (initialised_by set.classes s.instr))) steps))

-- the flag of a class
abbrev pub is_flagged : List Bool → (class : ℕ) → Bool
is_flagged flags class = slice_index_or flags class false
