-- The places of what is known of classes, methods and calls.
use Rattle.std.specs.Prelude.{ℕ, List, Option, unwrap_or}
use Rattle.std.specs.List.{flat_map}
use Rattle.std.specs.Option.{option_to_list}
use Rattle.fp_cells.specs.declared.kind.KindId.TheVariants as kind
use Rattle.fp_cells.specs.declared.kind.Entity.TheVariants as entity
use Rattle.fp_cells.specs.Cells.{Cell, first_place}

-- the place that tells whether a class has objects; a class that can have none has no such place
abbrev pub inst_place : List Cell → (class : ℕ) → Option ℕ
inst_place cells class = first_place cells kind.Inst (entity.Class class)

-- the place that tells whether a method is reached
abbrev pub reach_place : List Cell → (method : ℕ) → Option ℕ
reach_place cells method = first_place cells kind.Reach (entity.Method method)

abbrev pub reach_at : List Cell → (method : ℕ) → ℕ
reach_at cells method = unwrap_or (reach_place cells method) 0

-- the first place of what a call reaches
abbrev pub callees_at : List Cell → (method pc : ℕ) → ℕ
callees_at cells method pc = unwrap_or (first_place cells kind.Callees (entity.Site (record { method = method; pc = pc }))) 0

abbrev pub inst_places : List Cell → (classes : List ℕ) → List ℕ
inst_places cells classes = flat_map (λ class. option_to_list (inst_place cells class)) classes

abbrev pub reach_places : List Cell → (methods : List ℕ) → List ℕ
reach_places cells methods = flat_map (λ method. option_to_list (reach_place cells method)) methods
