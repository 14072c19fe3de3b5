-- The property `declared` of classes as an equation for each class.
use Rattle.std.specs.Prelude.{ℕ, ◌==◌, Bool, false, ◌&&◌, ◌||◌, not, List, length, map, codes, slice_get, unwrap_or, is_some, bit_and, Option, Some, None, if◌then◌else◌}
use Rattle.std.specs.List.{list_any, range_with_len}
use Rattle.std.specs.Option.{option_and_then, option_map_or}
use Rattle.std.specs.Str.{bytes_eq}
use Rattle.fp_model.specs.declared.class.Class.{Class}
use Rattle.fp_model.specs.declared.class.Field.{Field}
use Rattle.fp_model.specs.ClassSet.{SetView, class_named, superclass_of, is_number}
use Rattle.fp_model.specs.Descriptor.{text_of}
use Rattle.fp_cells.specs.declared.kind.KindId.TheVariants as kind
use Rattle.fp_cells.specs.declared.kind.Entity.TheVariants as entity
use Rattle.fp_cells.specs.Cells.{Cell, first_place}
use Rattle.fp_eqs.specs.declared.start.Start.TheVariants.{Lazy}
use Rattle.fp_eqs.specs.Equations.{Task, Tasks}
use Rattle.fp_system.specs.declared.declared.ClassTask.{ClassTask}

-- an instance field that isn't final: neither ACC_STATIC nor ACC_FINAL (JVMS SE 21 section 4.5)
abbrev pub is_open_field : Field → Bool
is_open_field f = bit_and f.flags 0x0018 == 0

-- the superclass is outside the set, and isn't `java/lang/Object`
abbrev pub extends_outside : SetView → Class → Bool
extends_outside set c = option_map_or (λ parent. not (is_some (class_named set.classes parent)) && not (bytes_eq (text_of set.names parent) (codes "java/lang/Object"))) c.parent false

-- the class is open whatever its superclass is
abbrev pub is_open_alone : SetView → Class → Bool
is_open_alone set c = list_any is_open_field c.fields || extends_outside set c

-- the place of declared(C), that of declared(S) where the superclass S is in the set, and whether C is open by itself
abbrev pub class_task : SetView → List Cell → ℕ → ClassTask
class_task set cells id = record {
  place = unwrap_or (first_place cells kind.Declared (entity.Class id)) 0;
  parent = option_and_then (λ s. first_place cells kind.Declared (entity.Class s)) (superclass_of set.classes id);
  is_open = option_map_or (is_open_alone set) (slice_get set.classes id) false;
}

abbrev pub class_tasks : SetView → List Cell → List ClassTask
class_tasks set cells = map (class_task set cells) (range_with_len 0 (length set.classes))

-- the bit of the superclass, none where there is none in the set
abbrev pub parent_bit : Option ℕ → (ℕ → ℕ) → ℕ
parent_bit None a = 0
parent_bit (Some place) a = bit_and (a place) 1

-- The equation of a class: it is open by itself, or where its superclass is. It uses the superclass's place in either case, where
-- that is in the set.
abbrev pub declared_task : ClassTask → Task
declared_task k = record {
  start = Lazy;
  asks = if is_some k.parent then 1 else 0;
  gives = 1;
  makes = λ p. k.place == p;
  uses = λ a p. is_number p k.parent;
  out = λ a p. if k.place == p then (if k.is_open then 1 else parent_bit k.parent a) else 0;
}

-- a task that makes and uses nothing
abbrev pub no_task : Task
no_task = record { start = Lazy; asks = 0; gives = 0; makes = λ p. false; uses = λ a p. false; out = λ a p. 0 }

abbrev pub declared_tasks : List ClassTask → Tasks
declared_tasks rows = record { count = length rows; task = λ t. option_map_or declared_task (slice_get rows t) no_task }
