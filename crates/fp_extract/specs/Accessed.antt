-- Which field an instruction reads or writes.
use Rattle.std.specs.Prelude.{ℕ, List, Option, None}
use Rattle.fp_model.specs.declared.class.Class.{Class}
use Rattle.fp_model.specs.declared.class.instr.Instr.{Instr}
use Rattle.fp_model.specs.declared.class.instr.Instr.TheVariants as instr
use Rattle.fp_facts.specs.Resolution.{resolve_field}

-- the field of the set, static or not
abbrev pub accessed_field : List Class → Instr → Option ℕ
accessed_field classes (instr.GetStatic class name descr kind) = resolve_field classes class name descr
accessed_field classes (instr.PutStatic class name descr kind) = resolve_field classes class name descr
accessed_field classes (instr.GetField class name descr kind) = resolve_field classes class name descr
accessed_field classes (instr.PutField class name descr kind) = resolve_field classes class name descr
accessed_field classes _ = None
