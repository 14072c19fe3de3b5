-- Instructions that neither read a field nor call a method.
use Rattle.std.specs.Prelude.{Bool, true, false}
use Rattle.fp_model.specs.declared.class.instr.Instr.{Instr}
use Rattle.fp_model.specs.declared.class.instr.Instr.TheVariants as instr

abbrev pub is_plain : Instr → Bool
is_plain (instr.GetStatic class name descr k) = false
is_plain (instr.PutStatic class name descr k) = false
is_plain (instr.GetField class name descr k) = false
is_plain (instr.PutField class name descr k) = false
is_plain (instr.InvokeVirtual class name descr kinds) = false
is_plain (instr.InvokeSpecial class name descr kinds) = false
is_plain (instr.InvokeStatic class name descr kinds) = false
is_plain (instr.InvokeInterface class name descr kinds) = false
is_plain (instr.InvokeDynamic name descr boot args) = false
is_plain _ = true
