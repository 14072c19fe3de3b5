-- A read or write, as the code keeps it.
use Rattle.std.specs.Prelude.{ℕ, Option}
use Rattle.fp_facts.specs.Behaviour.{AccessShape}
use Rattle.fp_extract.specs.declared.access.Operands.{Operands}
use Rattle.fp_extract.specs.declared.access.Shape.{Shape}

abbrev pub with_field : Option ℕ → Operands → AccessShape
with_field field o = record { form = o.form; field = field; object = o.object; value = o.value }

abbrev pub as_shape : Shape → AccessShape
as_shape s = with_field s.field s.operands
