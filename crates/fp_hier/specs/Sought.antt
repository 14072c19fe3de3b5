-- Which methods are looked for.
use Rattle.std.specs.Prelude.{Bool, false, true}
use Rattle.fp_model.specs.declared.class.Method.{Method}
use Rattle.fp_facts.specs.Resolution.{is_open}
use Rattle.fp_hier.specs.Given.{is_open_with_code}
use Rattle.fp_hier.specs.declared.resolution.interfaces.Wanted.{Wanted}
use Rattle.fp_hier.specs.declared.resolution.interfaces.Wanted.TheVariants as wanted
use Rattle.fp_hier.specs.declared.selection.Receiver.{Receiver}
use Rattle.fp_hier.specs.declared.selection.Receiver.TheVariants as receiver

-- a method of an interface is wanted
abbrev pub passes : Wanted → Method → Bool
passes wanted.WithCode m = is_open_with_code m
passes wanted.Any m = is_open m

-- a call has no receiver
abbrev pub is_of_class : Receiver → Bool
is_of_class receiver.Class = true
is_of_class receiver.Object = false
