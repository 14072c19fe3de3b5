-- What the origins of a code are, and why there are none.
use Rattle.std.specs.Prelude.{◌≡◌, ℕ, ◌<◌, ◌≤◌, length, slice_get, Some}
use Rattle.fp_model.specs.declared.class.Code.{Code}
use Rattle.fp_model.specs.declared.class.Method.{Method}
use Rattle.fp_facts.specs.Origins.{origin_pairs, origins_before}
use Rattle.fp_origin.specs.declared.answer.OriginFault.{OriginFault}
use Rattle.fp_origin.specs.declared.answer.OriginFault.TheVariants as fault
use Rattle.fp_origin.specs.declared.answer.Origins.{Origins}

abbrev pub most_origin_pairs : ℕ
most_origin_pairs = 16777216

-- each instruction has the origins of the words before it
pub record AreOrigins (m : Method) (code : Code) (o : Origins) : Type 0 where
  pub few : origin_pairs m code ≤ most_origin_pairs
  pub long : length o.frames ≡ length code.instrs
  pub frames : (number : ℕ) → number < length code.instrs → slice_get o.frames number ≡ Some (origins_before m code number)

-- want of memory tells nothing
abbrev pub TellsFault : Method → Code → OriginFault → Type 0
TellsFault m code fault.Limit = most_origin_pairs < origin_pairs m code
TellsFault m code fault.Memory = Unit {0}
