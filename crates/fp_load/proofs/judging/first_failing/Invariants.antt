use Rattle.std.proofs.Common.{◌≡◌, ◌<◌, ℕ, drop, slice_index_or}
use Rattle.fp_model.specs.declared.class.Method.{Method}
use Rattle.fp_facts.specs.Kinded.{IsKindedMethod}
use Rattle.fp_load.specs.Kinds as defined
use Rattle.fp_load.proofs.judging.first_failing.Given as goal

abbrev pub invariant-loop-number : goal.invariant-loop-number
invariant-loop-number l = record {
  failing : defined.first_failing 0 l.methods ≡ defined.first_failing l.number (drop l.number l.methods);
  kinded : (k : ℕ) (d : Method) → k < l.number → IsKindedMethod (slice_index_or l.methods k d);
}
