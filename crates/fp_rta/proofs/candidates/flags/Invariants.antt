use Rattle.std.proofs.Common.{◌≡◌, ◌<◌, ℕ, false, length, take}
use Rattle.std.specs.Prelude.{slice_index_or}
use Rattle.fp_facts.specs.Hierarchy.{has_number}
use Rattle.fp_rta.proofs.candidates.flags.Given as goal

abbrev pub invariant-loop-bit : goal.invariant-loop-bit
invariant-loop-bit l = record {
  long : length l.flags.items ≡ l.count;
  flags : (b : ℕ) → b < l.count → slice_index_or l.flags.items b false ≡ has_number (take l.bit-index l.bits) b;
}
