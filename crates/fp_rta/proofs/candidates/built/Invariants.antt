use Rattle.std.proofs.Common.{◌≡◌, length}
use Rattle.fp_rta.specs.Listed.{built}
use Rattle.fp_rta.proofs.candidates.built.Given as goal

abbrev pub invariant-loop-places : goal.invariant-loop-places
invariant-loop-places l = record {
  bit : l.bit ≡ length l.yielded;
  candidates : l.candidates.items ≡ built l.cells l.always l.targets 0 l.yielded;
}
