use Rattle.std.proofs.Common.{◌≡◌, length}
use Rattle.fp_origin.specs.Growth as defined
use Rattle.fp_origin.proofs.search.growth.grown_frames.Given as goal

abbrev pub invariant-loop-frame : goal.invariant-loop-frame
invariant-loop-frame l = record {
  number : l.number ≡ length l.yielded;
  grown : l.grown.items ≡ defined.grown_frames l.group l.labels l.yielded;
}
