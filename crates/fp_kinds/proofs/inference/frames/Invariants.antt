use Rattle.std.proofs.Common.{◌≡◌, map}
use Rattle.fp_kinds.specs.Kinds.{frame_of}
use Rattle.fp_kinds.proofs.inference.frames.Given as goal

abbrev pub invariant-loop-label : goal.invariant-loop-label
invariant-loop-label l = l.frames.items ≡ map frame_of l.yielded
