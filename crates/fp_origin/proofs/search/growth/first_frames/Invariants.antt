use Rattle.std.proofs.Common.{◌≡◌, map, take}
use Rattle.fp_origin.specs.Growth as defined
use Rattle.fp_origin.proofs.search.growth.first_frames.Given as goal

abbrev pub invariant-loop-label : goal.invariant-loop-label
invariant-loop-label l = l.frames.items ≡ map (defined.first_frame l.group) (take l.label-index l.labels)
