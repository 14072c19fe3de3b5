use Rattle.std.proofs.Common.{◌≡◌, map}
use Rattle.std.specs.List.{range_with_len}
use Rattle.fp_facts.specs.Initialisation.{has_initialiser}
use Rattle.fp_extract.proofs.initialisers.initialiser_flags.Given as goal

abbrev pub invariant-loop-class : goal.invariant-loop-class
invariant-loop-class l = l.flags.items ≡ map (has_initialiser l.set) (range_with_len 0 l.class)
