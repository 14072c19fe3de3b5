use Rattle.std.proofs.Common.{◌≡◌, ◌+◌, ◌++◌, take}
use Rattle.fp_rta.specs.Contributions.{ones}
use Rattle.fp_rta.proofs.giver.give_ones.Given as goal

abbrev pub invariant-loop-place : goal.invariant-loop-place
invariant-loop-place l = record {
  list : l.give.list ≡ l.initial.give.list ++ ones (take l.place-index l.places);
  spare : l.give.spare + l.place-index ≡ l.initial.give.spare;
}
