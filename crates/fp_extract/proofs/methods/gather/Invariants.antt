use Rattle.std.specs.List.{flat_map, range_with_len}
use Rattle.fp_facts.specs.Facts.{coded_at}
use Rattle.fp_extract.specs.Calling.{IsCallTable}
use Rattle.fp_extract.specs.Gathering.{HasGathered}
use Rattle.fp_extract.proofs.methods.gather.Given as goal

abbrev pub invariant-loop-id : goal.invariant-loop-id
invariant-loop-id l = record {
  told : IsCallTable l.set l.gathered.calls;
  gathered : HasGathered l.set l.fn.room (flat_map (coded_at l.set.classes) (range_with_len 0 l.id)) l.gathered;
}
