use Rattle.std.proofs.Common.{◌≡◌, ◌++◌, take}
use Rattle.std.specs.List.{flat_map}
use Rattle.fp_model.specs.Spelling.{spelled_ins}
use Rattle.fp_write.proofs.code.put_instructions.Given as goal

abbrev pub invariant-loop-ins : goal.invariant-loop-ins
invariant-loop-ins l = l.out.items ≡ l.initial.out.items ++ flat_map spelled_ins (take l.ins-index l.code)
