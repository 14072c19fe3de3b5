use Rattle.std.proofs.Common.{◌≡◌, ◌%◌, ◌^◌, length, take}
use Rattle.std.specs.List.{flat_map}
use Rattle.fp_model.specs.Spelling.{spelled_ins}
use Rattle.fp_write.proofs.code.size_of_instructions.Given as goal

abbrev pub invariant-loop-ins : goal.invariant-loop-ins
invariant-loop-ins l = l.total ≡ length (flat_map spelled_ins (take l.ins-index l.code)) % 2 ^ 32
