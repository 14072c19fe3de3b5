use Rattle.std.proofs.Common.{◌≡◌, ◌%◌, ◌^◌, length, take}
use Rattle.std.specs.List.{flat_map}
use Rattle.fp_model.specs.Spelling.{spelled_plain}
use Rattle.fp_write.proofs.unread.size_of_inner_attributes.Given as goal

abbrev pub invariant-loop-attribute : goal.invariant-loop-attribute
invariant-loop-attribute l = l.total ≡ length (flat_map spelled_plain (take l.attribute-index l.attributes)) % 2 ^ 32
