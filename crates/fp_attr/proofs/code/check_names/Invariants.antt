use Rattle.std.proofs.Common.{◌≡◌, ◌+◌, drop, length}
use Rattle.std.specs.List.{flat_map}
use Rattle.fp_model.specs.References.{each_checked}
use Rattle.fp_model.specs.Spelling.{spelled_plain}
use Rattle.fp_attr.specs.Codes.{name_checked}
use Rattle.fp_attr.proofs.code.check_names.Given as goal

-- what is left to check leads where the whole does, and ends where it does
abbrev pub invariant-loop-attribute : goal.invariant-loop-attribute
invariant-loop-attribute l = record {
  rest : each_checked spelled_plain (name_checked l.entries) l.next (drop l.attribute-index l.attributes) ≡ each_checked spelled_plain (name_checked l.entries) l.at l.attributes;
  at : l.next + length (flat_map spelled_plain (drop l.attribute-index l.attributes)) ≡ l.at + length (flat_map spelled_plain l.attributes);
}
