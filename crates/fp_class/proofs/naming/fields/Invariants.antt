use Rattle.std.proofs.Common.{◌≡◌, take}
use Rattle.std.specs.List.{flat_map, AllZip}
use Rattle.fp_base.specs.Names.{with_names}
use Rattle.fp_class.specs.Classes.{field_names}
use Rattle.fp_class.specs.Interning.{IsNamedField}
use Rattle.fp_ops.specs.Memos.{IsMemo}
use Rattle.fp_class.proofs.naming.fields.Given as goal

abbrev pub invariant-loop-member : goal.invariant-loop-member
invariant-loop-member l = record {
  names : l.names ≡ with_names l.fn.names (flat_map (field_names l.entries) (take l.member-index l.members));
  fields : AllZip (IsNamedField l.names l.entries) l.fields.items (take l.member-index l.members);
  memo : IsMemo l.names l.entries l.memo;
}
