use Rattle.std.proofs.Common.{◌≡◌, take}
use Rattle.std.specs.List.{flat_map, AllZip}
use Rattle.fp_base.specs.Names.{with_names}
use Rattle.fp_class.specs.Classes.{method_names}
use Rattle.fp_ops.specs.BootMemos.{IsBootMemo}
use Rattle.fp_ops.specs.Memos.{IsMemo}
use Rattle.fp_class.specs.Naming.{IsNamedMethod}
use Rattle.fp_class.proofs.methods.methods.Given as goal

abbrev pub invariant-loop-member : goal.invariant-loop-member
invariant-loop-member l = record {
  names : l.names ≡ with_names l.fn.names (flat_map (method_names l.pool.entries l.boots) (take l.member-index l.members));
  methods : AllZip (IsNamedMethod l.names l.pool.entries l.boots) l.methods.items (take l.member-index l.members);
  memo : IsMemo l.names l.pool.entries l.memo;
  rows : IsBootMemo l.names l.pool.entries l.boots l.boot_memo;
}
