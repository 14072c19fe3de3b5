use Rattle.std.proofs.Common.{◌≡◌, take}
use Rattle.std.specs.List.{flat_map, AllZip}
use Rattle.fp_base.specs.Names.{with_names}
use Rattle.fp_ops.specs.Memos.{IsMemo}
use Rattle.fp_class.specs.MethodCode.{row_texts, IsGuardOf}
use Rattle.fp_class.proofs.code.guards.Given as goal

-- the rows up to here are read
abbrev pub invariant-loop-row : goal.invariant-loop-row
invariant-loop-row l = record {
  names : l.names ≡ with_names l.fn.names (flat_map (row_texts l.entries) (take l.row-index l.rows));
  guards : AllZip (IsGuardOf l.names l.entries) l.guards.items (take l.row-index l.rows);
  memo : IsMemo l.names l.entries l.memo;
}
