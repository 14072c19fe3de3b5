use Rattle.std.proofs.Common.{◌≡◌, take}
use Rattle.std.specs.List.{flat_map, AllZip}
use Rattle.fp_base.specs.Names.{with_names}
use Rattle.fp_ops.specs.CallSites.{arg_texts_at, IsArgAt}
use Rattle.fp_ops.specs.Memos.{IsMemo}
use Rattle.fp_ops.proofs.sites.boot_args.Given as goal

-- the arguments up to here are read
abbrev pub invariant-loop-index : goal.invariant-loop-index
invariant-loop-index l = record {
  names : l.names ≡ with_names l.fn.names (flat_map (arg_texts_at l.entries) (take l.index-index l.indexes));
  args : AllZip (IsArgAt l.names l.entries) (take l.index-index l.indexes) l.args.items;
  memo : IsMemo l.names l.entries l.memo;
}
