use Rattle.std.proofs.Common.{◌≡◌, take}
use Rattle.std.specs.List.{flat_map, AllZip}
use Rattle.std.specs.Option.{option_to_list}
use Rattle.fp_base.specs.Names.{with_names}
use Rattle.fp_model.specs.Entries.{class_name_at}
use Rattle.fp_class.specs.Interning.{IsClassName}
use Rattle.fp_ops.specs.Memos.{IsMemo}
use Rattle.fp_class.proofs.naming.class_names.Given as goal

abbrev pub invariant-loop-index : goal.invariant-loop-index
invariant-loop-index l = record {
  names : l.names ≡ with_names l.fn.names (flat_map (λ index. option_to_list (class_name_at l.entries index)) (take l.index-index l.indexes));
  numbers : AllZip (IsClassName l.names l.entries) l.numbers.items (take l.index-index l.indexes);
  memo : IsMemo l.names l.entries l.memo;
}
