use Rattle.std.proofs.Common.{◌≡◌, ◌-◌, [], IsTrue}
use Rattle.std.specs.List.{list_all}
use Rattle.std.specs.BTreeSet.{contains}
use Rattle.fp_class.specs.declared.numbers.Key.{Key}
use Rattle.fp_class.specs.Keys.{has_key, has_texts, key_cmp}
use Rattle.fp_class.specs.Members.{field_at, many_after}
use Rattle.fp_class.proofs.members.many_fields.Given as goal

-- what is left to read leads where the whole does, and the members that were read have been seen
abbrev pub invariant-loop-left : goal.invariant-loop-left
invariant-loop-left l = record {
  rest : many_after (field_at l.pool.entries l.bytes) (l.count - l._left) l.fields.items l.next ≡ many_after (field_at l.pool.entries l.bytes) l.count [] l.at;
  texts : IsTrue (list_all (has_texts l.pool.entries) l.fields.items);
  seen : (key : Key) → contains key_cmp l.seen key ≡ has_key l.texts.numbers.items l.fields.items key;
}
