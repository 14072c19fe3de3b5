use Rattle.std.proofs.Common.{◌≡◌, ◌++◌, length, take}
use Rattle.fp_base.specs.Escape.{escaped_by}
use Rattle.fp_base.proofs.escape.append_escaped.Given as goal

abbrev pub invariant-loop-byte : goal.invariant-loop-byte
invariant-loop-byte l = record {
  so_far : l.to.items ≡ l.initial.to.items ++ escaped_by l.reserved (take l.byte-index l.text);
  begun : l.start ≡ length l.initial.to.items;
}
