use Rattle.std.proofs.Common.{◌≡◌, ◌+◌, ◌*◌, ◌≤◌, length, drop}
use Rattle.fp_facts.specs.Sorts.{words_of_kinds}
use Rattle.fp_extract.proofs.arguments.count_words.Given as goal

abbrev pub invariant-loop-kind : goal.invariant-loop-kind
invariant-loop-kind l = record {
  few : l.count ≤ 2 * l.kind-index;
  count : l.count + length (words_of_kinds (drop l.kind-index l.kinds)) ≡ length (words_of_kinds l.kinds);
}
