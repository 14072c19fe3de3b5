use Rattle.std.proofs.Common.{◌≡◌, ◌-◌, ◌*◌, ◌++◌, cond, map}
use Rattle.std.specs.List.{range_with_len}
use Rattle.fp_system.specs.Java.{full_word}
use Rattle.fp_system.proofs.fixed.push_words.Given as goal

abbrev pub invariant-loop-i : goal.invariant-loop-i
invariant-loop-i l = l.words.items ≡ l.fn.words.items ++ map (λ i. cond l.is_selected 0 (full_word (l.bits - 64 * i))) (range_with_len 0 l.i)
