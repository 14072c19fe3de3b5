use Rattle.std.proofs.Common.{rules}
use Rattle.fp_ops.proofs.Memos.{nothing_noted}
use Rattle.fp_ops.proofs.memo.empty_memo.Goals as goal

pub returns : goal.returns
returns c = λ names. nothing_noted names c.args.entries.now (record { numbers = c.in_ok-numbers.numbers; kinds = c.in_ok-kinds.kinds; elements = c.in_ok-elements.elements; descrs = c.in_ok-descrs.descrs }) (search rules) (search rules) (search rules) (search rules)
