use Rattle.std.proofs.Common.{◌+◌, ◌*◌, ◌-◌, length, sym, ◌∙◌, arith}
use Rattle.fp_cells.specs.Words.{is_set}
use Rattle.fp_cells.proofs.ListLemmas.{passing-some}
use Rattle.fp_cells.proofs.text.list.has_bits_from.Goals as goal

pub returns-then-is_set-clause-some : goal.returns-then-is_set-clause-some
returns-then-is_set-clause-some c =
    λ _. passing-some (λ k. is_set c.args.words.now (c.args.first + k)) (64 * length c.args.words.now - c.args.first) c.loop-i.i (omega arith) (sym c.is_set.ensures ∙ c.if-is_set.true)
