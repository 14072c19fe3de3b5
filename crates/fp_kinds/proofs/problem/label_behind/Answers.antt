use Rattle.std.proofs.Common.{◌≡◌}
use Rattle.std.proofs.lemmas.Result.{IfOk-weaker}
use Rattle.fp_model.specs.declared.kind.Sort.{Sort}
use Rattle.fp_facts.specs.declared.label.Label.{Label}
use Rattle.fp_facts.specs.Transfer.{after, label_after}
use Rattle.fp_kinds.proofs.TransferLists.{after-told}
use Rattle.fp_kinds.proofs.problem.label_behind.Goals as goal

pub returns : goal.returns
returns c =
    IfOk-weaker c.after.result
    (λ (l : Label Sort). l ≡ after c.args.code.now.max_stack c.index-transfers-number.result.wrong c.index-transfers-number.result.effect c.args.before.now)
    (λ (l : Label Sort). l ≡ label_after c.args.code.now c.args.results.now c.args.number c.args.before.now)
    (λ l e. after-told c.args.code.now c.args.results.now c.args.transfers.now c.args.number c.index-transfers-number.result c.args.before.now l c.requires.told c.requires.known c.index-transfers-number.is e)
    c.after.ensures
