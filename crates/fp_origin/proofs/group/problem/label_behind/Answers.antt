use Rattle.std.proofs.Common.{◌≡◌, ℕ, map}
use Rattle.std.proofs.lemmas.Result.{IfOk-weaker}
use Rattle.fp_facts.specs.declared.label.Label.{Label}
use Rattle.fp_facts.specs.Moves.{moved, moved_after}
use Rattle.fp_facts.specs.Origins.{made_words}
use Rattle.fp_origin.specs.Groups.{word_bits}
use Rattle.fp_origin.proofs.TransferLists.{moved-told}
use Rattle.fp_origin.proofs.group.problem.label_behind.Goals as goal

pub returns : goal.returns
returns c =
    IfOk-weaker c.moved.result
    (λ (l : Label ℕ). l ≡ moved 0 c.args.code.now.max_stack c.index-transfers-number.result.made c.index-transfers-number.result.effect c.args.before.now)
    (λ (l : Label ℕ). l ≡ moved_after 0 c.args.code.now (λ i. map (word_bits c.args.group.now) (made_words i.0 i.1)) c.args.number c.args.before.now)
    (λ l e. moved-told c.args.code.now c.args.group.now c.args.transfers.now c.args.number c.index-transfers-number.result c.args.before.now l c.requires.told c.requires.known c.index-transfers-number.is e)
    c.moved.ensures
