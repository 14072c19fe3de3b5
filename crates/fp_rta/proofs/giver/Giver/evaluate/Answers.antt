use Rattle.std.proofs.Common.{◌++◌, ◌∙◌, ℕ, List, false, ap, sym}
use Rattle.fp_rta.specs.Contributions.{ones}
use Rattle.fp_rta.proofs.Evaluated.{giving-evaluated}
use Rattle.fp_rta.proofs.giver.Giver.evaluate.Goals as goal

pub returns-clause-evaluated : goal.returns-clause-evaluated
returns-clause-evaluated g c =
    let giver = c.args.self.now in
    giving-evaluated giver.trigger giver.places false (g.A.Ask.answers c.is_waiting.new.ask) c.args.give.now.list c.give_ones.new.give.list c.is_waiting.ensures.asked
    (λ a h. sym c.if-is_waiting.false ∙ c.is_waiting.ensures.waiting a h)
    (c.give_ones.ensures.list ∙ ap (λ (ps : List ℕ). c.args.give.now.list ++ ones ps) c.as_slice.ensures)
