use Rattle.std.proofs.Common.{◌≡◌, ◌∙◌, arith}
use Rattle.fp_eqs.proofs.Joins.{words-are}
use Rattle.fp_eqs.proofs.plain.values.fixed_values.Goals as goal

pub returns-clause-fixed : goal.returns-clause-fixed
returns-clause-fixed g c =
    let e = g.S.System.equations c.args.system.now in
    let laws = g.S.System.monotone c.args.system.now in
    let end : c.loop-place.place ≡ e.places = omega arith in
    words-are c.loop-place.values.items e.fixed e.places (c.loop-place.invariant.long ∙ end) (λ p lt. c.loop-place.invariant.fixed p (omega arith)) laws.fixed_places
