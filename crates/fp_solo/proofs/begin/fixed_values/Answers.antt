use Rattle.std.proofs.Common.{◌≡◌, ℕ, ap, ◌∙◌, arith}
use Rattle.fp_eqs.proofs.Joins.{words-are}
use Rattle.fp_solo.proofs.begin.fixed_values.Goals as goal

pub returns-clause-fixed : goal.returns-clause-fixed
returns-clause-fixed g c =
    let e = g.S.System.equations c.args.system.now.system in
    let laws = g.S.System.monotone c.args.system.now.system in
    let end : c.loop-place.place ≡ e.places = omega arith in
    let same = words-are c.loop-place.values.items e.fixed e.places (c.loop-place.invariant.long ∙ end) (λ p lt. c.loop-place.invariant.fixed p (omega arith)) laws.fixed_places in
    λ p. ap (λ (f : ℕ → ℕ). f p) same
