use Rattle.std.proofs.Common.{arith}
use Rattle.fp_eqs.proofs.plain.wanted.want_shown.Goals as goal

pub returns-clause-shown : goal.returns-clause-shown
returns-clause-shown g c p h =
    let laws = g.S.System.monotone c.args.system.now in
    c.loop-place.invariant.shown p (omega (arith, laws.shown_places p h, c.loop-place-test.false, c.places-place-end.ensures)) h
