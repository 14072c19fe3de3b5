use Rattle.std.proofs.Common.{rules, Bool, Vec, Global, ap}
use Rattle.fp_eqs.proofs.Needed.{needs-shown}
use Rattle.fp_eqs.proofs.plain.wanted.want_if_shown.Goals as goal

pub returns-clause-needs : goal.returns-clause-needs
returns-clause-needs g c =
    let e = g.S.System.equations c.args.system.now in
    let told = c.in_ok-want.ensures in
    needs-shown e (g.S.System.monotone c.args.system.now) c.args.needs.now c.want.new.self c.args.place (search rules) c.requires.needs told.long told.marked told.found
    (ap (λ (v : Vec Bool Global). v.items) c.want.ensures.started)
