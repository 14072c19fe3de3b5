use Rattle.std.proofs.Common.{rules}
use Rattle.fp_eqs.proofs.Flags.{one-found}
use Rattle.fp_eqs.proofs.plain.needs.Needs.want.Goals as goal

pub returns-clause-found : goal.returns-clause-found
returns-clause-found c =
    let flags = c.args.self.now.wanted.items in
    rw c.in_ok-push.ensures.items (one-found flags c.args.self.now.found.items c.args.place c.requires.place (search rules) c.requires.found)
