use Rattle.std.proofs.Common.{◌+◌, ◌-◌, drop, take, sym, ◌∙◌}
use Rattle.std.proofs.lemmas.Slice.Eq.{bytes_eq-Decides}
use Rattle.fp_hier.proofs.SharedNames.{begins-alike}
use Rattle.fp_hier.proofs.superinterfaces.begin_of.Goals as goal

pub returns-then-eq-clause-alike : goal.returns-then-eq-clause-alike
returns-then-eq-clause-alike c =
    let count = c.min-count.result in
    let front = take (c.args.place + count - c.args.place) (drop c.args.place c.args.names.now) in
    begins-alike c.args.names.now c.args.list.now c.args.place count c.min-count.ensures ((bytes_eq-Decides front (take count c.args.list.now)).0 (sym c.eq.ensures ∙ c.if-eq.true))
