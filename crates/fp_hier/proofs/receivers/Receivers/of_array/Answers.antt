use Rattle.std.proofs.Common.{◌≡◌, ◌<◌, ◌+◌, filter, length, ap, arith, ◌∙◌}
use Rattle.std.proofs.lemmas.List.Elements.{All-same}
use Rattle.std.proofs.lemmas.Result.{IfOk-weaker}
use Rattle.fp_facts.specs.Selection.{receivers}
use Rattle.fp_hier.specs.Receivers.{fits_at, marked_in}
use Rattle.fp_hier.proofs.ReceiverNames.{array-listed, row-below}
use Rattle.fp_hier.proofs.receivers.Receivers.of_array.Goals as goal

pub that_go_by-requires-clause-classes : goal.that_go_by-requires-clause-classes
that_go_by-requires-clause-classes c =
    let n = length c.args.set.now.classes in
    let row = c.counts-classes.result.0 + 2 in
    All-same (λ class. class < n) c.as_slice.result.now (marked_in c.args.set.now c.args.self.now row) (c.as_slice.ensures.value ∙ c.in_ok-marked.ensures)
    (row-below c.args.set.now c.args.self.now c.requires.rows row c.args.name)

pub returns : goal.returns
returns c =
    let set = c.args.set.now in
    let r = c.args.self.now in
    let row = c.counts-classes.result.0 + 2 in
    let listed = filter (fits_at set.classes c.args.name) c.as_slice.result.now in
    let is : listed ≡ receivers set c.args.name =
    ap (filter (fits_at set.classes c.args.name)) (c.as_slice.ensures.value ∙ c.in_ok-marked.ensures)
    ∙ array-listed set r c.requires.rows row c.args.name (omega (arith, c.counts-classes.ensures.classes)) c.requires.outside c.requires.array in
    IfOk-weaker c.that_go_by.result (λ ids. ids.items ≡ listed) (λ ids. ids.items ≡ receivers set c.args.name) (λ ids told. told ∙ is) c.that_go_by.ensures
