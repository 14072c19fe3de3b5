use Rattle.std.proofs.Common.{◌≡◌, ◌<◌, ◌≤◌, ◌+◌, false, IsTrue, length, slice_index, slice_index_or, ap, sym, subst, ◌∙◌, arith}
use Rattle.std.proofs.lemmas.List.{get_or_default}
use Rattle.fp_facts.specs.Dataflow.{Edge, labels}
use Rattle.fp_flow.specs.Waiting.{is_listed}
use Rattle.fp_flow.proofs.Visits.{followed-working, listed-working, own-edge}
use Rattle.fp_flow.proofs.worklist.visit.visit.Goals as goal

pub returns-then-branch-clause-working : goal.returns-then-branch-clause-working
returns-then-branch-clause-working g c =
    let d = g.D.Dataflow.problem c.args.problem.now in
    let laws = g.D.Dataflow.lawful c.args.problem.now in
    let edges = c.args.edges.now in
    let place = c.loop-place.place in
    let edge : Edge = slice_index_or edges place (0, 0, false) in
    let within : place < length edges = omega (arith, c.requires.indexed.within (c.args.node + 1) (omega arith), c.loop-place-test.true) in
    let same : slice_index_or d.edges place edge ≡ edge =
    ap (λ es. slice_index_or es place edge) (sym c.requires.edges) ∙ get_or_default edges place edge (0, 0, false) within in
    let from : slice_index c.args.starts.now c.args.node ≤ place = omega (arith, c.loop-place.auto.place) in
    let start : edge.0 ≡ c.args.node = own-edge d laws edges c.args.starts.now c.args.node place (0, 0, false) c.requires.indexed c.requires.node from c.loop-place-test.true in
    listed-working d laws _ _ c.args.node (place + 1) _
    (subst (λ n. IsTrue (is_listed c.follow.new.work.nodes.items n)) start (c.in_ok-follow.ensures.listed c.if-branch.true))
    (followed-working d laws edge _ _ _ _ c.args.node place (rw c.requires.edges at within) same c.loop-place.invariant.working c.in_ok-follow.ensures.followed)

pub loop-place-preserved : goal.loop-place-preserved
loop-place-preserved g c =
    let d = g.D.Dataflow.problem c.args.problem.now in
    let laws = g.D.Dataflow.lawful c.args.problem.now in
    let edges = c.args.edges.now in
    let place = c.loop-place.place in
    let edge : Edge = slice_index_or edges place (0, 0, false) in
    let within : place < length edges = omega (arith, c.requires.indexed.within (c.args.node + 1) (omega arith), c.loop-place-test.true) in
    let same : slice_index_or d.edges place edge ≡ edge =
    ap (λ es. slice_index_or es place edge) (sym c.requires.edges) ∙ get_or_default edges place edge (0, 0, false) within in
    let from : slice_index c.args.starts.now c.args.node ≤ place = omega (arith, c.loop-place.auto.place) in
    let start : edge.0 ≡ c.args.node = own-edge d laws edges c.args.starts.now c.args.node place (0, 0, false) c.requires.indexed c.requires.node from c.loop-place-test.true in
    let kept : labels d c.follow.new.found.items c.args.node ≡ labels d c.loop-place.found.items c.args.node =
    subst (λ n. labels d c.follow.new.found.items n ≡ labels d c.loop-place.found.items n) start (c.in_ok-follow.ensures.same c.if-branch.false) in
    record {
      count = c.in_ok-follow.ensures.count;
      working = followed-working d laws edge _ _ _ _ c.args.node place (rw c.requires.edges at within) same c.loop-place.invariant.working c.in_ok-follow.ensures.followed;
      less = omega (arith, c.loop-place.invariant.less, c.in_ok-follow.ensures.followed.less);
      sent = λ to. c.loop-place.invariant.sent to ∙ ap (λ x. d.carry (c.args.node, to, false) x) (sym kept);
    }
