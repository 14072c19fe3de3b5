use Rattle.std.proofs.Common.{◌≡◌, Bool, Vec, Global}
use Rattle.std.proofs.lemmas.Result.{IfOk-weaker}
use Rattle.fp_facts.specs.Dataflow.{labels, solution}
use Rattle.fp_extract.specs.SeedGraph.{AreReached, reach_problem}
use Rattle.fp_extract.proofs.ReachedNodes.{first-labels, reach-lawful, reached-nodes}
use Rattle.fp_extract.proofs.seed.reach.reached.Goals as goal

pub invariant_of-problem : goal.invariant_of-problem
invariant_of-problem c = record { laws = reach-lawful c.args.nodes c.args.edges.now c.requires.some c.requires.within }

pub solve-requires-clause-first : goal.solve-requires-clause-first
solve-requires-clause-first c = first-labels c.args.nodes c.args.edges.now c.in_ok-first.first.items c.requires.some c.in_ok-first.ensures

pub returns-clause-reached : goal.returns-clause-reached
returns-clause-reached c =
    IfOk-weaker c.solve.result
    (λ (v : Vec Bool Global). labels (reach_problem c.args.nodes c.args.edges.now) v.items ≡ solution (reach_problem c.args.nodes c.args.edges.now))
    (λ (v : Vec Bool Global). AreReached c.args.edges.now v.items)
    (λ v same. reached-nodes c.args.nodes c.args.edges.now v.items c.requires.some c.requires.within same)
    c.solve.ensures.value
