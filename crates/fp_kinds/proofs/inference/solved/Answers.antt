use Rattle.std.proofs.lemmas.Result.{IfOk-weaker}
use Rattle.fp_kinds.specs.Kinds.{AreLabels}
use Rattle.fp_kinds.proofs.Arguments.{sound-some}
use Rattle.fp_kinds.proofs.Labels.{solver-ascending, solver-labels, solver-room, solver-within}
use Rattle.fp_kinds.proofs.inference.solved.Goals as goal

pub invariant_of-problem : goal.invariant_of-problem
invariant_of-problem c = record {
  some = sound-some c.args.method.now c.args.code.now c.requires.sound c.requires.code;
  room = solver-room c.args.method.now c.args.code.now c.args.sides.arguments.now c.requires.sound c.requires.code c.requires.arguments;
  within = solver-within c.args.method.now c.args.code.now c.args.flow.now.edges c.as_slice-edges.result.now c.requires.sound c.requires.code c.as_slice-edges.ensures c.requires.flow;
  told = c.requires.told;
}

pub solve-requires-clause-ascending : goal.solve-requires-clause-ascending
solve-requires-clause-ascending c = solver-ascending c.args.code.now c.args.flow.now.edges c.as_slice-edges.result.now c.as_slice-edges.ensures c.requires.flow

pub returns-clause-labels : goal.returns-clause-labels
returns-clause-labels c =
    IfOk-weaker c.solve.result _ (λ v. AreLabels c.args.method.now c.args.code.now v.items)
    (λ v same. solver-labels c.args.method.now c.args.code.now c.args.sides.arguments.now c.args.sides.results.now c.args.flow.now.edges c.as_slice-edges.result.now v.items
    c.requires.arguments c.requires.results c.as_slice-edges.ensures c.requires.flow same)
    c.solve.ensures.value
