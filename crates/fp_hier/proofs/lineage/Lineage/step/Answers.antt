use Rattle.std.proofs.Common.{◌-◌, arith}
use Rattle.fp_hier.proofs.Lineages.{step-none, step-on, step-spent}
use Rattle.fp_hier.proofs.lineage.Lineage.step.Goals as goal

pub returns-then-self-eq0-clause-none : goal.returns-then-self-eq0-clause-none
returns-then-self-eq0-clause-none c = λ none. step-spent c.args.set.now.classes c.args.self.now.most c.args.self.now.first c.if-self-eq0.true

pub returns-in_err-id-clause-none : goal.returns-in_err-id-clause-none
returns-in_err-id-clause-none c = λ none. step-none c.args.set.now.classes c.args.self.now.most c.args.self.now.first c.in_err-id.was

pub returns-clause-one : goal.returns-clause-one
returns-clause-one c =
    step-on c.args.set.now.classes c.args.self.now.most (c.args.self.now.most - 1) c.in_ok-id.id c.class.result.now c.args.self.now.first c.superclass-self.result
    (omega (arith, c.if-self-eq0.false)) c.in_ok-id.was c.class.ensures.class c.superclass-self.ensures.superclass
