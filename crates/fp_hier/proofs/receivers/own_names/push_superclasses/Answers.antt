use Rattle.std.proofs.Common.{◌+◌, ◌-◌, length, arith}
use Rattle.fp_hier.proofs.SuperclassLists.{at-end, at-most, one-more}
use Rattle.fp_hier.proofs.receivers.own_names.push_superclasses.Goals as goal

pub returns-in_default : goal.returns-in_default
returns-in_default c = at-end _ _ _ _ _ c.loop.invariant c.in_default.is

pub loop-preserved : goal.loop-preserved
loop-preserved c =
    let n = length c.args.set.now.classes in
    one-more _ (n - c.loop.counter) _ _ _ c.loop.invariant (n - (c.loop.counter + 1)) c.in-Some.parent _ _ (omega (arith, c.loop-test.true, c.counts-classes.ensures.classes)) c.in-Some.is c.superclass_name-above.ensures
    c.in_ok-push.ensures.items

pub returns : goal.returns
returns c =
    let n = length c.args.set.now.classes in
    at-most _ (n - c.loop.counter) _ _ _ c.loop.invariant (omega (arith, c.loop-test.false, c.counts-classes.ensures.classes))
