use Rattle.std.proofs.Common.{◌+◌, ◌-◌, length, arith}
use Rattle.fp_hier.proofs.SuperclassNames.{at-end, at-most, found, passed}
use Rattle.fp_hier.proofs.calls.is_superclass_name.Goals as goal

pub returns-in-None : goal.returns-in-None
returns-in-None c = at-end _ _ _ _ _ c.loop.invariant c.in-None.is

pub returns-then-parent-name : goal.returns-then-parent-name
returns-then-parent-name c =
    let n = length c.args.set.now.classes in
    found _ (n - c.loop.counter) _ _ _ c.loop.invariant (n - (c.loop.counter + 1)) c.in-Some.parent (omega (arith, c.loop-test.true, c.counts-classes.ensures.classes)) c.in-Some.is c.if-parent-name.true

pub loop-preserved : goal.loop-preserved
loop-preserved c =
    let n = length c.args.set.now.classes in
    passed _ (n - c.loop.counter) _ _ _ c.loop.invariant (n - (c.loop.counter + 1)) c.in-Some.parent _ (omega (arith, c.loop-test.true, c.counts-classes.ensures.classes)) c.in-Some.is c.if-parent-name.false c.superclass_name-above.ensures

pub returns : goal.returns
returns c =
    let n = length c.args.set.now.classes in
    at-most _ (n - c.loop.counter) _ _ _ c.loop.invariant (omega (arith, c.loop-test.false, c.counts-classes.ensures.classes))
