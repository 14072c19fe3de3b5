use Rattle.std.proofs.Common.{length, ◌∙◌}
use Rattle.fp_facts.specs.Selection.{selected_at}
use Rattle.fp_hier.proofs.ReachLemmas.{chosen-at, each-more}
use Rattle.fp_hier.proofs.calls.by_each_class.Goals as goal

pub selected-requires-clause-known : goal.selected-requires-clause-known
selected-requires-clause-known c =
    chosen-at _ (length c.args.set.now.classes) c.loop-class.class-index 0 c.deref-class-items.result.now (c.deref-class-items.ensures.value ∙ c.in_ok-classes.ensures) c.loop-class-test.true

pub loop-class-preserved : goal.loop-class-preserved
loop-class-preserved c =
    each-more _ (λ id. selected_at c.args.set.now id c.args.reference.signature.name c.args.reference.signature.descr) c.deref-class-items.result.now c.loop-class.class-index 0 _ _ _ c.loop-class-test.true c.loop-class.invariant c.in_ok-selected.ensures c.in_ok-push.ensures.items
