use Rattle.std.proofs.Common.{◌≡◌, length, None, IfOk, true, false, ap, sym, subst, ◌∙◌}
use Rattle.fp_model.specs.ClassSet.{methods_of}
use Rattle.fp_facts.specs.Selection.{found_as}
use Rattle.fp_hier.specs.Sought.{is_of_class}
use Rattle.fp_hier.specs.Targets.{AreTargets}
use Rattle.fp_hier.proofs.SelectedTargets.{agree, differ, found_as-other, found_as-same, none-told}
use Rattle.fp_hier.proofs.selection.fixed_target.Goals as goal

pub returns-in_default : goal.returns-in_default
returns-in_default c =
    let classes = c.args.set.now.classes in
    let none : c.args.method ≡ None = c.in_default.is in
    none-told _ true _ c.none.result (ap (found_as (is_of_class c.args.receiver) classes) none) c.none.ensures.methods c.none.ensures.outside

pub returns-then-is_static-wanted : goal.returns-then-is_static-wanted
returns-then-is_static-wanted c =
    let classes = c.args.set.now.classes in
    let wanted = is_of_class c.args.receiver in
    let m = c.method.result.now in
    let t = c.none-then-is_static-wanted in
    none-told _ false _ t.result (ap (found_as wanted classes) c.in-Some.is ∙ found_as-other wanted classes c.in-Some.id m c.method.ensures
    (λ same. differ c.is_static.result c.wants_static-wanted.result c.if-is_static-wanted.true (c.is_static.ensures ∙ same ∙ sym c.wants_static-wanted.ensures))) t.ensures.methods t.ensures.outside

pub returns : goal.returns
returns c =
    let classes = c.args.set.now.classes in
    let wanted = is_of_class c.args.receiver in
    let same = sym c.is_static.ensures ∙ agree c.is_static.result c.wants_static-wanted.result c.if-is_static-wanted.false ∙ c.wants_static-wanted.ensures in
    subst (λ r. IfOk c.found.result (AreTargets (length (methods_of classes)) r))
    (found_as-same wanted classes c.in-Some.id c.method.result.now c.method.ensures same ∙ sym (ap (found_as wanted classes) c.in-Some.is))
    c.found.ensures
