use Rattle.std.proofs.Common.{◌-◌, length, take, drop, ◌∙◌}
use Rattle.std.proofs.lemmas.Result.{on_ok_weaker}
use Rattle.fp_facts.specs.Hierarchy.{classes_among}
use Rattle.fp_facts.specs.Initialisation.{with_ancestors}
use Rattle.fp_extract.specs.Begun.{is_flagged}
use Rattle.fp_extract.proofs.BegunLists.{are-names, passed-both}
use Rattle.fp_extract.proofs.begun.push_begun.Goals as goal

pub slice_bounds-push_named-count : goal.slice_bounds-push_named-count
slice_bounds-push_named-count c =
    (are-names c.args.set.now.classes c.args.class c.deref.result.now c.requires.class (λ d there. c.deref.ensures.value ∙ c.in_ok-names.ensures d there)).own

pub slice_bounds-push_named-start : goal.slice_bounds-push_named-start
slice_bounds-push_named-start c =
    (are-names c.args.set.now.classes c.args.class c.deref.result.now c.requires.class (λ d there. c.deref.ensures.value ∙ c.in_ok-names.ensures d there)).own

pub returns : goal.returns
returns c =
    let classes = c.args.set.now.classes in
    let names = c.deref.result.now in
    let are = are-names classes c.args.class names c.requires.class (λ d there. c.deref.ensures.value ∙ c.in_ok-names.ensures d there) in
    on_ok_weaker c.push_named.result
    (passed-both (is_flagged c.args.initialisers.now) c.args.class (classes_among classes (take (length names - 1) (drop 1 names))) (with_ancestors classes c.args.class)
    c.args.begun.now.items c.push_class.new.begun.items c.push_named.new.begun.items c.in_ok-push_class.ensures are.all)
    c.push_named.ensures
