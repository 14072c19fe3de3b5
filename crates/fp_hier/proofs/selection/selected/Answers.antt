use Rattle.std.proofs.Common.{◌≡◌, length, None, IfOk, sym, subst, ◌∙◌}
use Rattle.fp_model.specs.ClassSet.{methods_of}
use Rattle.fp_hier.specs.Targets.{AreTargets}
use Rattle.fp_hier.proofs.SelectedTargets.{declaration-known, selected-defaults, selected-found, there}
use Rattle.fp_hier.proofs.selection.selected.Goals as goal

pub found-requires : goal.found-requires
found-requires c =
    let set = c.args.set.now in
    let at = there set.classes c.args.class c.requires.known in
    declaration-known set.classes at.0 c.args.signature.name c.args.signature.descr c.in-Some.id (sym (c.instance_declaration.ensures at.0 at.1) ∙ c.in-Some.is)

pub returns-in-Some : goal.returns-in-Some
returns-in-Some c =
    let set = c.args.set.now in
    let at = there set.classes c.args.class c.requires.known in
    let same = selected-found set c.args.class at.0 c.args.signature.name c.args.signature.descr c.in-Some.id at.1 (sym (c.instance_declaration.ensures at.0 at.1) ∙ c.in-Some.is) in
    subst (λ r. IfOk c.found.result (AreTargets (length (methods_of set.classes)) r)) same c.found.ensures

pub returns : goal.returns
returns c =
    let set = c.args.set.now in
    let at = there set.classes c.args.class c.requires.known in
    let none : c.instance_declaration.result ≡ None = c.in_default.is in
    selected-defaults set c.args.class at.0 c.args.signature.name c.args.signature.descr c.in_ok-defaults.defaults.items c.has_outside_ancestor-outside.result c.with_defaults.result at.1
    (sym (c.instance_declaration.ensures at.0 at.1) ∙ none) (c.in_ok-defaults.ensures at.0 at.1) (c.has_outside_ancestor-outside.ensures at.0 at.1)
    c.with_defaults.ensures.rising c.with_defaults.ensures.members c.with_defaults.ensures.outside
