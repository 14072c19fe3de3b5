use Rattle.std.proofs.Common.{◌+◌, ℕ, Option, drop, ap, ◌∙◌}
use Rattle.fp_facts.specs.Hierarchy.{classes_among}
use Rattle.fp_facts.specs.Resolution.{first_given}
use Rattle.fp_hier.specs.Given.{given_by_interface}
use Rattle.fp_hier.specs.Sought.{passes}
use Rattle.fp_hier.proofs.FirstNamed.{gives-first, gives-later, name-known, name-outside}
use Rattle.fp_hier.proofs.resolution.interfaces.among_names.Goals as goal

pub loop-interface-preserved-in_default : goal.loop-interface-preserved-in_default
loop-interface-preserved-in_default c =
    let give : ℕ → Option ℕ = given_by_interface c.args.set.now.classes (passes c.args.wanted) c.args.signature.name c.args.signature.descr in
    ap (first_given give) (name-outside c.args.set.now.classes c.args.names.now c.loop-interface.interface-index c.loop-interface-test.true c.in_default.ensures.class)
    ∙ c.loop-interface.invariant

pub returns-in-Some-of_interface : goal.returns-in-Some-of_interface
returns-in-Some-of_interface c =
    let give : ℕ → Option ℕ = given_by_interface c.args.set.now.classes (passes c.args.wanted) c.args.signature.name c.args.signature.descr in
    gives-first give c.in-Some.id c.in-Some-of_interface.method (classes_among c.args.set.now.classes (drop (c.loop-interface.interface-index + 1) c.args.names.now)) c.in-Some-of_interface.ensures
    ∙ ap (first_given give) (name-known c.args.set.now.classes c.args.names.now c.loop-interface.interface-index c.loop-interface-test.true c.in-Some.id c.in-Some.ensures.class)
    ∙ c.loop-interface.invariant

pub loop-interface-preserved : goal.loop-interface-preserved
loop-interface-preserved c =
    let give : ℕ → Option ℕ = given_by_interface c.args.set.now.classes (passes c.args.wanted) c.args.signature.name c.args.signature.descr in
    gives-later give c.in-Some.id (classes_among c.args.set.now.classes (drop (c.loop-interface.interface-index + 1) c.args.names.now)) c.in_default-of_interface.ensures
    ∙ ap (first_given give) (name-known c.args.set.now.classes c.args.names.now c.loop-interface.interface-index c.loop-interface-test.true c.in-Some.id c.in-Some.ensures.class)
    ∙ c.loop-interface.invariant
