use Rattle.std.proofs.Common.{sym}
use Rattle.fp_facts.specs.Resolution.{declared_field}
use Rattle.fp_hier.proofs.FieldWalks.{name-found, name-on, name-outside}
use Rattle.fp_hier.proofs.resolution.fields.own_field.Goals as goal

pub loop-interface-preserved-in_default-find_class : goal.loop-interface-preserved-in_default-find_class
loop-interface-preserved-in_default-find_class c =
    let classes = c.args.set.now.classes in
    name-outside (declared_field classes c.args.signature.name c.args.signature.descr) classes c.args.names.now c.loop-interface.interface-index _ c.loop-interface-test.true
    (sym c.in_default-find_class.ensures.class) c.loop-interface.invariant

pub returns-in-Some-field : goal.returns-in-Some-field
returns-in-Some-field c =
    let classes = c.args.set.now.classes in
    name-found (declared_field classes c.args.signature.name c.args.signature.descr) classes c.args.names.now c.loop-interface.interface-index c.in-Some-find_class.id c.in-Some-field.field _ c.loop-interface-test.true
    (sym c.in-Some-find_class.ensures.class) (sym (c.in-Some-field.ensures c.args.set.now c.requires.hier.members)) c.loop-interface.invariant

pub loop-interface-preserved : goal.loop-interface-preserved
loop-interface-preserved c =
    let classes = c.args.set.now.classes in
    name-on (declared_field classes c.args.signature.name c.args.signature.descr) classes c.args.names.now c.loop-interface.interface-index c.in-Some-find_class.id _ c.loop-interface-test.true
    (sym c.in-Some-find_class.ensures.class) (sym (c.in_default-field.ensures c.args.set.now c.requires.hier.members)) c.loop-interface.invariant
