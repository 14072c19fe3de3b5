use Rattle.std.proofs.Common.{◌≡◌, ℕ, Option, Some, sym, ◌∙◌}
use Rattle.fp_model.specs.ClassSet.{class_named}
use Rattle.fp_facts.specs.Resolution.{class_and_superinterfaces, declared_field, first_given}
use Rattle.fp_hier.specs.Lineages.{rest_of}
use Rattle.fp_hier.proofs.FieldWalks.{field-resolved, own-known}
use Rattle.fp_hier.proofs.GivenMembers.{give-found}
use Rattle.fp_hier.proofs.MemberReferences.{class-within}
use Rattle.fp_hier.proofs.resolution.fields.resolve_field.Goals as goal

pub own_field-requires-clause-names : goal.own_field-requires-clause-names
own_field-requires-clause-names c = c.of-names.ensures c.args.set.now.classes c.requires.lists

pub returns-in-Some-own_field-clause-field : goal.returns-in-Some-own_field-clause-field
returns-in-Some-own_field-clause-field c =
    let classes = c.args.set.now.classes in
    let id = c.in_ok-class.class in
    let give : ℕ → Option ℕ = λ other. first_given (declared_field classes c.args.signature.name c.args.signature.descr) (class_and_superinterfaces classes other) in
    let named : class_named classes c.args.class ≡ Some id = sym c.in_ok-class.ensures.class in
    give-found give (rest_of classes c.loop-id.rest) (rest_of classes c.step.new.self) c.in-Some.id c.in-Some-own_field.field _ c.in-Some.ensures.one (sym c.in-Some-own_field.ensures) c.loop-id.invariant.same
    ∙ field-resolved classes c.args.class id c.args.signature.name c.args.signature.descr named (class-within classes c.args.class id named)

pub returns-in-Some-own_field-clause-known : goal.returns-in-Some-own_field-clause-known
returns-in-Some-own_field-clause-known c =
    own-known c.args.set.now.classes c.args.signature.name c.args.signature.descr c.in-Some.id c.in-Some-own_field.field (sym c.in-Some-own_field.ensures)
