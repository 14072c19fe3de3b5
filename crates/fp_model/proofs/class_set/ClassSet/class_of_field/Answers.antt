-- The owner by the first numbers.
use Rattle.std.proofs.Common.{length, refl, ◌∙◌}
use Rattle.fp_model.specs.ClassSet.{first_field_of}
use Rattle.fp_model.proofs.Owners.{known, all_members, has_owner, owner_found}
use Rattle.fp_model.proofs.class_set.ClassSet.class_of_field.Goals as goal

pub owner-requires : goal.owner-requires
owner-requires c =
    let inside = c.self.inside in
    let classes = c.args.self.now.classes in
    let facts = known _ c.args.self.now inside.by_name.items inside.firsts.fields.items inside.firsts.methods.items c.self.view_is c.self.invariant in
    let found = has_owner (first_field_of classes) (length classes) c.args.id c.as_slice.result.now (c.as_slice.ensures.value ∙ facts.fields) facts.valid.few.classes refl
    (rw all_members c.requires) in
    record { some = found.some; few = found.few; above = found.above; below = found.below }

pub returns : goal.returns
returns c =
    let inside = c.self.inside in
    let classes = c.args.self.now.classes in
    let facts = known _ c.args.self.now inside.by_name.items inside.firsts.fields.items inside.firsts.methods.items c.self.view_is c.self.invariant in
    let found = owner_found (first_field_of classes) (length classes) c.owner.result c.args.id c.as_slice.result.now (c.as_slice.ensures.value ∙ facts.fields)
    c.owner.ensures.class c.owner.ensures.from c.owner.ensures.to in
    record { class = found.class; from = found.from; to = found.to }
