-- The member stands among those of its class.
use Rattle.std.proofs.Common.{length, ap, arith}
use Rattle.fp_model.specs.declared.class.Class.{Class}
use Rattle.fp_model.proofs.Owners.{member_within, member_read}
use Rattle.fp_model.proofs.class_set.ClassSet.field.Goals as goal

pub bounds-as_slice-place : goal.bounds-as_slice-place
bounds-as_slice-place c =
    let owner = c.class_of_field-class in
    omega (arith, member_within (λ (k : Class). k.fields) c.args.self.now.classes owner.result c.args.id c.class.result.now c.class.ensures.class owner.ensures.from owner.ensures.to, c.first_field.ensures, ap length c.as_slice.ensures)

pub returns : goal.returns
returns c =
    let owner = c.class_of_field-class in
    member_read (λ (k : Class). k.fields) c.args.self.now.classes owner.result c.args.id c.first_field.result c.class.result.now c.as_slice.result.now _ c.class.ensures.class c.as_slice.ensures c.first_field.ensures owner.ensures.from owner.ensures.to
