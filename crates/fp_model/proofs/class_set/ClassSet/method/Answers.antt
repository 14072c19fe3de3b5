-- The member stands among those of its class.
use Rattle.std.proofs.Common.{length, Some, sym, ap, ◌∙◌, arith}
use Rattle.fp_model.specs.declared.class.Class.{Class}
use Rattle.fp_model.proofs.Owners.{member_within, member_read}
use Rattle.fp_model.proofs.class_set.ClassSet.method.Goals as goal

pub bounds-as_slice-place : goal.bounds-as_slice-place
bounds-as_slice-place c =
    let owner = c.class_of_method-class in
    omega (arith, member_within (λ (k : Class). k.methods) c.args.self.now.classes owner.result c.args.id c.class.result.now c.class.ensures.class owner.ensures.from owner.ensures.to, c.first_method.ensures, ap length c.as_slice.ensures)

pub returns : goal.returns
returns c =
    let owner = c.class_of_method-class in
    member_read (λ (k : Class). k.methods) c.args.self.now.classes owner.result c.args.id c.first_method.result c.class.result.now c.as_slice.result.now c.index-as_slice-place.result c.class.ensures.class c.as_slice.ensures c.first_method.ensures owner.ensures.from owner.ensures.to
    ∙ ap (λ m. Some m) (sym c.index-as_slice-place.is)
