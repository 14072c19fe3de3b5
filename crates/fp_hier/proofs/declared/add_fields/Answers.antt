use Rattle.std.proofs.Common.{◌+◌, ◌<◌, length, ap, ◌∙◌, arith}
use Rattle.std.specs.Map.{lookup}
use Rattle.fp_model.specs.declared.class.Class.{Class}
use Rattle.fp_model.specs.ClassSet.{first_field_of, fields_of}
use Rattle.fp_hier.specs.Members.{is_key}
use Rattle.fp_hier.proofs.FirstMembers.{member-fits, fields-more, fields-whole}
use Rattle.fp_hier.proofs.declared.add_fields.Goals as goal

pub overflow_add-id : goal.overflow_add-id
overflow_add-id c =
    let here : c.loop-field.field-index < length c.class.result.now.fields = omega (arith, ap length c.as_slice-field-items.ensures) in
    let fits : first_field_of c.args.set.now.classes c.args.class + c.loop-field.field-index < length (fields_of c.args.set.now.classes) =
    member-fits (λ (d : Class). d.fields) c.args.set.now.classes c.args.class c.loop-field.field-index c.class.result.now c.class.ensures.class here in
    omega (arith, fits, c.loop-field.invariant.0, c.class.ensures.set.few.fields)

pub loop-field-preserved : goal.loop-field-preserved
loop-field-preserved c = (
  omega arith,
  λ k.
      fields-more c.args.class (first_field_of c.args.set.now.classes c.args.class) c.loop-field.field-index c.loop-field.id c.as_slice-field-items.result.now _ k (lookup (is_key k) c.args.table.now.entries)
      (lookup (is_key k) c.loop-field.table.entries) (lookup (is_key k) c.keep_first.new.table.entries) (omega arith) c.loop-field.invariant.0 (c.loop-field.invariant.1 k) (c.in_ok-keep_first.ensures k),
)

pub returns : goal.returns
returns c = λ k. c.loop-field.invariant.1 k ∙ fields-whole c.args.set.now.classes c.args.class c.class.result.now c.as_slice-field-items.result.now c.loop-field.field-index k (lookup (is_key k) c.args.table.now.entries) c.class.ensures.class c.as_slice-field-items.ensures (omega arith)
