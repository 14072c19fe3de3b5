use Rattle.std.proofs.Common.{◌+◌, ◌<◌, length, ap, ◌∙◌, arith}
use Rattle.std.specs.Map.{lookup}
use Rattle.fp_model.specs.declared.class.Class.{Class}
use Rattle.fp_model.specs.ClassSet.{first_method_of, methods_of}
use Rattle.fp_hier.specs.Members.{is_key}
use Rattle.fp_hier.proofs.FirstMembers.{member-fits, methods-more, methods-whole}
use Rattle.fp_hier.proofs.declared.add_methods.Goals as goal

pub overflow_add-id : goal.overflow_add-id
overflow_add-id c =
    let here : c.loop-method.method-index < length c.class.result.now.methods = omega (arith, ap length c.as_slice-method-items.ensures) in
    let fits : first_method_of c.args.set.now.classes c.args.class + c.loop-method.method-index < length (methods_of c.args.set.now.classes) =
    member-fits (λ (d : Class). d.methods) c.args.set.now.classes c.args.class c.loop-method.method-index c.class.result.now c.class.ensures.class here in
    omega (arith, fits, c.loop-method.invariant.0, c.class.ensures.set.few.methods)

pub loop-method-preserved : goal.loop-method-preserved
loop-method-preserved c = (
  omega arith,
  λ k.
      methods-more c.args.class (first_method_of c.args.set.now.classes c.args.class) c.loop-method.method-index c.loop-method.id c.as_slice-method-items.result.now c.method-item.result k (lookup (is_key k) c.args.table.now.entries)
      (lookup (is_key k) c.loop-method.table.entries) (lookup (is_key k) c.keep_first.new.table.entries) (omega arith) c.method-item.is c.loop-method.invariant.0 (c.loop-method.invariant.1 k) (c.in_ok-keep_first.ensures k),
)

pub returns : goal.returns
returns c = λ k. c.loop-method.invariant.1 k ∙ methods-whole c.args.set.now.classes c.args.class c.class.result.now c.as_slice-method-items.result.now c.loop-method.method-index k (lookup (is_key k) c.args.table.now.entries) c.class.ensures.class c.as_slice-method-items.ensures (omega arith)
