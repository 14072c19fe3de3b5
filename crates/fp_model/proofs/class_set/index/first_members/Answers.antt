-- One class more, and the number of all fits.
use Rattle.std.proofs.Common.{◌≡◌, ◌+◌, ◌++◌, ◌∷◌, [], length, map, ap, ap₂, ◌∙◌, arith}
use Rattle.std.specs.List.{range_with_len}
use Rattle.fp_model.specs.ClassSet.{first_field_of, first_method_of}
use Rattle.fp_model.specs.declared.class.Class.{Class}
use Rattle.fp_model.proofs.Members.{members_more, members_fit}
use Rattle.fp_model.proofs.Tables.{table_more}
use Rattle.fp_model.proofs.class_set.index.first_members.Goals as goal

pub overflow_cast-field : goal.overflow_cast-field
overflow_cast-field c = omega (arith, members_fit (λ (k : Class). k.fields) c.args.classes.now c.loop-class.class-index c.class-item.result (omega arith) c.class-item.is)

pub overflow_add-field : goal.overflow_add-field
overflow_add-field c = omega (arith, members_fit (λ (k : Class). k.fields) c.args.classes.now c.loop-class.class-index c.class-item.result (omega arith) c.class-item.is)

pub overflow_cast-method : goal.overflow_cast-method
overflow_cast-method c = omega (arith, members_fit (λ (k : Class). k.methods) c.args.classes.now c.loop-class.class-index c.class-item.result (omega arith) c.class-item.is)

pub overflow_add-method : goal.overflow_add-method
overflow_add-method c = omega (arith, members_fit (λ (k : Class). k.methods) c.args.classes.now c.loop-class.class-index c.class-item.result (omega arith) c.class-item.is)

pub loop-class-preserved : goal.loop-class-preserved
loop-class-preserved c =
    let more_fields = members_more (λ (k : Class). k.fields) c.args.classes.now c.loop-class.class-index c.class-item.result (omega arith) c.class-item.is in
    let more_methods = members_more (λ (k : Class). k.methods) c.args.classes.now c.loop-class.class-index c.class-item.result (omega arith) c.class-item.is in
    record {
      fields = c.in_ok-push.ensures.items ∙ ap₂ (λ front last. front ++ last ∷ []) c.loop-class.invariant.fields c.loop-class.invariant.field ∙ table_more (first_field_of c.args.classes.now) c.loop-class.class-index;
      methods = c.in_ok-push-2.ensures.items ∙ ap₂ (λ front last. front ++ last ∷ []) c.loop-class.invariant.methods c.loop-class.invariant.method ∙ table_more (first_method_of c.args.classes.now) c.loop-class.class-index;
      field = omega arith;
      method = omega arith;
    }

pub returns-clause-fields : goal.returns-clause-fields
returns-clause-fields c =
    let all : c.loop-class.class-index ≡ length c.args.classes.now = omega arith in
    c.in_ok-push-3.ensures.items ∙ ap₂ (λ front last. front ++ last ∷ []) c.loop-class.invariant.fields c.loop-class.invariant.field
    ∙ table_more (first_field_of c.args.classes.now) c.loop-class.class-index
    ∙ ap (λ n. map (first_field_of c.args.classes.now) (range_with_len 0 (n + 1))) all

pub returns-clause-methods : goal.returns-clause-methods
returns-clause-methods c =
    let all : c.loop-class.class-index ≡ length c.args.classes.now = omega arith in
    c.in_ok-push-4.ensures.items ∙ ap₂ (λ front last. front ++ last ∷ []) c.loop-class.invariant.methods c.loop-class.invariant.method
    ∙ table_more (first_method_of c.args.classes.now) c.loop-class.class-index
    ∙ ap (λ n. map (first_method_of c.args.classes.now) (range_with_len 0 (n + 1))) all
