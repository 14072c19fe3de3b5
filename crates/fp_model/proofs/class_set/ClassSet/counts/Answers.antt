-- The numbers behind the last class.
use Rattle.std.proofs.Common.{◌≡◌, length, ap, ◌∙◌, arith}
use Rattle.fp_model.specs.declared.class.Class.{Class}
use Rattle.fp_model.specs.ClassSet.{SetView, first_field_of, first_method_of}
use Rattle.fp_model.proofs.Owners.{known, firsts_len, first_at, all_members}
use Rattle.fp_model.proofs.class_set.ClassSet.counts.Goals as goal

pub index-fields-requires : goal.index-fields-requires
index-fields-requires c =
    let inside = c.self.inside in
    let classes = c.args.self.now.classes in
    let facts = known _ c.args.self.now inside.by_name.items inside.firsts.fields.items inside.firsts.methods.items c.self.view_is c.self.invariant in
    omega (arith, firsts_len (first_field_of classes) (length classes) inside.firsts.fields.items facts.fields, ap (λ (v : SetView). length v.classes) c.self.view_is)

pub index-methods-requires : goal.index-methods-requires
index-methods-requires c =
    let inside = c.self.inside in
    let classes = c.args.self.now.classes in
    let facts = known _ c.args.self.now inside.by_name.items inside.firsts.fields.items inside.firsts.methods.items c.self.view_is c.self.invariant in
    omega (arith, firsts_len (first_method_of classes) (length classes) inside.firsts.methods.items facts.methods, ap (λ (v : SetView). length v.classes) c.self.view_is)

pub returns-clause-fields : goal.returns-clause-fields
returns-clause-fields c =
    let inside = c.self.inside in
    let classes = c.args.self.now.classes in
    let facts = known _ c.args.self.now inside.by_name.items inside.firsts.fields.items inside.firsts.methods.items c.self.view_is c.self.invariant in
    let many : c.len-classes.result ≡ length c.args.self.now.classes = omega (arith, ap (λ (v : SetView). length v.classes) c.self.view_is) in
    c.index-fields.ensures
    ∙ first_at (first_field_of classes) (length classes) c.len-classes.result c.index-fields.result.now inside.firsts.fields.items facts.fields (omega arith)
    ∙ ap (first_field_of classes) many
    ∙ all_members (λ (k : Class). k.fields) classes

pub returns-clause-methods : goal.returns-clause-methods
returns-clause-methods c =
    let inside = c.self.inside in
    let classes = c.args.self.now.classes in
    let facts = known _ c.args.self.now inside.by_name.items inside.firsts.fields.items inside.firsts.methods.items c.self.view_is c.self.invariant in
    let many : c.len-classes.result ≡ length c.args.self.now.classes = omega (arith, ap (λ (v : SetView). length v.classes) c.self.view_is) in
    c.index-methods.ensures
    ∙ first_at (first_method_of classes) (length classes) c.len-classes.result c.index-methods.result.now inside.firsts.methods.items facts.methods (omega arith)
    ∙ ap (first_method_of classes) many
    ∙ all_members (λ (k : Class). k.methods) classes
