-- The first numbers are those that were counted.
use Rattle.std.proofs.Common.{length, ◌∙◌, arith}
use Rattle.fp_model.specs.ClassSet.{first_method_of}
use Rattle.fp_model.proofs.Owners.{known, firsts_len, first_at}
use Rattle.fp_model.proofs.class_set.ClassSet.first_method.Goals as goal

pub index-requires : goal.index-requires
index-requires c =
    let inside = c.self.inside in
    let facts = known _ c.args.self.now inside.by_name.items inside.firsts.fields.items inside.firsts.methods.items c.self.view_is c.self.invariant in
    omega (arith, firsts_len (first_method_of c.args.self.now.classes) (length c.args.self.now.classes) inside.firsts.methods.items facts.methods)

pub returns : goal.returns
returns c =
    let inside = c.self.inside in
    let facts = known _ c.args.self.now inside.by_name.items inside.firsts.fields.items inside.firsts.methods.items c.self.view_is c.self.invariant in
    c.index.ensures ∙ first_at (first_method_of c.args.self.now.classes) (length c.args.self.now.classes) c.args.id c.index.result.now inside.firsts.methods.items facts.methods (omega arith)
