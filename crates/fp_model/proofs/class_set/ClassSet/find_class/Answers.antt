-- The index has the first class of each name.
use Rattle.std.proofs.Common.{slice_get, ap, ◌∙◌}
use Rattle.std.specs.Option.{option_flatten}
use Rattle.fp_model.proofs.Finding.{found_by_index}
use Rattle.fp_model.proofs.Owners.{known}
use Rattle.fp_model.proofs.class_set.ClassSet.find_class.Goals as goal

pub returns-clause-class : goal.returns-clause-class
returns-clause-class c =
    let inside = c.self.inside in
    let facts = known _ c.args.self.now inside.by_name.items inside.firsts.fields.items inside.firsts.methods.items c.self.view_is c.self.invariant in
    c.find_by_name.ensures ∙ ap (λ xs. option_flatten (slice_get xs c.args.name)) c.as_slice.ensures.value
    ∙ found_by_index c.args.self.now.names c.args.self.now.classes inside.by_name.items c.args.name facts.valid.over facts.by_name
