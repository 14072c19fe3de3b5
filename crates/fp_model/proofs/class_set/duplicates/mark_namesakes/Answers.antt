-- The mark of one class more.
use Rattle.std.proofs.Common.{◌==◌, ◌++◌, ◌∷◌, [], length, nat_lt, count_by, ap, ◌∙◌, arith}
use Rattle.std.proofs.lemmas.List.FromFn.{length-map-range_with_len}
use Rattle.fp_model.specs.declared.class.Class.{Class}
use Rattle.fp_model.specs.ClassSet.{IsClassOver}
use Rattle.fp_model.proofs.Indexing.{one_of_all}
use Rattle.fp_model.proofs.Namesakes.{namesakes_more}
use Rattle.fp_model.proofs.class_set.duplicates.mark_namesakes.Goals as goal

pub index-requires : goal.index-requires
index-requires c =
    let named = (one_of_all (IsClassOver c.args.names.now) c.args.classes.now c.loop-class.class-index c.class-item.result c.requires.over (omega arith) c.class-item.is).name in
    let long = ap length c.in_ok-counts.ensures ∙ length-map-range_with_len (λ name. count_by (λ (d : Class). d.name == name) c.args.classes.now) 0 (length c.args.names.now) in
    omega arith

pub loop-class-preserved : goal.loop-class-preserved
loop-class-preserved c =
    let named = (one_of_all (IsClassOver c.args.names.now) c.args.classes.now c.loop-class.class-index c.class-item.result c.requires.over (omega arith) c.class-item.is).name in
    c.in_ok-push.ensures.items
    ∙ ap (λ front. front ++ nat_lt 1 c.index.result.now ∷ []) c.loop-class.invariant
    ∙ namesakes_more c.args.classes.now c.in_ok-counts.counts.items c.loop-class.class-index (length c.args.names.now) c.class-item.result c.index.result.now (omega arith) c.class-item.is c.in_ok-counts.ensures named c.index.ensures
