-- One class more is counted.
use Rattle.std.proofs.Common.{◌==◌, length, count_by, ap, ◌∙◌, arith, length-set, take_all}
use Rattle.std.proofs.lemmas.List.FromFn.{fill_by_all}
use Rattle.fp_model.specs.declared.class.Class.{Class}
use Rattle.fp_model.specs.ClassSet.{IsClassOver}
use Rattle.fp_model.proofs.Indexing.{one_of_all}
use Rattle.fp_model.proofs.Namesakes.{counts_more, counts_fit}
use Rattle.fp_model.proofs.class_set.duplicates.count_names.Goals as goal

pub overflow_add-index_mut : goal.overflow_add-index_mut
overflow_add-index_mut c =
    let named = (one_of_all (IsClassOver c.args.names.now) c.args.classes.now c.loop-class.class-index c.class-item.result c.requires.over (omega arith) c.class-item.is).name in
    omega (
      arith,
      counts_fit c.args.classes.now c.loop-class.counts.items c.loop-class.class-index c.class-item.result c.index_mut.result.now (omega arith) (omega arith) c.index_mut.ensures.value
          (λ k small. c.loop-class.invariant.1 k (omega arith)),
    )

pub loop-class-preserved : goal.loop-class-preserved
loop-class-preserved c =
    let named = (one_of_all (IsClassOver c.args.names.now) c.args.classes.now c.loop-class.class-index c.class-item.result c.requires.over (omega arith) c.class-item.is).name in (
      length-set c.loop-class.counts.items c.class-item.result.name _ ∙ c.loop-class.invariant.0,
      λ k within. counts_more c.args.classes.now c.loop-class.counts.items c.loop-class.class-index c.class-item.result c.index_mut.result.now (omega arith) c.class-item.is (omega arith) c.index_mut.ensures.value
          (λ j small. c.loop-class.invariant.1 j (omega arith)) k (omega arith),
    )

pub returns : goal.returns
returns c =
    fill_by_all (λ name. count_by (λ (d : Class). d.name == name) c.args.classes.now) c.loop-class.counts.items (length c.args.names.now) 0 c.loop-class.invariant.0
    (λ k within. c.loop-class.invariant.1 k within ∙ ap (count_by (λ (d : Class). d.name == k)) (take_all c.loop-class.class-index c.args.classes.now c.loop-class-test.false))
