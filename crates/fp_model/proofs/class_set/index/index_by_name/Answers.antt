-- One class more in the index.
use Rattle.std.proofs.Common.{length, None, ap, ◌∙◌, arith, length-set, take_all}
use Rattle.std.proofs.lemmas.List.FromFn.{fill_by_all}
use Rattle.fp_model.specs.ClassSet.{class_named, IsClassOver}
use Rattle.fp_model.proofs.Indexing.{index_more, one_of_all}
use Rattle.fp_model.proofs.class_set.index.index_by_name.Goals as goal

pub loop-id-preserved : goal.loop-id-preserved
loop-id-preserved c =
    let class = c.index-classes-id.result in
    let named = (one_of_all (IsClassOver c.args.names.now) c.args.classes.now c.loop-id.id class c.requires.over (omega arith) c.index-classes-id.is).name in
    let long = c.loop-id.invariant.0 in (
      length-set c.loop-id.index.items class.name c.or.result ∙ long,
      λ k within. index_more c.args.classes.now c.loop-id.index.items c.loop-id.id class c.index.result.now c.or.result (omega arith) c.index-classes-id.is (omega arith) c.index.ensures c.or.ensures
          (λ j small. c.loop-id.invariant.1 j (omega arith)) k (omega arith),
    )

pub returns-clause-index : goal.returns-clause-index
returns-clause-index c =
    let all = take_all c.loop-id.id c.args.classes.now c.loop-id-test.false in
    fill_by_all (class_named c.args.classes.now) c.loop-id.index.items (length c.args.names.now) None c.loop-id.invariant.0
    (λ k within. c.loop-id.invariant.1 k within ∙ ap (λ classes. class_named classes k) all)
