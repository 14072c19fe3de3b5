use Rattle.std.proofs.Common.{refl, map, take}
use Rattle.fp_origin.specs.Answers.{most_origin_pairs}
use Rattle.fp_origin.specs.Growth.{empty_frame}
use Rattle.fp_origin.proofs.Steps.{first-grown, start-known, step-known, step-refused}
use Rattle.fp_origin.proofs.search.first_group.Goals as goal

pub returns-clause-grown : goal.returns-clause-grown
returns-clause-grown c =
    let labels = c.in_ok-labels.labels.items in
    let start = start-known c.args.method.now c.args.code.now (take c.args.end c.args.all.now) c.as_slice.result.now labels (map empty_frame c.as_slice.result.now) c.as_slice.ensures.value c.in_ok-labels.ensures refl in
    step-known c.args.method.now c.args.code.now c.args.all.now (take c.args.end c.args.all.now) 0 c.args.end c.as_slice.result.now labels (map empty_frame c.as_slice.result.now) most_origin_pairs c.begun_by.result refl c.as_slice.ensures.value start c.in_ok-labels.ensures (first-grown (take c.args.end c.args.all.now) c.as_slice.result.now c.begun_by.result c.begun_by.ensures.frames) c.begun_by.ensures.room

pub returns-clause-fault : goal.returns-clause-fault
returns-clause-fault c =
    let labels = c.in_ok-labels.labels.items in
    let start = start-known c.args.method.now c.args.code.now (take c.args.end c.args.all.now) c.as_slice.result.now labels (map empty_frame c.as_slice.result.now) c.as_slice.ensures.value c.in_ok-labels.ensures refl in
    step-refused c.args.method.now c.args.code.now c.args.all.now (take c.args.end c.args.all.now) 0 c.args.end c.as_slice.result.now labels (map empty_frame c.as_slice.result.now) most_origin_pairs c.begun_by.result refl c.as_slice.ensures.value start c.in_ok-labels.ensures c.begun_by.ensures.fault
