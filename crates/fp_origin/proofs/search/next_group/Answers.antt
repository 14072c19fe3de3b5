use Rattle.std.proofs.Common.{◌-◌, take, drop}
use Rattle.fp_origin.proofs.Steps.{group-parts, step-known, step-refused}
use Rattle.fp_origin.proofs.search.next_group.Goals as goal

pub returns-clause-grown : goal.returns-clause-grown
returns-clause-grown c =
    step-known c.args.method.now c.args.code.now c.args.all.now (take (c.args.end - c.args.at) (drop c.args.at c.args.all.now)) c.args.at c.args.end c.as_slice.result.now c.in_ok-labels.labels.items c.args.gathered.frames.items c.args.gathered.room c.grown_by.result (group-parts c.args.all.now c.args.at c.args.end c.requires.behind) c.as_slice.ensures.value c.requires.grown c.in_ok-labels.ensures c.grown_by.ensures.frames c.grown_by.ensures.room

pub returns-clause-fault : goal.returns-clause-fault
returns-clause-fault c =
    step-refused c.args.method.now c.args.code.now c.args.all.now (take (c.args.end - c.args.at) (drop c.args.at c.args.all.now)) c.args.at c.args.end c.as_slice.result.now c.in_ok-labels.labels.items c.args.gathered.frames.items c.args.gathered.room c.grown_by.result (group-parts c.args.all.now c.args.at c.args.end c.requires.behind) c.as_slice.ensures.value c.requires.grown c.in_ok-labels.ensures c.grown_by.ensures.fault
