use Rattle.std.proofs.Common.{◌≤◌, ◌+◌, ◌*◌, ◌∙◌, List, length, ap, sym, arith}
use Rattle.fp_eqs.specs.Equations.{Task}
use Rattle.fp_rta.specs.declared.candidate.Candidate.{Candidate}
use Rattle.fp_rta.specs.Contributions.{sources_of}
use Rattle.fp_rta.proofs.RowTasks.{giver-task, shape-candidates, site-task}
use Rattle.fp_rta.proofs.tasks.RtaTasksAnalysis.bound.Goals as goal

pub shape-requires : goal.shape-requires
shape-requires c = (c.args.self.now.known _ _ c.site.ensures).shaped

pub bound-requires-else-task-len : goal.bound-requires-else-task-len
bound-requires-else-task-len c = c.args.self.now.short_shapes _ _ c.shape.ensures

pub returns-then-task-len-clause-asks : goal.returns-then-task-len-clause-asks
returns-then-task-len-clause-asks c =
    let r = c.args.self.now in
    c.bound.ensures.asks ∙ ap (λ (k : Task). k.asks) (sym (giver-task r.givers r.shapes r.sites c.args.task c.giver.result.now c.giver.ensures))

pub returns-then-task-len-clause-gives : goal.returns-then-task-len-clause-gives
returns-then-task-len-clause-gives c =
    let r = c.args.self.now in
    c.bound.ensures.gives ∙ ap (λ (k : Task). k.gives) (sym (giver-task r.givers r.shapes r.sites c.args.task c.giver.result.now c.giver.ensures))

pub returns-else-task-len-clause-asks : goal.returns-else-task-len-clause-asks
returns-else-task-len-clause-asks c =
    let r = c.args.self.now in
    let behind : length r.givers ≤ c.args.task = omega (arith, c.if-task-len.false, c.len.ensures) in
    c.bound-else-task-len.ensures.asks
    ∙ ap (λ (ks : List Candidate). length (sources_of ks) + 1) (sym (shape-candidates r.shapes c.site.result.shape c.shape.result.now c.shape.ensures))
    ∙ ap (λ (k : Task). k.asks) (sym (site-task r.givers r.shapes r.sites c.args.task c.site.result behind c.site.ensures))

pub returns-else-task-len-clause-gives : goal.returns-else-task-len-clause-gives
returns-else-task-len-clause-gives c =
    let r = c.args.self.now in
    let behind : length r.givers ≤ c.args.task = omega (arith, c.if-task-len.false, c.len.ensures) in
    c.bound-else-task-len.ensures.gives
    ∙ ap (λ (ks : List Candidate). 2 * length ks) (sym (shape-candidates r.shapes c.site.result.shape c.shape.result.now c.shape.ensures))
    ∙ ap (λ (k : Task). k.gives) (sym (site-task r.givers r.shapes r.sites c.args.task c.site.result behind c.site.ensures))
