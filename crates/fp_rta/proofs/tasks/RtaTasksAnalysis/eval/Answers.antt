use Rattle.std.proofs.Common.{◌<◌, ◌≤◌, ◌+◌, ◌*◌, ◌/◌, ◌^◌, ◌∙◌, List, length, subst, sym, arith}
use Rattle.fp_eqs.specs.Equations.{IsEvaluated, Serves, Task}
use Rattle.fp_rta.specs.declared.candidate.Candidate.{Candidate}
use Rattle.fp_rta.specs.Tasks.{call_task}
use Rattle.fp_rta.proofs.RowTasks.{giver-task, shape-candidates, site-task}
use Rattle.fp_rta.proofs.tasks.RtaTasksAnalysis.eval.Goals as goal

pub evaluate-requires-clause-serves : goal.evaluate-requires-clause-serves
evaluate-requires-clause-serves g c =
    let r = c.args.self.now in
    subst (λ (k : Task). Serves (g.A.Ask.allows (g.A.Ask.base c.args.ask.now)) k) (giver-task r.givers r.shapes r.sites c.args.task c.giver.result.now c.giver.ensures) c.requires.serves

pub evaluate-requires-clause-room : goal.evaluate-requires-clause-room
evaluate-requires-clause-room g c =
    let r = c.args.self.now in
    subst (λ (k : Task). k.gives ≤ c.args.give.now.spare) (giver-task r.givers r.shapes r.sites c.args.task c.giver.result.now c.giver.ensures) c.requires.room

pub returns-then-task-len-clause-evaluated : goal.returns-then-task-len-clause-evaluated
returns-then-task-len-clause-evaluated g c =
    let r = c.args.self.now in
    subst (λ (k : Task). IsEvaluated k (g.A.Ask.answers c.evaluate.new.ask) c.args.give.now.list c.evaluate.new.give.list) (sym (giver-task r.givers r.shapes r.sites c.args.task c.giver.result.now c.giver.ensures)) c.evaluate.ensures.evaluated

pub shape-requires : goal.shape-requires
shape-requires g c = (c.args.self.now.known _ _ c.site-site.ensures).shaped

pub evaluate-requires-else-task-len-clause-serves : goal.evaluate-requires-else-task-len-clause-serves
evaluate-requires-else-task-len-clause-serves g c =
    let r = c.args.self.now in
    let s = c.site-site.result in
    let behind : length r.givers ≤ c.args.task = omega (arith, c.if-task-len.false, c.len.ensures) in
    let told = shape-candidates r.shapes s.shape c.shape.result.now c.shape.ensures ∙ sym c.as_slice-candidates.ensures in
    subst (λ (ks : List Candidate). Serves (g.A.Ask.allows (g.A.Ask.base c.args.ask.now)) (call_task s.trigger s.callees ks)) told
    (subst (λ (k : Task). Serves (g.A.Ask.allows (g.A.Ask.base c.args.ask.now)) k) (site-task r.givers r.shapes r.sites c.args.task s behind c.site-site.ensures) c.requires.serves)

pub evaluate-requires-else-task-len-clause-room : goal.evaluate-requires-else-task-len-clause-room
evaluate-requires-else-task-len-clause-room g c =
    let r = c.args.self.now in
    let s = c.site-site.result in
    let behind : length r.givers ≤ c.args.task = omega (arith, c.if-task-len.false, c.len.ensures) in
    let told = shape-candidates r.shapes s.shape c.shape.result.now c.shape.ensures ∙ sym c.as_slice-candidates.ensures in
    subst (λ (ks : List Candidate). 2 * length ks ≤ c.args.give.now.spare) told
    (subst (λ (k : Task). k.gives ≤ c.args.give.now.spare) (site-task r.givers r.shapes r.sites c.args.task s behind c.site-site.ensures) c.requires.room)

pub evaluate-requires-else-task-len-clause-places : goal.evaluate-requires-else-task-len-clause-places
evaluate-requires-else-task-len-clause-places g c =
    let r = c.args.self.now in
    let s = c.site-site.result in
    let told = shape-candidates r.shapes s.shape c.shape.result.now c.shape.ensures ∙ sym c.as_slice-candidates.ensures in
    subst (λ (ks : List Candidate). s.callees + length ks / 64 < 2 ^ 32) told (r.known _ _ c.site-site.ensures).words

pub returns-else-task-len-clause-evaluated : goal.returns-else-task-len-clause-evaluated
returns-else-task-len-clause-evaluated g c =
    let r = c.args.self.now in
    let s = c.site-site.result in
    let behind : length r.givers ≤ c.args.task = omega (arith, c.if-task-len.false, c.len.ensures) in
    let told = shape-candidates r.shapes s.shape c.shape.result.now c.shape.ensures ∙ sym c.as_slice-candidates.ensures in
    let done = c.evaluate-else-task-len in
    subst (λ (k : Task). IsEvaluated k (g.A.Ask.answers done.new.ask) c.args.give.now.list done.new.give.list) (sym (site-task r.givers r.shapes r.sites c.args.task s behind c.site-site.ensures))
    (subst (λ (ks : List Candidate). IsEvaluated (call_task s.trigger s.callees ks) (g.A.Ask.answers done.new.ask) c.args.give.now.list done.new.give.list) (sym told) done.ensures.evaluated)
