use Rattle.std.proofs.Common.{◌≡◌, ◌∙◌, ◌==◌, ◌||◌, false, ap, sym}
use Rattle.std.proofs.lemmas.Bool.{ne_eqb}
use Rattle.fp_links.specs.Linked.{has_task, rest_of, row, task_of_edge}
use Rattle.fp_links.proofs.RowLemmas.{task-has}
use Rattle.fp_links.proofs.links.Links.has.Goals as goal

pub returns-then-task_of-task : goal.returns-then-task_of-task
returns-then-task_of-task c =
    let inside = c.loop-next.invariant.inside c.in-Some.edge c.in-Some.is in
    sym (task-has (row c.args.self.now c.args.place) c.in-Some.edge c.args.task inside (sym (c.task_of.ensures c.args.place inside) ∙ c.if-task_of-task.true))

pub loop-next-preserved : goal.loop-next-preserved
loop-next-preserved c =
    let edges = row c.args.self.now c.args.place in
    let inside = c.loop-next.invariant.inside c.in-Some.edge c.in-Some.is in
    let other : (task_of_edge edges c.in-Some.edge == c.args.task) ≡ false = ne_eqb (task_of_edge edges c.in-Some.edge) c.args.task (λ h. c.if-task_of-task.false (c.task_of.ensures c.args.place inside ∙ h)) in
    record {
      rest = sym (ap (λ b. b || has_task (rest_of edges c.next_of_place-next.result) c.args.task) other) ∙ ap (λ es. has_task es c.args.task) (sym (c.next_of_place-next.ensures.rest c.args.place inside))
          ∙ ap (λ o. has_task (rest_of edges o) c.args.task) (sym c.in-Some.is) ∙ c.loop-next.invariant.rest;
      inside = c.next_of_place-next.ensures.edge c.args.place inside;
    }
