use Rattle.std.proofs.Common.{◌∙◌, ap}
use Rattle.fp_links.specs.Fields.{next_at, previous_at, ring}
use Rattle.fp_links.specs.Rings.{put}
use Rattle.fp_links.proofs.RingLemmas.{put-along}
use Rattle.fp_links.proofs.EdgeLemmas.{next-set, previous-set, place-set, task-set, behind-set}
use Rattle.fp_links.proofs.edge.insert.Goals as goal

pub returns-clause-next : goal.returns-clause-next
returns-clause-next c = λ x.
    c.set_next.ensures.next x
    ∙ put-along _ _ (ring c.args.place) c.args.number x (λ y. c.set_previous.ensures.next y ∙ next-set c.args.edges.now c.args.places.now c.args.number _ y c.requires.edge
    ∙ ap (λ z. put (next_at c.args.edges.now c.args.places.now) c.args.number z y) c.next_of-first.ensures)

pub returns-clause-previous : goal.returns-clause-previous
returns-clause-previous c = λ x.
    c.set_next.ensures.previous x ∙ c.set_previous.ensures.previous x
    ∙ put-along _ _ c.next_of-first.result c.args.number x (λ y. previous-set c.args.edges.now c.args.places.now c.args.number _ y c.requires.edge)
    ∙ ap (λ z. put (put (previous_at c.args.edges.now c.args.places.now) c.args.number (ring c.args.place)) z c.args.number x) c.next_of-first.ensures

pub returns-clause-place : goal.returns-clause-place
returns-clause-place c = λ x. c.set_next.ensures.place x ∙ c.set_previous.ensures.place x ∙ place-set c.args.edges.now c.args.number _ x c.requires.edge

pub returns-clause-task : goal.returns-clause-task
returns-clause-task c = λ x. c.set_next.ensures.task x ∙ c.set_previous.ensures.task x ∙ task-set c.args.edges.now c.args.number _ x c.requires.edge

pub returns-clause-behind : goal.returns-clause-behind
returns-clause-behind c = λ x. c.set_next.ensures.behind x ∙ c.set_previous.ensures.behind x ∙ behind-set c.args.edges.now c.args.number _ x c.requires.edge
