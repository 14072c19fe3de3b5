use Rattle.std.proofs.Common.{◌∙◌, refl, arith}
use Rattle.fp_links.specs.Fields.{next_at, previous_at}
use Rattle.fp_links.proofs.RingLemmas.{put-along}
use Rattle.fp_links.proofs.EdgeLemmas.{next-kept, previous-kept, next-is, previous-is, put-alike}
use Rattle.fp_links.proofs.edge.remove.Goals as goal

pub returns-clause-next : goal.returns-clause-next
returns-clause-next c = λ x.
    let edge = c.requires.edge in
    next-kept c.set_previous.new.edges c.set_previous.new.places c.args.number _ _ x (omega (arith, c.set_previous.auto.edges, c.set_next.auto.edges)) refl ∙ c.set_previous.ensures.next x ∙ c.set_next.ensures.next x
    ∙ put-alike (next_at c.args.edges.now c.args.places.now) _ _ _ _ x (previous-is c.args.edges.now c.args.places.now c.args.number _ edge) (next-is c.args.edges.now c.args.places.now c.args.number _ edge)

pub returns-clause-previous : goal.returns-clause-previous
returns-clause-previous c = λ x.
    let edge = c.requires.edge in
    previous-kept c.set_previous.new.edges c.set_previous.new.places c.args.number _ _ x (omega (arith, c.set_previous.auto.edges, c.set_next.auto.edges)) refl ∙ c.set_previous.ensures.previous x
    ∙ put-along _ _ _ _ x c.set_next.ensures.previous
    ∙ put-alike (previous_at c.args.edges.now c.args.places.now) _ _ _ _ x (next-is c.args.edges.now c.args.places.now c.args.number _ edge) (previous-is c.args.edges.now c.args.places.now c.args.number _ edge)
