use Rattle.std.proofs.Common.{◌≡◌, ◌∙◌, ◌++◌, ◌∷◌, [], List, ap, sym, subst, arith}
use Rattle.fp_links.specs.declared.edge.Ends.{Ends}
use Rattle.fp_links.specs.Linked.{Linked}
use Rattle.fp_links.specs.Fields.{IsLinks, linked_of}
use Rattle.fp_links.proofs.LinkLemmas.{place-added}
use Rattle.fp_links.proofs.links.Links.add_place.Goals as goal

pub invariant_of-self-2 : goal.invariant_of-self-2
invariant_of-self-2 c =
    let i = c.self.inside in
    subst (λ (p : List Ends). IsLinks i.edges.items p i.firsts.items i.free i.spare) (sym c.in_ok-push.ensures.items)
    (place-added _ _ _ _ _ _ c.self.invariant (omega (arith, i.edges.ok, i.places.ok)) (omega (arith, i.edges.ok, i.places.ok)) (omega (arith, i.edges.ok, i.places.ok))).0

pub returns-clause-ok : goal.returns-clause-ok
returns-clause-ok c =
    let i = c.self.inside in
    subst (λ (p : List Ends). (linked_of i.edges.items p i.firsts.items i.spare).rows ≡ (linked_of i.edges.items i.places.items i.firsts.items i.spare).rows ++ [] ∷ []) (sym c.in_ok-push.ensures.items)
    (place-added _ _ _ i.free _ _ c.self.invariant (omega (arith, i.edges.ok, i.places.ok)) (omega (arith, i.edges.ok, i.places.ok)) (omega (arith, i.edges.ok, i.places.ok))).1
    ∙ ap (λ (v : Linked). v.rows ++ [] ∷ []) c.self.view_is
