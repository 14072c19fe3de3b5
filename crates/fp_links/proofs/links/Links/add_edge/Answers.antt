use Rattle.std.proofs.Common.{◌≡◌, ◌∙◌, ◌+◌, ◌++◌, ◌∷◌, [], List, length, refl, ap, sym, subst, arith}
use Rattle.fp_links.specs.declared.edge.Edge.{Edge}
use Rattle.fp_links.specs.Linked.{Linked}
use Rattle.fp_links.specs.Fields.{IsLinks, linked_of, none}
use Rattle.fp_links.proofs.LinkLemmas.{edge-added, spare-few}
use Rattle.fp_links.proofs.links.Links.add_edge.Goals as goal

pub overflow_add-self : goal.overflow_add-self
overflow_add-self c = let i = c.self.inside in omega (arith, i.edges.ok, i.places.ok, spare-few _ _ _ _ _ c.self.invariant)

pub invariant_of-self-2 : goal.invariant_of-self-2
invariant_of-self-2 c =
    let i = c.self.inside in
    let count : length i.edges.items ≡ c.len-count.result = omega (arith, i.edges.ok) in
    subst (λ (e : List Edge). IsLinks e i.places.items i.firsts.items c.len-count.result (i.spare + 1)) (sym c.in_ok-push.ensures.items)
    (subst (λ n. IsLinks (i.edges.items ++ record { next = none; previous = none; place = none; task = 0; behind = i.free } ∷ []) i.places.items i.firsts.items n (i.spare + 1)) count (edge-added i.edges.items i.places.items i.firsts.items i.free i.spare _ c.self.invariant (omega (arith, i.edges.ok, i.places.ok)) refl refl).0)

pub returns-clause-rows : goal.returns-clause-rows
returns-clause-rows c =
    let i = c.self.inside in
    subst (λ (e : List Edge). (linked_of e i.places.items i.firsts.items (i.spare + 1)).rows ≡ (linked_of i.edges.items i.places.items i.firsts.items i.spare).rows) (sym c.in_ok-push.ensures.items)
    (edge-added i.edges.items i.places.items i.firsts.items i.free i.spare _ c.self.invariant (omega (arith, i.edges.ok, i.places.ok)) refl refl).1
    ∙ ap (λ (v : Linked). v.rows) c.self.view_is
