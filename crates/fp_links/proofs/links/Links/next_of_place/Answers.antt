use Rattle.std.proofs.Common.{◌≡◌, ◌∙◌, ◌∷◌, nat_lt, Some, None, if◌then◌else◌, length, ap, sym, subst, true, arith}
use Rattle.fp_links.specs.declared.edge.Edge.{Edge}
use Rattle.fp_links.specs.Linked.{Linked, row, rest_of, is_edge, has_edge, edge_after, task_of_edge}
use Rattle.fp_links.specs.Fields.{next_at}
use Rattle.fp_links.proofs.LinkLemmas.{next-told, rest-told, edge-below}
use Rattle.fp_links.proofs.EdgeLemmas.{next-is}
use Rattle.fp_links.proofs.RowLemmas.{after-has}
use Rattle.fp_links.proofs.links.Links.next_of_place.Goals as goal

pub index-requires : goal.index-requires
index-requires c = let i = c.self.inside in omega (arith, i.edges.ok, edge-below i.edges.items i.places.items i.firsts.items i.free i.spare c.args.edge c.self.invariant (subst (λ (v : Linked). is_edge v c.args.edge ≡ true) (sym c.self.view_is) c.requires))

pub returns-clause-next : goal.returns-clause-next
returns-clause-next c = λ p h.
    let i = c.self.inside in
    let e = c.args.edge in
    let below = edge-below i.edges.items i.places.items i.firsts.items i.free i.spare e c.self.invariant (subst (λ (v : Linked). is_edge v e ≡ true) (sym c.self.view_is) c.requires) in
    let at : c.index.result.now.next ≡ next_at i.edges.items i.places.items e = ap (λ (a : Edge). a.next) c.index.ensures ∙ next-is i.edges.items i.places.items e _ below in
    let count : c.len.result ≡ length i.edges.items = omega (arith, i.edges.ok) in
    let inside = subst (λ (v : Linked). has_edge (row v p) e ≡ true) (sym c.self.view_is) h in
    c.as_edge.ensures ∙ ap (λ y. if nat_lt y c.len.result then Some y else None) at ∙ ap (λ n. if nat_lt (next_at i.edges.items i.places.items e) n then Some (next_at i.edges.items i.places.items e) else None) count
    ∙ next-told i.edges.items i.places.items i.firsts.items i.free i.spare p e c.self.invariant inside ∙ ap (λ (v : Linked). edge_after (row v p) e) c.self.view_is

pub returns-clause-rest : goal.returns-clause-rest
returns-clause-rest c = λ p h.
    let i = c.self.inside in
    let e = c.args.edge in
    let inside = subst (λ (v : Linked). has_edge (row v p) e ≡ true) (sym c.self.view_is) h in
    let told = subst (λ (v : Linked). rest_of (row v p) (Some e) ≡ (e, task_of_edge (row v p) e) ∷ rest_of (row v p) (edge_after (row v p) e)) c.self.view_is
    (rest-told i.edges.items i.places.items i.firsts.items i.free i.spare p e c.self.invariant inside) in
    told ∙ ap (λ o. (e, task_of_edge (row c.args.self.now p) e) ∷ rest_of (row c.args.self.now p) o) (sym (returns-clause-next c p h))

pub returns-clause-edge : goal.returns-clause-edge
returns-clause-edge c = λ p h e k. after-has (row c.args.self.now p) c.args.edge e (sym (returns-clause-next c p h) ∙ k)
