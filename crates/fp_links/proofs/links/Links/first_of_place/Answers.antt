use Rattle.std.proofs.Common.{◌≡◌, ◌∙◌, ◌<◌, nat_lt, Some, None, if◌then◌else◌, List, length, inr, ap, subst, arith, sym}
use Rattle.fp_links.specs.declared.edge.Edge.{Edge}
use Rattle.fp_links.specs.declared.edge.Ends.{Ends}
use Rattle.fp_links.specs.Linked.{AreDistinct, Linked, row, rest_of, first_edge}
use Rattle.fp_links.specs.Fields.{ring, next_at}
use Rattle.fp_links.proofs.LinkLemmas.{distinct-rows, first-told, places-are}
use Rattle.fp_links.proofs.RowLemmas.{first-has, rest-first}
use Rattle.fp_links.proofs.links.Links.first_of_place.Goals as goal

pub next_of-first-requires : goal.next_of-first-requires
next_of-first-requires c = let i = c.self.inside in inr (omega (arith, c.requires, ap length c.deref-2.ensures.value, ap (λ (v : Linked). length v.rows) c.self.view_is, places-are i.edges.items i.places.items i.firsts.items i.spare))

pub returns-clause-first : goal.returns-clause-first
returns-clause-first c =
    let i = c.self.inside in
    let p = c.args.place in
    let known : p < length i.places.items = omega (arith, c.requires, ap (λ (v : Linked). length v.rows) c.self.view_is, places-are i.edges.items i.places.items i.firsts.items i.spare) in
    let at : c.next_of-first.result ≡ next_at i.edges.items i.places.items (ring p) =
    c.next_of-first.ensures ∙ ap (λ (e : List Edge). next_at e c.deref-2.result.now (ring p)) c.deref.ensures.value ∙ ap (λ (q : List Ends). next_at i.edges.items q (ring p)) c.deref-2.ensures.value in
    let count : c.len.result ≡ length i.edges.items = omega (arith, i.edges.ok) in
    c.as_edge.ensures ∙ ap (λ y. if nat_lt y c.len.result then Some y else None) at ∙ ap (λ n. if nat_lt (next_at i.edges.items i.places.items (ring p)) n then Some (next_at i.edges.items i.places.items (ring p)) else None) count
    ∙ first-told i.edges.items i.places.items i.firsts.items i.free i.spare p c.self.invariant known ∙ ap (λ (v : Linked). first_edge (row v p)) c.self.view_is

pub returns-clause-rest : goal.returns-clause-rest
returns-clause-rest c = ap (rest_of (row c.args.self.now c.args.place)) (returns-clause-first c) ∙ rest-first (row c.args.self.now c.args.place)

pub returns-clause-distinct : goal.returns-clause-distinct
returns-clause-distinct c = let i = c.self.inside in subst AreDistinct c.self.view_is (distinct-rows i.edges.items i.places.items i.firsts.items i.free i.spare c.self.invariant)

pub returns-clause-edge : goal.returns-clause-edge
returns-clause-edge c = λ e h. first-has (row c.args.self.now c.args.place) e (sym (returns-clause-first c) ∙ h)
