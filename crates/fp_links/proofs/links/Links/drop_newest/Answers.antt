use Rattle.std.proofs.Common.{◌≡◌, ◌∙◌, ◌+◌, ◌<◌, ◌-◌, ◌⊎◌, ℕ, List, length, get_or, set, ap, sym, refl, subst, arith}
use Rattle.std.specs.Vec.{with_items}
use Rattle.std.proofs.lemmas.List.{with_items_is, get_or_default}
use Rattle.fp_links.specs.declared.edge.Edge.{Edge}
use Rattle.fp_links.specs.declared.edge.Ends.{Ends}
use Rattle.fp_links.specs.Linked.{Linked, HasDropped, edges_of}
use Rattle.fp_links.specs.Fields.{next_at, previous_at, none, no_edge, linked_of}
use Rattle.fp_links.proofs.LinkLemmas.{Removed, no-edges, newest-by, newest-next, newest-previous, dropped-by, spare-few}
use Rattle.fp_links.proofs.links.Links.drop_newest.Goals as goal

pub returns-then-number-clause-none : goal.returns-then-number-clause-none
returns-then-number-clause-none c = λ _.
    let i = c.self.inside in
    let task : c.args.task < length i.firsts.items = omega (arith, ap (λ (v : Linked). v.tasks) c.self.view_is, c.requires) in
    let first : get_or i.firsts.items c.args.task none ≡ none = sym (c.index-number.ensures ∙ get_or_default i.firsts.items c.args.task _ none task) ∙ c.if-number.true in
    (refl, ap (λ (v : Linked). edges_of v c.args.task) (sym c.self.view_is) ∙ no-edges i.edges.items i.places.items i.firsts.items i.free i.spare c.args.task c.self.invariant task first)

pub index-requires : goal.index-requires
index-requires c =
    let i = c.self.inside in
    let task : c.args.task < length i.firsts.items = omega (arith, ap (λ (v : Linked). v.tasks) c.self.view_is, c.requires) in
    let new = newest-by i.edges.items i.places.items i.firsts.items i.free i.spare c.args.task c.index-number.result.now _ c.self.invariant task c.index-number.ensures c.if-number.false in
    omega (arith, i.edges.ok, new.below)

pub remove-requires-clause-edge : goal.remove-requires-clause-edge
remove-requires-clause-edge c =
    let i = c.self.inside in
    let task : c.args.task < length i.firsts.items = omega (arith, ap (λ (v : Linked). v.tasks) c.self.view_is, c.requires) in
    let new = newest-by i.edges.items i.places.items i.firsts.items i.free i.spare c.args.task c.index-number.result.now _ c.self.invariant task c.index-number.ensures c.if-number.false in
    omega (arith, ap length c.deref_mut.ensures.value, new.below)

pub remove-requires-clause-next : goal.remove-requires-clause-next
remove-requires-clause-next c =
    let i = c.self.inside in
    let task : c.args.task < length i.firsts.items = omega (arith, ap (λ (v : Linked). v.tasks) c.self.view_is, c.requires) in
    let new = newest-by i.edges.items i.places.items i.firsts.items i.free i.spare c.args.task c.index-number.result.now _ c.self.invariant task c.index-number.ensures c.if-number.false in
    let there = newest-next i.edges.items i.places.items i.firsts.items i.free i.spare c.args.task c.index-number.result.now c.self.invariant new in
    let P : List Edge → List Ends → ℕ → Type 0 = λ e q x. (next_at e q x < length e) ⊎ (none - next_at e q x < length q) in
    subst (λ (e : List Edge). P e c.deref_mut-2.result.now c.index-number.result.now) (sym c.deref_mut.ensures.value)
    (subst (λ (q : List Ends). P i.edges.items q c.index-number.result.now) (sym c.deref_mut-2.ensures.value) there)

pub remove-requires-clause-previous : goal.remove-requires-clause-previous
remove-requires-clause-previous c =
    let i = c.self.inside in
    let task : c.args.task < length i.firsts.items = omega (arith, ap (λ (v : Linked). v.tasks) c.self.view_is, c.requires) in
    let new = newest-by i.edges.items i.places.items i.firsts.items i.free i.spare c.args.task c.index-number.result.now _ c.self.invariant task c.index-number.ensures c.if-number.false in
    let there = newest-previous i.edges.items i.places.items i.firsts.items i.free i.spare c.args.task c.index-number.result.now c.self.invariant new in
    let P : List Edge → List Ends → ℕ → Type 0 = λ e q x. (previous_at e q x < length e) ⊎ (none - previous_at e q x < length q) in
    subst (λ (e : List Edge). P e c.deref_mut-2.result.now c.index-number.result.now) (sym c.deref_mut.ensures.value)
    (subst (λ (q : List Ends). P i.edges.items q c.index-number.result.now) (sym c.deref_mut-2.ensures.value) there)

pub overflow_add-self : goal.overflow_add-self
overflow_add-self c =
    let i = c.self.inside in
    let task : c.args.task < length i.firsts.items = omega (arith, ap (λ (v : Linked). v.tasks) c.self.view_is, c.requires) in
    let new = newest-by i.edges.items i.places.items i.firsts.items i.free i.spare c.args.task c.index-number.result.now _ c.self.invariant task c.index-number.ensures c.if-number.false in
    omega (arith, spare-few _ _ _ _ _ c.self.invariant, c.self.invariant.shape.room, new.place_known)

pub invariant_of-self : goal.invariant_of-self
invariant_of-self c =
    let i = c.self.inside in
    let task : c.args.task < length i.firsts.items = omega (arith, ap (λ (v : Linked). v.tasks) c.self.view_is, c.requires) in
    let new = newest-by i.edges.items i.places.items i.firsts.items i.free i.spare c.args.task c.index-number.result.now _ c.self.invariant task c.index-number.ensures c.if-number.false in
    let made : Removed c.deref_mut.result.now c.deref_mut-2.result.now c.remove.new.edges c.remove.new.places c.index-number.result.now i.free = record {
      edges_stay = c.remove.auto.edges;
      places_stay = c.remove.auto.places;
      next = c.remove.ensures.next;
      previous = c.remove.ensures.previous;
      place = c.remove.ensures.place;
      task = c.remove.ensures.task;
      behind = c.remove.ensures.behind;
    } in
    let both = dropped-by i.edges.items c.deref_mut.result.now c.remove.new.edges (with_items i.edges c.remove.new.edges).items i.places.items c.deref_mut-2.result.now c.remove.new.places (with_items i.places c.remove.new.places).items
    i.firsts.items i.free i.spare c.args.task c.index-number.result.now c.index.result.now.behind c.self.invariant c.deref_mut.ensures.value c.deref_mut-2.ensures.value made new
    (ap (λ (e : Edge). e.behind) (c.index.ensures ∙ get_or_default i.edges.items c.index-number.result.now _ no_edge new.below))
    (with_items_is i.edges c.remove.new.edges (c.remove.auto.edges ∙ c.deref_mut.ensures.len)) (with_items_is i.places c.remove.new.places (c.remove.auto.places ∙ c.deref_mut-2.ensures.len)) task in
    both.0

pub returns-clause-dropped : goal.returns-clause-dropped
returns-clause-dropped c = λ _.
    let i = c.self.inside in
    let task : c.args.task < length i.firsts.items = omega (arith, ap (λ (v : Linked). v.tasks) c.self.view_is, c.requires) in
    let new = newest-by i.edges.items i.places.items i.firsts.items i.free i.spare c.args.task c.index-number.result.now _ c.self.invariant task c.index-number.ensures c.if-number.false in
    let made : Removed c.deref_mut.result.now c.deref_mut-2.result.now c.remove.new.edges c.remove.new.places c.index-number.result.now i.free = record {
      edges_stay = c.remove.auto.edges;
      places_stay = c.remove.auto.places;
      next = c.remove.ensures.next;
      previous = c.remove.ensures.previous;
      place = c.remove.ensures.place;
      task = c.remove.ensures.task;
      behind = c.remove.ensures.behind;
    } in
    let both = dropped-by i.edges.items c.deref_mut.result.now c.remove.new.edges (with_items i.edges c.remove.new.edges).items i.places.items c.deref_mut-2.result.now c.remove.new.places (with_items i.places c.remove.new.places).items
    i.firsts.items i.free i.spare c.args.task c.index-number.result.now c.index.result.now.behind c.self.invariant c.deref_mut.ensures.value c.deref_mut-2.ensures.value made new
    (ap (λ (e : Edge). e.behind) (c.index.ensures ∙ get_or_default i.edges.items c.index-number.result.now _ no_edge new.below))
    (with_items_is i.edges c.remove.new.edges (c.remove.auto.edges ∙ c.deref_mut.ensures.len)) (with_items_is i.places c.remove.new.places (c.remove.auto.places ∙ c.deref_mut-2.ensures.len)) task in
    subst (λ (v : Linked). HasDropped v (linked_of (with_items i.edges c.remove.new.edges).items (with_items i.places c.remove.new.places).items (set i.firsts.items c.args.task c.index.result.now.behind) (i.spare + 1)) c.args.task) c.self.view_is both.1
