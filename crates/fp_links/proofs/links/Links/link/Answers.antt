use Rattle.std.proofs.Common.{◌≡◌, ◌-◌, ◌<◌, ◌⊎◌, List, length, set, false, sym, ap, subst, ◌∙◌, arith}
use Rattle.std.proofs.lemmas.List.{with_items_is, get_or_default}
use Rattle.std.specs.Vec.{with_items}
use Rattle.fp_links.specs.declared.edge.Edge.{Edge}
use Rattle.fp_links.specs.declared.edge.Ends.{Ends}
use Rattle.fp_links.specs.Linked.{Linked, HasLinked, row, has_task}
use Rattle.fp_links.specs.Fields.{next_at, ring, none, no_edge, linked_of}
use Rattle.fp_links.proofs.LinkLemmas.{Inserted, linked-by, free-edge, ring-first, places-are}
use Rattle.fp_links.proofs.links.Links.link.Goals as goal

pub index-requires : goal.index-requires
index-requires c = omega (arith, c.self.inside.edges.ok, free-edge _ _ _ _ _ c.self.invariant (omega (arith, ap (λ (v : Linked). v.spare) c.self.view_is, c.requires.room)))

pub insert-requires-clause-edge : goal.insert-requires-clause-edge
insert-requires-clause-edge c = omega (arith, ap length c.deref_mut.ensures.value, free-edge _ _ _ _ _ c.self.invariant (omega (arith, ap (λ (v : Linked). v.spare) c.self.view_is, c.requires.room)))

pub insert-requires-clause-place : goal.insert-requires-clause-place
insert-requires-clause-place c = omega (arith, ap length c.deref_mut-2.ensures.value, ap (λ (v : Linked). length v.rows) c.self.view_is, c.requires.place, places-are c.self.inside.edges.items c.self.inside.places.items c.self.inside.firsts.items c.self.inside.spare)

pub insert-requires-clause-first : goal.insert-requires-clause-first
insert-requires-clause-first c =
    let known : c.args.place < length c.self.inside.places.items = omega (arith, ap (λ (v : Linked). length v.rows) c.self.view_is, c.requires.place, places-are c.self.inside.edges.items c.self.inside.places.items c.self.inside.firsts.items c.self.inside.spare) in
    let first = ring-first _ _ _ _ _ c.args.place c.self.invariant known in
    let P : List Edge → List Ends → Type 0 = λ e q. (next_at e q (ring c.args.place) < length e) ⊎ (none - next_at e q (ring c.args.place) < length q) in
    subst (λ e. P e c.deref_mut-2.result.now) (sym c.deref_mut.ensures.value) (subst (λ q. P c.self.inside.edges.items q) (sym c.deref_mut-2.ensures.value) first)

pub invariant_of-self : goal.invariant_of-self
invariant_of-self c =
    let i = c.self.inside in
    let known : c.args.place < length i.places.items = omega (arith, ap (λ (v : Linked). length v.rows) c.self.view_is, c.requires.place, places-are i.edges.items i.places.items i.firsts.items i.spare) in
    let task : c.args.task < length i.firsts.items = omega (arith, ap (λ (v : Linked). v.tasks) c.self.view_is, c.requires.task) in
    let room : 0 < i.spare = omega (arith, ap (λ (v : Linked). v.spare) c.self.view_is, c.requires.room) in
    let free : i.free < length i.edges.items = free-edge _ _ _ _ _ c.self.invariant room in
    let absent = subst (λ (v : Linked). has_task (row v c.args.place) c.args.task ≡ false) (sym c.self.view_is) c.requires.absent in
    let made : Inserted c.deref_mut.result.now c.deref_mut-2.result.now c.insert.new.edges c.insert.new.places i.free c.args.place c.args.task c.index-behind.result.now = record {
      edges_stay = c.insert.auto.edges;
      places_stay = c.insert.auto.places;
      next = c.insert.ensures.next;
      previous = c.insert.ensures.previous;
      place = c.insert.ensures.place;
      task = c.insert.ensures.task;
      behind = c.insert.ensures.behind;
    } in
    let both = linked-by i.edges.items c.deref_mut.result.now c.insert.new.edges (with_items i.edges c.insert.new.edges).items i.places.items c.deref_mut-2.result.now c.insert.new.places (with_items i.places c.insert.new.places).items
    i.firsts.items i.free i.spare c.args.task c.args.place c.index-behind.result.now c.index.result.now.behind c.self.invariant
    c.deref_mut.ensures.value c.deref_mut-2.ensures.value made (c.index-behind.ensures ∙ get_or_default i.firsts.items c.args.task _ none task) (ap (λ (e : Edge). e.behind) (c.index.ensures ∙ get_or_default i.edges.items i.free _ no_edge free))
    (with_items_is i.edges c.insert.new.edges (c.insert.auto.edges ∙ c.deref_mut.ensures.len)) (with_items_is i.places c.insert.new.places (c.insert.auto.places ∙ c.deref_mut-2.ensures.len)) task known room absent in
    both.0

pub returns : goal.returns
returns c =
    let i = c.self.inside in
    let known : c.args.place < length i.places.items = omega (arith, ap (λ (v : Linked). length v.rows) c.self.view_is, c.requires.place, places-are i.edges.items i.places.items i.firsts.items i.spare) in
    let task : c.args.task < length i.firsts.items = omega (arith, ap (λ (v : Linked). v.tasks) c.self.view_is, c.requires.task) in
    let room : 0 < i.spare = omega (arith, ap (λ (v : Linked). v.spare) c.self.view_is, c.requires.room) in
    let free : i.free < length i.edges.items = free-edge _ _ _ _ _ c.self.invariant room in
    let absent = subst (λ (v : Linked). has_task (row v c.args.place) c.args.task ≡ false) (sym c.self.view_is) c.requires.absent in
    let made : Inserted c.deref_mut.result.now c.deref_mut-2.result.now c.insert.new.edges c.insert.new.places i.free c.args.place c.args.task c.index-behind.result.now = record {
      edges_stay = c.insert.auto.edges;
      places_stay = c.insert.auto.places;
      next = c.insert.ensures.next;
      previous = c.insert.ensures.previous;
      place = c.insert.ensures.place;
      task = c.insert.ensures.task;
      behind = c.insert.ensures.behind;
    } in
    let both = linked-by i.edges.items c.deref_mut.result.now c.insert.new.edges (with_items i.edges c.insert.new.edges).items i.places.items c.deref_mut-2.result.now c.insert.new.places (with_items i.places c.insert.new.places).items
    i.firsts.items i.free i.spare c.args.task c.args.place c.index-behind.result.now c.index.result.now.behind c.self.invariant
    c.deref_mut.ensures.value c.deref_mut-2.ensures.value made (c.index-behind.ensures ∙ get_or_default i.firsts.items c.args.task _ none task) (ap (λ (e : Edge). e.behind) (c.index.ensures ∙ get_or_default i.edges.items i.free _ no_edge free))
    (with_items_is i.edges c.insert.new.edges (c.insert.auto.edges ∙ c.deref_mut.ensures.len)) (with_items_is i.places c.insert.new.places (c.insert.auto.places ∙ c.deref_mut-2.ensures.len)) task known room absent in
    subst (λ (v : Linked). HasLinked v (linked_of (with_items i.edges c.insert.new.edges).items (with_items i.places c.insert.new.places).items (set i.firsts.items c.args.task i.free) (i.spare - 1)) c.args.task c.args.place) c.self.view_is both.1
