use Rattle.std.proofs.Common.{◌≡◌, ◌∙◌, ap, sym, subst, true, arith}
use Rattle.std.proofs.lemmas.List.{get_or_default}
use Rattle.fp_links.specs.declared.edge.Edge.{Edge}
use Rattle.fp_links.specs.Linked.{Linked, row, is_edge, has_edge, task_of_edge}
use Rattle.fp_links.specs.Fields.{no_edge}
use Rattle.fp_links.proofs.LinkLemmas.{edge-below, task-is}
use Rattle.fp_links.proofs.links.Links.task_of.Goals as goal

pub index-requires : goal.index-requires
index-requires c = let i = c.self.inside in omega (arith, i.edges.ok, edge-below i.edges.items i.places.items i.firsts.items i.free i.spare c.args.edge c.self.invariant (subst (λ (v : Linked). is_edge v c.args.edge ≡ true) (sym c.self.view_is) c.requires))

pub returns : goal.returns
returns c = λ p h.
    let i = c.self.inside in
    let e = c.args.edge in
    let below = edge-below i.edges.items i.places.items i.firsts.items i.free i.spare e c.self.invariant (subst (λ (v : Linked). is_edge v e ≡ true) (sym c.self.view_is) c.requires) in
    let inside = subst (λ (v : Linked). has_edge (row v p) e ≡ true) (sym c.self.view_is) h in
    ap (λ (a : Edge). a.task) (c.index.ensures ∙ get_or_default i.edges.items e _ no_edge below) ∙ task-is i.edges.items i.places.items i.firsts.items i.spare p e inside ∙ ap (λ (v : Linked). task_of_edge (row v p) e) c.self.view_is
