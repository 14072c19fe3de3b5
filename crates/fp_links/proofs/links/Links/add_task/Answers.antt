use Rattle.std.proofs.Common.{ℕ, List, sym, subst}
use Rattle.fp_links.specs.Fields.{IsLinks}
use Rattle.fp_links.proofs.LinkLemmas.{task-added}
use Rattle.fp_links.proofs.links.Links.add_task.Goals as goal

pub invariant_of-self-2 : goal.invariant_of-self-2
invariant_of-self-2 c =
    let i = c.self.inside in
    subst (λ (f : List ℕ). IsLinks i.edges.items i.places.items f i.free i.spare) (sym c.in_ok-push.ensures.items) (task-added _ _ _ _ _ c.self.invariant)
