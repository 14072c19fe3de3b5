use Rattle.std.proofs.Common.{ℕ, [], List, sym, subst}
use Rattle.fp_links.specs.declared.edge.Edge.{Edge}
use Rattle.fp_links.specs.declared.edge.Ends.{Ends}
use Rattle.fp_links.specs.Fields.{IsLinks, none}
use Rattle.fp_links.proofs.LinkLemmas.{no-links}
use Rattle.fp_links.proofs.links.Links.new.Goals as goal

pub invariant_of-result : goal.invariant_of-result
invariant_of-result c =
    subst (λ (e : List Edge). IsLinks e c.new-2.result.items c.new-3.result.items none 0) (sym c.new.ensures.items)
    (subst (λ (p : List Ends). IsLinks [] p c.new-3.result.items none 0) (sym c.new-2.ensures.items) (subst (λ (f : List ℕ). IsLinks [] [] f none 0) (sym c.new-3.ensures.items) no-links))
