-- What holds at node 0 and is kept along each edge holds wherever edges lead.
use Rattle.std.proofs.Common.{ℕ, List, All}
use Rattle.fp_facts.specs.Dataflow.{Edge, Reaches}
use Rattle.fp_facts.specs.Dataflow.Reaches.{start, along}

pub reaches-kept : (es : List Edge) (P : ℕ → Type 0) → P 0 → All (λ e. P e.0 → P e.1) es → (p : ℕ) → Reaches es p → P p
reaches-kept es P holds kept p start = holds
reaches-kept es P holds kept p (along i d within from) = kept i d within (reaches-kept es P holds kept _ from)
