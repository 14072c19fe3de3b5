-- Edges that are sorted by the nodes that they start at.
use Rattle.std.proofs.Common.{suc, List, [], ◌∷◌, arith}
use Rattle.std.specs.List.Sorted.{IsNonDecreasingBy}
use Rattle.fp_facts.specs.Dataflow.{Edge}
use Rattle.fp_flow.specs.Ascending.{IsAscending}

pub ascending-sorted : (edges : List Edge) → IsNonDecreasingBy (λ (e : Edge). e.0) edges → IsAscending edges
ascending-sorted [] rise = tt
ascending-sorted (e ∷ edges) rise =
    (λ k d lt. rise 0 (suc k) d (omega arith) (omega (arith, lt)), ascending-sorted edges (λ i j d le lt. rise (suc i) (suc j) d (omega (arith, le)) (omega (arith, lt))))
