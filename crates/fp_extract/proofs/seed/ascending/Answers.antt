use Rattle.std.proofs.Common.{rules}
use Rattle.std.proofs.lemmas.List.Sorted.{IsNonDecreasingBy-from_sort_by_key}
use Rattle.fp_facts.specs.Dataflow.{Edge}
use Rattle.fp_extract.proofs.SortedEdges.{ascending-sorted}
use Rattle.fp_extract.proofs.seed.ascending.Goals as goal

pub returns-clause-order : goal.returns-clause-order
returns-clause-order c =
    ascending-sorted _ (IsNonDecreasingBy-from_sort_by_key (λ (e : Edge). e.0) _ c.sort_unstable_by_key.ensures.sorted (λ a r q k. search rules))
