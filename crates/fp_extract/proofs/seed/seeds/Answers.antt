use Rattle.std.proofs.Common.{◌≡◌, ◌<◌, ◌+◌, ◌*◌, List, All, length, sym, ap, subst, ◌∙◌}
use Rattle.std.specs.Prelude.{IfOk}
use Rattle.std.specs.List.Sorted.{IsPermutation}
use Rattle.std.proofs.lemmas.List.Sorted.{All-permutation}
use Rattle.fp_facts.specs.Dataflow.{Edge}
use Rattle.fp_extract.specs.SeedGraph.{AreReached, seed_edges}
use Rattle.fp_extract.proofs.ReachedSeeds.{reached-are}
use Rattle.fp_extract.proofs.SeedNodes.{edges-within}
use Rattle.fp_extract.proofs.seed.seeds.Goals as goal

made-in_order : (edges made sorted told : List Edge) → made ≡ edges → IsPermutation made sorted → told ≡ sorted → IsPermutation edges told
made-in_order edges made sorted told is same value =
    subst (λ l. IsPermutation edges l) (sym value) (subst (λ l. IsPermutation l sorted) is same)

pub reached-requires-clause-within : goal.reached-requires-clause-within
reached-requires-clause-within c =
    let set = c.args.set.now in
    let edges = seed_edges set.classes c.args.roots.now in
    let same = made-in_order edges c.in_ok-seed_edges.field-0.items c.ascending-edges.result.items c.as_slice.result.now c.in_ok-seed_edges.ensures c.ascending-edges.ensures.same c.as_slice.ensures.value in
    let count : c.len.result ≡ length set.names = c.len.ensures.len ∙ ap length c.names.ensures.names in
    subst (λ n. All (λ (e : Edge). (e.0 < 3 * n + 1) × (e.1 < 3 * n + 1)) c.as_slice.result.now) (sym count)
    (All-permutation (λ (e : Edge). (e.0 < 3 * length set.names + 1) × (e.1 < 3 * length set.names + 1)) edges c.as_slice.result.now same (edges-within set c.names.ensures.set c.args.roots.now))

pub returns : goal.returns
returns c =
    let set = c.args.set.now in
    let roots = c.args.roots.now in
    let edges = c.as_slice.result.now in
    let flags = c.as_slice-2.result.now in
    let same = made-in_order (seed_edges set.classes roots) c.in_ok-seed_edges.field-0.items c.ascending-edges.result.items edges c.in_ok-seed_edges.ensures c.ascending-edges.ensures.same c.as_slice.ensures.value in
    let told : AreReached edges flags = subst (λ l. AreReached edges l) (sym c.as_slice-2.ensures.value) c.in_ok-flags.ensures.reached in
    subst (λ l. IfOk c.reached_classes.result (λ ids. ids.items ≡ l)) (reached-are set c.names.ensures.set roots edges same flags told) c.reached_classes.ensures
