use Rattle.std.proofs.Common.{◌≡◌, ◌<◌, ◌+◌, ◌∙◌, Bool, List, ℕ, false, length, map, ap, subst, sym, arith}
use Rattle.std.specs.Prelude.{slice_index_or}
use Rattle.std.specs.List.{range_with_len}
use Rattle.std.specs.Result.{IfOk}
use Rattle.fp_facts.specs.Hierarchy.{has_number}
use Rattle.fp_rta.specs.declared.candidate.Candidate.{Candidate}
use Rattle.fp_rta.specs.CallGraph.{candidate, setting}
use Rattle.fp_rta.specs.Listed.{built, places_at}
use Rattle.fp_rta.proofs.BuiltCandidates.{built-all}
use Rattle.fp_rta.proofs.candidates.candidates.Goals as goal

pub returns : goal.returns
returns c =
    let cells = c.args.cells.now in
    let call = c.args.call.now in
    let flags = c.as_slice-3.result.now in
    let lists = c.in_ok-sources.sources.items in
    let bits : length c.as_slice-targets.result.now + 1 ≡ length call.targets + 1 = ap (λ (l : List ℕ). length l + 1) c.as_slice-targets.ensures in
    let long : length lists ≡ length call.targets + 1 = c.in_ok-sources.ensures.long ∙ bits in
    let flagged : (i : ℕ) → i < length lists → slice_index_or flags (0 + i) false ≡ has_number call.always (0 + i) = λ i lt.
    ap (λ (l : List Bool). slice_index_or l (0 + i) false) c.as_slice-3.ensures.value ∙ c.in_ok-always.ensures.flags (0 + i) (omega (arith, lt, c.in_ok-sources.ensures.long)) ∙ ap (λ (l : List ℕ). has_number l (0 + i)) c.as_slice.ensures in
    let placed : (i : ℕ) → i < length lists → places_at lists i ≡ setting cells (0 + i) call.watch = λ i lt.
    (let same : 0 + i ≡ i = omega arith in c.in_ok-sources.ensures.lists i (omega (arith, lt, c.in_ok-sources.ensures.long)) ∙ ap (setting cells i) c.as_slice-2.ensures ∙ ap (λ n. setting cells n call.watch) (sym same)) in
    let all = ap (λ (l : List ℕ). built cells flags l 0 lists) c.as_slice-targets.ensures ∙ built-all cells call flags 0 lists flagged placed ∙ ap (λ n. map (candidate cells call) (range_with_len 0 n)) long in
    subst (λ (ks : List Candidate). IfOk c.built.result (λ v. v.items ≡ ks)) all c.built.ensures
