-- Candidates that are made of lists of places.
use Rattle.std.proofs.Common.{◌≡◌, ◌<◌, ◌+◌, ℕ, Bool, false, List, [], ◌∷◌, ◌++◌, Option, length, map, slice_get, refl, sym, ap, ◌∙◌, arith, suc}
use Rattle.std.specs.Prelude.{option_and_then, slice_index_or}
use Rattle.std.specs.List.{range_with_len}
use Rattle.fp_cells.specs.Cells.{Cell}
use Rattle.fp_facts.specs.declared.call_targets.CallTargets.{CallTargets}
use Rattle.fp_facts.specs.Hierarchy.{has_number}
use Rattle.fp_rta.specs.declared.candidate.Candidate.{Candidate}
use Rattle.fp_rta.specs.CallGraph.{candidate, setting}
use Rattle.fp_rta.specs.Listed.{built, built_one, places_at}
use Rattle.fp_rta.specs.Places.{reach_place}

built-push : (cells : List Cell) (flags : List Bool) (targets : List ℕ) (bit : ℕ) (lists : List (List ℕ)) (places : List ℕ) →
    built cells flags targets bit (lists ++ places ∷ []) ≡ built cells flags targets bit lists ++ built_one cells flags targets (bit + length lists) places ∷ []
built-push cells flags targets bit [] places = ap (λ n. built_one cells flags targets n places ∷ []) (let e : bit ≡ bit + 0 = omega arith in e)
built-push cells flags targets bit (l ∷ lists) places =
    let here = built_one cells flags targets bit l in
    let last : (bit + 1) + length lists ≡ bit + suc (length lists) = omega arith in
    ap (λ ks. here ∷ ks) (built-push cells flags targets (bit + 1) lists places ∙ ap (λ n. built cells flags targets (bit + 1) lists ++ built_one cells flags targets n places ∷ []) last)

-- one list more
pub built-more : (cells : List Cell) (flags : List Bool) (targets : List ℕ) (bit : ℕ) (lists : List (List ℕ)) (places : List ℕ) (now after : List Candidate) (k : Candidate) →
    bit ≡ length lists → now ≡ built cells flags targets 0 lists → k ≡ built_one cells flags targets bit places → after ≡ now ++ k ∷ [] → after ≡ built cells flags targets 0 (lists ++ places ∷ [])
built-more cells flags targets bit lists places now after k count h here e =
    let place : bit ≡ 0 + length lists = omega (arith, count) in
    e ∙ ap (λ ks. ks ++ k ∷ []) h ∙ ap (λ j. built cells flags targets 0 lists ++ j ∷ []) (here ∙ ap (λ n. built_one cells flags targets n places) place)
    ∙ sym (built-push cells flags targets 0 lists places)

-- what is known of each bit is known of all
pub built-all : (cells : List Cell) (call : CallTargets) (flags : List Bool) (bit : ℕ) (lists : List (List ℕ)) →
    ((i : ℕ) → i < length lists → slice_index_or flags (bit + i) false ≡ has_number call.always (bit + i)) → ((i : ℕ) → i < length lists → places_at lists i ≡ setting cells (bit + i) call.watch) →
    built cells flags call.targets bit lists ≡ map (candidate cells call) (range_with_len bit (length lists))
built-all cells call flags bit [] flagged placed = refl
built-all cells call flags bit (l ∷ lists) flagged placed =
    let same : bit + 0 ≡ bit = omega arith in
    let always : slice_index_or flags bit false ≡ has_number call.always bit = ap (λ n. slice_index_or flags n false) (sym same) ∙ flagged 0 (omega arith) ∙ ap (has_number call.always) same in
    let sources : l ≡ setting cells bit call.watch = placed 0 (omega arith) ∙ ap (λ n. setting cells n call.watch) same in
    let target : Option ℕ = option_and_then (reach_place cells) (slice_get call.targets bit) in
    let here : built_one cells flags call.targets bit l ≡ candidate cells call bit =
    ap (λ (b : Bool). record { always = b; sources = l; target = target }) always ∙ ap (λ (ps : List ℕ). record { always = has_number call.always bit; sources = ps; target = target }) sources in
    let next : (i : ℕ) → bit + suc i ≡ (bit + 1) + i = λ i. omega arith in
    let rest = built-all cells call flags (bit + 1) lists
    (λ i lt. ap (λ n. slice_index_or flags n false) (sym (next i)) ∙ flagged (suc i) (omega arith) ∙ ap (has_number call.always) (next i))
    (λ i lt. placed (suc i) (omega arith) ∙ ap (λ n. setting cells n call.watch) (next i)) in
    ap (λ k. k ∷ built cells flags call.targets (bit + 1) lists) here ∙ ap (λ ks. candidate cells call bit ∷ ks) rest
