-- Moves keep every relation of words.
use Rattle.std.proofs.Common.{◌+◌, ◌-◌, ℕ, List, [], ◌∷◌, length, map, take, drop, slice_index_or, subst}
use Rattle.fp_model.specs.declared.kind.Sort.{Sort}
use Rattle.fp_facts.specs.declared.effect.Effect.{Effect}
use Rattle.fp_facts.specs.declared.effect.Effect.TheVariants.{Loads, Stores, Counts, Keeps, Shuffles, Takes}
use Rattle.fp_facts.specs.declared.effect.Shuffling.{Shuffling}
use Rattle.fp_facts.specs.Moves.{moved_locals, moved_stack, Zipped}
use Rattle.fp_facts.specs.Sorts.{words_of}
use Rattle.fp_facts.specs.Transfer.{at_depth, shuffled, top_words, without_top}
use Rattle.fp_facts.proofs.ZippedWords.{zipped-append, zipped-drop, zipped-length, zipped-map, zipped-take, zipped-word, zipped-written}

module _ {W V : Type 0} (R : W → V → Type 0) where
  without_top-related : (n : ℕ) {s : List W} {t : List V} → Zipped R s t → Zipped R (without_top n s) (without_top n t)
  without_top-related n {s} {t} h = subst (λ k. Zipped R (take (length s - n) s) (take (k - n) t)) (zipped-length R h) (zipped-take R (length s - n) h)

  top_words-related : (n : ℕ) {s : List W} {t : List V} → Zipped R s t → Zipped R (top_words n s) (top_words n t)
  top_words-related n {s} {t} h = subst (λ k. Zipped R (drop (length s - n) s) (drop (k - n) t)) (zipped-length R h) (zipped-drop R (length s - n) h)

  pub locals_related : (e : Effect) {l s : List W} {m t : List V} → Zipped R l m → Zipped R s t → Zipped R (moved_locals e l s) (moved_locals e m t)
  locals_related (Loads sort at) h k = h
  locals_related (Stores sort at) h k = zipped-written R at (top_words-related (length (words_of sort)) k) h
  locals_related (Counts at) h k = h
  locals_related Keeps h k = h
  locals_related (Shuffles x) h k = h
  locals_related (Takes operands results) h k = h

  module _ (none : W) (nothing : V) (absent : R none nothing) where
    at_depth-related : (depth : ℕ) {s : List W} {t : List V} → Zipped R s t → R (at_depth none s depth) (at_depth nothing t depth)
    at_depth-related depth {s} {t} h =
        subst (λ k. R (slice_index_or s (length s - depth) none) (slice_index_or t (k - depth) nothing)) (zipped-length R h)
        (zipped-word R none nothing absent h (length s - depth))

    shuffled-related : (x : Shuffling) {s : List W} {t : List V} → Zipped R s t → Zipped R (shuffled none x s) (shuffled nothing x t)
    shuffled-related x {s} {t} h =
        zipped-append R (without_top-related x.takes h) (zipped-map R (at_depth none s) (at_depth nothing t) (λ depth. at_depth-related depth h) x.order)

    loaded-related : (sort : Sort) (at : ℕ) {l : List W} {m : List V} → Zipped R l m →
        Zipped R (map (λ i. slice_index_or l (at + i) none) (take (length (words_of sort)) (0 ∷ 1 ∷ []))) (map (λ i. slice_index_or m (at + i) nothing) (take (length (words_of sort)) (0 ∷ 1 ∷ [])))
    loaded-related sort at {l} {m} h =
        zipped-map R (λ i. slice_index_or l (at + i) none) (λ i. slice_index_or m (at + i) nothing) (λ i. zipped-word R none nothing absent h (at + i)) (take (length (words_of sort)) (0 ∷ 1 ∷ []))

    pub stack_related : (e : Effect) {made l s : List W} {given m t : List V} → Zipped R made given → Zipped R l m → Zipped R s t →
        Zipped R (moved_stack none made e l s) (moved_stack nothing given e m t)
    stack_related (Loads sort at) g h k = zipped-append R k (loaded-related sort at h)
    stack_related (Stores sort at) g h k = without_top-related (length (words_of sort)) k
    stack_related (Counts at) g h k = k
    stack_related Keeps g h k = k
    stack_related (Shuffles x) g h k = shuffled-related x k
    stack_related (Takes operands results) g h k = zipped-append R (without_top-related (length operands) k) g
