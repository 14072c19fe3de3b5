-- The places of a switch's targets, one after the other.
use Rattle.std.proofs.Common.{◌≡◌, inl, inr, ℕ, List, [], ◌∷◌, ◌++◌, ltb, Option, Some, None, refl, sym, ap, ◌∙◌}
use Rattle.std.proofs.lemmas.Bool.{cases_Bool, cond-true, cond-false}
use Rattle.fp_model.specs.Instructions.{places_after, short_place}

pub places_next : (before : List ℕ) (target : Option ℕ) (targets : List (Option ℕ)) (place : ℕ) → short_place target ≡ Some place → places_after before (target ∷ targets) ≡ places_after (before ++ place ∷ []) targets
unfolding places_after
places_next before None targets place e = absurd (cc)
places_next before (Some k) targets place e = elim (cases_Bool (ltb k 65536)) [
  | inl lt ↦
      let is : Some k ≡ Some place = sym (cond-true _ _ _ lt) ∙ e in
      let same : k ≡ place = cc in
      cond-true _ _ _ lt ∙ ap (λ n. places_after (before ++ n ∷ []) targets) same
  | inr ge ↦
      let none : None ≡ Some place = sym (cond-false _ _ _ ge) ∙ e in
      absurd (cc)
]

pub places_none : (before : List ℕ) (target : Option ℕ) (targets : List (Option ℕ)) → short_place target ≡ None → places_after before (target ∷ targets) ≡ None
unfolding places_after
places_none before None targets e = refl
places_none before (Some k) targets e = elim (cases_Bool (ltb k 65536)) [
  | inl lt ↦
      let is : Some k ≡ None = sym (cond-true _ _ _ lt) ∙ e in
      absurd (cc)
  | inr ge ↦ cond-false _ _ _ ge
]

pub places_end : (before : List ℕ) → places_after before [] ≡ Some before
unfolding places_after
places_end before = refl
