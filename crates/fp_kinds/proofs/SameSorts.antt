-- Words that are compared one by one.
use Rattle.std.proofs.Common.{◌≡◌, ◌≢◌, ◌<◌, ◌+◌, ℕ, suc, Bool, true, false, List, [], ◌∷◌, length, drop, slice_index_or, refl, ap, ◌∙◌, cond}
use Rattle.std.proofs.lemmas.List.{drop_more}
use Rattle.fp_model.specs.declared.kind.Sort.{Sort}
use Rattle.fp_facts.specs.Sorts.{same_sort, same_sorts}

same-either : (t : Bool) → cond t false false ≡ false
same-either true = refl
same-either false = refl

-- unequal lengths
pub same_sorts-unlike : (a b : List Sort) → length a ≢ length b → same_sorts a b ≡ false
same_sorts-unlike [] [] h = absurd (h refl)
same_sorts-unlike [] (y ∷ b) h = refl
same_sorts-unlike (x ∷ a) [] h = refl
same_sorts-unlike (x ∷ a) (y ∷ b) h = ap (λ v. cond (same_sort x y) v false) (same_sorts-unlike a b (λ e. h (ap suc e))) ∙ same-either (same_sort x y)

-- the words from a place on
pub same_sorts-drop : (i : ℕ) (a b : List Sort) (d : Sort) → i < length a → i < length b
    → same_sorts (drop i a) (drop i b) ≡ cond (same_sort (slice_index_or a i d) (slice_index_or b i d)) (same_sorts (drop (i + 1) a) (drop (i + 1) b)) false
same_sorts-drop i a b d h k = ap (λ v. same_sorts v (drop i b)) (drop_more a i d h) ∙ ap (λ v. same_sorts (slice_index_or a i d ∷ drop (i + 1) a) v) (drop_more b i d k)

pub ruleset comparing = (same_sorts-unlike, same_sorts-drop)
