-- Ascending edges, and where those of each node begin.
use Rattle.std.proofs.Common.{◌≡◌, ◌<◌, ◌≤◌, ◌+◌, ◌++◌, ℕ, List, [], ◌∷◌, length, slice_index, slice_index_or, sym, subst, inl, inr, arith, zero, suc}
use Rattle.std.proofs.lemmas.Bool.{cases_lt}
use Rattle.std.proofs.lemmas.List.{get_or_append_left, get_or_push}
use Rattle.fp_facts.specs.Dataflow.{Edge}
use Rattle.fp_flow.specs.Ascending.{IsAscending}

pub ascending-at : (edges : List Edge) → IsAscending edges → (i j : ℕ) (e : Edge) → i ≤ j → j < length edges → (slice_index_or edges i e).0 ≤ (slice_index_or edges j e).0
ascending-at [] h i j e le lt = absurd (omega arith)
ascending-at (x ∷ xs) h zero zero e le lt = omega arith
ascending-at (x ∷ xs) h zero (suc j) e le lt = h.0 j e (omega arith)
ascending-at (x ∷ xs) h (suc i) zero e le lt = absurd (omega arith)
ascending-at (x ∷ xs) h (suc i) (suc j) e le lt = ascending-at xs h.1 i j e (omega arith) (omega arith)

-- what holds of each number of a list by its place holds after one more
pub pushed-at : (P : ℕ → ℕ → Type 0) (xs : List ℕ) (m x : ℕ) → length xs ≡ m → ((n : ℕ) → n < m → P n (slice_index xs n)) → P m x → (n : ℕ) → n < m + 1 → P n (slice_index (xs ++ x ∷ []) n)
pushed-at P xs m x long each here n lt =
    elim (cases_lt n m) [
      | inl less ↦ subst (P n) (sym (get_or_append_left xs (x ∷ []) 0 n (omega arith))) (each n less)
      | inr same ↦ subst (P n) (sym (get_or_push xs x 0 n (omega arith))) (let e : m ≡ n = omega arith in subst (λ k. P k x) e here)
    ]
