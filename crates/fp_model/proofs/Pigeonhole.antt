-- More pigeons than holes: two of them share a hole.
use Rattle.std.proofs.Common.{◌≡◌, ◌≢◌, ℕ, zero, suc, ◌<◌, cond, eqb, ◌⊎◌, inl, inr, ⊎_elim, sym, ap, ◌∙◌, arith}
use Rattle.std.proofs.lemmas.Bool.{cases_eq, eq-eqb, ne_eqb, cond-true, cond-false}

-- the value is one of the first so many, or it is none of them
first_hit : (f : ℕ → ℕ) (v m : ℕ) → ((i : ℕ) × (i < m) × (f i ≡ v)) ⊎ ((i : ℕ) → i < m → f i ≢ v)
first_hit f v zero = inr (λ i lt. absurd (omega arith))
first_hit f v (suc m) = ⊎_elim
    (λ hit. inl (hit.0, omega arith, hit.2))
    (λ none. ⊎_elim
    (λ here. inl (m, omega arith, here))
    (λ other. inr (λ i lt. ⊎_elim (λ is. λ e. other (sym (ap f is) ∙ e)) (λ isnt. none i (omega arith)) (cases_eq i m)))
    (cases_eq (f m) v))
    (first_hit f v m)

-- the values, with another one in place of the greatest
moved : (n v x : ℕ) → ℕ
moved n v x = cond (eqb x n) v x

moved-below : (n v x : ℕ) → x < suc n → v < suc n → x ≢ v → moved n v x < n
unfolding moved
moved-below n v x small in_range other = ⊎_elim
    (λ is. rw (cond-true (eqb x n) v x (eq-eqb x n is)) (omega arith))
    (λ isnt. rw (cond-false (eqb x n) v x (ne_eqb x n isnt)) (omega arith))
    (cases_eq x n)

moved-same : (n v x y : ℕ) → x ≢ v → y ≢ v → moved n v x ≡ moved n v y → x ≡ y
unfolding moved
moved-same n v x y nx ny e = ⊎_elim
    (λ isx. ⊎_elim
    (λ isy. isx ∙ sym isy)
    (λ isnty. absurd (ny (sym (rw (cond-true (eqb x n) v x (eq-eqb x n isx), cond-false (eqb y n) v y (ne_eqb y n isnty)) at e))))
    (cases_eq y n))
    (λ isntx. ⊎_elim
    (λ isy. absurd (nx (rw (cond-false (eqb x n) v x (ne_eqb x n isntx), cond-true (eqb y n) v y (eq-eqb y n isy)) at e)))
    (λ isnty. rw (cond-false (eqb x n) v x (ne_eqb x n isntx), cond-false (eqb y n) v y (ne_eqb y n isnty)) at e)
    (cases_eq y n))
    (cases_eq x n)

-- two of more than n numbers below n are equal
pub two_share : (n : ℕ) (f : ℕ → ℕ) → ((i : ℕ) → i < suc n → f i < n) → (i : ℕ) × (j : ℕ) × (i < j) × (j < suc n) × (f i ≡ f j)
two_share zero f below = absurd (omega (arith, below 0 (omega arith)))
two_share (suc n) f below = ⊎_elim
    (λ hit. (hit.0, suc n, omega arith, omega arith, hit.2))
    (λ none.
    let share = two_share n (λ i. moved n (f (suc n)) (f i)) (λ i lt. moved-below n (f (suc n)) (f i) (below i (omega arith)) (below (suc n) (omega arith)) (none i lt)) in
    (share.0, share.1, share.2, omega arith, moved-same n (f (suc n)) (f share.0) (f share.1) (none share.0 (omega arith)) (none share.1 share.3) share.4))
    (first_hit f (f (suc n)) (suc n))
