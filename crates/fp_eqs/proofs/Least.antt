-- Whole rounds end in the least solution.
use Rattle.std.proofs.Common.{◌≡◌, ◌≢◌, ◌<◌, ◌≤◌, ◌+◌, ◌*◌, ◌^◌, ◌⊎◌, ℕ, refl, sym, ap, subst, ◌∙◌, inl, inr, arith, zero, suc, add-one}
use Rattle.std.proofs.lemmas.Bool.{cases_lt}
use Rattle.fp_bits.specs.Words.{within-refl, within-trans, or-within, or-fits, within-or_left, within-or_right}
use Rattle.fp_eqs.specs.Equations.{Equations, IsMonotone, IsBelow, IsWords}
use Rattle.fp_eqs.specs.Solution.{joined, round, after_rounds, solution, IsLeastSolution}
use Rattle.fp_eqs.specs.Bounds.{sum_below}
use Rattle.fp_eqs.proofs.Sums.{sum_below-le, sum_below-same, sum_below-most, joined-within, within-joined, joined-fits, joined-none, bits_in, bits_in-le, bits_in-most, bits_in-same}

pub IsClosed : Equations → (ℕ → ℕ) → Type 0
IsClosed e b = (t : ℕ) → t < e.tasks → IsBelow ((e.task t).out b) b

zero-or-not : (n : ℕ) → (n ≡ 0) ⊎ (n ≢ 0)
zero-or-not n = elim (cases_lt 0 n) [ inl pos ↦ inr (λ z. omega arith) | inr z ↦ inl (omega arith) ]

pub solution-rounds : (e : Equations) → solution e ≡ after_rounds e (64 * e.places + 1)
unfolding solution
solution-rounds e = refl

-- once a round changes nothing, no later one does
pub stays : (e : Equations) (a : ℕ → ℕ) (k : ℕ) → ((p : ℕ) → after_rounds e k p ≡ a p) → ((p : ℕ) → round e a p ≡ a p) → (m : ℕ) → k ≤ m → (p : ℕ) → after_rounds e m p ≡ a p
stays e a k is same zero le p = ap (λ n. after_rounds e n p) (none k le) ∙ is p
  where
    none : (n : ℕ) → n ≤ 0 → 0 ≡ n
    none n h = omega (arith, h)
stays e a k is same (suc m) le p =
    elim (cases_lt m k) [
      | inl last ↦ ap (λ n. after_rounds e n p) (at_last m k last le) ∙ is p
      | inr before ↦ ap (λ (f : ℕ → ℕ). round e f p) (λ i q. stays e a k is same m before q i) ∙ same p
    ]
  where
    at_last : (m n : ℕ) → m < n → n ≤ suc m → suc m ≡ n
    at_last m n below above = omega (arith, below, above)

module _ (e : Equations) (laws : IsMonotone e) where
  -- a task contributes to none but the places of the system
  pub out-past : (t : ℕ) → t < e.tasks → (a : ℕ → ℕ) (p : ℕ) → e.places ≤ p → (e.task t).out a p ≡ 0
  out-past t lt a p past =
      elim (zero-or-not ((e.task t).out a p)) [
        | inl z ↦ z
        | inr some ↦ (let k = laws.lawful t lt in absurd (omega (arith, k.makes_places p (k.gives_made a p some))))
      ]

  pub after_rounds-fits : (k : ℕ) → IsWords (after_rounds e k)
  after_rounds-fits zero p = laws.fixed_fits p
  after_rounds-fits (suc k) p =
      or-fits (after_rounds e k p) _ (after_rounds-fits k p)
      (joined-fits (λ t. (e.task t).out (after_rounds e k) p) e.tasks (λ t lt. (laws.lawful t lt).out_fits (after_rounds e k) (after_rounds-fits k) p))

  pub after_rounds-past : (k p : ℕ) → e.places ≤ p → after_rounds e k p ≡ 0
  after_rounds-past zero p past = laws.fixed_places p past
  after_rounds-past (suc k) p past =
      rw (after_rounds-past k p past, joined-none (λ t. (e.task t).out (after_rounds e k) p) e.tasks (λ t lt. out-past t lt (after_rounds e k) p past)) refl

  round-grows : (a : ℕ → ℕ) → IsBelow a (round e a)
  round-grows a p = within-or_left (a p) (joined (λ t. (e.task t).out a p) e.tasks)

  -- no round leaves what is closed
  pub after_rounds-within : (b : ℕ → ℕ) → IsBelow e.fixed b → IsClosed e b → (k : ℕ) → IsBelow (after_rounds e k) b
  unfolding IsClosed
  after_rounds-within b fixed closed zero p = fixed p
  after_rounds-within b fixed closed (suc k) p =
      or-within (after_rounds e k p) _ (b p) (after_rounds-within b fixed closed k p)
      (joined-within (λ t. (e.task t).out (after_rounds e k) p) e.tasks (b p) (λ t lt.
      within-trans _ ((e.task t).out b p) (b p)
      ((laws.lawful t lt).out_grows (after_rounds e k) b (after_rounds-within b fixed closed k) p)
      (closed t lt p)))

  IsStable : ℕ → Type 0
  IsStable k = (p : ℕ) → after_rounds e k p ≡ after_rounds e (suc k) p

  weight : ℕ → ℕ
  weight k = sum_below (λ p. bits_in (after_rounds e k p)) e.places

  weight-grows : (k : ℕ) → weight k ≤ weight (suc k)
  unfolding weight
  weight-grows k = sum_below-le (λ p. bits_in (after_rounds e k p)) (λ p. bits_in (after_rounds e (suc k) p)) e.places (λ p _. bits_in-le _ _ (round-grows (after_rounds e k) p))

  weight-most : (k : ℕ) → weight k ≤ 64 * e.places
  unfolding weight
  weight-most k = sum_below-most (λ p. bits_in (after_rounds e k p)) 64 e.places (λ p _. bits_in-most (after_rounds e k p))

  -- a round that adds no bit changes nothing
  stable-weight : (k : ℕ) → weight (suc k) ≤ weight k → IsStable k
  unfolding weight IsStable
  stable-weight k le p =
      elim (cases_lt p e.places) [
        | inl here ↦ bits_in-same _ _ (after_rounds-fits k p) (after_rounds-fits (suc k) p) (round-grows (after_rounds e k) p)
            (let same = sum_below-same (λ q. bits_in (after_rounds e k q)) (λ q. bits_in (after_rounds e (suc k) q)) e.places (λ q _. bits_in-le _ _ (round-grows (after_rounds e k) q)) le p here in omega arith)
        | inr past ↦ after_rounds-past k p past ∙ sym (after_rounds-past (suc k) p past)
      ]

  stable-next : (k : ℕ) → IsStable k → IsStable (suc k)
  unfolding IsStable
  stable-next k h p = ap (λ (a : ℕ → ℕ). round e a p) (λ i q. h q i)

  stable-or-heavy : (k : ℕ) → IsStable k ⊎ (k < weight (suc k))
  stable-or-heavy zero =
      elim (cases_lt (weight 0) (weight (suc 0))) [ inl more ↦ inr (omega arith) | inr same ↦ inl (stable-weight 0 same) ]
  stable-or-heavy (suc k) =
      elim (stable-or-heavy k) [
        | inl stable ↦ inl (stable-next k stable)
        | inr heavy ↦ elim (cases_lt (weight (suc k)) (weight (suc (suc k)))) [ inl more ↦ inr (omega arith) | inr same ↦ inl (stable-weight (suc k) same) ]
      ]

  stable-end : IsStable (suc (64 * e.places))
  stable-end =
      elim (stable-or-heavy (64 * e.places)) [
        | inl stable ↦ stable-next (64 * e.places) stable
        | inr heavy ↦ absurd (omega (arith, weight-most (suc (64 * e.places))))
      ]

  pub solution-is : (p : ℕ) → solution e p ≡ after_rounds e (suc (64 * e.places)) p
  unfolding solution
  solution-is p = ap (λ k. after_rounds e k p) (add-one (64 * e.places))

  end-closed : IsClosed e (after_rounds e (suc (64 * e.places)))
  unfolding IsClosed IsStable
  end-closed t lt p =
      let a = after_rounds e (suc (64 * e.places)) in
      let same : a p ≡ round e a p = stable-end p in
      rw same (within-trans ((e.task t).out a p) _ (round e a p) (within-joined (λ u. (e.task u).out a p) e.tasks t lt) (within-or_right (a p) _))

  fixed-within : (k : ℕ) → IsBelow e.fixed (after_rounds e k)
  fixed-within zero p = within-refl (e.fixed p)
  fixed-within (suc k) p = within-trans _ (after_rounds e k p) _ (fixed-within k p) (round-grows (after_rounds e k) p)

  end-least : IsLeastSolution e (after_rounds e (suc (64 * e.places)))
  unfolding IsClosed
  end-least = record {
    holds_fixed = fixed-within (suc (64 * e.places));
    closed = end-closed;
    least = λ b fixed closed. after_rounds-within b fixed closed (suc (64 * e.places));
  }

  solution-end : solution e ≡ after_rounds e (suc (64 * e.places))
  solution-end = λ i p. solution-is p i

  pub solution-least : IsLeastSolution e (solution e)
  solution-least = subst (IsLeastSolution e) (sym solution-end) end-least

  pub solution-fits : IsWords (solution e)
  solution-fits p = subst (λ v. v < 2 ^ 64) (sym (solution-is p)) (after_rounds-fits (suc (64 * e.places)) p)

  pub solution-past : (p : ℕ) → e.places ≤ p → solution e p ≡ 0
  solution-past p past = solution-is p ∙ after_rounds-past (suc (64 * e.places)) p past
