-- Contributions joined one by one, and the tasks that they wake.
use Rattle.std.proofs.Common.{◌≡◌, ◌==◌, ◌<◌, ◌+◌, ◌&&◌, ◌||◌, ℕ, Bool, not, IsTrue, List, [], ◌∷◌, length, get_or, set, take, bit_or, cond, if◌then◌else◌, refl, sym, ap, subst, ◌∙◌, inl, inr}
use Rattle.std.specs.Int.Bits.{or_zero_r}
use Rattle.std.proofs.lemmas.Bool.{cases_eq, eq-eqb, ne_eqb, not-true}
use Rattle.std.proofs.lemmas.List.{take_more, get_or-set_same, get_or-set_other}
use Rattle.fp_bits.specs.Words.{IsWithin, or_assoc, within-refl, within-trans, within-antisym, within-or_left}
use Rattle.fp_eqs.specs.Answers.{bits_of}
use Rattle.fp_eqs.specs.Demand.{any_below}
use Rattle.fp_eqs.specs.Tests.{left, right, either, both, parts, any-here, any-grows}
use Rattle.fp_eqs.proofs.Told.{bits_of-append}
use Rattle.fp_solo.specs.Solving.{Wakes}

-- ---- one contribution after another

pub joined-more : (old now new : List ℕ) (pairs : List (ℕ × ℕ)) (i : ℕ) → i < length pairs →
    ((p : ℕ) → get_or now p 0 ≡ bit_or (get_or old p 0) (bits_of (take i pairs) p)) →
    ((p : ℕ) → get_or new p 0 ≡ bit_or (get_or now p 0) (if (get_or pairs i (0, 0)).0 == p then (get_or pairs i (0, 0)).1 else 0)) →
    (p : ℕ) → get_or new p 0 ≡ bit_or (get_or old p 0) (bits_of (take (i + 1) pairs) p)
joined-more old now new pairs i lt so_far here p =
    let e : ℕ × ℕ = get_or pairs i (0, 0) in
    let one : ℕ = cond (e.0 == p) e.1 0 in
    let bits : bits_of (take (i + 1) pairs) p ≡ bit_or (bits_of (take i pairs) p) one =
    ap (λ (es : List (ℕ × ℕ)). bits_of es p) (take_more pairs i (0, 0) lt) ∙ bits_of-append (take i pairs) (e ∷ []) p ∙ ap (λ v. bit_or (bits_of (take i pairs) p) v) (or_zero_r one) in
    here p ∙ ap (λ v. bit_or v one) (so_far p) ∙ or_assoc (get_or old p 0) (bits_of (take i pairs) p) one ∙ ap (λ v. bit_or (get_or old p 0) v) (sym bits)

-- a contribution that changes nothing at its place changes nothing
pub joins-nothing : (v : ℕ → ℕ) (q bits : ℕ) → bit_or (v q) bits ≡ v q → (p : ℕ) → v p ≡ bit_or (v p) (if q == p then bits else 0)
joins-nothing v q bits same p = elim (cases_eq q p) [
  | inl here ↦ subst (λ r. v r ≡ bit_or (v r) (if q == r then bits else 0)) here (sym same ∙ sym (ap (λ b. bit_or (v q) (if b then bits else 0)) (eq-eqb q q refl)))
  | inr other ↦ sym (ap (λ b. bit_or (v p) (if b then bits else 0)) (ne_eqb q p other) ∙ or_zero_r (v p))
]

-- ---- waking

pub wakes-none : (places : ℕ) (r : ℕ → ℕ → Bool) (v : ℕ → ℕ) (d : ℕ → Bool) → Wakes places r v v d d
wakes-none places r v d = record {
  grows = λ p. within-refl (v p);
  kept = λ t h. h;
  woken = λ t p h ne. absurd (ne refl);
  only = λ t h. left (d t) (any_below (λ p. r t p && not (v p == v p)) places) h;
}

differs : (x y : ℕ) → IsTrue (not (x == y)) → x ≡ y → ⊥
differs x y h e = let same = eq-eqb x y e in let other = not-true (x == y) h in cc

is-other : (x y : ℕ) → (x ≡ y → ⊥) → IsTrue (not (x == y))
is-other x y ne = ap not (ne_eqb x y ne)

pub wakes-both : (places : ℕ) (r : ℕ → ℕ → Bool) (v u w : ℕ → ℕ) (d c b : ℕ → Bool) → Wakes places r v u d c → Wakes places r u w c b → Wakes places r v w d b
wakes-both places r v u w d c b h k = record {
  grows = λ p. within-trans (v p) (u p) (w p) (h.grows p) (k.grows p);
  kept = λ t on. k.kept t (h.kept t on);
  woken = λ t p reads ne. elim (cases_eq (v p) (u p)) [
    | inl same ↦ k.woken t p reads (λ e. ne (same ∙ e))
    | inr changed ↦ k.kept t (h.woken t p reads changed)
  ];
  only = λ t on. elim (either (c t) (any_below (λ p. r t p && not (u p == w p)) places) (k.only t on)) [
    | inl before ↦ elim (either (d t) (any_below (λ p. r t p && not (v p == u p)) places) (h.only t before)) [
      | inl due ↦ left (d t) (any_below (λ p. r t p && not (v p == w p)) places) due
      | inr first ↦ right (d t) (any_below (λ p. r t p && not (v p == w p)) places) (any-grows (λ p. r t p && not (v p == u p)) (λ p. r t p && not (v p == w p)) places (λ p _ q. early t p q) first)
    ]
    | inr second ↦ right (d t) (any_below (λ p. r t p && not (v p == w p)) places) (any-grows (λ p. r t p && not (u p == w p)) (λ p. r t p && not (v p == w p)) places (λ p _ q. late t p q) second)
  ];
}
  where
    early : (t p : ℕ) → IsTrue (r t p && not (v p == u p)) → IsTrue (r t p && not (v p == w p))
    early t p q =
        let known = parts (r t p) (not (v p == u p)) q in
        both (r t p) (not (v p == w p)) known.0 (is-other (v p) (w p) (λ e. differs (v p) (u p) known.1 (within-antisym (v p) (u p) (h.grows p) (subst (IsWithin (u p)) (sym e) (k.grows p)))))

    late : (t p : ℕ) → IsTrue (r t p && not (u p == w p)) → IsTrue (r t p && not (v p == w p))
    late t p q =
        let known = parts (r t p) (not (u p == w p)) q in
        both (r t p) (not (v p == w p)) known.0 (is-other (v p) (w p) (λ e. differs (u p) (w p) known.1 (within-antisym (u p) (w p) (k.grows p) (subst (λ x. IsWithin x (u p)) e (h.grows p)))))

-- one place changes, and its readers are due
pub wakes-one : (places : ℕ) (r : ℕ → ℕ → Bool) (v u : ℕ → ℕ) (d c : ℕ → Bool) (q bits : ℕ) → q < places → ((p : ℕ) → u p ≡ bit_or (v p) (if q == p then bits else 0)) → (v q ≡ u q → ⊥) →
    ((t : ℕ) → c t ≡ (d t || r t q)) → Wakes places r v u d c
wakes-one places r v u d c q bits inside joined changed due = record {
  grows = λ p. subst (IsWithin (v p)) (sym (joined p)) (within-or_left (v p) (if q == p then bits else 0));
  kept = λ t on. subst (λ b. IsTrue b) (sym (due t)) (left (d t) (r t q) on);
  woken = λ t p reads ne. elim (cases_eq q p) [
    | inl here ↦ subst (λ b. IsTrue b) (sym (due t)) (right (d t) (r t q) (subst (λ x. IsTrue (r t x)) (sym here) reads))
    | inr other ↦ absurd (ne (sym (joined p ∙ ap (λ b. bit_or (v p) (if b then bits else 0)) (ne_eqb q p other) ∙ or_zero_r (v p))))
  ];
  only = λ t on. elim (either (d t) (r t q) (subst (λ b. IsTrue b) (due t) on)) [
    | inl before ↦ left (d t) (any_below (λ p. r t p && not (v p == u p)) places) before
    | inr reads ↦ right (d t) (any_below (λ p. r t p && not (v p == u p)) places) (any-here (λ p. r t p && not (v p == u p)) places q inside (both (r t q) (not (v q == u q)) reads (is-other (v q) (u q) changed)))
  ];
}

-- a word is joined to its place in a list
pub joins-here : (values : List ℕ) (q bits word : ℕ) → q < length values → word ≡ get_or values q 0 → (p : ℕ) → get_or (set values q (bit_or word bits)) p 0 ≡ bit_or (get_or values p 0) (if q == p then bits else 0)
joins-here values q bits word inside is p = elim (cases_eq q p) [
  | inl same ↦ subst (λ r. get_or (set values q (bit_or word bits)) r 0 ≡ bit_or (get_or values r 0) (if q == r then bits else 0)) same
      (get_or-set_same values q (bit_or word bits) 0 inside ∙ ap (λ w. bit_or w bits) is ∙ sym (ap (λ b. bit_or (get_or values q 0) (if b then bits else 0)) (eq-eqb q q refl)))
  | inr other ↦ get_or-set_other values q p (bit_or word bits) 0 (λ e. other (sym e)) ∙ sym (ap (λ b. bit_or (get_or values p 0) (if b then bits else 0)) (ne_eqb q p other) ∙ or_zero_r (get_or values p 0))
]

-- due tasks may be spelled otherwise
pub wakes-along : (places : ℕ) (r : ℕ → ℕ → Bool) (v u : ℕ → ℕ) (d b c : ℕ → Bool) → ((t : ℕ) → d t ≡ b t) → Wakes places r v u d c → Wakes places r v u b c
wakes-along places r v u d b c same h = record {
  grows = h.grows;
  kept = λ t on. h.kept t (subst (λ x. IsTrue x) (sym (same t)) on);
  woken = h.woken;
  only = λ t on. subst (λ x. IsTrue (x || any_below (λ p. r t p && not (v p == u p)) places)) (same t) (h.only t on);
}
