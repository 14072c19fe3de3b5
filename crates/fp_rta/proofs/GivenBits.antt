-- The bits of lists of contributions.
use Rattle.std.proofs.Common.{◌≡◌, ◌≢◌, ◌==◌, ◌<◌, ◌≤◌, ◌+◌, ◌%◌, ◌^◌, ℕ, Bool, true, false, not, IsTrue, List, [], ◌∷◌, ◌++◌, Option, Some, None, bit_or, cond, length, refl, sym, ap, subst, ◌∙◌, arith, inl, inr, suc}
use Rattle.std.proofs.lemmas.Bool.{not-true}
use Rattle.std.proofs.Math.Nat.{mod-lt}
use Rattle.std.specs.Int.Bits.{or_zero_l}
use Rattle.fp_bits.specs.Words.{IsWithin, or-fits, or-grows, within-refl, zero-within}
use Rattle.fp_facts.specs.Hierarchy.{has_number}
use Rattle.fp_eqs.specs.Answers.{asked, bits_of}
use Rattle.fp_eqs.specs.Counts.{count-listed}
use Rattle.fp_eqs.specs.Equations.{count_below}
use Rattle.fp_eqs.specs.Tests.{left, right, either}
use Rattle.fp_eqs.proofs.Told.{bits_of-append}
use Rattle.fp_rta.specs.declared.candidate.Candidate.{Candidate}
use Rattle.fp_rta.specs.Contributions.{bit_pairs, ones, pairs_from}

pub bits-asked : (es : List (ℕ × ℕ)) (p : ℕ) → bits_of es p ≢ 0 → IsTrue (asked es p)
bits-asked [] p h = absurd (h refl)
bits-asked (e ∷ es) p h = by-test (bits-asked es p) (e.0 == p) refl
  where
    by-test : (bits_of es p ≢ 0 → IsTrue (asked es p)) → (b : Bool) → (e.0 == p) ≡ b → IsTrue (asked (e ∷ es) p)
    by-test later true same = left (e.0 == p) (asked es p) same
    by-test later false other =
        let rest : bits_of (e ∷ es) p ≡ bits_of es p = ap (λ b. bit_or (cond b e.1 0) (bits_of es p)) other ∙ or_zero_l (bits_of es p) in
        right (e.0 == p) (asked es p) (later (λ none. h (rest ∙ none)))

-- each word of the list has 64 bits
abbrev pub IsList64 : List (ℕ × ℕ) → Type 0
IsList64 [] = Unit {0}
IsList64 (e ∷ es) = (e.1 < 2 ^ 64) × IsList64 es

fits-here : (b : Bool) (w : ℕ) → w < 2 ^ 64 → cond b w 0 < 2 ^ 64
fits-here true w h = h
fits-here false w h = omega arith

pub bits-fit : (es : List (ℕ × ℕ)) (p : ℕ) → IsList64 es → bits_of es p < 2 ^ 64
bits-fit [] p h = omega arith
bits-fit (e ∷ es) p h = or-fits (cond (e.0 == p) e.1 0) (bits_of es p) (fits-here (e.0 == p) e.1 h.0) (bits-fit es p h.1)

pub ones-fit : (places : List ℕ) → IsList64 (ones places)
ones-fit [] = tt
ones-fit (p ∷ places) = (let one : 1 < 2 ^ 64 = omega arith in one, ones-fit places)

append-fit : (es fs : List (ℕ × ℕ)) → IsList64 es → IsList64 fs → IsList64 (es ++ fs)
append-fit [] fs h k = k
append-fit (e ∷ es) fs h k = (h.0, append-fit es fs h.1 k)

bit-fit : (callees bit : ℕ) (target : Option ℕ) → IsList64 (bit_pairs callees bit target)
bit-fit callees bit None = (mod-lt (2 ^ (bit % 64)) {m = 2 ^ 64} (omega arith), tt)
bit-fit callees bit (Some t) = (mod-lt (2 ^ (bit % 64)) {m = 2 ^ 64} (omega arith), (let one : 1 < 2 ^ 64 = omega arith in one, tt))

here-fit : (b : Bool) (es : List (ℕ × ℕ)) → IsList64 es → IsList64 (cond b es [])
here-fit true es h = h
here-fit false es h = tt

pub pairs-fit : (test : Candidate → Bool) (callees bit : ℕ) (ks : List Candidate) → IsList64 (pairs_from test callees bit ks)
pairs-fit test callees bit [] = tt
pairs-fit test callees bit (k ∷ ks) =
    append-fit (cond (test k) (bit_pairs callees bit k.target) []) (pairs_from test callees (bit + 1) ks) (here-fit (test k) (bit_pairs callees bit k.target) (bit-fit callees bit k.target)) (pairs-fit test callees (bit + 1) ks)

-- a list of which less is given gives less
pub pairs-grow : (f g : Candidate → Bool) (callees bit : ℕ) (ks : List Candidate) (p : ℕ) → ((k : Candidate) → IsTrue (f k) → IsTrue (g k)) →
    IsWithin (bits_of (pairs_from f callees bit ks) p) (bits_of (pairs_from g callees bit ks) p)
pairs-grow f g callees bit [] p h = within-refl 0
pairs-grow f g callees bit (k ∷ ks) p h =
    let here : List (ℕ × ℕ) = bit_pairs callees bit k.target in
    let nothing : List (ℕ × ℕ) = [] in
    let less = pairs_from f callees (bit + 1) ks in
    let more = pairs_from g callees (bit + 1) ks in
    let rest = or-grows (bits_of (cond (f k) here nothing) p) (bits_of less p) (bits_of (cond (g k) here nothing) p) (bits_of more p)
    (here-grows (f k) (g k) here (h k)) (pairs-grow f g callees (bit + 1) ks p h) in
    subst (λ v. IsWithin v (bits_of (pairs_from g callees bit (k ∷ ks)) p)) (sym (bits_of-append (cond (f k) here nothing) less p))
    (subst (λ v. IsWithin (bit_or (bits_of (cond (f k) here nothing) p) (bits_of less p)) v) (sym (bits_of-append (cond (g k) here nothing) more p)) rest)
  where
    here-grows : (b c : Bool) (es : List (ℕ × ℕ)) → (IsTrue b → IsTrue c) → IsWithin (bits_of (cond b es []) p) (bits_of (cond c es []) p)
    here-grows true c es k = subst (λ d. IsWithin (bits_of es p) (bits_of (cond d es []) p)) (sym (k refl)) (within-refl (bits_of es p))
    here-grows false c es k = zero-within (bits_of (cond c es []) p)

-- the places of a list
abbrev pub places_in : List (ℕ × ℕ) → List ℕ
places_in [] = []
places_in (e ∷ es) = e.0 ∷ places_in es

pub asked-in : (es : List (ℕ × ℕ)) (p : ℕ) → IsTrue (asked es p) → IsTrue (has_number (places_in es) p)
asked-in [] p h = h
asked-in (e ∷ es) p h = elim (either (e.0 == p) (asked es p) h) [
  | inl here ↦ left (e.0 == p) (has_number (places_in es) p) here
  | inr later ↦ right (e.0 == p) (has_number (places_in es) p) (asked-in es p later)
]

pub places-long : (es : List (ℕ × ℕ)) → length (places_in es) ≡ length es
places-long [] = refl
places-long (e ∷ es) = ap suc (places-long es)

some-test : (n : ℕ) → IsTrue (not (n == 0)) → n ≢ 0
some-test n h e = let here : (n == 0) ≡ true = rw e refl in let other = not-true (n == 0) h in cc

-- no more places get bits than the list has pairs
pub few-given : (es : List (ℕ × ℕ)) (f : ℕ → ℕ) (n : ℕ) → ((p : ℕ) → f p ≢ 0 → IsTrue (asked es p)) → count_below (λ p. not (f p == 0)) n ≤ length es
few-given es f n h =
    let few = count-listed (λ p. not (f p == 0)) (places_in es) n (λ p k. asked-in es p (h p (some-test (f p) k))) in
    omega (arith, few, places-long es)
