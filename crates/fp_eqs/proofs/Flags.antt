-- Lists of flags as sets of places, and how places are marked in them.
use Rattle.std.proofs.Common.{◌≡◌, ◌==◌, ◌<◌, ◌≤◌, ◌+◌, ◌||◌, ◌&&◌, ℕ, Bool, true, false, not, IsTrue, List, [], ◌∷◌, ◌++◌, length, get_or, set, take, refl, sym, ap, subst, ◌∙◌, inl, inr, arith}
use Rattle.std.proofs.Math.ListN.{length-set}
use Rattle.std.proofs.lemmas.Bool.{cases_eq, ne_eqb}
use Rattle.std.proofs.lemmas.List.{get_or-set_same, get_or-set_other, get_or_append_left, take_more, length_push}
use Rattle.std.proofs.lemmas.List.Folds.{list_any-append}
use Rattle.fp_eqs.specs.Answers.{asked}
use Rattle.fp_eqs.specs.Counts.{but, count_below-le, count_below-with, count_below-most}
use Rattle.fp_eqs.specs.Equations.{count_below}
use Rattle.fp_eqs.specs.Needs.{AreFound, GoesOn, is_listed}
use Rattle.fp_eqs.specs.Solved.{flag_at}
use Rattle.fp_eqs.specs.Tests.{left, right, either, same-bool, same-place, place-here}
use Rattle.fp_eqs.proofs.Told.{or-false}
use Rattle.fp_eqs.proofs.ReadingLemmas.{asked-push}

-- one more place is marked
pub mark-one : (flags : List Bool) (q : ℕ) → q < length flags → (p : ℕ) → flag_at (set flags q true) p ≡ (flag_at flags p || q == p)
mark-one flags q inside p =
    elim (cases_eq q p) [
      | inl same ↦ subst (λ r. flag_at (set flags q true) r ≡ (flag_at flags r || q == r)) same
          (get_or-set_same flags q true false inside ∙ sym (right (flag_at flags q) (q == q) (place-here q)))
      | inr other ↦ get_or-set_other flags q p true false (λ e. other (sym e)) ∙ sym (ap (λ b. flag_at flags p || b) (ne_eqb q p other) ∙ or-false (flag_at flags p))
    ]

pub mark-again : (flags : List Bool) (q : ℕ) → IsTrue (flag_at flags q) → (p : ℕ) → flag_at flags p ≡ (flag_at flags p || q == p)
mark-again flags q was p =
    same-bool (flag_at flags p) (flag_at flags p || q == p) (left (flag_at flags p) (q == p))
    (λ h. elim (either (flag_at flags p) (q == p) h) [ inl before ↦ before | inr here ↦ subst (λ r. IsTrue (flag_at flags r)) (same-place q p here) was ])

not-either : (a b : Bool) → IsTrue (not (a || b)) → IsTrue (not a && not b)
not-either true b h = h
not-either false true h = h
not-either false false h = refl

-- one place less is left to be marked
fewer-left : (flags : List Bool) (q n : ℕ) → q < length flags → q < n → flag_at flags q ≡ false →
    count_below (λ p. not (flag_at (set flags q true) p)) n + 1 ≤ count_below (λ p. not (flag_at flags p)) n
fewer-left flags q n inside lt was =
    let f : ℕ → Bool = λ p. not (flag_at flags p) in
    let fewer = count_below-le (λ p. not (flag_at (set flags q true) p)) (but f q) n
    (λ p _ h. not-either (flag_at flags p) (q == p) (subst (λ b. IsTrue (not b)) (mark-one flags q inside p) h)) in
    omega (arith, fewer, count_below-with f q n lt (ap not was))

pub none-found : (flags : List Bool) → ((p : ℕ) → flag_at flags p ≡ false) → AreFound flags []
none-found flags none = record {
  listed = none;
  few = omega (arith, count_below-most (λ p. not (flag_at flags p)) (length flags));
}

pub one-found : (flags : List Bool) (found : List ℕ) (q : ℕ) → q < length flags → flag_at flags q ≡ false → AreFound flags found → AreFound (set flags q true) (found ++ q ∷ [])
one-found flags found q inside was known =
    let long : length (set flags q true) ≡ length flags = length-set flags q true in
    record {
      listed = λ p. mark-one flags q inside p ∙ ap (λ b. b || q == p) (known.listed p) ∙ sym (list_any-append (λ (r : ℕ). r == p) found (q ∷ []) ∙ ap (λ b. is_listed found p || b) (or-false (q == p)));
      few = rw long (omega (arith, fewer-left flags q (length flags) inside inside was, known.few, length_push found q));
    }

pub goes-on-same : (places : List ℕ) → GoesOn places places
goes-on-same places i lt = (lt, refl)

pub goes-on-push : (places : List ℕ) (q : ℕ) → GoesOn places (places ++ q ∷ [])
goes-on-push places q i lt = (omega (arith, lt, length_push places q), get_or_append_left places (q ∷ []) 0 i lt)

pub goes-on-both : (xs ys zs : List ℕ) → GoesOn xs ys → GoesOn ys zs → GoesOn xs zs
goes-on-both xs ys zs h k i lt = let first = h i lt in let second = k i first.0 in (second.0, second.1 ∙ first.1)

or-both : (a b c : Bool) → ((a || b) || c) ≡ (a || (b || c))
or-both true b c = refl
or-both false b c = refl

-- one more answer's place is marked
pub marks-more : (old now new : List Bool) (answers : List (ℕ × ℕ)) (i q w : ℕ) → i < length answers → get_or answers i (0, 0) ≡ (q, w) →
    ((p : ℕ) → flag_at now p ≡ (flag_at old p || asked (take i answers) p)) → ((p : ℕ) → flag_at new p ≡ (flag_at now p || q == p)) →
    (p : ℕ) → flag_at new p ≡ (flag_at old p || asked (take (i + 1) answers) p)
marks-more old now new answers i q w lt item so_far here p =
    let more : asked (take (i + 1) answers) p ≡ (asked (take i answers) p || q == p) =
    ap (λ es. asked es p) (take_more answers i (0, 0) lt ∙ ap (λ (e : ℕ × ℕ). take i answers ++ e ∷ []) item) ∙ asked-push (take i answers) q w p in
    here p ∙ ap (λ b. b || q == p) (so_far p) ∙ or-both (flag_at old p) (asked (take i answers) p) (q == p) ∙ ap (λ b. flag_at old p || b) (sym more)
