-- Answers as an assignment.
use Rattle.std.proofs.Common.{◌≡◌, ◌==◌, ℕ, false, not, IsTrue, List, [], ◌∷◌, cond, sym, ap, subst, ◌∙◌, inl, inr}
use Rattle.std.proofs.lemmas.Bool.{not-true, eq-eqb}
use Rattle.fp_eqs.specs.Answers.{asked, distinct, Agrees, at_pairs}
use Rattle.fp_eqs.specs.Tests.{parts, false-if_not, same-place}
use Rattle.fp_eqs.proofs.Told.{contains-none, contains-cases, asked-contains}

-- an assignment that agrees with answers to distinct places is the answers themselves
pub agrees-own : (es : List (ℕ × ℕ)) → IsTrue (distinct es) → Agrees (at_pairs es) es
agrees-own [] d p w h = absurd (contains-none (p, w) h)
agrees-own (e ∷ es) d p w h =
    let apart = parts (not (asked es e.0)) (distinct es) d in
    elim (contains-cases e es (p, w) h) [
      | inl here ↦
          (let place : e.0 ≡ p = ap (λ (x : ℕ × ℕ). x.0) here in
          let value : e.1 ≡ w = ap (λ (x : ℕ × ℕ). x.1) here in
          ap (λ b. cond b e.1 (at_pairs es p)) (eq-eqb e.0 p place) ∙ value)
      | inr later ↦
          (let other : (e.0 == p) ≡ false = false-if_not (e.0 == p) (λ same.
          let twice : IsTrue (asked es e.0) = subst (λ q. IsTrue (asked es q)) (sym (same-place e.0 p same)) (asked-contains es p w later) in
          let once = not-true (asked es e.0) apart.0 in cc) in
          ap (λ b. cond b e.1 (at_pairs es p)) other ∙ agrees-own es apart.1 p w later)
    ]
