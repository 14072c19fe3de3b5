-- Questions that are forgotten one by one, and how many there are.
use Rattle.std.proofs.Common.{◌≡◌, ◌==◌, ◌<◌, ◌≤◌, ◌||◌, ℕ, Bool, false, IsTrue, List, [], ◌∷◌, ◌++◌, length, set, sym, subst, inl, inr, arith}
use Rattle.std.proofs.lemmas.Bool.{cases_eq, cases_lt, eqb-true}
use Rattle.std.proofs.lemmas.List.{get_or_past, get_or-set_same, get_or-set_other}
use Rattle.fp_eqs.specs.Answers.{asked, distinct}
use Rattle.fp_eqs.specs.Counts.{count_below-most, few-distinct}
use Rattle.fp_eqs.specs.Equations.{IsLawful, Task}
use Rattle.fp_eqs.specs.Solved.{flag_at}
use Rattle.fp_eqs.specs.Tests.{left, right, either, place-here}
use Rattle.fp_eqs.proofs.ReadingLemmas.{asked-push}

-- a set flag is one of the list's
pub flag-inside : (flags : List Bool) (i : ℕ) → IsTrue (flag_at flags i) → i < length flags
flag-inside flags i h = elim (cases_lt i (length flags)) [
  | inl lt ↦ lt
  | inr past ↦ (let none : flag_at flags i ≡ false = get_or_past flags i false past in cc)
]

pub asked-last : (es rest : List (ℕ × ℕ)) (p w : ℕ) → es ≡ rest ++ (p, w) ∷ [] → IsTrue (asked es p)
asked-last es rest p w popped = subst (λ (xs : List (ℕ × ℕ)). IsTrue (asked xs p)) (sym popped) (subst (λ b. IsTrue b) (sym (asked-push rest p w p)) (right (asked rest p) (p == p) (place-here p)))

pub asked-before : (es rest : List (ℕ × ℕ)) (p w q : ℕ) → es ≡ rest ++ (p, w) ∷ [] → IsTrue (asked rest q) → IsTrue (asked es q)
asked-before es rest p w q popped h = subst (λ (xs : List (ℕ × ℕ)). IsTrue (asked xs q)) (sym popped) (subst (λ b. IsTrue b) (sym (asked-push rest p w q)) (left (asked rest q) (p == q) h))

-- once the flag of the last answer's place is taken back, only earlier answers have flags
pub flag-back : (flags : List Bool) (es rest : List (ℕ × ℕ)) (p w q : ℕ) → p < length flags → es ≡ rest ++ (p, w) ∷ [] → ((r : ℕ) → IsTrue (flag_at flags r) → IsTrue (asked es r)) →
    IsTrue (flag_at (set flags p false) q) → IsTrue (asked rest q)
flag-back flags es rest p w q inside popped seen h = elim (cases_eq q p) [
  | inl same ↦ (let none : flag_at (set flags p false) p ≡ false = get_or-set_same flags p false false inside in let wrong : IsTrue (flag_at (set flags p false) p) = subst (λ r. IsTrue (flag_at (set flags p false) r)) same h in cc)
  | inr other ↦
      (let was : IsTrue (flag_at flags q) = subst (λ b. IsTrue b) (get_or-set_other flags p q false false other) h in
      let known : IsTrue (asked rest q || p == q) = subst (λ b. IsTrue b) (asked-push rest p w q) (subst (λ (xs : List (ℕ × ℕ)). IsTrue (asked xs q)) popped (seen q was)) in
      elim (either (asked rest q) (p == q) known) [ inl before ↦ before | inr here ↦ absurd (other (sym (eqb-true p q here))) ])
]

-- distinct places are no more than there are
pub few-answers : (es : List (ℕ × ℕ)) (places : ℕ) → IsTrue (distinct es) → ((p : ℕ) → IsTrue (asked es p) → p < places) → length es ≤ places
few-answers es places once inside = omega (arith, few-distinct es (asked es) places once (λ p h. h) inside, count_below-most (asked es) places)

-- nor more than a task may ask
pub few-asks : (places : ℕ) (k : Task) (a : ℕ → ℕ) (es : List (ℕ × ℕ)) → IsLawful places k → IsTrue (distinct es) → ((p : ℕ) → asked es p ≡ k.uses a p) → length es ≤ k.asks
few-asks places k a es law once asks =
    omega (arith, few-distinct es (k.uses a) places once (λ p h. subst (λ b. IsTrue b) (asks p) h) (law.uses_places a), law.uses_few a)
