-- The offsets of instructions rise, and the number of an instruction is the place of its offset.
use Rattle.std.proofs.Common.{◌≡◌, ◌+◌, ◌-◌, ◌<◌, ◌≤◌, ◌==◌, nat_lt, ℕ, Bool, true, false, List, [], ◌∷◌, Some, None, Result, Ok, Err, MatchResult, length, get_or, zero, suc, refl, subst, ap, sym, ◌∙◌, arith, inl, inr}
use Rattle.std.specs.List.{list_any, position_or_len}
use Rattle.std.specs.Option.{unwrap_or}
use Rattle.std.proofs.lemmas.Bool.{and_parts, and_from, ltb-true, ltb-false, lt-ltb, eq-eqb, ne_eqb, both_ways, cond_both, cases_lt}
use Rattle.std.proofs.lemmas.List.Sums.{position_or_len_is, fails_before_first}
use Rattle.std.proofs.lemmas.List.Folds.{Any-from_list_any}
use Rattle.fp_model.specs.declared.class.Code.{Code}
use Rattle.fp_model.specs.declared.class.instr.Instr.{Instr}
use Rattle.fp_model.specs.SoundCode.{IsSoundCode, ascend_above, ascend_from_0, pcs_of}
use Rattle.std.proofs.lemmas.List.{get_or-map, length-map}
use Rattle.fp_facts.specs.Edges.{number_at}

above-rise : (before : ℕ) (pcs : List ℕ) (i : ℕ) → ascend_above before pcs ≡ true → i < length pcs → before + i < get_or pcs i 0
unfolding ascend_above
above-rise before [] i h lt = absurd (omega arith)
above-rise before (pc ∷ pcs) zero h lt =
    let known = and_parts (nat_lt before pc) (ascend_above pc pcs) h in omega (arith, ltb-true before pc known.0)
above-rise before (pc ∷ pcs) (suc i) h lt =
    let known = and_parts (nat_lt before pc) (ascend_above pc pcs) h in
    let rest : i < length pcs = omega arith in
    omega (arith, ltb-true before pc known.0, above-rise pc pcs i known.1 rest)

rise-within : (before : ℕ) (pcs : List ℕ) (i j : ℕ) → ascend_above before pcs ≡ true → i < j → j < length pcs → get_or pcs i 0 < get_or pcs j 0
unfolding ascend_above
rise-within before [] i j h le lt = absurd (omega arith)
rise-within before (pc ∷ pcs) i zero h le lt = absurd (omega arith)
rise-within before (pc ∷ pcs) zero (suc j) h le lt =
    let known = and_parts (nat_lt before pc) (ascend_above pc pcs) h in
    let rest : j < length pcs = omega arith in
    omega (arith, above-rise pc pcs j known.1 rest)
rise-within before (pc ∷ pcs) (suc i) (suc j) h le lt =
    let known = and_parts (nat_lt before pc) (ascend_above pc pcs) h in
    let less : i < j = omega arith in
    let rest : j < length pcs = omega arith in rise-within pc pcs i j known.1 less rest

pub offsets-rise : (pcs : List ℕ) (i j : ℕ) → ascend_from_0 pcs ≡ true → i < j → j < length pcs → get_or pcs i 0 < get_or pcs j 0
offsets-rise [] i j h le lt = absurd (omega arith)
offsets-rise (pc ∷ pcs) i zero h le lt = absurd (omega arith)
offsets-rise (pc ∷ pcs) zero (suc j) h le lt =
    let known = and_parts (pc == 0) (ascend_above pc pcs) h in
    let rest : j < length pcs = omega arith in
    omega (arith, above-rise pc pcs j known.1 rest)
offsets-rise (pc ∷ pcs) (suc i) (suc j) h le lt =
    let known = and_parts (pc == 0) (ascend_above pc pcs) h in
    let less : i < j = omega arith in
    let rest : j < length pcs = omega arith in rise-within pc pcs i j known.1 less rest

pub offsets-not_fall : (pcs : List ℕ) → ascend_from_0 pcs ≡ true → (i j : ℕ) → i ≤ j → j < length pcs → get_or pcs i 0 ≤ get_or pcs j 0
offsets-not_fall pcs h i j le lt =
    elim (cases_lt i j) [
      | inl less ↦ omega (arith, offsets-rise pcs i j h less lt)
      | inr same ↦ let is : i ≡ j = omega arith in rw is (omega arith)
    ]

-- an instruction takes a byte at least
pub number-most : (pcs : List ℕ) (i : ℕ) → ascend_from_0 pcs ≡ true → i < length pcs → i ≤ get_or pcs i 0
number-most [] i h lt = absurd (omega arith)
number-most (pc ∷ pcs) zero h lt = omega arith
number-most (pc ∷ pcs) (suc i) h lt =
    let known = and_parts (pc == 0) (ascend_above pc pcs) h in
    let rest : i < length pcs = omega arith in
    omega (arith, above-rise pc pcs i known.1 rest)

pub offsets-few : (pcs : List ℕ) (n : ℕ) → ascend_from_0 pcs ≡ true → ((k : ℕ) → get_or pcs k 0 < n) → length pcs ≤ n
offsets-few pcs n h below =
    elim (cases_lt 0 (length pcs)) [
      | inl some ↦
          let last : ℕ = length pcs - 1 in
          let lt : last < length pcs = omega arith in
          omega (arith, number-most pcs last h lt, below last)
      | inr none ↦ omega arith
    ]

-- ---- numbers

pub number_at-is : (pcs : List ℕ) (pc i : ℕ) → i ≤ length pcs → ((k : ℕ) → k < i → get_or pcs k 0 ≡ pc → ⊥) → (i < length pcs → get_or pcs i 0 ≡ pc) → number_at pcs pc ≡ i
number_at-is pcs pc i le before here =
    let test : ℕ → Bool = λ other. other == pc in
    let is : position_or_len test pcs ≡ i =
    position_or_len_is test pcs i 0 le (λ k lt. ne_eqb (get_or pcs k 0) pc (before k lt)) (λ lt. eq-eqb (get_or pcs i 0) pc (here lt)) in
    cond_both (nat_lt (position_or_len test pcs) (length pcs)) (Some (position_or_len test pcs)) None (λ o. unwrap_or o (length pcs) ≡ i)
    (λ _. is)
    (λ past. omega (arith, ltb-false (position_or_len test pcs) (length pcs) past))

-- what a binary search finds
abbrev pub IsFound : List ℕ → ℕ → Result ℕ ℕ → Type 0
IsFound pcs pc r =
    MatchResult r (λ i. (i < length pcs) × (get_or pcs i 0 ≡ pc))
    (λ i. (i ≤ length pcs) × ((k : ℕ) → k < i → get_or pcs k 0 < pc) × ((k : ℕ) → i ≤ k → k < length pcs → pc < get_or pcs k 0))

pub number-found : (pcs : List ℕ) (pc : ℕ) (r : Result ℕ ℕ) → ascend_from_0 pcs ≡ true → IsFound pcs pc r → MatchResult r (λ i. i ≡ number_at pcs pc) (λ i. length pcs ≡ number_at pcs pc)
number-found pcs pc (Ok i) h found =
    let le : i ≤ length pcs = omega (arith, found.0) in
    sym (number_at-is pcs pc i le (λ k less same. omega (arith, offsets-rise pcs k i h less found.0, found.1)) (λ _. found.1))
number-found pcs pc (Err i) h found =
    let all : length pcs ≤ length pcs = omega arith in
    sym (number_at-is pcs pc (length pcs) all
    (λ k less same.
    elim (cases_lt k i) [
      | inl before ↦ omega (arith, found.1 k before)
      | inr behind ↦ omega (arith, found.2 k behind less)
    ])
    (λ past. absurd (omega arith)))

-- where an instruction stands, its number is one
pub number_at-within : (pcs : List ℕ) (pc : ℕ) → list_any (λ other. other == pc) pcs ≡ true → number_at pcs pc < length pcs
number_at-within pcs pc h =
    let test : ℕ → Bool = λ other. other == pc in
    let found = Any-from_list_any test pcs h in
    cond_both (nat_lt (position_or_len test pcs) (length pcs)) (Some (position_or_len test pcs)) None (λ o. unwrap_or o (length pcs) < length pcs)
    (λ within. ltb-true (position_or_len test pcs) (length pcs) within)
    (λ past.
    let less : found.0 < position_or_len test pcs = omega (arith, ltb-false (position_or_len test pcs) (length pcs) past, found.2) in
    let fails = fails_before_first test pcs found.0 found.1 less in
    absurd (both_ways (test found.1) (subst (λ x. test x ≡ false) found.3 fails) found.4))

-- the instructions of a code have few numbers, since their offsets are short
pub instrs-few : (code : Code) (pcs : List ℕ) (n : ℕ) → IsSoundCode code → pcs ≡ pcs_of code → ((k : ℕ) → get_or pcs k 0 < n) → length code.instrs ≤ n
instrs-few code pcs n sound is below =
    let ascend : ascend_from_0 pcs ≡ true = ap ascend_from_0 is ∙ sound.pcs in
    omega (arith, offsets-few pcs n ascend below, ap length is, length-map code.instrs (λ (i : ℕ × Instr). i.0))

-- ---- offsets that rise ascend

ascend-above : (before : ℕ) (pcs : List ℕ) → (0 < length pcs → before < get_or pcs 0 0) → ((j : ℕ) → suc j < length pcs → get_or pcs j 0 < get_or pcs (suc j) 0) → ascend_above before pcs ≡ true
unfolding ascend_above
ascend-above before [] first more = refl
ascend-above before (pc ∷ pcs) first more =
    and_from (nat_lt before pc) (ascend_above pc pcs) (lt-ltb before pc (first (omega arith)))
    (ascend-above pc pcs (λ some. more 0 (omega arith)) (λ j lt. more (suc j) (omega arith)))

pub ascend-from_0 : (pcs : List ℕ) → 0 < length pcs → get_or pcs 0 0 ≡ 0 → ((j : ℕ) → suc j < length pcs → get_or pcs j 0 < get_or pcs (suc j) 0) → ascend_from_0 pcs ≡ true
ascend-from_0 [] some first more = absurd (omega arith)
ascend-from_0 (pc ∷ pcs) some first more =
    and_from (pc == 0) (ascend_above pc pcs) (eq-eqb pc 0 first)
    (ascend-above pc pcs (λ some. more 0 (omega arith)) (λ j lt. more (suc j) (omega arith)))

-- the offset of the instruction at hand
pub offset-here : (code : Code) (pcs : List ℕ) (k : ℕ) (i : ℕ × Instr) → pcs ≡ pcs_of code → k < length code.instrs → i ≡ get_or code.instrs k i → get_or pcs k 0 ≡ i.0
offset-here code pcs k i is lt at = ap (λ l. get_or l k 0) is ∙ get_or-map (λ i. i.0) code.instrs k i 0 lt ∙ ap (λ (i : ℕ × Instr). i.0) (sym at)
