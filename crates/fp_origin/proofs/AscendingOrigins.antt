-- The origins of a word ascend.
use Rattle.std.proofs.Common.{◌≡◌, ◌+◌, ◌<◌, ◌==◌, nat_lt, nat_le, ℕ, Bool, true, false, List, [], ◌∷◌, ◌++◌, Some, None, IfSome, All, length, map, filter, get_or, slice_get, is_some, cond, refl, sym, ap, subst, ◌∙◌, arith, append_assoc}
use Rattle.std.specs.List.{range_with_len}
use Rattle.std.specs.Option.{option_map_or}
use Rattle.std.proofs.lemmas.Bool.{and_parts, both_ways, le-leb, leb-true, lt-ltb, ltb-true}
use Rattle.std.proofs.lemmas.List.Elements.{All-nil, All-cons, All-head, All-tail, All-append, All-map, All-filter, All-weaker}
use Rattle.fp_model.specs.declared.class.Code.{Code}
use Rattle.fp_model.specs.declared.class.Method.{Method}
use Rattle.fp_model.specs.declared.class.instr.Instr.{Instr}
use Rattle.fp_model.specs.declared.kind.Kind.{Kind}
use Rattle.fp_model.specs.declared.kind.Sort.{Sort}
use Rattle.fp_model.specs.Flags.{is_static}
use Rattle.fp_model.specs.SoundCode.{IsSoundCode, IsSoundMethod, ascend_above, ascend_from_0}
use Rattle.fp_facts.specs.declared.label.Label.{Label}
use Rattle.fp_facts.specs.declared.label.Label.TheVariants.{Unreached, Bad, Frame}
use Rattle.fp_facts.specs.declared.origin.Origin.{Origin}
use Rattle.fp_facts.specs.declared.origin.Origin.TheVariants as origin
use Rattle.fp_facts.specs.Origins.{frame_origins, origins_at, origins_of}
use Rattle.fp_facts.specs.Transfer.{frame_before}
use Rattle.fp_origin.specs.declared.answer.Origins.{Origins}
use Rattle.fp_origin.specs.Answers.{AreOrigins}
use Rattle.fp_origin.specs.Ascending.{Ascend, is_before}
use Rattle.fp_origin.specs.Numbering.{allocates, allocation_origins, is_reference, method_origins, param_origins, result_origins, returns_reference}
use Rattle.fp_origin.proofs.Numbered.{all-known}

-- ---- ascending lists

ascend-filter : (test : Origin → Bool) (os : List Origin) → Ascend os → Ascend (filter test os)
ascend-filter test [] h = tt
ascend-filter test (o ∷ os) h =
    elim (test o) as (λ b. Ascend (cond b (o ∷ filter test os) (filter test os))) [
      | true ↦ (All-filter test (λ p. is_before o p ≡ true) os h.0, ascend-filter test os h.1)
      | false ↦ ascend-filter test os h.1
    ]

ascend-append : (xs ys : List Origin) → Ascend xs → Ascend ys → All (λ x. All (λ y. is_before x y ≡ true) ys) xs → Ascend (xs ++ ys)
ascend-append [] ys h k before = k
ascend-append (x ∷ xs) ys h k before =
    let P : Origin → Type 0 = λ x. All (λ y. is_before x y ≡ true) ys in
    (All-append (λ y. is_before x y ≡ true) xs ys h.0 (All-head P x xs before), ascend-append xs ys h.1 k (All-tail P x xs before))

-- ---- the four sorts of origins

abbrev rank : Origin → ℕ
rank (origin.Param i) = 0
rank (origin.New i) = 1
rank (origin.Result i) = 2
rank origin.Other = 3

before-rank : (a b : Origin) → rank a < rank b → is_before a b ≡ true
before-rank (origin.Param i) (origin.Param j) lt = absurd (omega (arith, lt))
before-rank (origin.Param i) (origin.New j) lt = refl
before-rank (origin.Param i) (origin.Result j) lt = refl
before-rank (origin.Param i) origin.Other lt = refl
before-rank (origin.New i) (origin.Param j) lt = absurd (omega (arith, lt))
before-rank (origin.New i) (origin.New j) lt = absurd (omega (arith, lt))
before-rank (origin.New i) (origin.Result j) lt = refl
before-rank (origin.New i) origin.Other lt = refl
before-rank (origin.Result i) (origin.Param j) lt = absurd (omega (arith, lt))
before-rank (origin.Result i) (origin.New j) lt = absurd (omega (arith, lt))
before-rank (origin.Result i) (origin.Result j) lt = absurd (omega (arith, lt))
before-rank (origin.Result i) origin.Other lt = refl
before-rank origin.Other (origin.Param j) lt = absurd (omega (arith, lt))
before-rank origin.Other (origin.New j) lt = absurd (omega (arith, lt))
before-rank origin.Other (origin.Result j) lt = absurd (omega (arith, lt))
before-rank origin.Other origin.Other lt = absurd (omega (arith, lt))

-- origins of lower ranks come before those of higher ones
ranks-append : (r : ℕ) (xs ys : List Origin) → Ascend xs → Ascend ys → All (λ x. rank x ≡ r) xs → All (λ y. r < rank y) ys → Ascend (xs ++ ys)
ranks-append r xs ys h k low high =
    ascend-append xs ys h k
    (All-weaker (λ x. rank x ≡ r) (λ x. All (λ y. is_before x y ≡ true) ys)
    (λ x is. All-weaker (λ y. r < rank y) (λ y. is_before x y ≡ true) (λ y lt. before-rank x y (omega (arith, is, lt))) ys high) xs low)

-- ---- arguments

abbrev param-from : ℕ → Origin → Bool
param-from n (origin.Param i) = nat_le n i
param-from n (origin.New i) = false
param-from n (origin.Result i) = false
param-from n origin.Other = false

param-behind : (n : ℕ) (o : Origin) → param-from (n + 1) o ≡ true → is_before (origin.Param n) o ≡ true
param-behind n (origin.Param i) h = lt-ltb n i (omega (arith, leb-true (n + 1) i h))
param-behind n (origin.New i) h = refl
param-behind n (origin.Result i) h = refl
param-behind n origin.Other h = refl

param-wider : (n : ℕ) (o : Origin) → param-from (n + 1) o ≡ true → param-from n o ≡ true
param-wider n (origin.Param i) h = le-leb n i (omega (arith, leb-true (n + 1) i h))
param-wider n (origin.New i) h = h
param-wider n (origin.Result i) h = h
param-wider n origin.Other h = h

param-rank : (n : ℕ) (o : Origin) → param-from n o ≡ true → rank o ≡ 0
param-rank n (origin.Param i) h = refl
param-rank n (origin.New i) h = absurd (both_ways false refl h)
param-rank n (origin.Result i) h = absurd (both_ways false refl h)
param-rank n origin.Other h = absurd (both_ways false refl h)

param-here : (n : ℕ) → param-from n (origin.Param n) ≡ true
param-here n = le-leb n n (omega arith)

params-from : (n : ℕ) (kinds : List Kind) → All (λ o. param-from n o ≡ true) (param_origins n kinds)
params-from n [] = All-nil (λ o. param-from n o ≡ true)
params-from n (k ∷ kinds) =
    let rest = All-weaker (λ o. param-from (n + 1) o ≡ true) (λ o. param-from n o ≡ true) (param-wider n) (param_origins (n + 1) kinds) (params-from (n + 1) kinds) in
    elim (is_reference k) as (λ b. All (λ o. param-from n o ≡ true) (cond b (origin.Param n ∷ []) [] ++ param_origins (n + 1) kinds)) [
      | true ↦ All-cons (λ o. param-from n o ≡ true) (origin.Param n) (param_origins (n + 1) kinds) (param-here n) rest
      | false ↦ rest
    ]

params-ascend : (n : ℕ) (kinds : List Kind) → Ascend (param_origins n kinds)
params-ascend n [] = tt
params-ascend n (k ∷ kinds) =
    let behind = All-weaker (λ o. param-from (n + 1) o ≡ true) (λ o. is_before (origin.Param n) o ≡ true) (param-behind n) (param_origins (n + 1) kinds) (params-from (n + 1) kinds) in
    elim (is_reference k) as (λ b. Ascend (cond b (origin.Param n ∷ []) [] ++ param_origins (n + 1) kinds)) [
      | true ↦ (behind, params-ascend (n + 1) kinds)
      | false ↦ params-ascend (n + 1) kinds
    ]

arguments-ascend : (m : Method) → Ascend (method_origins m)
arguments-ascend m =
    let behind = All-weaker (λ o. param-from 1 o ≡ true) (λ o. is_before (origin.Param 0) o ≡ true) (param-behind 0) (param_origins 1 m.kinds.args) (params-from 1 m.kinds.args) in
    elim (is_static m.flags) as (λ b. Ascend (cond b (param_origins 0 m.kinds.args) (origin.Param 0 ∷ param_origins 1 m.kinds.args))) [
      | true ↦ params-ascend 0 m.kinds.args
      | false ↦ (behind, params-ascend 1 m.kinds.args)
    ]

arguments-rank : (m : Method) → All (λ o. rank o ≡ 0) (method_origins m)
arguments-rank m =
    let from : (n : ℕ) → All (λ o. rank o ≡ 0) (param_origins n m.kinds.args) = λ n. All-weaker (λ o. param-from n o ≡ true) (λ o. rank o ≡ 0) (param-rank n) (param_origins n m.kinds.args) (params-from n m.kinds.args) in
    elim (is_static m.flags) as (λ b. All (λ o. rank o ≡ 0) (cond b (param_origins 0 m.kinds.args) (origin.Param 0 ∷ param_origins 1 m.kinds.args))) [
      | true ↦ from 0
      | false ↦ All-cons (λ o. rank o ≡ 0) (origin.Param 0) (param_origins 1 m.kinds.args) (param-rank 0 (origin.Param 0) (param-here 0)) (from 1)
    ]

-- ---- instructions

offsets-above : (before : ℕ) (instrs : List (ℕ × Instr)) → ascend_above before (map (λ i. i.0) instrs) ≡ true → All (λ j. before < j.0) instrs
unfolding ascend_above
offsets-above before [] h = All-nil (λ (j : ℕ × Instr). before < j.0)
offsets-above before (i ∷ instrs) h =
    let known = and_parts (nat_lt before i.0) (ascend_above i.0 (map (λ i. i.0) instrs)) h in
    let first : before < i.0 = ltb-true before i.0 known.0 in
    All-cons (λ (j : ℕ × Instr). before < j.0) i instrs first
    (All-weaker (λ (j : ℕ × Instr). i.0 < j.0) (λ (j : ℕ × Instr). before < j.0) (λ j lt. omega (arith, first, lt)) instrs (offsets-above i.0 instrs known.1))

module _ (make : ℕ → Origin) (order : (i j : ℕ) → i < j → is_before (make i) (make j) ≡ true) (test : ℕ × Instr → Bool) where
  abbrev made : List (ℕ × Instr) → List Origin
  made instrs = map (λ i. make i.0) (filter test instrs)

  made-behind : (pc : ℕ) (instrs : List (ℕ × Instr)) → ascend_above pc (map (λ i. i.0) instrs) ≡ true → All (λ p. is_before (make pc) p ≡ true) (made instrs)
  made-behind pc instrs h =
      All-map (λ p. is_before (make pc) p ≡ true) (λ (i : ℕ × Instr). make i.0) (filter test instrs)
      (All-filter test (λ (j : ℕ × Instr). is_before (make pc) (make j.0) ≡ true) instrs
      (All-weaker (λ (j : ℕ × Instr). pc < j.0) (λ (j : ℕ × Instr). is_before (make pc) (make j.0) ≡ true) (λ j lt. order pc j.0 lt) instrs (offsets-above pc instrs h)))

  made-first : (i : ℕ × Instr) (instrs : List (ℕ × Instr)) → ascend_above i.0 (map (λ i. i.0) instrs) ≡ true → Ascend (made instrs) → Ascend (made (i ∷ instrs))
  made-first i instrs h rest =
      elim (test i) as (λ b. Ascend (map (λ (j : ℕ × Instr). make j.0) (cond b (i ∷ filter test instrs) (filter test instrs)))) [
        | true ↦ (made-behind i.0 instrs h, rest)
        | false ↦ rest
      ]

  made-above : (before : ℕ) (instrs : List (ℕ × Instr)) → ascend_above before (map (λ i. i.0) instrs) ≡ true → Ascend (made instrs)
  unfolding ascend_above
  made-above before [] h = tt
  made-above before (i ∷ instrs) h =
      let known = and_parts (nat_lt before i.0) (ascend_above i.0 (map (λ i. i.0) instrs)) h in made-first i instrs known.1 (made-above i.0 instrs known.1)

  made-ascend : (instrs : List (ℕ × Instr)) → ascend_from_0 (map (λ i. i.0) instrs) ≡ true → Ascend (made instrs)
  made-ascend [] h = tt
  made-ascend (i ∷ instrs) h =
      let known = and_parts (i.0 == 0) (ascend_above i.0 (map (λ i. i.0) instrs)) h in made-first i instrs known.1 (made-above i.0 instrs known.1)

made-rank : (make : ℕ → Origin) (r : ℕ) → ((i : ℕ) → rank (make i) ≡ r) → (instrs : List (ℕ × Instr)) → All (λ o. rank o ≡ r) (map (λ i. make i.0) instrs)
made-rank make r is instrs = All-map (λ o. rank o ≡ r) (λ (i : ℕ × Instr). make i.0) instrs (λ k d lt. is (get_or instrs k d).0)

-- ---- all of them

origins-ascend : (m : Method) (code : Code) → IsSoundMethod m → m.code ≡ Some code → Ascend (origins_of m code)
origins-ascend m code sound is =
    let sound_code : IsSoundCode code = subst (λ c. IfSome c IsSoundCode) is sound.code in
    let pcs : ascend_from_0 (map (λ i. i.0) code.instrs) ≡ true = sound_code.pcs in
    let entry = method_origins m in
    let news = allocation_origins code.instrs in
    let results = result_origins code.instrs in
    let other : List Origin = origin.Other ∷ [] in
    let news-rank : All (λ o. rank o ≡ 1) news = made-rank origin.New 1 (λ i. refl) (filter (λ (i : ℕ × Instr). allocates i.1) code.instrs) in
    let results-rank : All (λ o. rank o ≡ 2) results = made-rank origin.Result 2 (λ i. refl) (filter (λ (i : ℕ × Instr). returns_reference i.1) code.instrs) in
    let above : (r s : ℕ) (os : List Origin) → r < s → All (λ o. rank o ≡ s) os → All (λ o. r < rank o) os =
    λ r s os lt all. All-weaker (λ o. rank o ≡ s) (λ o. r < rank o) (λ o e. omega (arith, e, lt)) os all in
    let last : (r : ℕ) → r < 3 → All (λ o. r < rank o) other = λ r lt. All-cons (λ o. r < rank o) origin.Other [] lt (All-nil (λ o. r < rank o)) in
    let second : Ascend (results ++ other) =
    ranks-append 2 results other (made-ascend origin.Result (λ i j lt. lt-ltb i j lt) (λ (i : ℕ × Instr). returns_reference i.1) code.instrs pcs) (All-nil (λ p. is_before origin.Other p ≡ true), tt) results-rank (last 2 (omega arith)) in
    let first : Ascend (news ++ (results ++ other)) =
    ranks-append 1 news (results ++ other) (made-ascend origin.New (λ i j lt. lt-ltb i j lt) (λ (i : ℕ × Instr). allocates i.1) code.instrs pcs) second news-rank
    (All-append (λ o. 1 < rank o) results other (above 1 2 results (omega arith) results-rank) (last 1 (omega arith))) in
    let whole : Ascend (entry ++ (news ++ (results ++ other))) =
    ranks-append 0 entry (news ++ (results ++ other)) (arguments-ascend m) first (arguments-rank m)
    (All-append (λ o. 0 < rank o) news (results ++ other) (above 0 1 news (omega arith) news-rank)
    (All-append (λ o. 0 < rank o) results other (above 0 2 results (omega arith) results-rank) (last 0 (omega arith)))) in
    let same : entry ++ (news ++ (results ++ other)) ≡ origins_of m code =
    sym (append_assoc entry news (results ++ other)) ∙ sym (append_assoc (entry ++ news) results other)
    ∙ all-known m code [] entry (entry ++ news) ((entry ++ news) ++ results) (((entry ++ news) ++ results) ++ other) refl refl refl refl refl in
    subst Ascend same whole

none_is_not_some : {X : Type 0} {x : X} → None ≡ Some x → ⊥
none_is_not_some h = both_ways false refl (ap is_some h)

some-one : {X : Type 0} {x y : X} → Some x ≡ Some y → x ≡ y
some-one {x = x} h = ap (λ o. option_map_or (λ v. v) o x) h

frame-ascends : (m : Method) (code : Code) → Ascend (origins_of m code) → (number : ℕ) (x : Label Sort) (words : List (List Origin)) → frame_origins m code number x ≡ Some words → All Ascend words
frame-ascends m code all number Unreached words h = absurd (none_is_not_some h)
frame-ascends m code all number Bad words h = absurd (none_is_not_some h)
frame-ascends m code all number (Frame l s) words h =
    subst (λ ws. All Ascend ws) (some-one h)
    (All-map Ascend (origins_at m code number) (range_with_len 0 (length l + length s)) (λ k d lt. ascend-filter _ (origins_of m code) all))

pub sets-ascend : (m : Method) (code : Code) (o : Origins) → IsSoundMethod m → m.code ≡ Some code → AreOrigins m code o → (number : ℕ) (words : List (List Origin)) → number < length code.instrs →
    slice_get o.frames number ≡ Some (Some words) → All Ascend words
sets-ascend m code o sound is origins number words lt there =
    frame-ascends m code (origins-ascend m code sound is) number (frame_before m code number) words (some-one (sym (origins.frames number lt) ∙ there))
