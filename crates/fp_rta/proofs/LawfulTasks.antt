-- Why the tasks of the call graph are lawful.
use Rattle.std.proofs.Common.{◌≡◌, ◌≢◌, ◌==◌, ◌<◌, ◌≤◌, ◌+◌, ◌/◌, ◌^◌, ◌||◌, ◌&&◌, ℕ, Bool, true, false, not, IsTrue, List, [], ◌∷◌, ◌++◌, Option, Some, None, cond, is_some, length, slice_get, refl, sym, ap, subst, ◌∙◌, arith, inl, inr, suc}
use Rattle.std.proofs.lemmas.Bool.{eqb-true, not-true}
use Rattle.std.proofs.lemmas.List.Folds.{list_any-append}
use Rattle.fp_bits.specs.Words.{IsWithin, within-refl, within-zero, zero-within}
use Rattle.fp_model.specs.ClassSet.{is_number}
use Rattle.fp_facts.specs.Hierarchy.{has_number}
use Rattle.fp_eqs.specs.declared.start.Start.TheVariants.{Triggered}
use Rattle.fp_eqs.specs.Answers.{asked, bits_of}
use Rattle.fp_eqs.specs.Counts.{count_below-none, count-listed}
use Rattle.fp_eqs.specs.Equations.{IsBelow, IsLawful, count_below}
use Rattle.fp_eqs.specs.Tests.{left, right, either, both, parts, false-if_not, same-place, place-here}
use Rattle.fp_eqs.proofs.Told.{or-false}
use Rattle.fp_rta.specs.declared.candidate.Candidate.{Candidate}
use Rattle.fp_rta.specs.Contributions.{any_set, bit_pairs, is_on, ones, pairs_from, sources_of}
use Rattle.fp_rta.specs.Tasks.{call_task, giving_task, is_waiting, start_of}
use Rattle.fp_rta.proofs.Evaluated.{few-pairs, one-made, one-long, pairs-made, asked-append}
use Rattle.fp_rta.proofs.GivenBits.{bits-asked, bits-fit, few-given, ones-fit, pairs-fit, pairs-grow}

-- ---- tasks that give to places

-- a task with no trigger, or one whose trigger is a place
abbrev pub IsTriggerWithin : (places : ℕ) → Option ℕ → Type 0
IsTriggerWithin places trigger = (q : ℕ) → IsTrue (is_number q trigger) → q < places

abbrev pub AreWithin : (places : ℕ) → List ℕ → Type 0
AreWithin places ps = (p : ℕ) → IsTrue (has_number ps p) → p < places

zero-test : (n m : ℕ) → IsWithin n m → (m == 0) ≡ true → (n == 0) ≡ true
zero-test n m h e =
    let none : m ≡ 0 = eqb-true m 0 e in
    let same : n ≡ 0 = within-zero n (subst (λ k. IsWithin n k) none h) in
    ap (λ k. k == 0) same

waits-less : (trigger : Option ℕ) (a b : ℕ → ℕ) → IsBelow a b → is_waiting trigger b ≡ true → is_waiting trigger a ≡ true
waits-less None a b h e = e
waits-less (Some q) a b h e = zero-test (a q) (b q) (h q) e

waits-same : (trigger : Option ℕ) (a b : ℕ → ℕ) → ((p : ℕ) → IsTrue (is_number p trigger) → a p ≡ b p) → is_waiting trigger a ≡ is_waiting trigger b
waits-same None a b h = refl
waits-same (Some q) a b h = ap (λ v. v == 0) (h q (place-here q))

-- one that waits later gives no less
held-grows : (b c : Bool) (x y : ℕ) → (c ≡ true → b ≡ true) → IsWithin x y → IsWithin (cond b 0 x) (cond c 0 y)
held-grows true c x y h k = zero-within (cond c 0 y)
held-grows false true x y h k = let wrong : false ≡ true = h refl in cc
held-grows false false x y h k = k

held-some : (b : Bool) (x : ℕ) → cond b 0 x ≢ 0 → x ≢ 0
held-some true x h = absurd (h refl)
held-some false x h = h

held-fits : (b : Bool) (x : ℕ) → x < 2 ^ 64 → cond b 0 x < 2 ^ 64
held-fits true x h = omega arith
held-fits false x h = h

one-trigger : (trigger : Option ℕ) (n : ℕ) → count_below (λ p. is_number p trigger) n ≤ cond (is_some trigger) 1 0
one-trigger None n = omega (arith, count_below-none (λ p. false) n (λ p _. refl))
one-trigger (Some q) n = count-listed (λ p. q == p) (q ∷ []) n (λ p h. left (q == p) false h)

giving-waits : (trigger : Option ℕ) (ps : List ℕ) (q : ℕ) (a : ℕ → ℕ) → start_of trigger ≡ Triggered q → a q ≡ 0 → (p : ℕ) → ((giving_task trigger ps).uses a p ≡ (q == p)) × ((giving_task trigger ps).out a p ≡ 0)
giving-waits None ps q a e none p = cc
giving-waits (Some r) ps q a e none p =
    let same : r ≡ q = cc in
    let unset : (a r == 0) ≡ true = ap (λ v. v == 0) (ap a same ∙ none) in
    (ap (λ s. s == p) same, ap (λ b. cond b 0 (bits_of (ones ps) p)) unset)

pub giving-lawful : (places : ℕ) (trigger : Option ℕ) (ps : List ℕ) → IsTriggerWithin places trigger → AreWithin places ps → IsLawful places (giving_task trigger ps)
giving-lawful places trigger ps trigger_within within =
    let made : (a : ℕ → ℕ) (p : ℕ) → (giving_task trigger ps).out a p ≢ 0 → IsTrue (asked (ones ps) p) = λ a p h. bits-asked (ones ps) p (held-some (is_waiting trigger a) (bits_of (ones ps) p) h) in
    record {
      uses_grow = λ a b _ p h. h;
      out_grows = λ a b below p. held-grows (is_waiting trigger a) (is_waiting trigger b) (bits_of (ones ps) p) (bits_of (ones ps) p) (waits-less trigger a b below) (within-refl (bits_of (ones ps) p));
      uses_depend = λ a b _ p. refl;
      out_depends = λ a b same p. ap (λ w. cond w 0 (bits_of (ones ps) p)) (waits-same trigger a b same);
      gives_made = λ a p h. one-made ps p (made a p h);
      makes_places = within;
      uses_places = λ a p h. trigger_within p h;
      uses_few = λ a. one-trigger trigger places;
      gives_few = λ a. (let few = few-given (ones ps) ((giving_task trigger ps).out a) places (made a) in omega (arith, few, one-long ps));
      out_fits = λ a _ p. held-fits (is_waiting trigger a) (bits_of (ones ps) p) (bits-fit (ones ps) p (ones-fit ps));
      waits = giving-waits trigger ps;
    }

-- ---- calls

-- the places of the bits and targets of candidates, the first of which has a bit
pub record AreBitsWithin (places callees bit : ℕ) (ks : List Candidate) : Type 0 where
  pub words : (i : ℕ) → i < length ks → callees + (bit + i) / 64 < places
  pub targets : (i : ℕ) (k : Candidate) → slice_get ks i ≡ Some k → (t : ℕ) → k.target ≡ Some t → t < places

set-grows : (a b : ℕ → ℕ) (ps : List ℕ) → IsBelow a b → IsTrue (any_set a ps) → IsTrue (any_set b ps)
set-grows a b [] below h = h
set-grows a b (p ∷ ps) below h = elim (either (not (a p == 0)) (any_set a ps) h) [
  | inl here ↦ left (not (b p == 0)) (any_set b ps) (some-grows (a p) (b p) (below p) here)
  | inr later ↦ right (not (b p == 0)) (any_set b ps) (set-grows a b ps below later)
]
  where
    some-grows : (n m : ℕ) → IsWithin n m → IsTrue (not (n == 0)) → IsTrue (not (m == 0))
    some-grows n m k some = ap not (false-if_not (m == 0) (λ e. let was = zero-test n m k e in let other = not-true (n == 0) some in cc))

on-grows : (a b : ℕ → ℕ) (k : Candidate) → IsBelow a b → IsTrue (is_on a k) → IsTrue (is_on b k)
on-grows a b k below h = elim (either k.always (any_set a k.sources) h) [
  | inl always ↦ left k.always (any_set b k.sources) always
  | inr set ↦ right k.always (any_set b k.sources) (set-grows a b k.sources below set)
]

set-same : (a b : ℕ → ℕ) (ps : List ℕ) → ((p : ℕ) → IsTrue (has_number ps p) → a p ≡ b p) → any_set a ps ≡ any_set b ps
set-same a b [] h = refl
set-same a b (p ∷ ps) h =
    ap (λ v. not (v == 0) || any_set a ps) (h p (left (p == p) (has_number ps p) (place-here p)))
    ∙ ap (λ c. not (b p == 0) || c) (set-same a b ps (λ q k. h q (right (p == q) (has_number ps q) k)))

pairs-same : (a b : ℕ → ℕ) (callees bit : ℕ) (ks : List Candidate) → ((p : ℕ) → IsTrue (has_number (sources_of ks) p) → a p ≡ b p) → pairs_from (is_on a) callees bit ks ≡ pairs_from (is_on b) callees bit ks
pairs-same a b callees bit [] h = refl
pairs-same a b callees bit (k ∷ ks) h =
    let split : (p : ℕ) → has_number (sources_of (k ∷ ks)) p ≡ (has_number k.sources p || has_number (sources_of ks) p) = λ p. list_any-append (λ (m : ℕ). m == p) k.sources (sources_of ks) in
    let here : is_on a k ≡ is_on b k = ap (λ c. k.always || c) (set-same a b k.sources (λ p g. h p (subst (λ c. IsTrue c) (sym (split p)) (left (has_number k.sources p) (has_number (sources_of ks) p) g)))) in
    let rest = pairs-same a b callees (bit + 1) ks (λ p g. h p (subst (λ c. IsTrue c) (sym (split p)) (right (has_number k.sources p) (has_number (sources_of ks) p) g))) in
    let nothing : List (ℕ × ℕ) = [] in
    ap (λ c. cond c (bit_pairs callees bit k.target) nothing ++ pairs_from (is_on a) callees (bit + 1) ks) here
    ∙ ap (λ (es : List (ℕ × ℕ)). cond (is_on b k) (bit_pairs callees bit k.target) nothing ++ es) rest

bits-within : (places callees bit : ℕ) (ks : List Candidate) → AreBitsWithin places callees bit ks → (p : ℕ) → IsTrue (asked (pairs_from (λ _. true) callees bit ks) p) → p < places
bits-within places callees bit [] within p h = cc
bits-within places callees bit (k ∷ ks) within p h =
    let here : List (ℕ × ℕ) = bit_pairs callees bit k.target in
    let rest = pairs_from (λ _. true) callees (bit + 1) ks in
    elim (either (asked here p) (asked rest p) (subst (λ b. IsTrue b) (asked-append here rest p) h)) [
      | inl now ↦ here-within k.target (λ t e. within.targets 0 k refl t e) now
      | inr later ↦ bits-within places callees (bit + 1) ks (record {
        words = λ i lt. (let e : (bit + 1) + i ≡ bit + suc i = omega arith in rw e (within.words (suc i) (omega arith)));
        targets = λ i j at t e. within.targets (suc i) j at t e;
      }) p later
    ]
  where
    first : callees + bit / 64 < places
    first = let e : bit + 0 ≡ bit = omega arith in subst (λ n. callees + n / 64 < places) e (within.words 0 (omega arith))

    here-within : (target : Option ℕ) → ((t : ℕ) → target ≡ Some t → t < places) → IsTrue (asked (bit_pairs callees bit target) p) → p < places
    here-within None known now = elim (either (callees + bit / 64 == p) false now) [ inl word ↦ subst (λ q. q < places) (same-place (callees + bit / 64) p word) first | inr wrong ↦ cc ]
    here-within (Some t) known now = elim (either (callees + bit / 64 == p) (t == p || false) now) [
      | inl word ↦ subst (λ q. q < places) (same-place (callees + bit / 64) p word) first
      | inr later ↦ subst (λ q. q < places) (same-place t p (subst (λ b. IsTrue b) (or-false (t == p)) later)) (known t refl)
    ]

-- what a call asks
uses-first : (trigger callees : ℕ) (ks : List Candidate) (a : ℕ → ℕ) → IsTrue ((call_task trigger callees ks).uses a trigger)
uses-first trigger callees ks a = left (trigger == trigger) (not (a trigger == 0) && has_number (sources_of ks) trigger) (place-here trigger)

uses-grow : (trigger callees : ℕ) (ks : List Candidate) (a b : ℕ → ℕ) → IsBelow a b → (p : ℕ) → IsTrue ((call_task trigger callees ks).uses a p) → IsTrue ((call_task trigger callees ks).uses b p)
uses-grow trigger callees ks a b below p h =
    elim (either (trigger == p) (not (a trigger == 0) && has_number (sources_of ks) p) h) [
      | inl here ↦ left (trigger == p) (not (b trigger == 0) && has_number (sources_of ks) p) here
      | inr among ↦
          (let k = parts (not (a trigger == 0)) (has_number (sources_of ks) p) among in
          let some : IsTrue (not (b trigger == 0)) = ap not (false-if_not (b trigger == 0) (λ e. let was = zero-test (a trigger) (b trigger) (below trigger) e in let other = not-true (a trigger == 0) k.0 in cc)) in
          right (trigger == p) (not (b trigger == 0) && has_number (sources_of ks) p) (both (not (b trigger == 0)) (has_number (sources_of ks) p) some k.1))
    ]

calls-depend : (trigger callees : ℕ) (ks : List Candidate) (a b : ℕ → ℕ) → ((p : ℕ) → IsTrue ((call_task trigger callees ks).uses a p) → a p ≡ b p) → (p : ℕ) → (call_task trigger callees ks).out a p ≡ (call_task trigger callees ks).out b p
calls-depend trigger callees ks a b same p = by-test (a trigger == 0) refl
  where
    word : a trigger ≡ b trigger
    word = same trigger (uses-first trigger callees ks a)

    by-test : (c : Bool) → (a trigger == 0) ≡ c → cond (a trigger == 0) 0 (bits_of (pairs_from (is_on a) callees 0 ks) p) ≡ cond (b trigger == 0) 0 (bits_of (pairs_from (is_on b) callees 0 ks) p)
    by-test true e =
        ap (λ d. cond d 0 (bits_of (pairs_from (is_on a) callees 0 ks) p)) e
        ∙ sym (ap (λ d. cond d 0 (bits_of (pairs_from (is_on b) callees 0 ks) p)) (ap (λ v. v == 0) (sym word) ∙ e))
    by-test false e =
        let pairs = pairs-same a b callees 0 ks (λ q h. same q (right (trigger == q) (not (a trigger == 0) && has_number (sources_of ks) q) (both (not (a trigger == 0)) (has_number (sources_of ks) q) (ap not e) h))) in
        ap (λ (es : List (ℕ × ℕ)). cond (a trigger == 0) 0 (bits_of es p)) pairs ∙ ap (λ v. cond (v == 0) 0 (bits_of (pairs_from (is_on b) callees 0 ks) p)) word

call-waits : (trigger callees : ℕ) (ks : List Candidate) (q : ℕ) (a : ℕ → ℕ) → Triggered trigger ≡ Triggered q → a q ≡ 0 → (p : ℕ) → ((call_task trigger callees ks).uses a p ≡ (q == p)) × ((call_task trigger callees ks).out a p ≡ 0)
call-waits trigger callees ks q a e none p =
    let same : trigger ≡ q = cc in
    let unset : (a trigger == 0) ≡ true = ap (λ v. v == 0) (ap a same ∙ none) in (
      ap (λ b. (trigger == p) || (not b && has_number (sources_of ks) p)) unset ∙ or-false (trigger == p) ∙ ap (λ s. s == p) same,
      ap (λ b. cond b 0 (bits_of (pairs_from (is_on a) callees 0 ks) p)) unset,
    )

pub call-lawful : (places trigger callees : ℕ) (ks : List Candidate) → trigger < places → AreBitsWithin places callees 0 ks → AreWithin places (sources_of ks) → IsLawful places (call_task trigger callees ks)
call-lawful places trigger callees ks trigger_within bits within =
    let k = call_task trigger callees ks in
    let made : (a : ℕ → ℕ) (p : ℕ) → k.out a p ≢ 0 → IsTrue (asked (pairs_from (is_on a) callees 0 ks) p) = λ a p h. bits-asked (pairs_from (is_on a) callees 0 ks) p (held-some (a trigger == 0) (bits_of (pairs_from (is_on a) callees 0 ks) p) h) in
    let used : (a : ℕ → ℕ) (p : ℕ) → IsTrue (k.uses a p) → IsTrue (has_number (trigger ∷ sources_of ks) p) = λ a p h. elim (either (trigger == p) (not (a trigger == 0) && has_number (sources_of ks) p) h) [
      | inl here ↦ left (trigger == p) (has_number (sources_of ks) p) here
      | inr among ↦ right (trigger == p) (has_number (sources_of ks) p) (parts (not (a trigger == 0)) (has_number (sources_of ks) p) among).1
    ] in
    record {
      uses_grow = uses-grow trigger callees ks;
      out_grows = λ a b below p. held-grows (a trigger == 0) (b trigger == 0) (bits_of (pairs_from (is_on a) callees 0 ks) p) (bits_of (pairs_from (is_on b) callees 0 ks) p) (zero-test (a trigger) (b trigger) (below trigger))
          (pairs-grow (is_on a) (is_on b) callees 0 ks p (λ j h. on-grows a b j below h));
      uses_depend = λ a b same p. ap (λ v. (trigger == p) || (not (v == 0) && has_number (sources_of ks) p)) (same trigger (uses-first trigger callees ks a));
      out_depends = calls-depend trigger callees ks;
      gives_made = λ a p h. pairs-made (is_on a) callees 0 ks p (made a p h);
      makes_places = bits-within places callees 0 ks bits;
      uses_places = λ a p h. elim (either (trigger == p) (has_number (sources_of ks) p) (used a p h)) [
        | inl here ↦ subst (λ q. q < places) (same-place trigger p here) trigger_within
        | inr among ↦ within p among
      ];
      uses_few = λ a. (let few = count-listed (k.uses a) (trigger ∷ sources_of ks) places (used a) in omega (arith, few));
      gives_few = λ a. (let few = few-given (pairs_from (is_on a) callees 0 ks) (k.out a) places (made a) in omega (arith, few, few-pairs (is_on a) callees 0 ks));
      out_fits = λ a _ p. held-fits (a trigger == 0) (bits_of (pairs_from (is_on a) callees 0 ks) p) (bits-fit (pairs_from (is_on a) callees 0 ks) p (pairs-fit (is_on a) callees 0 ks));
      waits = call-waits trigger callees ks;
    }
