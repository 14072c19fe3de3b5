-- What the evaluations of tasks leave.
use Rattle.std.proofs.Common.{◌≡◌, ◌≢◌, ◌==◌, ◌≤◌, ◌+◌, ◌*◌, ◌||◌, ◌&&◌, ℕ, Bool, true, false, not, IsTrue, List, [], ◌∷◌, ◌++◌, Contains, Option, Some, None, cond, length, refl, sym, ap, subst, ◌∙◌, arith, inl, inr, suc}
use Rattle.std.proofs.lemmas.List.{append-nil, length-append}
use Rattle.std.proofs.lemmas.Bool.{ne_eqb}
use Rattle.std.proofs.lemmas.List.Folds.{list_any-append}
use Rattle.fp_model.specs.ClassSet.{is_number}
use Rattle.fp_facts.specs.Hierarchy.{has_number}
use Rattle.fp_eqs.specs.Answers.{asked, Agrees, bits_of, IsGiven}
use Rattle.fp_eqs.specs.Equations.{IsEvaluated}
use Rattle.fp_eqs.specs.Tests.{left, right, either}
use Rattle.fp_eqs.proofs.Told.{asked-contains, contains-here, contains-none, or-false}
use Rattle.fp_rta.specs.declared.candidate.Candidate.{Candidate}
use Rattle.fp_rta.specs.Contributions.{bit_pairs, is_on, ones, pairs_from, sources_of}
use Rattle.fp_rta.specs.Meaning.{IsLater}
use Rattle.fp_rta.specs.Tasks.{call_task, giving_task, is_waiting}

none-given : (before : List (ℕ × ℕ)) (most : ℕ) (makes : ℕ → Bool) (bits : ℕ → ℕ) → ((p : ℕ) → 0 ≡ bits p) → IsGiven before before most makes bits
none-given before most makes bits h = record {
  pairs = [];
  appended = sym (append-nil before);
  few = omega arith;
  made = λ p w k. absurd (contains-none (p, w) k);
  gives = h;
}

pub one-made : (places : List ℕ) (p : ℕ) → IsTrue (asked (ones places) p) → IsTrue (has_number places p)
one-made [] p h = h
one-made (q ∷ places) p h = elim (either (q == p) (asked (ones places) p) h) [
  | inl here ↦ left (q == p) (has_number places p) here
  | inr later ↦ right (q == p) (has_number places p) (one-made places p later)
]

pub one-long : (places : List ℕ) → length (ones places) ≡ length places
one-long [] = refl
one-long (q ∷ places) = ap suc (one-long places)

-- a task that gives to places
pub giving-evaluated : (trigger : Option ℕ) (places : List ℕ) (waits : Bool) (answers before after : List (ℕ × ℕ)) →
    ((p : ℕ) → asked answers p ≡ is_number p trigger) → ((a : ℕ → ℕ) → Agrees a answers → waits ≡ is_waiting trigger a) →
    after ≡ cond waits before (before ++ ones places) → IsEvaluated (giving_task trigger places) answers before after
giving-evaluated trigger places true answers before after asks waiting e = record {
  asks = λ a h p. asks p;
  gives = λ a h. subst (λ es. IsGiven before es (length places) (has_number places) ((giving_task trigger places).out a)) (sym e)
      (none-given before (length places) (has_number places) ((giving_task trigger places).out a) (λ p. ap (λ b. cond b 0 (bits_of (ones places) p)) (waiting a h)));
}
giving-evaluated trigger places false answers before after asks waiting e = record {
  asks = λ a h p. asks p;
  gives = λ a h. record {
    pairs = ones places;
    appended = e;
    few = omega (arith, one-long places);
    made = λ p w k. one-made places p (asked-contains (ones places) p w k);
    gives = λ p. ap (λ b. cond b 0 (bits_of (ones places) p)) (waiting a h);
  };
}

-- ---- calls

few-bit_pairs : (callees bit : ℕ) (target : Option ℕ) → length (bit_pairs callees bit target) ≤ 2
few-bit_pairs callees bit None = omega arith
few-bit_pairs callees bit (Some t) = omega arith

few-here : (b : Bool) (callees bit : ℕ) (target : Option ℕ) (none : List (ℕ × ℕ)) → none ≡ [] → length (cond b (bit_pairs callees bit target) none) ≤ 2
few-here true callees bit target none e = few-bit_pairs callees bit target
few-here false callees bit target none e = rw e (omega arith)

pub few-pairs : (test : Candidate → Bool) (callees bit : ℕ) (ks : List Candidate) → length (pairs_from test callees bit ks) ≤ 2 * length ks
few-pairs test callees bit [] = omega arith
few-pairs test callees bit (k ∷ ks) =
    let here : List (ℕ × ℕ) = cond (test k) (bit_pairs callees bit k.target) [] in
    omega (arith, length-append here (pairs_from test callees (bit + 1) ks), few-here (test k) callees bit k.target [] refl, few-pairs test callees (bit + 1) ks)

pub asked-append : (es fs : List (ℕ × ℕ)) (p : ℕ) → asked (es ++ fs) p ≡ (asked es p || asked fs p)
asked-append es fs p = list_any-append (λ (e : ℕ × ℕ). e.0 == p) es fs

-- whatever is given may be given
pub pairs-made : (test : Candidate → Bool) (callees bit : ℕ) (ks : List Candidate) (p : ℕ) → IsTrue (asked (pairs_from test callees bit ks) p) → IsTrue (asked (pairs_from (λ _. true) callees bit ks) p)
pairs-made test callees bit [] p h = h
pairs-made test callees bit (k ∷ ks) p h =
    let here : List (ℕ × ℕ) = bit_pairs callees bit k.target in
    let rest = pairs_from test callees (bit + 1) ks in
    let all = pairs_from (λ _. true) callees (bit + 1) ks in
    subst (λ b. IsTrue b) (sym (asked-append here all p))
    (elim (either (asked (cond (test k) here []) p) (asked rest p) (subst (λ b. IsTrue b) (asked-append (cond (test k) here []) rest p) h)) [
      | inl now ↦ left (asked here p) (asked all p) (if-asked (test k) here p now)
      | inr later ↦ right (asked here p) (asked all p) (pairs-made test callees (bit + 1) ks p later)
    ])
  where
    if-asked : (b : Bool) (es : List (ℕ × ℕ)) (q : ℕ) → IsTrue (asked (cond b es []) q) → IsTrue (asked es q)
    if-asked true es q h = h
    if-asked false es q h = cc

-- a call whose method is not reached
pub call-waits : (trigger callees w : ℕ) (ks : List Candidate) (answers before : List (ℕ × ℕ)) → answers ≡ (trigger, w) ∷ [] → w ≡ 0 → IsEvaluated (call_task trigger callees ks) answers before before
call-waits trigger callees w ks answers before e none = record {
  asks = λ a h p.
      let unset : (a trigger == 0) ≡ true = ap (λ v. v == 0) (word a h ∙ none) in
      ap (λ es. asked es p) e ∙ ap (λ b. (trigger == p) || (not b && has_number (sources_of ks) p)) (sym unset);
  gives = λ a h. none-given before (2 * length ks) (call_task trigger callees ks).makes ((call_task trigger callees ks).out a)
      (λ p. let unset : (a trigger == 0) ≡ true = ap (λ v. v == 0) (word a h ∙ none) in ap (λ b. cond b 0 (bits_of (pairs_from (is_on a) callees 0 ks) p)) (sym unset));
}
  where
    word : (a : ℕ → ℕ) → Agrees a answers → a trigger ≡ w
    word a h = h trigger w (subst (λ es. Contains es (trigger, w)) (sym e) (contains-here (trigger, w) []))

-- a call whose method is reached
pub call-given : (trigger callees w : ℕ) (ks : List Candidate) (first answers before after : List (ℕ × ℕ)) → first ≡ (trigger, w) ∷ [] → w ≢ 0 → IsLater first answers →
    ((p : ℕ) → asked answers p ≡ (asked first p || has_number (sources_of ks) p)) →
    ((a : ℕ → ℕ) → Agrees a answers → after ≡ before ++ pairs_from (is_on a) callees 0 ks) → IsEvaluated (call_task trigger callees ks) answers before after
call-given trigger callees w ks first answers before after e some later asks given = record {
  asks = λ a h p.
      asks p ∙ ap (λ es. asked es p || has_number (sources_of ks) p) e ∙ ap (λ b. b || has_number (sources_of ks) p) (or-false (trigger == p))
      ∙ ap (λ b. (trigger == p) || (not b && has_number (sources_of ks) p)) (sym (set a h));
  gives = λ a h. record {
    pairs = pairs_from (is_on a) callees 0 ks;
    appended = given a h;
    few = few-pairs (is_on a) callees 0 ks;
    made = λ p v k. pairs-made (is_on a) callees 0 ks p (asked-contains (pairs_from (is_on a) callees 0 ks) p v k);
    gives = λ p. ap (λ b. cond b 0 (bits_of (pairs_from (is_on a) callees 0 ks) p)) (sym (set a h));
  };
}
  where
    set : (a : ℕ → ℕ) → Agrees a answers → (a trigger == 0) ≡ false
    set a h =
        let word : a trigger ≡ w = later a h trigger w (subst (λ es. Contains es (trigger, w)) (sym e) (contains-here (trigger, w) [])) in
        ap (λ v. v == 0) word ∙ ne_eqb w 0 some

-- a call whose method is reached uses the places of its classes
pub call-uses : (trigger callees w : ℕ) (ks : List Candidate) (a : ℕ → ℕ) (p : ℕ) → a trigger ≡ w → w ≢ 0 → IsTrue (has_number (sources_of ks) p) → IsTrue ((call_task trigger callees ks).uses a p)
call-uses trigger callees w ks a p word some h =
    let set : (a trigger == 0) ≡ false = ap (λ v. v == 0) word ∙ ne_eqb w 0 some in
    right (trigger == p) (not (a trigger == 0) && has_number (sources_of ks) p) (subst (λ b. IsTrue (not b && has_number (sources_of ks) p)) (sym set) h)
