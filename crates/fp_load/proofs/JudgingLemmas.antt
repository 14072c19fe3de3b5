-- What the kinds of a method tell of its class.
use Rattle.std.proofs.Common.{◌≡◌, ◌<◌, ◌≤◌, ◌+◌, ◌++◌, ℕ, zero, suc, Bool, true, false, List, ◌∷◌, length, drop, slice_get, slice_index_or, Option, Some, None, inl, inr, refl, sym, ap, subst, ◌∙◌, arith}
use Rattle.std.specs.Prelude.{String, string_bytes, zip, option_map, option_and_then}
use Rattle.std.proofs.lemmas.Bool.{cases_lt, cond-true, cond-false}
use Rattle.std.specs.declared.alloc.Global.{Global}
use Rattle.std.proofs.lemmas.List.{drop_more, get_or_default}
use Rattle.fp_base.specs.Files.{texts}
use Rattle.fp_model.specs.declared.class.Class.{Class}
use Rattle.fp_model.specs.declared.class.Code.{Code}
use Rattle.fp_model.specs.declared.class.Method.{Method}
use Rattle.fp_model.specs.declared.class.instr.Instr.{Instr}
use Rattle.fp_facts.specs.Transfer.{fails}
use Rattle.fp_kinds.specs.declared.frame.Kinds.{Kinds}
use Rattle.fp_kinds.specs.Kinds.{AreKinds, FailsFirstAt}
use Rattle.fp_load.specs.Kinds.{failing_in, failing_of, failing_or, first_failing, first_passing, refusal_at, refusals_of}

first_passing-none : (test : ℕ → Bool) (from count : ℕ) → ((k : ℕ) → k < from + count → test k ≡ false) → first_passing test from count ≡ None
first_passing-none test from zero h = refl
first_passing-none test from (suc count) h =
    cond-false (test from) (Some from) (first_passing test (from + 1) count) (h from (omega arith))
    ∙ first_passing-none test (from + 1) count (λ k lt. h k (omega (arith, lt)))

first_passing-some : (test : ℕ → Bool) (from count number : ℕ) → from ≤ number → number < from + count → test number ≡ true → ((k : ℕ) → k < number → test k ≡ false)
    → first_passing test from count ≡ Some number
first_passing-some test from zero number le lt here before = absurd (omega (arith, le, lt))
first_passing-some test from (suc count) number le lt here before =
    elim (cases_lt from number) [
      | inl less ↦ cond-false (test from) (Some from) (first_passing test (from + 1) count) (before from less)
          ∙ first_passing-some test (from + 1) count number (omega (arith, less)) (omega (arith, lt)) here before
      | inr not_less ↦
          let same : from ≡ number = omega (arith, le, not_less) in
          cond-true (test from) (Some from) (first_passing test (from + 1) count) (ap test same ∙ here) ∙ ap Some same
    ]

-- a kinded code doesn't fail, and one that fails does so at its first instruction that does
kinded-in : (m : Method) (code : Code) (k : Kinds) → AreKinds m code k → failing_in m code ≡ None
kinded-in m code k kinds =
    ap (λ (o : Option ℕ). option_and_then (λ number. option_map (λ (i : ℕ × Instr). i.0) (slice_get code.instrs number)) o)
    (first_passing-none (fails m code) 0 (length code.instrs) (λ number lt. kinds.kinded number (omega (arith, lt))))

failing-in : (m : Method) (code : Code) (pc : ℕ) → FailsFirstAt m code pc → failing_in m code ≡ Some pc
failing-in m code pc f =
    ap (λ (o : Option ℕ). option_and_then (λ number. option_map (λ (i : ℕ × Instr). i.0) (slice_get code.instrs number)) o)
    (first_passing-some (fails m code) 0 (length code.instrs) f.number (omega arith) (omega (arith, f.first.known)) f.first.fails_there f.first.earlier)
    ∙ f.pc_is

pub kinded-failing : (m : Method) (code : Code) (k : Kinds) → m.code ≡ Some code → AreKinds m code k → None ≡ failing_of m
kinded-failing m code k is kinds = sym (ap (λ (o : Option Code). option_and_then (failing_in m) o) is ∙ kinded-in m code k kinds)

pub failing-failing : (m : Method) (code : Code) (pc : ℕ) → m.code ≡ Some code → FailsFirstAt m code pc → Some pc ≡ failing_of m
failing-failing m code pc is f = sym (ap (λ (o : Option Code). option_and_then (failing_in m) o) is ∙ failing-in m code pc f)

-- what holds of each item before a place, and of the item there
pub all-next : {X : Type 0} (P : X → Type 0) (xs : List X) (n : ℕ) (x : X) → n < length xs → x ≡ slice_index_or xs n x → P x
    → ((k : ℕ) (d : X) → k < n → P (slice_index_or xs k d)) → (k : ℕ) (d : X) → k < n + 1 → P (slice_index_or xs k d)
all-next P xs n x h is here before k d lt =
    elim (cases_lt k n) [
      | inl less ↦ before k d less
      | inr not_less ↦
          let same : n ≡ k = omega (arith, lt, not_less) in
          subst (λ at. P (slice_index_or xs at d)) same (subst P (is ∙ get_or_default xs n x d h) here)
    ]

-- a row of methods, from a place on
first_failing-at : (ms : List Method) (n : ℕ) (m : Method) → n < length ms → m ≡ slice_index_or ms n m
    → first_failing n (drop n ms) ≡ failing_or (failing_of m) n (first_failing (n + 1) (drop (n + 1) ms))
first_failing-at ms n m h is =
    ap (first_failing n) (drop_more ms n m h)
    ∙ ap (λ (x : Method). failing_or (failing_of x) n (first_failing (n + 1) (drop (n + 1) ms))) (sym is)

pub first_failing-next : (ms : List Method) (n : ℕ) (m : Method) (o : Option ℕ) → n < length ms → m ≡ slice_index_or ms n m → o ≡ failing_of m → o ≡ None
    → first_failing n (drop n ms) ≡ first_failing (n + 1) (drop (n + 1) ms)
first_failing-next ms n m o h is told none =
    first_failing-at ms n m h is ∙ ap (λ (v : Option ℕ). failing_or v n (first_failing (n + 1) (drop (n + 1) ms))) (sym told ∙ none)

pub first_failing-here : (ms : List Method) (n pc : ℕ) (m : Method) (o : Option ℕ) → n < length ms → m ≡ slice_index_or ms n m → o ≡ failing_of m → o ≡ Some pc
    → Some (n, pc) ≡ first_failing n (drop n ms)
first_failing-here ms n pc m o h is told some =
    sym (first_failing-at ms n m h is ∙ ap (λ (v : Option ℕ). failing_or v n (first_failing (n + 1) (drop (n + 1) ms))) (sym told ∙ some))

-- the files' refusals, from a place on
pub refusals-next : (ps : List (String Global)) (cs : List Class) (n : ℕ) (p : String Global) (c : Class) → n < length ps → n < length cs
    → p ≡ slice_index_or ps n p → c ≡ slice_index_or cs n c
    → refusals_of (zip (texts (drop n ps)) (drop n cs)) ≡ refusal_at (string_bytes p) (first_failing 0 c.methods) ++ refusals_of (zip (texts (drop (n + 1) ps)) (drop (n + 1) cs))
refusals-next ps cs n p c h k is there =
    ap (λ (l : List (String Global)). refusals_of (zip (texts l) (drop n cs))) (drop_more ps n p h)
    ∙ ap (λ (l : List Class). refusals_of (zip (texts (slice_index_or ps n p ∷ drop (n + 1) ps)) l)) (drop_more cs n c k)
    ∙ ap (λ (q : String Global). refusal_at (string_bytes q) (first_failing 0 (slice_index_or cs n c).methods) ++ refusals_of (zip (texts (drop (n + 1) ps)) (drop (n + 1) cs))) (sym is)
    ∙ ap (λ (q : Class). refusal_at (string_bytes p) (first_failing 0 q.methods) ++ refusals_of (zip (texts (drop (n + 1) ps)) (drop (n + 1) cs))) (sym there)
