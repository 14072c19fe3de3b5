-- What an instruction of the method of a number reaches.
use Rattle.std.proofs.Common.{◌≡◌, ℕ, ◌+◌, ◌<◌, ◌≤◌, List, length, sym, ap, subst, ◌∙◌, [], arith, inl, inr}
use Rattle.std.specs.Prelude.{Result, Ok, Err, Some, None, Option, IfOk, slice_get}
use Rattle.std.specs.List.{range_with_len}
use Rattle.std.proofs.lemmas.Option.{slice_get_cases}
use Rattle.fp_model.specs.declared.class.Class.{Class}
use Rattle.fp_model.specs.declared.class.instr.Instr.{Instr}
use Rattle.fp_model.specs.ClassSet.{SetView, first_method_of, methods_of}
use Rattle.fp_facts.specs.declared.call_targets.CallTargets.{CallTargets}
use Rattle.fp_facts.specs.declared.reference.Reference.{Reference}
use Rattle.fp_facts.specs.References.{reference_candidates, reference_of}
use Rattle.fp_facts.specs.Selection.{Candidates, always_bits, candidates_at, candidates_of, fixed, nothing, watched_bits}
use Rattle.fp_facts.proofs.ReferenceCandidates.{call-reaches, caller-known, uncalled-reaches}
use Rattle.fp_hier.specs.declared.calls.CallReach.{CallReach}
use Rattle.fp_hier.specs.Reach.{IsReach}
use Rattle.fp_hier.specs.Targets.{AreCallTargets, AreTargets, AreTargetsByClass}
use Rattle.fp_hier.proofs.DeclaringClasses.{declaring}
use Rattle.fp_hier.proofs.ReachLemmas.{none-stands}

-- a class stands at each number of theirs
pub class-there : (classes : List Class) (k : ℕ) → k < length classes → (c : Class) × (slice_get classes k ≡ Some c)
class-there classes k known =
    elim ((slice_get_cases classes k).1) [
      | inl there ↦ (there.0, there.2)
      | inr past ↦ absurd (omega (arith, known, past.0))
    ]

pub told-by : {E : Type 0} (methods : ℕ) (c : Candidates) (r : CallReach) (result : Result CallTargets E) → IsReach methods c r →
    IfOk result (λ t. (n : ℕ) (d : Candidates) → AreTargets n d.always r.always → AreTargetsByClass n d.by_class r.by_class.items → AreCallTargets n d t) → IfOk result (AreCallTargets methods c)
told-by methods c r (Err e) reached told = tt
told-by methods c r (Ok t) reached told = told methods c reached.always_told reached.by_class_told

-- the class that declares the method is the one that was looked up
pub called-at : {E : Type 0} (set : SetView) (caller k : ℕ) (c : Class) (i : Instr) (r : Reference) (result : Result CallTargets E) → k < length set.classes → first_method_of set.classes k ≤ caller → caller < first_method_of set.classes (k + 1) →
    slice_get set.classes k ≡ Some c → reference_of k i ≡ Some r → IfOk result (AreCallTargets (length (methods_of set.classes)) (reference_candidates set r)) →
    IfOk result (AreCallTargets (length (methods_of set.classes)) (candidates_at set caller i))
called-at set caller k c i r result known from to there is told =
    let P : Candidates → Type 0 = λ d. IfOk result (AreCallTargets (length (methods_of set.classes)) d) in
    subst P (call-reaches set caller k c i r (declaring set.classes caller k known from to) there is) told

nothing-told : (methods : ℕ) (t : CallTargets) → t ≡ record { targets = []; always = []; watch = [] } → AreCallTargets methods (fixed nothing) t
nothing-told methods t is =
    let none = none-stands (range_with_len 0 methods) in
    record {
      targets_told = ap (λ (u : CallTargets). u.targets) is ∙ sym none;
      always_told = ap (λ (u : CallTargets). u.always) is ∙ ap (λ l. always_bits l (fixed nothing)) (sym none);
      watch_told = ap (λ (u : CallTargets). u.watch) is ∙ ap (λ l. watched_bits l (fixed nothing)) (sym none);
    }

pub uncalled-at : (set : SetView) (caller k : ℕ) (c : Class) (i : Instr) (t : CallTargets) → k < length set.classes → first_method_of set.classes k ≤ caller → caller < first_method_of set.classes (k + 1) →
    slice_get set.classes k ≡ Some c → reference_of k i ≡ None → t ≡ record { targets = []; always = []; watch = [] } →
    AreCallTargets (length (methods_of set.classes)) (candidates_at set caller i) t
uncalled-at set caller k c i t known from to there is none =
    let methods = length (methods_of set.classes) in
    let P : Candidates → Type 0 = λ d. AreCallTargets methods d t in
    subst P (sym (caller-known set caller k c i (declaring set.classes caller k known from to) there ∙ uncalled-reaches set k c i is)) (nothing-told methods t none)
