-- Walks over instructions with the place of each, and the targets of their branches.
use Rattle.std.proofs.Common.{◌≡◌, inl, inr, ℕ, suc, ◌+◌, ◌-◌, ◌<◌, ◌≤◌, List, [], ◌∷◌, Bool, true, false, ◌&&◌, ◌||◌, ◌==◌, length, get_or, set, drop, Option, Some, None, Result, Ok, Err, refl, sym, ap, ◌∙◌, add-one, arith}
use Rattle.std.proofs.Math.Seq.{drop-cons}
use Rattle.std.proofs.lemmas.Bool.{cases_Bool, cases_eq, eq-eqb, ne_eqb}
use Rattle.std.proofs.lemmas.List.{get_or-set_same, get_or-set_other, length-append, drop_all}
use Rattle.std.specs.List.{flat_map, list_all}
use Rattle.fp_model.specs.declared.fault.FileFault.{FileFault}
use Rattle.fp_model.specs.declared.raw.attribute.RawIns.{RawIns}
use Rattle.fp_model.specs.Spelling.{spelled_ins}
use Rattle.fp_model.specs.Entries.{passes}
use Rattle.fp_model.specs.Branches.{far_target, far_targets, starts_at}
use Rattle.fp_model.specs.References.{each_checked}
use Rattle.fp_ops.specs.Marks.{is_marked}

-- ---- the next of a list

pub next_of : {A : Type 0} (xs : List A) (i : ℕ) (x : A) → i < length xs → x ≡ get_or xs i x → drop i xs ≡ x ∷ drop (i + 1) xs
next_of xs i x lt is = drop-cons xs i x lt ∙ ap (λ y. y ∷ drop (suc i) xs) (sym is) ∙ ap (λ k. x ∷ drop k xs) (sym (add-one i))

-- what is left is the next instruction, and what is left behind it
pub left_size : (code : List RawIns) (i : ℕ) (ins : RawIns) → i < length code → ins ≡ get_or code i ins → length (flat_map spelled_ins (drop i code)) ≡ length (spelled_ins ins) + length (flat_map spelled_ins (drop (i + 1) code))
left_size code i ins lt is =
    ap (λ l. length (flat_map spelled_ins l)) (next_of code i ins lt is) ∙ length-append (spelled_ins ins) (flat_map spelled_ins (drop (i + 1) code))

pub none_left : (code : List RawIns) (i : ℕ) → length code ≤ i → length (flat_map spelled_ins (drop i code)) ≡ 0
none_left code i le = ap (λ l. length (flat_map spelled_ins l)) (drop_all i code le)

-- an instruction takes a byte at least
pub some_size : (ins : RawIns) → 0 < length (spelled_ins ins)
some_size ins = elim (cases_Bool ins.wide) [
  | inl is ↦ rw is (omega arith)
  | inr not_wide ↦ rw not_wide (omega arith)
]

-- ---- marks

or_true : (a : Bool) → (a || true) ≡ true
or_true true = refl
or_true false = refl

or_false : (a : Bool) → (a || false) ≡ a
or_false true = refl
or_false false = refl

or_assoc : (a b c : Bool) → ((a || b) || c) ≡ (a || (b || c))
or_assoc true b c = refl
or_assoc false b c = refl

marked_more : (marks : List Bool) (pc place : ℕ) → pc < length marks → is_marked (set marks pc true) place ≡ (is_marked marks place || (place == pc))
marked_more marks pc place lt = elim (cases_eq place pc) [
  | inl same ↦ rw (same, get_or-set_same marks pc true false lt, eq-eqb pc pc refl, or_true (get_or marks pc false)) refl
  | inr other ↦ rw (get_or-set_other marks pc place true false other, ne_eqb place pc other, or_false (get_or marks place false)) refl
]

pub marks_next : (marks : List Bool) (code : List RawIns) (pc i : ℕ) (ins : RawIns) (place : ℕ) (wanted : Bool) → i < length code → ins ≡ get_or code i ins → pc < length marks → (is_marked marks place || starts_at pc (drop i code) place) ≡ wanted → (is_marked (set marks pc true) place || starts_at (pc + length (spelled_ins ins)) (drop (i + 1) code) place) ≡ wanted
unfolding starts_at
marks_next marks code pc i ins place wanted lt is inside h =
    rw (marked_more marks pc place inside)
    (or_assoc (is_marked marks place) (place == pc) (starts_at (pc + length (spelled_ins ins)) (drop (i + 1) code) place)
    ∙ ap (λ l. is_marked marks place || starts_at pc l place) (sym (next_of code i ins lt is)) ∙ h)

pub marks_end : (marks : List Bool) (code : List RawIns) (pc i place : ℕ) (wanted : Bool) → length code ≤ i → (is_marked marks place || starts_at pc (drop i code) place) ≡ wanted → is_marked marks place ≡ wanted
unfolding starts_at
marks_end marks code pc i place wanted le h =
    sym (ap (λ l. is_marked marks place || starts_at pc l place) (drop_all i code le) ∙ or_false (is_marked marks place)) ∙ h

-- ---- targets

pub agree_on : (f g : ℕ → Bool) → ((k : ℕ) → f k ≡ g k) → (targets : List (Option ℕ)) → list_all (passes f) targets ≡ list_all (passes g) targets
agree_on f g same [] = refl
agree_on f g same (None ∷ targets) = refl
agree_on f g same (Some k ∷ targets) = rw (same k, agree_on f g same targets) refl

far_targets-first : (pc step : ℕ) (args : List ℕ) (left at : ℕ) → far_targets pc step args (suc left) at ≡ far_target pc args at ∷ far_targets pc step args left (at + step)
unfolding far_targets
far_targets-first pc step args left at = refl

pub far_targets-next : (pc step : ℕ) (args : List ℕ) (count i at : ℕ) → i < count → far_targets pc step args (count - i) at ≡ far_target pc args at ∷ far_targets pc step args (count - (i + 1)) (at + step)
far_targets-next pc step args count i at lt =
    let k : count - i ≡ suc (count - (i + 1)) = omega arith in
    rw k (far_targets-first pc step args (count - (i + 1)) at)

pub far_targets-end : (pc step : ℕ) (args : List ℕ) (count i at : ℕ) → count ≡ i → far_targets pc step args (count - i) at ≡ []
unfolding far_targets
far_targets-end pc step args count i at e = let k : count - i ≡ 0 = omega arith in rw k refl

-- ---- checks

pub each_next : {A : Type 0} (spelled : A → List ℕ) (check : ℕ → A → Result (Unit {0}) FileFault) (at : ℕ) (xs : List A) (i : ℕ) (x : A) → i < length xs → x ≡ get_or xs i x → check at x ≡ Ok tt → each_checked spelled check at (drop i xs) ≡ each_checked spelled check (at + length (spelled x)) (drop (i + 1) xs)
unfolding each_checked
each_next spelled check at xs i x lt is passed = rw (next_of xs i x lt is, passed) refl

pub each_err : {A : Type 0} (spelled : A → List ℕ) (check : ℕ → A → Result (Unit {0}) FileFault) (at : ℕ) (xs : List A) (i : ℕ) (x : A) (f : FileFault) → i < length xs → x ≡ get_or xs i x → check at x ≡ Err f → each_checked spelled check at (drop i xs) ≡ Err f
unfolding each_checked
each_err spelled check at xs i x f lt is failed = rw (next_of xs i x lt is, failed) refl

pub each_end : {A : Type 0} (spelled : A → List ℕ) (check : ℕ → A → Result (Unit {0}) FileFault) (at : ℕ) (xs : List A) (i : ℕ) → length xs ≤ i → each_checked spelled check at (drop i xs) ≡ Ok tt
unfolding each_checked
each_end spelled check at xs i le = rw (drop_all i xs le) refl

pub and_true : (a b : Bool) → a ≡ true → (a && b) ≡ b
and_true a b e = rw e refl

pub and_false : (a b : Bool) → a ≡ false → (a && b) ≡ false
and_false a b e = rw e refl
