-- Which classes a code may begin to initialise.
use Rattle.std.proofs.Common.{◌≡◌, ◌<◌, ◌+◌, ◌&&◌, ℕ, Bool, true, false, IsTrue, List, [], ◌∷◌, Option, Some, None, length, filter, refl, sym, ap, subst, ◌∙◌, arith, cond}
use Rattle.std.specs.Prelude.{slice_get, option_and_then}
use Rattle.std.specs.List.{flat_map, list_any, range_with_len}
use Rattle.std.specs.List.Sorted.{IsStrictlyIncreasing}
use Rattle.std.specs.Option.{option_map_or, option_to_list}
use Rattle.std.proofs.lemmas.List.FromFn.{get_or-range_with_len, length-range_with_len}
use Rattle.std.proofs.lemmas.List.Kept.{IsStrictlyIncreasing-filter}
use Rattle.std.proofs.lemmas.Option.{slice_get_within}
use Rattle.fp_model.specs.declared.class.Class.{Class}
use Rattle.fp_model.specs.declared.class.Code.{Code}
use Rattle.fp_model.specs.declared.class.Method.{Method}
use Rattle.fp_model.specs.declared.class.instr.Instr.{Instr}
use Rattle.fp_model.specs.ClassSet.{SetView}
use Rattle.fp_eqs.specs.Tests.{both, parts}
use Rattle.fp_facts.specs.Hierarchy.{has_number}
use Rattle.fp_facts.specs.Initialisation.{AreBegun, IsBegun, begins, begun_at, has_initialiser, initialised_by, is_initialiser, with_ancestors}
use Rattle.fp_facts.specs.Transfer.{frame_before, is_unreached}
use Rattle.fp_facts.proofs.ListedNumbers.{any-from, any-has, has-filter, has-flat, has-range, or-none}

range-rises : (a n : ℕ) → IsStrictlyIncreasing (range_with_len a n)
range-rises a n = λ k lt.
    let more : k + 1 < n = omega (arith, lt, length-range_with_len a n) in
    let less : k < n = omega (arith, more) in
    omega (arith, get_or-range_with_len a n k 0 less, get_or-range_with_len a n (k + 1) 0 more)

module _ (set : SetView) (m : Method) (code : Code) where
  has-begun : (class : ℕ) → has_number (begins set m code) class
      ≡ ((has_initialiser set class && list_any (λ number. has_number (begun_at set m code number) class) (range_with_len 0 (length code.instrs))) && has_number (range_with_len 0 (length set.classes)) class)
  has-begun class =
      let numbers = range_with_len 0 (length code.instrs) in
      let all = flat_map (begun_at set m code) numbers in
      let classes = range_with_len 0 (length set.classes) in
      has-filter (has_number (filter (has_initialiser set) all)) classes class
      ∙ ap (λ b. b && has_number classes class) (has-filter (has_initialiser set) all class ∙ ap (λ b. has_initialiser set class && b) (has-flat (begun_at set m code) numbers class))

  initialiser-known : (class : ℕ) → IsTrue (has_initialiser set class) → class < length set.classes
  initialiser-known class h = by-class (slice_get set.classes class) refl h
    where
      by-class : (found : Option Class) → slice_get set.classes class ≡ found → IsTrue (option_map_or (λ c. list_any (is_initialiser set.names) c.methods) found false) → class < length set.classes
      by-class None is h = let wrong : false ≡ true = h in cc
      by-class (Some c) is h = slice_get_within set.classes class c is

  -- what an instruction that a way leads to begins
  begun-there : (number class : ℕ) → IsTrue (has_number (begun_at set m code number) class) → IsBegun set m code class
  begun-there number class h = by-reached (is_unreached (frame_before m code number)) refl h
    where
      by-class : (i : ℕ × Instr) → slice_get code.instrs number ≡ Some i → is_unreached (frame_before m code number) ≡ false → (found : Option ℕ) → initialised_by set.classes i.1 ≡ found →
          IsTrue (has_number (flat_map (with_ancestors set.classes) (option_to_list found)) class) → IsBegun set m code class
      by-class i there reached None is h = let wrong : false ≡ true = h in cc
      by-class i there reached (Some begun) is h = record {
        number = number;
        instr = i;
        there = there;
        reached = reached;
        begun = begun;
        initialised = is;
        above = subst (λ b. IsTrue b) (has-flat (with_ancestors set.classes) (begun ∷ []) class ∙ or-none (has_number (with_ancestors set.classes begun) class)) h;
      }

      by-instr : is_unreached (frame_before m code number) ≡ false → (found : Option (ℕ × Instr)) → slice_get code.instrs number ≡ found →
          IsTrue (has_number (flat_map (with_ancestors set.classes) (option_to_list (option_and_then (λ i. initialised_by set.classes i.1) found))) class) → IsBegun set m code class
      by-instr reached None is h = let wrong : false ≡ true = h in cc
      by-instr reached (Some i) is h = by-class i is reached (initialised_by set.classes i.1) refl h

      by-reached : (b : Bool) → is_unreached (frame_before m code number) ≡ b →
          IsTrue (has_number (cond b [] (flat_map (with_ancestors set.classes) (option_to_list (option_and_then (λ i. initialised_by set.classes i.1) (slice_get code.instrs number))))) class) → IsBegun set m code class
      by-reached true is h = let wrong : false ≡ true = h in cc
      by-reached false is h = by-instr is (slice_get code.instrs number) refl h

  begun-at : (class : ℕ) (b : IsBegun set m code class) → IsTrue (has_number (begun_at set m code b.number) class)
  begun-at class b =
      let all : List ℕ = flat_map (with_ancestors set.classes) (option_to_list (option_and_then (λ i. initialised_by set.classes i.1) (slice_get code.instrs b.number))) in
      let one : option_and_then (λ i. initialised_by set.classes i.1) (slice_get code.instrs b.number) ≡ Some b.begun =
      ap (λ (o : Option (ℕ × Instr)). option_and_then (λ i. initialised_by set.classes i.1) o) b.there ∙ b.initialised in
      let has : has_number all class ≡ has_number (with_ancestors set.classes b.begun) class =
      ap (λ (o : Option ℕ). has_number (flat_map (with_ancestors set.classes) (option_to_list o)) class) one
      ∙ has-flat (with_ancestors set.classes) (b.begun ∷ []) class ∙ or-none (has_number (with_ancestors set.classes b.begun) class) in
      ap (λ (t : Bool). has_number (cond t [] all) class) b.reached ∙ has ∙ b.above

  pub are-begun : AreBegun set m code (begins set m code)
  are-begun =
      let numbers = range_with_len 0 (length code.instrs) in
      let test : ℕ → ℕ → Bool = λ class number. has_number (begun_at set m code number) class in
      record {
        ascending = IsStrictlyIncreasing-filter _ (range_with_len 0 (length set.classes)) (range-rises 0 (length set.classes));
        initialisers = λ class h.
            let outer = parts (has_initialiser set class && list_any (test class) numbers) (has_number (range_with_len 0 (length set.classes)) class) (subst (λ b. IsTrue b) (has-begun class) h) in
            (parts (has_initialiser set class) (list_any (test class) numbers) outer.0).0;
        caused = λ class h.
            let outer = parts (has_initialiser set class && list_any (test class) numbers) (has_number (range_with_len 0 (length set.classes)) class) (subst (λ b. IsTrue b) (has-begun class) h) in
            let found = any-from (test class) numbers (parts (has_initialiser set class) (list_any (test class) numbers) outer.0).1 in
            begun-there found.number class found.passes;
        all = λ class b init.
            let within : b.number < length code.instrs = slice_get_within code.instrs b.number b.instr b.there in
            let listed = any-has (test class) numbers b.number (has-range 0 (length code.instrs) b.number (omega arith) (omega (arith, within))) (begun-at class b) in
            let inner = both (has_initialiser set class) (list_any (test class) numbers) init listed in
            let known = has-range 0 (length set.classes) class (omega arith) (omega (arith, initialiser-known class init)) in
            subst (λ b. IsTrue b) (sym (has-begun class))
            (both (has_initialiser set class && list_any (test class) numbers) (has_number (range_with_len 0 (length set.classes)) class) inner known);
      }
