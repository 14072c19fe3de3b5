-- The targets of a call, from the lists of methods that are handed in.
use Rattle.std.proofs.Common.{◌≡◌, ◌+◌, ◌<◌, ◌==◌, nat_lt, not, ◌&&◌, ◌||◌, ℕ, Bool, true, false, List, [], ◌∷◌, length, get_or, filter, map, Result, Ok, Err, IfOk, refl, ap, sym, ◌∙◌, inl, inr}
use Rattle.std.specs.List.{Contains, flat_map, range_with_len}
use Rattle.std.specs.List.Sorted.{IsStrictlyIncreasing}
use Rattle.std.specs.Option.{option_map_or}
use Rattle.std.proofs.lemmas.Bool.{and_parts, cases_lt}
use Rattle.std.proofs.lemmas.Grind.{get_or_default_zero}
use Rattle.std.proofs.lemmas.List.Folds.{list_any-append}
use Rattle.std.proofs.lemmas.Option.{slice_get-get_or, slice_get_past}
use Rattle.fp_facts.specs.Hierarchy.{has_number}
use Rattle.fp_facts.specs.Selection.{Candidates, Reached, all_reached, ascending_among, bits_of, target_list, watched_bits}
use Rattle.fp_hier.specs.Bits.{AreToldTargets, as_candidates, as_reached, bits_without, has_bits}
use Rattle.fp_hier.specs.Targets.{AreCallTargets, AreTargets, AreTargetsByClass}
use Rattle.fp_facts.specs.declared.call_targets.CallTargets.{CallTargets}
use Rattle.fp_hier.specs.declared.targets.Targets.{Targets}
use Rattle.fp_hier.proofs.AscendingLists.{filter-agree, has-filter_range, has-from_contains, is-filter}
use Rattle.fp_hier.proofs.TargetBits.{is_reached}

-- ---- from what each function gives

abbrev pub reached_by_class : List (ℕ × Targets) → List (ℕ × Reached)
reached_by_class told = map (λ (t : ℕ × Targets). (t.0, as_reached t.1)) told

abbrev pub with_bits : (targets without : List ℕ) → ℕ × Reached → ℕ × List ℕ
with_bits targets without c = (c.0, bits_without targets without c.1)

abbrev pub told_bits : (targets without : List ℕ) → ℕ × Targets → ℕ × List ℕ
told_bits targets without t = (t.0, bits_without targets without (as_reached t.1))

bits-by_class : (targets without : List ℕ) (told : List (ℕ × Targets)) → map (told_bits targets without) told ≡ map (with_bits targets without) (reached_by_class told)
bits-by_class targets without [] = refl
bits-by_class targets without (t ∷ told) = ap (λ l. told_bits targets without t ∷ l) (bits-by_class targets without told)

pub targets-told : (always : Targets) (told : List (ℕ × Targets)) (t : CallTargets) → IsStrictlyIncreasing t.targets → ((m : ℕ) → has_number t.targets m ≡ has_number (all_reached (as_candidates always told)) m) → t.always ≡ bits_of t.targets (as_reached always) → t.watch ≡ filter has_bits (map (told_bits t.targets t.always) told) → AreToldTargets (as_candidates always told) t
targets-told always told t up members bits watch = record {
  rising = up;
  members = members;
  always_told = bits;
  watch_told = watch ∙ ap (filter has_bits) (bits-by_class t.targets t.always told)
      ∙ ap (λ a. filter has_bits (map (with_bits t.targets a) (reached_by_class told))) bits;
}

-- ---- the methods that are told

has-told : (methods : ℕ) (r : Reached) (t : Targets) (n : ℕ) → AreTargets methods r t → has_number t.methods n ≡ (has_number r.methods n && nat_lt n methods)
has-told methods r t n told = ap (λ l. has_number l n) told.methods_told ∙ has-filter_range (has_number r.methods) methods n

or-and : (a b l : Bool) → ((a && l) || (b && l)) ≡ ((a || b) && l)
or-and true b true = refl
or-and true true false = refl
or-and true false false = refl
or-and false b l = refl

abbrev pub methods_by_class : List (ℕ × Reached) → List ℕ
methods_by_class by_class = flat_map (λ (c : ℕ × Reached). c.1.methods) by_class

has-by_class : (methods : ℕ) (cs : List (ℕ × Reached)) (told : List (ℕ × Targets)) (n : ℕ) → AreTargetsByClass methods cs told → has_number (methods_by_class (reached_by_class told)) n ≡ (has_number (methods_by_class cs) n && nat_lt n methods)
has-by_class methods [] [] n are = refl
has-by_class methods [] (t ∷ told) n are = absurd are
has-by_class methods (c ∷ cs) [] n are = absurd are
has-by_class methods (c ∷ cs) (t ∷ told) n are =
    let rest = methods_by_class (reached_by_class told) in
    list_any-append (λ m. m == n) t.1.methods rest
    ∙ ap (λ b. b || has_number rest n) (has-told methods c.1 t.1 n are.1.0)
    ∙ ap (λ b. (has_number c.1.methods n && nat_lt n methods) || b) (has-by_class methods cs told n are.1.1)
    ∙ or-and (has_number c.1.methods n) (has_number (methods_by_class cs) n) (nat_lt n methods)
    ∙ ap (λ b. b && nat_lt n methods) (sym (list_any-append (λ m. m == n) c.1.methods (methods_by_class cs)))

has-all : (methods : ℕ) (c : Candidates) (always : Targets) (told : List (ℕ × Targets)) (n : ℕ) → AreTargets methods c.always always → AreTargetsByClass methods c.by_class told → has_number (all_reached (as_candidates always told)) n ≡ (has_number (all_reached c) n && nat_lt n methods)
has-all methods c always told n here each =
    let rest = methods_by_class (reached_by_class told) in
    list_any-append (λ m. m == n) always.methods rest
    ∙ ap (λ b. b || has_number rest n) (has-told methods c.always always n here)
    ∙ ap (λ b. (has_number c.always.methods n && nat_lt n methods) || b) (has-by_class methods c.by_class told n each)
    ∙ or-and (has_number c.always.methods n) (has_number (methods_by_class c.by_class) n) (nat_lt n methods)
    ∙ ap (λ b. b && nat_lt n methods) (sym (list_any-append (λ m. m == n) c.always.methods (methods_by_class c.by_class)))

-- ---- the bits that are told

at-target : (methods : ℕ) (list : List ℕ) (n : ℕ) → n < length (ascending_among methods list) → nat_lt (get_or (ascending_among methods list) n 0) methods ≡ true
at-target methods list n less =
    let targets = ascending_among methods list in
    let x = get_or targets n 0 in
    let at : Contains targets x = (n, less, get_or_default_zero targets n x less) in
    let known : (has_number list x && nat_lt x methods) ≡ true = sym (has-filter_range (has_number list) methods x) ∙ has-from_contains targets x at in
    (and_parts (has_number list x) (nat_lt x methods) known).1

and-true : (a l : Bool) → l ≡ true → (a && l) ≡ a
and-true true l is = is
and-true false l is = refl

-- among targets below the number of methods the bits are those of what is reached
same-bits : (methods : ℕ) (list : List ℕ) (r : Reached) (t : Targets) → AreTargets methods r t → bits_of (ascending_among methods list) (as_reached t) ≡ bits_of (ascending_among methods list) r
same-bits methods list r t told =
    let targets = ascending_among methods list in
    filter-agree (is_reached targets (as_reached t)) (is_reached targets r) (range_with_len 0 (length targets + 1))
    (λ n.
    elim (cases_lt n (length targets)) [
      | inl less ↦
          let at = slice_get-get_or targets n 0 less in
          ap (λ o. option_map_or (has_number t.methods) o (t.outside && (n == length targets))) at
          ∙ has-told methods r t (get_or targets n 0) told
          ∙ and-true (has_number r.methods (get_or targets n 0)) (nat_lt (get_or targets n 0) methods) (at-target methods list n less)
          ∙ sym (ap (λ o. option_map_or (has_number r.methods) o (r.outside && (n == length targets))) at)
      | inr past ↦
          let at = slice_get_past targets n past in
          ap (λ o. option_map_or (has_number t.methods) o (t.outside && (n == length targets))) at
          ∙ ap (λ b. b && (n == length targets)) told.outside_told
          ∙ sym (ap (λ o. option_map_or (has_number r.methods) o (r.outside && (n == length targets))) at)
    ])

same-row : (a b : ℕ) (x y : List ℕ) → a ≡ b → x ≡ y → ◌≡◌ {A = ℕ × List ℕ} (a, x) (b, y)
same-row a b x y p q = cc

same-watch : (methods : ℕ) (list without : List ℕ) (cs : List (ℕ × Reached)) (told : List (ℕ × Targets)) → AreTargetsByClass methods cs told → map (with_bits (ascending_among methods list) without) (reached_by_class told) ≡ map (with_bits (ascending_among methods list) without) cs
same-watch methods list without [] [] are = refl
same-watch methods list without [] (t ∷ told) are = absurd are
same-watch methods list without (c ∷ cs) [] are = absurd are
same-watch methods list without (c ∷ cs) (t ∷ told) are =
    let targets = ascending_among methods list in
    let first : told_bits targets without t ≡ with_bits targets without c =
    same-row t.0 c.0 (bits_without targets without (as_reached t.1)) (bits_without targets without c.1) are.0 (ap (filter (λ bit. not (has_number without bit))) (same-bits methods list c.1 t.1 are.1.0)) in
    ap (λ w. w ∷ map (with_bits targets without) (reached_by_class told)) first
    ∙ ap (λ l. with_bits targets without c ∷ l) (same-watch methods list without cs told are.1.1)

-- ---- the targets of the call

pub call-told : (methods : ℕ) (c : Candidates) (always : Targets) (told : List (ℕ × Targets)) (t : CallTargets) → AreToldTargets (as_candidates always told) t → AreTargets methods c.always always → AreTargetsByClass methods c.by_class told → AreCallTargets methods c t
call-told methods c always told t are here each =
    let targets = target_list methods c in
    let first : t.targets ≡ targets =
    is-filter (has_number (all_reached c)) methods t.targets are.rising (λ n. are.members n ∙ has-all methods c always told n here each) in
    let bits : bits_of targets (as_reached always) ≡ bits_of targets c.always = same-bits methods (all_reached c) c.always always here in
    record {
      targets_told = first;
      always_told = are.always_told ∙ ap (λ l. bits_of l (as_reached always)) first ∙ bits;
      watch_told = are.watch_told ∙ ap (λ l. watched_bits l (as_candidates always told)) first
          ∙ ap (λ a. filter has_bits (map (with_bits targets a) (reached_by_class told))) bits
          ∙ ap (filter has_bits) (same-watch methods (all_reached c) (bits_of targets c.always) c.by_class told each);
    }

pub calls-told : {E : Type 0} (always : Targets) (told : List (ℕ × Targets)) (r : Result CallTargets E) → IfOk r (AreToldTargets (as_candidates always told)) → IfOk r (λ t. (methods : ℕ) (c : Candidates) → AreTargets methods c.always always → AreTargetsByClass methods c.by_class told → AreCallTargets methods c t)
calls-told always told (Ok t) are = λ methods c here each. call-told methods c always told t are here each
calls-told always told (Err e) are = tt
