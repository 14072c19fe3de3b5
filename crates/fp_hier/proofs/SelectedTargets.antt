-- What a declaration, or the default methods, make of a call.
use Rattle.std.proofs.Common.{◌≡◌, ◌<◌, ◌==◌, nat_lt, not, ◌&&◌, ◌||◌, ℕ, zero, suc, Bool, true, false, cond, List, [], ◌∷◌, length, slice_get, Some, None, refl, ap, sym, subst, ◌∙◌, arith, inl, inr}
use Rattle.std.specs.Bool.{beq}
use Rattle.std.specs.List.{flat_map}
use Rattle.std.specs.List.Sorted.{IsStrictlyIncreasing}
use Rattle.std.specs.Option.{option_map_or, option_to_list}
use Rattle.std.proofs.lemmas.Bool.{and_from, and_parts, cases_lt, cond-true, cond-false, eq-eqb, eqb-true, false≢true, lt-ltb, or_cases, or_left}
use Rattle.std.proofs.lemmas.Option.{none-some, same_Some, slice_get_past}
use Rattle.fp_model.specs.declared.class.Class.{Class}
use Rattle.fp_model.specs.declared.class.Method.{Method}
use Rattle.fp_model.specs.ClassSet.{SetView, methods_of}
use Rattle.fp_model.specs.Flags.{is_static}
use Rattle.fp_facts.specs.Hierarchy.{class_and_above, has_number, has_outside_ancestor}
use Rattle.fp_facts.specs.Resolution.{declared_method, first_of, has_code, interfaces_above, is_native, is_open, method_at, methods_among}
use Rattle.fp_facts.specs.Selection.{Reached, ascending_among, default_methods, found, found_as, found_at, instance_declaration, nothing, only, outside, selected, selected_at, with_defaults}
use Rattle.fp_hier.specs.Targets.{AreTargets}
use Rattle.fp_hier.specs.declared.targets.Targets.{Targets}
use Rattle.fp_hier.proofs.AscendingLists.{has-filter, is-filter, same-test}

-- ---- lists of methods of the set

-- an ascending list with the members of a list below a bound
pub ascending-is : (methods : ℕ) (ascending list : List ℕ) → IsStrictlyIncreasing ascending → ((n : ℕ) → has_number ascending n ≡ has_number list n) → ((n : ℕ) → has_number list n ≡ true → n < methods) → ascending ≡ ascending_among methods list
ascending-is methods ascending list up members below =
    is-filter (has_number list) methods ascending up
    (λ n.
    members n
    ∙ same-test (has_number list n) (has_number list n && nat_lt n methods)
    (λ h. and_from (has_number list n) (nat_lt n methods) h (lt-ltb n methods (below n h)))
    (λ h. (and_parts (has_number list n) (nat_lt n methods) h).0))

none-rise : IsStrictlyIncreasing []
none-rise = λ k lt. absurd (omega arith)

one-rises : (n : ℕ) → IsStrictlyIncreasing (n ∷ [])
one-rises n = λ k lt. absurd (omega arith)

-- no method, and the outside or not
abbrev pub none_and : Bool → Reached
none_and beyond = record { methods = []; outside = beyond }

pub none-told : (methods : ℕ) (beyond : Bool) (r : Reached) (t : Targets) → r ≡ none_and beyond → t.methods ≡ [] → t.outside ≡ beyond → AreTargets methods r t
none-told methods beyond r t is empty told =
    let nothing : List ℕ = [] in
    let are : AreTargets methods (none_and beyond) t = record {
      methods_told = empty ∙ ascending-is methods nothing nothing none-rise (λ n. refl) (λ n h. absurd (false≢true h));
      outside_told = told;
    } in
    subst (λ r. AreTargets methods r t) (sym is) are

pub one-told : (methods id : ℕ) (r : Reached) (t : Targets) → id < methods → r ≡ only id → t.methods ≡ id ∷ [] → t.outside ≡ false → AreTargets methods r t
one-told methods id r t known is one told =
    let are : AreTargets methods (only id) t = record {
      methods_told = one
          ∙ ascending-is methods (id ∷ []) (id ∷ []) (one-rises id) (λ n. refl)
          (λ n h.
          elim (or_cases (id == n) false h) [
            | inl same ↦ omega (arith, eqb-true id n same)
            | inr none ↦ absurd (false≢true none)
          ]);
      outside_told = told;
    } in
    subst (λ r. AreTargets methods r t) (sym is) are

-- ---- a declaration

pub found-at : (classes : List Class) (id : ℕ) (m : Method) → method_at classes id ≡ Some m → found_at classes id ≡ found id m
found-at classes id m is = ap (λ o. option_map_or (found id) o nothing) is

pub found-coded : (id : ℕ) (m : Method) → has_code m ≡ true → found id m ≡ only id
found-coded id m coded = cond-true (has_code m) (only id) (cond (is_native m) outside nothing) coded

native-or : (b : Bool) → cond b outside nothing ≡ none_and b
native-or true = refl
native-or false = refl

pub found-uncoded : (id : ℕ) (m : Method) → has_code m ≡ false → found id m ≡ none_and (is_native m)
found-uncoded id m coded = cond-false (has_code m) (only id) (cond (is_native m) outside nothing) coded ∙ native-or (is_native m)

pub differ : (a b : Bool) → not (beq a b) ≡ true → a ≡ b → ⊥
differ true true h same = false≢true h
differ true false h same = false≢true (sym same)
differ false true h same = false≢true same
differ false false h same = false≢true h

pub agree : (a b : Bool) → not (beq a b) ≡ false → a ≡ b
agree true true h = refl
agree true false h = absurd (false≢true (sym h))
agree false true h = absurd (false≢true (sym h))
agree false false h = refl

-- one of another staticness than is looked for
other-static : (wanted is : Bool) (r : Reached) → (is ≡ wanted → ⊥) → cond wanted (cond is r nothing) (cond is nothing r) ≡ nothing
other-static true true r apart = absurd (apart refl)
other-static true false r apart = refl
other-static false true r apart = refl
other-static false false r apart = absurd (apart refl)

same-static : (wanted is : Bool) (r : Reached) → is ≡ wanted → cond wanted (cond is r nothing) (cond is nothing r) ≡ r
same-static true true r same = refl
same-static true false r same = absurd (false≢true same)
same-static false true r same = absurd (false≢true (sym same))
same-static false false r same = refl

abbrev as_wanted : Bool → ℕ → Method → Reached
as_wanted wanted id m = cond wanted (cond (is_static m.flags) (found id m) nothing) (cond (is_static m.flags) nothing (found id m))

pub found_as-other : (wanted : Bool) (classes : List Class) (id : ℕ) (m : Method) → method_at classes id ≡ Some m → (is_static m.flags ≡ wanted → ⊥) → found_as wanted classes (Some id) ≡ none_and false
found_as-other wanted classes id m is apart =
    ap (λ o. option_map_or (as_wanted wanted id) o nothing) is ∙ other-static wanted (is_static m.flags) (found id m) apart

pub found_as-same : (wanted : Bool) (classes : List Class) (id : ℕ) (m : Method) → method_at classes id ≡ Some m → is_static m.flags ≡ wanted → found_at classes id ≡ found_as wanted classes (Some id)
found_as-same wanted classes id m is same =
    found-at classes id m is ∙ sym (same-static wanted (is_static m.flags) (found id m) same)
    ∙ sym (ap (λ o. option_map_or (as_wanted wanted id) o nothing) is)

-- ---- methods of the set

pub there : {X : Type 0} (xs : List X) (i : ℕ) → i < length xs → (x : X) × (slice_get xs i ≡ Some x)
there [] i within = absurd (omega arith)
there (x ∷ xs) zero within = (x, refl)
there (x ∷ xs) (suc i) within = there xs i (omega arith)

passes-known : (classes : List Class) (test : Method → Bool) (n : ℕ) → option_map_or test (method_at classes n) false ≡ true → n < length (methods_of classes)
passes-known classes test n h =
    elim (cases_lt n (length (methods_of classes))) [
      | inl less ↦ less
      | inr past ↦ absurd (false≢true (sym (ap (λ o. option_map_or test o false) (slice_get_past (methods_of classes) n past)) ∙ h))
    ]

-- methods that are looked for are of the set
pub among-known : (classes : List Class) (test : Method → Bool) (name descr : ℕ) (ids : List ℕ) (n : ℕ) → has_number (methods_among classes test name descr ids) n ≡ true → n < length (methods_of classes)
among-known classes test name descr ids n h =
    let p : ℕ → Bool = λ m. option_map_or test (method_at classes m) false in
    let all = flat_map (λ (id : ℕ). option_to_list (declared_method classes name descr id)) ids in
    passes-known classes test n (and_parts (p n) (has_number all n) (sym (has-filter p all n) ∙ h)).0

first-has : (xs : List ℕ) (n : ℕ) → first_of xs ≡ Some n → has_number xs n ≡ true
first-has [] n h = absurd (none-some n h)
first-has (x ∷ xs) n h = or_left (x == n) (has_number xs n) (eq-eqb x n (same_Some x n h))

pub declaration-known : (classes : List Class) (c : Class) (name descr id : ℕ) → instance_declaration classes c name descr ≡ Some id → id < length (methods_of classes)
declaration-known classes c name descr id is =
    let test : Method → Bool = λ m. not (is_static m.flags) in
    among-known classes test name descr (class_and_above classes c) id (first-has (methods_among classes test name descr (class_and_above classes c)) id is)

-- ---- selection

selected-class : (set : SetView) (class : ℕ) (c : Class) (name descr : ℕ) → slice_get set.classes class ≡ Some c → selected_at set class name descr ≡ selected set c name descr
selected-class set class c name descr at = ap (λ o. option_map_or (λ (c : Class). selected set c name descr) o nothing) at

pub selected-found : (set : SetView) (class : ℕ) (c : Class) (name descr id : ℕ) → slice_get set.classes class ≡ Some c → instance_declaration set.classes c name descr ≡ Some id → found_at set.classes id ≡ selected_at set class name descr
selected-found set class c name descr id at is =
    sym (selected-class set class c name descr at
    ∙ ap (λ o. option_map_or (found_at set.classes) o (with_defaults set c (default_methods set.classes c name descr))) is)

pub selected-defaults : (set : SetView) (class : ℕ) (c : Class) (name descr : ℕ) (defaults : List ℕ) (beyond : Bool) (t : Targets) → slice_get set.classes class ≡ Some c → instance_declaration set.classes c name descr ≡ None → defaults ≡ default_methods set.classes c name descr → beyond ≡ has_outside_ancestor set c → IsStrictlyIncreasing t.methods → ((m : ℕ) → has_number t.methods m ≡ has_number defaults m) → t.outside ≡ ((length defaults == 0) || beyond) → AreTargets (length (methods_of set.classes)) (selected_at set class name descr) t
selected-defaults set class c name descr defaults beyond t at none given outer up members told =
    let list = default_methods set.classes c name descr in
    let are : AreTargets (length (methods_of set.classes)) (with_defaults set c list) t = record {
      methods_told = ascending-is (length (methods_of set.classes)) t.methods list up (λ m. members m ∙ ap (λ l. has_number l m) given)
          (λ n h. among-known set.classes (λ m. is_open m && has_code m) name descr (interfaces_above set.classes c) n h);
      outside_told = told ∙ ap (λ l. (length l == 0) || beyond) given ∙ ap (λ b. (length list == 0) || b) outer;
    } in
    subst (λ r. AreTargets (length (methods_of set.classes)) r t)
    (sym (selected-class set class c name descr at ∙ ap (λ o. option_map_or (found_at set.classes) o (with_defaults set c list)) none))
    are
