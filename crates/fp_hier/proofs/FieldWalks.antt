-- Walks over names that look for a field, and the lists of names that they go over.
use Rattle.std.proofs.Common.{◌≡◌, ℕ, suc, ◌+◌, ◌<◌, List, ◌++◌, drop, get_or, length, add-one, sym, ap, ◌∙◌, arith, drop-cons, [], inl, inr}
use Rattle.std.specs.Prelude.{Option, Some, None, option_and_then, slice_get}
use Rattle.std.specs.Option.{option_map_or, option_to_list}
use Rattle.std.proofs.lemmas.Option.{slice_get_cases}
use Rattle.fp_model.specs.declared.class.Class.{Class}
use Rattle.fp_model.specs.ClassSet.{class_named, fields_of}
use Rattle.fp_facts.specs.Hierarchy.{class_and_above, classes_among}
use Rattle.fp_facts.specs.Resolution.{class_and_superinterfaces, declared_field, first_given, resolve_field, resolved_field}
use Rattle.fp_hier.specs.Lineages.{classes_up}
use Rattle.fp_hier.proofs.FirstMembers.{field-known}
use Rattle.fp_hier.proofs.GivenMembers.{give-found, give-known, give-on}

-- ---- one name of a walk

among-cut : (classes : List Class) (names : List ℕ) (i : ℕ) (first : Option ℕ) → i < length names → class_named classes (get_or names i 0) ≡ first →
    classes_among classes (drop i names) ≡ option_to_list first ++ classes_among classes (drop (i + 1) names)
among-cut classes names i first within named =
    ap (classes_among classes) (drop-cons names i 0 within)
    ∙ ap (λ (o : Option ℕ). option_to_list o ++ classes_among classes (drop (suc i) names)) named
    ∙ ap (λ (j : ℕ). option_to_list first ++ classes_among classes (drop j names)) (sym (add-one i))

-- no class has this name
pub name-outside : (give : ℕ → Option ℕ) (classes : List Class) (names : List ℕ) (i : ℕ) (whole : Option ℕ) → i < length names → class_named classes (get_or names i 0) ≡ None →
    first_given give (classes_among classes (drop i names)) ≡ whole → first_given give (classes_among classes (drop (i + 1) names)) ≡ whole
name-outside give classes names i whole within named known = sym (ap (first_given give) (among-cut classes names i None within named)) ∙ known

-- its class gives nothing
pub name-on : (give : ℕ → Option ℕ) (classes : List Class) (names : List ℕ) (i id : ℕ) (whole : Option ℕ) → i < length names → class_named classes (get_or names i 0) ≡ Some id → give id ≡ None →
    first_given give (classes_among classes (drop i names)) ≡ whole → first_given give (classes_among classes (drop (i + 1) names)) ≡ whole
name-on give classes names i id whole within named none known =
    give-on give (classes_among classes (drop i names)) (classes_among classes (drop (i + 1) names)) id whole (among-cut classes names i (Some id) within named) none known

-- its class gives something
pub name-found : (give : ℕ → Option ℕ) (classes : List Class) (names : List ℕ) (i id m : ℕ) (whole : Option ℕ) → i < length names → class_named classes (get_or names i 0) ≡ Some id → give id ≡ Some m →
    first_given give (classes_among classes (drop i names)) ≡ whole → Some m ≡ whole
name-found give classes names i id m whole within named found known =
    give-found give (classes_among classes (drop i names)) (classes_among classes (drop (i + 1) names)) id m whole (among-cut classes names i (Some id) within named) found known

-- ---- the numbers of fields

pub own-known : (classes : List Class) (name descr id m : ℕ) → first_given (declared_field classes name descr) (class_and_superinterfaces classes id) ≡ Some m → m < length (fields_of classes)
own-known classes name descr id m is =
    give-known (declared_field classes name descr) (length (fields_of classes)) m (λ class. field-known classes name descr class m) (class_and_superinterfaces classes id) is

-- ---- the field that a reference means

pub field-resolved : (classes : List Class) (class id name descr : ℕ) → class_named classes class ≡ Some id → id < length classes →
    first_given (λ other. first_given (declared_field classes name descr) (class_and_superinterfaces classes other)) (classes_up classes id) ≡ resolve_field classes class name descr
field-resolved classes class id name descr named within = elim (slice_get_cases classes id).1 [
  | inl found ↦
      let give : ℕ → Option ℕ = λ other. first_given (declared_field classes name descr) (class_and_superinterfaces classes other) in
      ap (λ (o : Option Class). first_given give (option_map_or (class_and_above classes) o [])) found.2
      ∙ sym (ap (λ (o : Option ℕ). option_and_then (λ (c : Class). resolved_field classes c name descr) (option_and_then (slice_get classes) o)) named
      ∙ ap (option_and_then (λ (c : Class). resolved_field classes c name descr)) found.2)
  | inr none ↦ absurd (omega (arith, within, none.0))
]
