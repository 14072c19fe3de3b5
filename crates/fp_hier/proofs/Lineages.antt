-- Superclasses by their names, and by the numbers of their classes.
use Rattle.std.proofs.Common.{◌≡◌, ℕ, suc, zero, ◌+◌, ◌<◌, ◌==◌, nat_lt, true, false, List, [], ◌∷◌, ◌++◌, length, get_or, refl, sym, ap, subst, ◌∙◌, arith, inl, inr}
use Rattle.std.specs.Prelude.{Option, Some, None, option_and_then, slice_get}
use Rattle.std.specs.List.{position_or_len}
use Rattle.std.specs.Option.{option_map_or, option_to_list}
use Rattle.std.proofs.lemmas.Bool.{eq-eqb, ne_eqb, lt-ltb}
use Rattle.std.proofs.lemmas.List.Sums.{position_or_len_is}
use Rattle.std.proofs.lemmas.Option.{get_or_from_slice_get, slice_get-get_or, slice_get_cases, slice_get_within}
use Rattle.fp_model.specs.declared.class.Class.{Class}
use Rattle.fp_model.specs.ClassSet.{IsSet, SetView, class_named, superclass_of}
use Rattle.fp_facts.specs.Hierarchy.{class_and_above, classes_among, superclasses, superclasses_from}
use Rattle.fp_hier.specs.Lineages.{classes_up, lineage_from}

-- ---- one class of a lineage

pub no-lineage : (classes : List Class) (most : ℕ) → lineage_from classes most None ≡ []
unfolding lineage_from
no-lineage classes zero = refl
no-lineage classes (suc most) = refl

pub lineage-spent : (classes : List Class) (first : Option ℕ) → lineage_from classes 0 first ≡ []
unfolding lineage_from
lineage-spent classes first = refl

pub lineage-cons : (classes : List Class) (most id : ℕ) → lineage_from classes (suc most) (Some id) ≡ id ∷ lineage_from classes most (superclass_of classes id)
unfolding lineage_from
lineage-cons classes most id = refl

-- ---- the classes of the names of superclasses

none-named : (classes : List Class) (most : ℕ) → superclasses_from classes most None ≡ []
unfolding superclasses_from
none-named classes zero = refl
none-named classes (suc most) = refl

-- the class of the parent of a class
named-parent : (classes : List Class) (o : Option Class) → option_and_then (class_named classes) (option_and_then (λ (c : Class). c.parent) o) ≡ option_and_then (λ (c : Class). option_and_then (class_named classes) c.parent) o
named-parent classes None = refl
named-parent classes (Some c) = refl

among-behind : (classes : List Class) (most : ℕ) → ((parent : Option ℕ) → classes_among classes (superclasses_from classes most parent) ≡ lineage_from classes most (option_and_then (class_named classes) parent)) →
    (first : Option ℕ) → option_to_list first ++ classes_among classes (superclasses_from classes most (option_and_then (λ (c : Class). c.parent) (option_and_then (slice_get classes) first))) ≡ lineage_from classes (suc most) first
among-behind classes most behind None = ap (classes_among classes) (none-named classes most) ∙ sym (no-lineage classes (suc most))
among-behind classes most behind (Some id) =
    ap (λ (ids : List ℕ). id ∷ ids) (behind (option_and_then (λ (c : Class). c.parent) (slice_get classes id)) ∙ ap (lineage_from classes most) (named-parent classes (slice_get classes id)))
    ∙ sym (lineage-cons classes most id)

pub among-superclasses : (classes : List Class) (most : ℕ) (parent : Option ℕ) → classes_among classes (superclasses_from classes most parent) ≡ lineage_from classes most (option_and_then (class_named classes) parent)
unfolding superclasses_from
among-superclasses classes zero parent = sym (lineage-spent classes (option_and_then (class_named classes) parent))
among-superclasses classes (suc most) None = sym (no-lineage classes (suc most))
among-superclasses classes (suc most) (Some name) = among-behind classes most (among-superclasses classes most) (class_named classes name)

-- ---- a class by its name

-- in a set, the class of its name is the class itself
pub own-name : (set : SetView) (id : ℕ) (c : Class) → IsSet set → slice_get set.classes id ≡ Some c → class_named set.classes c.name ≡ Some id
own-name set id c valid at =
    let classes = set.classes in
    let within : id < length classes = slice_get_within classes id c at in
    let p = λ (d : Class). d.name == c.name in
    let fails : (i : ℕ) → i < id → p (get_or classes i c) ≡ false =
    λ i lt. ne_eqb (get_or classes i c).name c.name (λ same. omega (arith, lt, valid.sound.distinct i id (get_or classes i c) c (slice_get-get_or classes i c (omega (arith, lt, within))) at same)) in
    let passes : id < length classes → p (get_or classes id c) ≡ true =
    λ lt. eq-eqb (get_or classes id c).name c.name (ap (λ (d : Class). d.name) (get_or_from_slice_get classes id c c at)) in
    let place : position_or_len p classes ≡ id = position_or_len_is p classes id c (omega (arith, within)) fails passes in
    let told : nat_lt id (length classes) ≡ true = lt-ltb id (length classes) within in
    rw (place, told) refl

-- ---- the lineage of a class

superclass-at : (classes : List Class) (id : ℕ) (c : Class) → slice_get classes id ≡ Some c → superclass_of classes id ≡ option_and_then (class_named classes) c.parent
superclass-at classes id c at = ap (option_and_then (λ (d : Class). option_and_then (class_named classes) d.parent)) at

pub class-up : (set : SetView) (id : ℕ) (c : Class) → IsSet set → slice_get set.classes id ≡ Some c → class_and_above set.classes c ≡ lineage_from set.classes (suc (length set.classes)) (Some id)
class-up set id c valid at =
    let classes = set.classes in
    ap (λ (o : Option ℕ). option_to_list o ++ classes_among classes (superclasses classes c)) (own-name set id c valid at)
    ∙ ap (λ (ids : List ℕ). id ∷ ids) (among-superclasses classes (length classes) c.parent ∙ ap (lineage_from classes (length classes)) (sym (superclass-at classes id c at)))
    ∙ sym (lineage-cons classes (length classes) id)

pub classes-up-is : (classes : List Class) (id : ℕ) (c : Class) → slice_get classes id ≡ Some c → classes_up classes id ≡ class_and_above classes c
classes-up-is classes id c at = ap (λ (o : Option Class). option_map_or (class_and_above classes) o []) at

pub up : (set : SetView) (id most : ℕ) → IsSet set → id < length set.classes → most ≡ length set.classes + 1 → lineage_from set.classes most (Some id) ≡ classes_up set.classes id
up set id most valid within long =
    let classes = set.classes in
    elim (slice_get_cases classes id).1 [
      | inl found ↦
          ap (λ (m : ℕ). lineage_from classes m (Some id)) (long ∙ omega arith)
          ∙ sym (class-up set id found.0 valid found.2)
          ∙ sym (classes-up-is classes id found.0 found.2)
      | inr none ↦ absurd (omega (arith, within, none.0))
    ]

-- ---- a step

pub step-on : (classes : List Class) (most rest id : ℕ) (c : Class) (first next : Option ℕ) → most ≡ suc rest → first ≡ Some id → slice_get classes id ≡ Some c → next ≡ option_and_then (class_named classes) c.parent →
    lineage_from classes most first ≡ id ∷ lineage_from classes rest next
step-on classes most rest id c first next more is at told =
    let Q : ℕ → Type 0 = λ m. lineage_from classes m first ≡ id ∷ lineage_from classes rest next in
    subst Q (sym more)
    (ap (lineage_from classes (suc rest)) is ∙ lineage-cons classes rest id
    ∙ ap (λ (o : Option ℕ). id ∷ lineage_from classes rest o) (superclass-at classes id c at ∙ sym told))

pub step-none : (classes : List Class) (most : ℕ) (first : Option ℕ) → first ≡ None → lineage_from classes most first ≡ []
step-none classes most first is = ap (lineage_from classes most) is ∙ no-lineage classes most

pub step-spent : (classes : List Class) (most : ℕ) (first : Option ℕ) → most ≡ 0 → lineage_from classes most first ≡ []
step-spent classes most first is = ap (λ (m : ℕ). lineage_from classes m first) is ∙ lineage-spent classes first
