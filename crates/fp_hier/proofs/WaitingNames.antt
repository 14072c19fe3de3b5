-- The marks of a walk and the names that wait for it.
use Rattle.std.proofs.Common.{◌≡◌, ◌≢◌, ℕ, suc, ◌+◌, ◌≤◌, ◌<◌, true, false, List, [], ◌∷◌, ◌++◌, Option, None, Some, length, reverse, All, slice_index, refl, sym, ap, subst, ◌∙◌, arith, append-nil, length-append}
use Rattle.std.specs.Prelude.{slice_get, option_and_then}
use Rattle.std.specs.Option.{option_map_or}
use Rattle.std.proofs.lemmas.Bool.{eq-eqb, ne_eqb}
use Rattle.std.proofs.lemmas.List.{length-reverse, reverse-append}
use Rattle.std.proofs.lemmas.List.Elements.{All-append, All-get_or}
use Rattle.std.proofs.lemmas.Option.{get_or_from_slice_get, slice_get_within}
use Rattle.fp_model.specs.declared.class.Class.{Class}
use Rattle.fp_model.specs.ClassSet.{IsClassOver, IsSet, SetView, class_named}
use Rattle.fp_facts.specs.Hierarchy.{class_of_name, has_number, superinterfaces_at, superinterfaces_of}
use Rattle.fp_hier.specs.Walks.{AreMarked, unmet_interfaces, walk_from}
use Rattle.fp_hier.proofs.WalkedNames.{walk-falls, walk-unmet}

-- ---- the class of a name

class-of-place : (classes : List Class) (name i : ℕ) (c : Class) → class_named classes name ≡ Some i → slice_get classes i ≡ Some c → class_of_name classes name ≡ Some c
class-of-place classes name i c named is = ap (λ (o : Option ℕ). option_and_then (slice_get classes) o) named ∙ is

interfaces-named : (classes : List Class) (name i : ℕ) (c : Class) → class_named classes name ≡ Some i → slice_get classes i ≡ Some c → superinterfaces_of classes name ≡ c.interfaces
interfaces-named classes name i c named is =
    ap (λ (o : Option Class). option_map_or (λ (d : Class). d.interfaces) o []) (class-of-place classes name i c named is)

class-outside : (classes : List Class) (name : ℕ) → class_named classes name ≡ None → class_of_name classes name ≡ None
class-outside classes name none = ap (λ (o : Option ℕ). option_and_then (slice_get classes) o) none

-- the names that a class lists are of the table
pub interfaces-within : (set : SetView) (i : ℕ) (c : Class) → IsSet set → slice_get set.classes i ≡ Some c → All (λ n. n < length set.names) c.interfaces
interfaces-within set i c sound is =
    let over : IsClassOver set.names c =
    subst (λ (d : Class). IsClassOver set.names d) (get_or_from_slice_get set.classes i c c is)
    (All-get_or (IsClassOver set.names) set.classes i c (slice_get_within set.classes i c is) sound.over) in
    over.interfaces

-- ---- the next name that waits

last-first : (waiting rest : List ℕ) (name : ℕ) → waiting ≡ rest ++ name ∷ [] → reverse waiting ≡ name ∷ reverse rest
last-first waiting rest name is = ap (λ (l : List ℕ). reverse l) is ∙ reverse-append rest (name ∷ [])

pub first-within : (P : ℕ → Type 0) (waiting rest : List ℕ) (name : ℕ) → waiting ≡ rest ++ name ∷ [] → All P (reverse waiting) → P name
first-within P waiting rest name is all =
    let split : All P (name ∷ reverse rest) = subst (λ (l : List ℕ). All P l) (last-first waiting rest name is) all in
    split 0 0 (omega arith)

pub rest-within : (P : ℕ → Type 0) (waiting rest : List ℕ) (name : ℕ) → waiting ≡ rest ++ name ∷ [] → All P (reverse waiting) → All P (reverse rest)
rest-within P waiting rest name is all =
    let split : All P (name ∷ reverse rest) = subst (λ (l : List ℕ). All P l) (last-first waiting rest name is) all in
    λ k d below. split (suc k) d (omega arith)

pub more-within : (P : ℕ → Type 0) (waiting more first : List ℕ) → reverse more ≡ first ++ reverse waiting → All P first → All P (reverse waiting) → All P (reverse more)
more-within P waiting more first is front behind = subst (λ (l : List ℕ). All P l) (sym is) (All-append P first (reverse waiting) front behind)

length-more : (waiting more first : List ℕ) → reverse more ≡ first ++ reverse waiting → length more ≡ length first + length waiting
length-more waiting more first is =
    omega (arith, length-reverse more, length-reverse waiting, ap length is, length-append first (reverse waiting))

-- ---- the marks

pub is-met : (names walk : ℕ) (marks met : List ℕ) (name : ℕ) → AreMarked names walk marks met → name < names → slice_index marks name ≡ walk → has_number met name ≡ true
is-met names walk marks met name m within is = sym (m.marked name within) ∙ eq-eqb (slice_index marks name) walk is

pub is-unmet : (names walk : ℕ) (marks met : List ℕ) (name : ℕ) → AreMarked names walk marks met → name < names → slice_index marks name ≢ walk → has_number met name ≡ false
is-unmet names walk marks met name m within differs = sym (m.marked name within) ∙ ne_eqb (slice_index marks name) walk differs

-- where no mark is this walk's number yet, nothing is met
pub none-marked : (names walk : ℕ) (marks met : List ℕ) → length marks ≡ names → ((n : ℕ) → slice_index marks n < walk) → met ≡ [] → AreMarked names walk marks met
none-marked names walk marks met long fresh nothing = record {
  long = long;
  marked = λ n within.
      ne_eqb (slice_index marks n) walk (λ is. omega (arith, is, fresh n)) ∙ sym (ap (λ (l : List ℕ). has_number l n) nothing);
  below = λ n. omega (arith, fresh n);
}

-- ---- a visit

-- a name outside the set is met, and nothing is put behind it
pub outside-walk : (classes : List Class) (met waiting : List ℕ) (name : ℕ) → class_named classes name ≡ None → has_number met name ≡ false →
    walk_from classes (met ++ name ∷ []) (reverse waiting) ≡ walk_from classes met (name ∷ reverse waiting)
outside-walk classes met waiting name none unmet =
    let nothing : superinterfaces_of classes name ≡ [] = ap (λ (o : Option Class). option_map_or (λ (d : Class). d.interfaces) o []) (class-outside classes name none) in
    sym (walk-unmet classes met name (reverse waiting) unmet ∙ ap (λ (l : List ℕ). walk_from classes (met ++ name ∷ []) (l ++ reverse waiting)) nothing)

pub outside-falls : (classes : List Class) (met : List ℕ) (name : ℕ) → has_number met name ≡ false →
    unmet_interfaces classes (met ++ name ∷ []) ≤ unmet_interfaces classes met
outside-falls classes met name unmet = omega (arith, walk-falls classes met name (class_of_name classes name) refl unmet)

-- what a class of the set extends is put behind its name
pub named-walk : (classes : List Class) (met waiting more : List ℕ) (name i : ℕ) (c : Class) → class_named classes name ≡ Some i → slice_get classes i ≡ Some c →
    has_number met name ≡ false → reverse more ≡ c.interfaces ++ reverse waiting →
    walk_from classes (met ++ name ∷ []) (reverse more) ≡ walk_from classes met (name ∷ reverse waiting)
named-walk classes met waiting more name i c named is unmet put =
    ap (λ (l : List ℕ). walk_from classes (met ++ name ∷ []) l) put
    ∙ sym (walk-unmet classes met name (reverse waiting) unmet
    ∙ ap (λ (l : List ℕ). walk_from classes (met ++ name ∷ []) (l ++ reverse waiting)) (interfaces-named classes name i c named is))

pub named-falls : (classes : List Class) (met waiting more : List ℕ) (name i : ℕ) (c : Class) → class_named classes name ≡ Some i → slice_get classes i ≡ Some c →
    has_number met name ≡ false → reverse more ≡ c.interfaces ++ reverse waiting →
    unmet_interfaces classes (met ++ name ∷ []) + length more ≤ unmet_interfaces classes met + length waiting
named-falls classes met waiting more name i c named is unmet put =
    omega (
      arith,
      length-more waiting more c.interfaces put,
      ap length (interfaces-named classes name i c named is),
      walk-falls classes met name (class_of_name classes name) refl unmet,
    )

-- ---- a class's own list

-- the names that a class lists are the first that wait
pub first-waiting : (waiting nothing names : List ℕ) → reverse waiting ≡ names ++ reverse nothing → nothing ≡ [] → reverse waiting ≡ names
first-waiting waiting nothing names is none = is ∙ ap (λ (l : List ℕ). names ++ reverse l) none ∙ append-nil names

pub superinterfaces-found : (classes : List Class) (i : ℕ) (c : Class) → slice_get classes i ≡ Some c → walk_from classes [] c.interfaces ≡ superinterfaces_at classes i
superinterfaces-found classes i c is =
    sym (ap (λ (o : Option Class). option_map_or (λ (d : Class). walk_from classes [] d.interfaces) o []) is)
