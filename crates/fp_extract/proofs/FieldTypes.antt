-- Classes within types, and the types of fields, by the names of classes.
use Rattle.std.proofs.Common.{◌≡◌, ◌==◌, ◌&&◌, ℕ, true, false, IsTrue, List, [], ◌∷◌, Option, Some, None, refl, sym, ap, subst, ◌∙◌}
use Rattle.std.specs.Prelude.{slice_get, option_and_then}
use Rattle.std.specs.List.{flat_map, list_any}
use Rattle.std.specs.Option.{option_map_or, option_to_list}
use Rattle.std.proofs.lemmas.Bool.{eqb-true}
use Rattle.std.proofs.lemmas.List.Quantifiers.{position-Some}
use Rattle.std.proofs.lemmas.Option.{get_or_from_slice_get, same_Some}
use Rattle.fp_model.specs.declared.class.Class.{Class}
use Rattle.fp_model.specs.ClassSet.{IsSet, SetView, class_named}
use Rattle.fp_eqs.specs.Tests.{both, left, parts, place-here}
use Rattle.fp_facts.specs.Hierarchy.{class_and_above, class_of_name, classes_among, fits, has_number, is_concrete, superclasses}
use Rattle.fp_facts.specs.Seeds.{field_types, instance_types, is_within}
use Rattle.fp_facts.proofs.ClosedSuperclasses.{placed}
use Rattle.fp_facts.proofs.ListedNumbers.{any-from, any-has, has-flat}
use Rattle.fp_hier.proofs.Lineages.{own-name}
use Rattle.fp_extract.proofs.DirectSteps.{named-among}

-- ---- classes by their names

pub class-at-name : (set : SetView) (id : ℕ) (c : Class) → IsSet set → slice_get set.classes id ≡ Some c → class_of_name set.classes c.name ≡ Some c
class-at-name set id c valid there = ap (option_and_then (slice_get set.classes)) (own-name set id c valid there) ∙ there

pub same-class : (set : SetView) (i j : ℕ) (c d : Class) → IsSet set → slice_get set.classes i ≡ Some c → slice_get set.classes j ≡ Some d → c.name ≡ d.name → c ≡ d
same-class set i j c d valid here there same =
    same_Some c d (sym here ∙ ap (slice_get set.classes) (valid.sound.distinct i j c d here there same) ∙ there)

-- the class of a name, with its place
pub record IsNamed (classes : List Class) (name : ℕ) (d : Class) : Type 0 where
  pub place : ℕ
  pub there : slice_get classes place ≡ Some d
  pub name_is : d.name ≡ name

pub named : (classes : List Class) (name : ℕ) (d : Class) → class_of_name classes name ≡ Some d → IsNamed classes name d
named classes name d is =
    let p = placed classes name d is in
    let at = position-Some (λ (e : Class). e.name == name) classes p.place d p.named in
    record {
      place = p.place;
      there = p.there;
      name_is = eqb-true d.name name (ap (λ (e : Class). e.name == name) (sym (get_or_from_slice_get classes p.place d d p.there)) ∙ at.1);
    }

-- ---- classes within types

pub within-made : (classes : List Class) (names : List ℕ) (id type : ℕ) (c : Class) → slice_get classes id ≡ Some c → IsTrue (is_concrete c) → IsTrue (has_number names type) → IsTrue (fits classes c type) →
    IsTrue (is_within classes names id)
within-made classes names id type c there concrete listed fit =
    subst (λ (o : Option Class). IsTrue (option_map_or (λ d. is_concrete d && list_any (fits classes d) names) o false)) (sym there)
    (both (is_concrete c) (list_any (fits classes c) names) concrete (any-has (fits classes c) names type listed fit))

pub record IsWithinType (classes : List Class) (names : List ℕ) (id : ℕ) : Type 0 where
  pub class : Class
  pub there : slice_get classes id ≡ Some class
  pub concrete : IsTrue (is_concrete class)
  pub type : ℕ
  pub listed : IsTrue (has_number names type)
  pub fit : IsTrue (fits classes class type)

pub within-type : (classes : List Class) (names : List ℕ) (id : ℕ) → IsTrue (is_within classes names id) → IsWithinType classes names id
within-type classes names id h = by-class (slice_get classes id) refl h
  where
    by-class : (found : Option Class) → slice_get classes id ≡ found → IsTrue (option_map_or (λ d. is_concrete d && list_any (fits classes d) names) found false) → IsWithinType classes names id
    by-class None is h = let wrong : false ≡ true = h in absurd cc
    by-class (Some c) is h =
        let p = parts (is_concrete c) (list_any (fits classes c) names) h in
        let r = any-from (fits classes c) names p.1 in
        record { class = c; there = is; concrete = p.0; type = r.number; listed = r.listed; fit = r.passes }

-- ---- the types of the fields of a class and of its superclasses

abbrev types_at : List Class → ℕ → List ℕ
types_at classes above = option_map_or (λ (c : Class). instance_types c.fields) (slice_get classes above) []

field-types-are : (classes : List Class) (id type : ℕ) (c : Class) → slice_get classes id ≡ Some c → has_number (field_types classes id) type ≡ list_any (λ above. has_number (types_at classes above) type) (class_and_above classes c)
field-types-are classes id type c there =
    ap (λ (o : Option Class). has_number (flat_map (types_at classes) (option_map_or (class_and_above classes) o [])) type) there
    ∙ has-flat (types_at classes) (class_and_above classes c) type

among-names : (classes : List Class) (names : List ℕ) (name place : ℕ) → IsTrue (has_number names name) → class_named classes name ≡ Some place → IsTrue (has_number (classes_among classes names) place)
among-names classes names name place listed is =
    subst (λ b. IsTrue b) (sym (has-flat (λ n. option_to_list (class_named classes n)) names place))
    (any-has (λ n. has_number (option_to_list (class_named classes n)) place) names name listed
    (subst (λ (o : Option ℕ). IsTrue (has_number (option_to_list o) place)) (sym is) (left (place == place) false (place-here place))))

pub field-type-made : (classes : List Class) (id name type : ℕ) (c d : Class) → slice_get classes id ≡ Some c → IsTrue (has_number (c.name ∷ superclasses classes c) name) → class_of_name classes name ≡ Some d →
    IsTrue (has_number (instance_types d.fields) type) → IsTrue (has_number (field_types classes id) type)
field-type-made classes id name type c d there listed is h =
    let p = placed classes name d is in
    subst (λ b. IsTrue b) (sym (field-types-are classes id type c there))
    (any-has (λ above. has_number (types_at classes above) type) (class_and_above classes c) p.place (among-names classes (c.name ∷ superclasses classes c) name p.place listed p.named)
    (subst (λ (o : Option Class). IsTrue (has_number (option_map_or (λ (e : Class). instance_types e.fields) o []) type)) (sym p.there) h))

pub record IsFieldType (classes : List Class) (c : Class) (type : ℕ) : Type 0 where
  pub name : ℕ
  pub listed : IsTrue (has_number (c.name ∷ superclasses classes c) name)
  pub class : Class
  pub is : class_of_name classes name ≡ Some class
  pub typed : IsTrue (has_number (instance_types class.fields) type)

pub field-type : (classes : List Class) (id type : ℕ) (c : Class) → slice_get classes id ≡ Some c → IsTrue (has_number (field_types classes id) type) → IsFieldType classes c type
field-type classes id type c there h =
    let r = any-from (λ above. has_number (types_at classes above) type) (class_and_above classes c) (subst (λ b. IsTrue b) (field-types-are classes id type c there) h) in
    let n = named-among classes (c.name ∷ superclasses classes c) r.number r.listed in
    by-class n.name n.listed r.number n.named (slice_get classes r.number) refl r.passes
  where
    by-class : (name : ℕ) → IsTrue (has_number (c.name ∷ superclasses classes c) name) → (place : ℕ) → class_named classes name ≡ Some place → (found : Option Class) → slice_get classes place ≡ found →
        IsTrue (has_number (option_map_or (λ (e : Class). instance_types e.fields) found []) type) → IsFieldType classes c type
    by-class name listed place at None is h = let wrong : false ≡ true = h in absurd cc
    by-class name listed place at (Some d) is h = record { name = name; listed = listed; class = d; is = ap (option_and_then (slice_get classes)) at ∙ is; typed = h }
