-- The ancestors of a class of a sound set are closed.
use Rattle.std.proofs.Common.{◌≡◌, ◌==◌, ◌<◌, ◌||◌, nat_lt, ℕ, Bool, true, false, IsTrue, List, [], ◌∷◌, Option, Some, None, length, get_or, refl, sym, ap, subst, ◌∙◌, inl, inr, arith}
use Rattle.std.specs.Prelude.{slice_get}
use Rattle.std.specs.List.{flat_map, list_any, position_or_len}
use Rattle.std.specs.Option.{option_map_or, option_to_list}
use Rattle.std.proofs.lemmas.Bool.{eq-eqb, ne_eqb, lt-ltb}
use Rattle.std.proofs.lemmas.List.Sums.{position_or_len_is}
use Rattle.std.proofs.lemmas.Option.{get_or_from_slice_get, slice_get-get_or, slice_get_within}
use Rattle.fp_model.specs.declared.class.Class.{Class}
use Rattle.fp_model.specs.ClassSet.{IsSound, class_named}
use Rattle.fp_eqs.specs.Tests.{left, right, either, place-here}
use Rattle.fp_facts.specs.Hierarchy.{AreClosed, ancestors, class_and_above, class_of_name, classes_among, has_number, superclasses, superinterfaces, superinterfaces_at, superinterfaces_of}
use Rattle.fp_facts.proofs.ClosedSuperclasses.{placed, superclass-first, superclasses-closed}
use Rattle.fp_facts.proofs.ListedNumbers.{any-from, any-has, has-append, has-flat}
use Rattle.fp_facts.proofs.MetNames.{superinterfaces-closed, superinterfaces-listed}

-- in a sound set, the class of its name is the class itself
own-name : (classes : List Class) (id : ℕ) (c : Class) → IsSound classes → slice_get classes id ≡ Some c → class_named classes c.name ≡ Some id
own-name classes id c sound there =
    let within : id < length classes = slice_get_within classes id c there in
    let p : Class → Bool = λ d. d.name == c.name in
    let fails : (i : ℕ) → i < id → p (get_or classes i c) ≡ false =
    λ i lt. ne_eqb (get_or classes i c).name c.name (λ same. omega (arith, lt, sound.distinct i id (get_or classes i c) c (slice_get-get_or classes i c (omega (arith, lt, within))) there same)) in
    let passes : id < length classes → p (get_or classes id c) ≡ true =
    λ lt. eq-eqb (get_or classes id c).name c.name (ap (λ (d : Class). d.name) (get_or_from_slice_get classes id c c there)) in
    let place : position_or_len p classes ≡ id = position_or_len_is p classes id c (omega (arith, within)) fails passes in
    let told : nat_lt id (length classes) ≡ true = lt-ltb id (length classes) within in
    rw (place, told) refl

module _ (classes : List Class) (sound : IsSound classes) (id : ℕ) (c : Class) (there : slice_get classes id ≡ Some c) where
  has-ancestor : (name : ℕ) → has_number (ancestors classes c) name
      ≡ (has_number (superclasses classes c) name || list_any (λ class. has_number (superinterfaces_at classes class) name) (class_and_above classes c))
  has-ancestor name =
      has-append (superclasses classes c) (flat_map (superinterfaces_at classes) (class_and_above classes c)) name
      ∙ ap (λ b. has_number (superclasses classes c) name || b) (has-flat (superinterfaces_at classes) (class_and_above classes c) name)

  -- what a class at or above this one is above
  by-class : (class : ℕ) (d : Class) (name : ℕ) → IsTrue (has_number (class_and_above classes c) class) → slice_get classes class ≡ Some d → IsTrue (has_number (superinterfaces classes d) name) →
      IsTrue (has_number (ancestors classes c) name)
  by-class class d name among is h =
      let at : superinterfaces_at classes class ≡ superinterfaces classes d = ap (λ (o : Option Class). option_map_or (superinterfaces classes) o []) is in
      let one : IsTrue (list_any (λ class. has_number (superinterfaces_at classes class) name) (class_and_above classes c)) =
      any-has (λ class. has_number (superinterfaces_at classes class) name) (class_and_above classes c) class among (subst (λ l. IsTrue (has_number l name)) (sym at) h) in
      subst (λ b. IsTrue b) (sym (has-ancestor name)) (right (has_number (superclasses classes c) name) _ one)

  -- the class of a name at or above this one
  among-names : (names : List ℕ) (name place : ℕ) → IsTrue (has_number names name) → class_named classes name ≡ Some place → IsTrue (has_number (classes_among classes names) place)
  among-names names name place h named =
      let one : IsTrue (has_number (option_to_list (class_named classes name)) place) =
      subst (λ (o : Option ℕ). IsTrue (has_number (option_to_list o) place)) (sym named) (left (place == place) false (place-here place)) in
      subst (λ b. IsTrue b) (sym (has-flat (λ n. option_to_list (class_named classes n)) names place))
      (any-has (λ n. has_number (option_to_list (class_named classes n)) place) names name h one)

  interfaces-of : (name : ℕ) (d : Class) → class_of_name classes name ≡ Some d → superinterfaces_of classes name ≡ d.interfaces
  interfaces-of name d is = ap (λ (o : Option Class). option_map_or (λ (e : Class). e.interfaces) o []) is

  superclass-among : (name : ℕ) → IsTrue (has_number (superclasses classes c) name) → IsTrue (has_number (ancestors classes c) name)
  superclass-among name h = subst (λ b. IsTrue b) (sym (has-ancestor name)) (left (has_number (superclasses classes c) name) _ h)

  own-interfaces : (above : ℕ) → IsTrue (has_number c.interfaces above) → IsTrue (has_number (ancestors classes c) above)
  own-interfaces above h =
      by-class id c above (among-names (c.name ∷ superclasses classes c) c.name id (left (c.name == c.name) (has_number (superclasses classes c) c.name) (place-here c.name)) (own-name classes id c sound there))
      there (superinterfaces-listed classes c above h)

  above-superclass : (name above : ℕ) (d : Class) → IsTrue (has_number (superclasses classes c) name) → class_of_name classes name ≡ Some d → IsTrue (has_number d.interfaces above) →
      IsTrue (has_number (ancestors classes c) above)
  above-superclass name above d h is up =
      let p = placed classes name d is in
      by-class p.place d above (among-names (c.name ∷ superclasses classes c) name p.place (right (c.name == name) (has_number (superclasses classes c) name) h) p.named) p.there
      (superinterfaces-listed classes d above up)

  above-interface : (class name above : ℕ) (d : Class) → IsTrue (has_number (class_and_above classes c) class) → IsTrue (has_number (superinterfaces_at classes class) name) →
      class_of_name classes name ≡ Some d → IsTrue (has_number d.interfaces above) → IsTrue (has_number (ancestors classes c) above)
  above-interface class name above d among h is up = by-found (slice_get classes class) refl h
    where
      by-found : (found : Option Class) → slice_get classes class ≡ found → IsTrue (has_number (option_map_or (superinterfaces classes) found []) name) → IsTrue (has_number (ancestors classes c) above)
      by-found None none h = let wrong : false ≡ true = h in absurd cc
      by-found (Some e) found h =
          by-class class e above among found
          (superinterfaces-closed classes e name above h (subst (λ l. IsTrue (has_number l above)) (sym (interfaces-of name d is)) up))

  pub ancestors-closed : AreClosed classes c
  ancestors-closed = record {
    superclass = λ above parent. superclass-first classes id c there above parent;
    superclasses_above = λ name above d h is parent. superclasses-closed classes sound id c there name above d h is parent;
    superclasses_among = superclass-among;
    interfaces = own-interfaces;
    interfaces_above = λ name above d h is up.
        elim (either (has_number (superclasses classes c) name) (list_any (λ class. has_number (superinterfaces_at classes class) name) (class_and_above classes c)) (subst (λ b. IsTrue b) (has-ancestor name) h)) [
          | inl super ↦ above-superclass name above d super is up
          | inr by ↦ (let r = any-from (λ class. has_number (superinterfaces_at classes class) name) (class_and_above classes c) by in
              above-interface r.number name above d r.listed r.passes is up)
        ];
  }
