-- The methods of the interfaces above a class, class by class.
use Rattle.std.proofs.Common.{◌≡◌, ℕ, Bool, false, List, [], ◌++◌, filter, flat_map, Option, Some, sym, ap, ◌∙◌}
use Rattle.std.specs.Prelude.{slice_get}
use Rattle.std.specs.Option.{option_map_or, option_or, option_to_list}
use Rattle.std.proofs.lemmas.Grind.{flat_map-append}
use Rattle.std.proofs.lemmas.Option.{same_Some}
use Rattle.fp_model.specs.declared.class.Class.{Class}
use Rattle.fp_model.specs.declared.class.Method.{Method}
use Rattle.fp_model.specs.ClassSet.{class_named}
use Rattle.fp_facts.specs.Hierarchy.{ancestors, class_and_above, classes_among, is_interface, superclasses, superinterfaces_at}
use Rattle.fp_facts.specs.Resolution.{declared_method, first_given, first_of, interfaces_above, method_at, methods_among}
use Rattle.fp_hier.specs.Given.{given_by, given_by_interface}
use Rattle.fp_hier.specs.Lineages.{classes_up}
use Rattle.fp_hier.proofs.FirstGiven.{all-chosen, all-passing, each-of_each, first-append, first-of_all, first-of_each}

module _ (classes : List Class) (test : Method → Bool) (name descr : ℕ) where
  abbrev pub of : ℕ → Option ℕ
  of id = given_by_interface classes test name descr id

  abbrev pub all_of : List ℕ → List ℕ
  all_of ids = flat_map (λ id. option_to_list (given_by_interface classes test name descr id)) ids

  among : (ids : List ℕ) → methods_among classes test name descr (filter (λ id. option_map_or is_interface (slice_get classes id) false) ids) ≡ all_of ids
  among ids =
      let chosen : ℕ → Bool = λ id. option_map_or is_interface (slice_get classes id) false in
      all-passing (λ m. option_map_or test (method_at classes m) false) (declared_method classes name descr) (filter chosen ids)
      ∙ all-chosen chosen (given_by classes test name descr) ids

  -- the classes among the ancestors
  ancestors-among : (c : Class) → classes_among classes (ancestors classes c) ≡ classes_among classes (superclasses classes c) ++ flat_map (λ id. classes_among classes (superinterfaces_at classes id)) (class_and_above classes c)
  ancestors-among c =
      let named : ℕ → List ℕ = λ n. option_to_list (class_named classes n) in
      flat_map-append named (superclasses classes c) (flat_map (superinterfaces_at classes) (class_and_above classes c))
      ∙ ap (λ l. classes_among classes (superclasses classes c) ++ l) (each-of_each named (superinterfaces_at classes) (class_and_above classes c))

  -- all methods
  pub all-found : (c : Class) → methods_among classes test name descr (interfaces_above classes c) ≡ all_of (classes_among classes (superclasses classes c)) ++ flat_map (λ id. all_of (classes_among classes (superinterfaces_at classes id))) (class_and_above classes c)
  all-found c =
      let above : List ℕ = flat_map (λ id. classes_among classes (superinterfaces_at classes id)) (class_and_above classes c) in
      among (classes_among classes (ancestors classes c))
      ∙ ap all_of (ancestors-among c)
      ∙ flat_map-append (λ id. option_to_list (of id)) (classes_among classes (superclasses classes c)) above
      ∙ ap (λ l. all_of (classes_among classes (superclasses classes c)) ++ l) (each-of_each (λ id. option_to_list (of id)) (λ id. classes_among classes (superinterfaces_at classes id)) (class_and_above classes c))

  -- the first method
  pub first-found : (c : Class) → first_of (methods_among classes test name descr (interfaces_above classes c))
      ≡ option_or (first_given of (classes_among classes (superclasses classes c))) (first_given (λ id. first_given of (classes_among classes (superinterfaces_at classes id))) (class_and_above classes c))
  first-found c =
      let above : List ℕ = flat_map (λ id. classes_among classes (superinterfaces_at classes id)) (class_and_above classes c) in
      ap first_of (among (classes_among classes (ancestors classes c)))
      ∙ first-of_all of (classes_among classes (ancestors classes c))
      ∙ ap (first_given of) (ancestors-among c)
      ∙ first-append of (classes_among classes (superclasses classes c)) above
      ∙ ap (option_or (first_given of (classes_among classes (superclasses classes c)))) (first-of_each of (λ id. classes_among classes (superinterfaces_at classes id)) (class_and_above classes c))

  -- by the number of the class
  pub first-above : (class : ℕ) (own c : Class) (first : Option ℕ) → slice_get classes class ≡ Some own → slice_get classes class ≡ Some c → first ≡ first_given of (classes_among classes (superclasses classes own)) →
      option_or first (first_given (λ id. first_given of (classes_among classes (superinterfaces_at classes id))) (classes_up classes class)) ≡ first_of (methods_among classes test name descr (interfaces_above classes c))
  first-above class own c first at is given =
      let same : own ≡ c = same_Some own c (sym at ∙ is) in
      let each : List ℕ → Option ℕ = first_given (λ id. first_given of (classes_among classes (superinterfaces_at classes id))) in
      ap (λ (o : Option ℕ). option_or o (each (classes_up classes class))) (given ∙ ap (λ (d : Class). first_given of (classes_among classes (superclasses classes d))) same)
      ∙ ap (λ (o : Option Class). option_or (first_given of (classes_among classes (superclasses classes c))) (each (option_map_or (class_and_above classes) o []))) is
      ∙ sym (first-found c)

  pub all-above : (class : ℕ) (own c : Class) → slice_get classes class ≡ Some own → slice_get classes class ≡ Some c →
      all_of (classes_among classes (superclasses classes own)) ++ flat_map (λ id. all_of (classes_among classes (superinterfaces_at classes id))) (classes_up classes class) ≡ methods_among classes test name descr (interfaces_above classes c)
  all-above class own c at is =
      let same : own ≡ c = same_Some own c (sym at ∙ is) in
      let each : List ℕ → List ℕ = flat_map (λ id. all_of (classes_among classes (superinterfaces_at classes id))) in
      ap (λ (d : Class). all_of (classes_among classes (superclasses classes d)) ++ each (classes_up classes class)) same
      ∙ ap (λ (o : Option Class). all_of (classes_among classes (superclasses classes c)) ++ each (option_map_or (class_and_above classes) o [])) is
      ∙ sym (all-found c)
