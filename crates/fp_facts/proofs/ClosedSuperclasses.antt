-- The superclasses of a class in a sound set, up to the last.
use Rattle.std.proofs.Common.{◌≡◌, ◌==◌, ◌<◌, ◌+◌, ◌⊎◌, ℕ, true, false, IsTrue, List, [], ◌∷◌, Option, Some, None, length, refl, sym, ap, subst, ◌∙◌, inl, inr, arith, zero, suc, add-one}
use Rattle.std.specs.Prelude.{slice_get, option_and_then}
use Rattle.std.proofs.lemmas.Option.{slice_get_within}
use Rattle.fp_model.specs.declared.class.Class.{Class}
use Rattle.fp_model.specs.ClassSet.{IsSound, after_steps, class_named, superclass_of}
use Rattle.fp_model.proofs.Soundness.{chain_ends}
use Rattle.fp_model.proofs.Steps.{after_steps-add}
use Rattle.fp_eqs.specs.Tests.{left, right, either, same-place, place-here}
use Rattle.fp_facts.specs.Hierarchy.{class_of_name, has_number, superclasses, superclasses_from}

module _ (classes : List Class) where
  next : ℕ → Option ℕ
  next id = superclass_of classes id

  from-none : (most : ℕ) → superclasses_from classes most None ≡ []
  unfolding superclasses_from
  from-none zero = refl
  from-none (suc most) = refl

  from-zero : (first : Option ℕ) → superclasses_from classes zero first ≡ []
  unfolding superclasses_from
  from-zero first = refl

  from-some : (most name : ℕ) → superclasses_from classes (suc most) (Some name) ≡ name ∷ superclasses_from classes most (option_and_then (λ c. c.parent) (class_of_name classes name))
  unfolding superclasses_from
  from-some most name = refl

  -- the place of the class of a name
  pub record IsPlaced (name : ℕ) (d : Class) : Type 0 where
    pub place : ℕ
    pub named : class_named classes name ≡ Some place
    pub there : slice_get classes place ≡ Some d

  pub placed : (name : ℕ) (d : Class) → class_of_name classes name ≡ Some d → IsPlaced name d
  placed name d h = by-place (class_named classes name) refl h
    where
      by-place : (place : Option ℕ) → class_named classes name ≡ place → option_and_then (slice_get classes) place ≡ Some d → IsPlaced name d
      by-place None is h = absurd cc
      by-place (Some i) is h = record { place = i; named = is; there = h }

  superclass-named : (id : ℕ) (c : Class) → slice_get classes id ≡ Some c → superclass_of classes id ≡ option_and_then (class_named classes) c.parent
  superclass-named id c there = ap (λ (o : Option Class). option_and_then (λ (d : Class). option_and_then (class_named classes) d.parent) o) there

  one-step : (id : ℕ) → after_steps (superclass_of classes) 1 id ≡ superclass_of classes id
  unfolding after_steps
  one-step id = refl

  -- from the superclass on one step less is left
  step-left : (most id up : ℕ) → superclass_of classes id ≡ Some up → after_steps (superclass_of classes) (suc most) id ≡ None → after_steps (superclass_of classes) most up ≡ None
  step-left most id up is ends =
      let split : after_steps (superclass_of classes) (most + 1) id ≡ option_and_then (after_steps (superclass_of classes) most) (after_steps (superclass_of classes) 1 id) =
      after_steps-add (superclass_of classes) most 1 id in
      let first : after_steps (superclass_of classes) 1 id ≡ Some up = one-step id ∙ is in
      let whole : after_steps (superclass_of classes) (most + 1) id ≡ after_steps (superclass_of classes) most up =
      split ∙ ap (λ (o : Option ℕ). option_and_then (after_steps (superclass_of classes) most) o) first in
      sym whole ∙ ap (λ n. after_steps (superclass_of classes) n id) (add-one most) ∙ ends

  -- names from one up, of which the class of the first stands above the class of a number
  from-closed : (most id : ℕ) (first : Option ℕ) → option_and_then (class_named classes) first ≡ superclass_of classes id → after_steps (superclass_of classes) most id ≡ None →
      (name above : ℕ) (d : Class) → IsTrue (has_number (superclasses_from classes most first) name) → class_of_name classes name ≡ Some d → d.parent ≡ Some above →
      IsTrue (has_number (superclasses_from classes most first) above)
  from-closed zero id first is ends name above d h class parent =
      let wrong : false ≡ true = subst (λ l. IsTrue (has_number l name)) (from-zero first) h in cc
  from-closed (suc most) id None is ends name above d h class parent =
      let wrong : false ≡ true = subst (λ l. IsTrue (has_number l name)) (from-none (suc most)) h in cc
  from-closed (suc most) id (Some first) is ends name above d h class parent =
      let rest : List ℕ = superclasses_from classes most (option_and_then (λ c. c.parent) (class_of_name classes first)) in
      subst (λ l. IsTrue (has_number l above)) (sym (from-some most first))
      (right (first == above) (has_number rest above)
      (by-parts (λ up rest_first rel rest_ends among. from-closed most up rest_first rel rest_ends name above d among class parent)
      (either (first == name) (has_number rest name) (subst (λ l. IsTrue (has_number l name)) (from-some most first) h))))
    where
      here-next : (left_over : ℕ) → most ≡ left_over → class_of_name classes first ≡ Some d → IsTrue (has_number (superclasses_from classes most (option_and_then (λ c. c.parent) (class_of_name classes first))) above)
      here-next zero none found =
          let p = placed first d found in
          let up : superclass_of classes id ≡ Some p.place = sym is ∙ p.named in
          let end : after_steps (superclass_of classes) 1 id ≡ None = subst (λ n. after_steps (superclass_of classes) (suc n) id ≡ None) none ends in
          let wrong : Some p.place ≡ None = sym up ∙ sym (one-step id) ∙ end in absurd cc
      here-next (suc left_over) more found =
          let start : option_and_then (λ c. c.parent) (class_of_name classes first) ≡ Some above = ap (λ (o : Option Class). option_and_then (λ c. c.parent) o) found ∙ parent in
          let list : superclasses_from classes most (option_and_then (λ c. c.parent) (class_of_name classes first)) ≡ above ∷ superclasses_from classes left_over (option_and_then (λ c. c.parent) (class_of_name classes above)) =
          ap (λ n. superclasses_from classes n (option_and_then (λ c. c.parent) (class_of_name classes first))) more
          ∙ ap (λ (o : Option ℕ). superclasses_from classes (suc left_over) o) start ∙ from-some left_over above in
          subst (λ l. IsTrue (has_number l above)) (sym list) (left (above == above) (has_number (superclasses_from classes left_over (option_and_then (λ c. c.parent) (class_of_name classes above))) above) (place-here above))

      later-next : ((up : ℕ) (rest_first : Option ℕ) → option_and_then (class_named classes) rest_first ≡ superclass_of classes up → after_steps (superclass_of classes) most up ≡ None →
          IsTrue (has_number (superclasses_from classes most rest_first) name) → IsTrue (has_number (superclasses_from classes most rest_first) above)) → (found : Option Class) → class_of_name classes first ≡ found →
          IsTrue (has_number (superclasses_from classes most (option_and_then (λ c. c.parent) found)) name) → IsTrue (has_number (superclasses_from classes most (option_and_then (λ c. c.parent) found)) above)
      later-next again None none h = let wrong : false ≡ true = subst (λ l. IsTrue (has_number l name)) (from-none most) h in absurd cc
      later-next again (Some e) found h =
          let p = placed first e found in
          let up : superclass_of classes id ≡ Some p.place = sym is ∙ p.named in
          again p.place e.parent (sym (superclass-named p.place e p.there)) (step-left most id p.place up ends) h

      by-parts : ((up : ℕ) (rest_first : Option ℕ) → option_and_then (class_named classes) rest_first ≡ superclass_of classes up → after_steps (superclass_of classes) most up ≡ None →
          IsTrue (has_number (superclasses_from classes most rest_first) name) → IsTrue (has_number (superclasses_from classes most rest_first) above)) → IsTrue (first == name) ⊎ IsTrue (has_number (superclasses_from classes most (option_and_then (λ c. c.parent) (class_of_name classes first))) name) →
          IsTrue (has_number (superclasses_from classes most (option_and_then (λ c. c.parent) (class_of_name classes first))) above)
      by-parts again (inl here) = here-next most refl (subst (λ n. class_of_name classes n ≡ Some d) (sym (same-place first name here)) class)
      by-parts again (inr later) = later-next again (class_of_name classes first) refl later

  -- the superclass of a superclass is one
  pub superclasses-closed : IsSound classes → (id : ℕ) (c : Class) → slice_get classes id ≡ Some c → (name above : ℕ) (d : Class) →
      IsTrue (has_number (superclasses classes c) name) → class_of_name classes name ≡ Some d → d.parent ≡ Some above → IsTrue (has_number (superclasses classes c) above)
  superclasses-closed sound id c there name above d h class parent =
      from-closed (length classes) id c.parent (sym (superclass-named id c there)) (chain_ends classes sound id (slice_get_within classes id c there)) name above d h class parent

  -- and so is that of the class
  pub superclass-first : (id : ℕ) (c : Class) → slice_get classes id ≡ Some c → (name : ℕ) → c.parent ≡ Some name → IsTrue (has_number (superclasses classes c) name)
  superclass-first id c there name parent = by-length (length classes) (slice_get_within classes id c there)
    where
      by-length : (n : ℕ) → id < n → IsTrue (has_number (superclasses_from classes n c.parent) name)
      by-length zero lt = absurd (omega (arith, lt))
      by-length (suc n) lt =
          subst (λ l. IsTrue (has_number l name)) (sym (ap (λ (o : Option ℕ). superclasses_from classes (suc n) o) parent ∙ from-some n name))
          (left (name == name) (has_number (superclasses_from classes n (option_and_then (λ c. c.parent) (class_of_name classes name))) name) (place-here name))
