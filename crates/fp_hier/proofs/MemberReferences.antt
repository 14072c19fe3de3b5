-- What a reference to a method means, by the number of its class.
use Rattle.std.proofs.Common.{◌≡◌, ℕ, ◌<◌, ◌==◌, List, [], ◌∷◌, length, refl, sym, ap, ◌∙◌, arith, inl, inr}
use Rattle.std.specs.Prelude.{IfSome, Option, Some, None, option_and_then, slice_get}
use Rattle.std.specs.Option.{option_or}
use Rattle.std.proofs.lemmas.List.Quantifiers.{position-Some}
use Rattle.std.proofs.lemmas.Option.{none-some, slice_get_cases}
use Rattle.fp_model.specs.declared.class.Class.{Class}
use Rattle.fp_model.specs.ClassSet.{class_named, methods_of}
use Rattle.fp_facts.specs.Hierarchy.{class_and_above}
use Rattle.fp_facts.specs.Resolution.{declared_method, first_given, first_of, interfaces_above, methods_among, resolve_method, resolved_method}
use Rattle.fp_hier.specs.Lineages.{classes_up}
use Rattle.fp_hier.specs.Sought.{passes}
use Rattle.fp_hier.specs.declared.resolution.interfaces.Wanted.{Wanted}
use Rattle.fp_hier.specs.declared.resolution.interfaces.Wanted.TheVariants as sought
use Rattle.fp_hier.proofs.GivenMembers.{among-known}
use Rattle.fp_hier.proofs.Lineages.{classes-up-is}

-- ---- the class of a name

pub class-within : (classes : List Class) (name id : ℕ) → class_named classes name ≡ Some id → id < length classes
class-within [] name id is = absurd (none-some id is)
class-within (c ∷ classes) name id is = (position-Some (λ (d : Class). d.name == name) (c ∷ classes) id c is).0

-- what holds where the class stands at its number
at-class : {P : Type 0} (classes : List Class) (id : ℕ) → id < length classes → ((c : Class) → slice_get classes id ≡ Some c → P) → P
at-class classes id within each = elim (slice_get_cases classes id).1 [
  | inl found ↦ each found.0 found.2
  | inr none ↦ absurd (omega (arith, within, none.0))
]

resolved-at : (classes : List Class) (class id name descr : ℕ) (c : Class) → class_named classes class ≡ Some id → slice_get classes id ≡ Some c →
    resolve_method classes class name descr ≡ resolved_method classes c name descr
resolved-at classes class id name descr c named at =
    let means = λ (o : Option Class). option_and_then (λ (d : Class). resolved_method classes d name descr) o in
    ap (λ (o : Option ℕ). means (option_and_then (slice_get classes) o)) named ∙ ap means at

-- ---- a method of an interface

or-second : (a b rest result : Option ℕ) (m : ℕ) → a ≡ None → b ≡ Some m → result ≡ Some m → result ≡ option_or a (option_or b rest)
or-second a b rest result m first is told = told ∙ sym (ap (λ (o : Option ℕ). option_or o (option_or b rest)) first ∙ ap (λ (o : Option ℕ). option_or o rest) is)

or-third : (a b rest result : Option ℕ) → a ≡ None → b ≡ None → result ≡ rest → result ≡ option_or a (option_or b rest)
or-third a b rest result first none told = told ∙ sym (ap (λ (o : Option ℕ). option_or o (option_or b rest)) first ∙ ap (λ (o : Option ℕ). option_or o rest) none)

-- what a search of the interfaces above a class tells
abbrev pub IsOfInterface : List Class → (class name descr : ℕ) → (wanted : Wanted) → Option ℕ → Type 0
IsOfInterface classes id name descr wanted result =
    (c : Class) → slice_get classes id ≡ Some c → result ≡ first_of (methods_among classes (passes wanted) name descr (interfaces_above classes c))

module _ (classes : List Class) (class id name descr : ℕ) (named : class_named classes class ≡ Some id) (above : None ≡ first_given (declared_method classes name descr) (classes_up classes id)) where
  none-above : (c : Class) → slice_get classes id ≡ Some c → first_given (declared_method classes name descr) (class_and_above classes c) ≡ None
  none-above c at = sym (above ∙ ap (first_given (declared_method classes name descr)) (classes-up-is classes id c at))

  -- there is one with code
  pub coded-is : (m : ℕ) → IsOfInterface classes id name descr sought.WithCode (Some m) → Some m ≡ resolve_method classes class name descr
  coded-is m coded = at-class classes id (class-within classes class id named)
      (λ c at. or-second _ _ _ (Some m) m (none-above c at) (sym (coded c at)) refl ∙ sym (resolved-at classes class id name descr c named at))

  -- there is none
  pub open-is : (result : Option ℕ) → IsOfInterface classes id name descr sought.WithCode None → IsOfInterface classes id name descr sought.Any result → result ≡ resolve_method classes class name descr
  open-is result coded uncoded = at-class classes id (class-within classes class id named)
      (λ c at. or-third _ _ _ result (none-above c at) (sym (coded c at)) (uncoded c at) ∙ sym (resolved-at classes class id name descr c named at))

pub interface-known : (classes : List Class) (class id name descr : ℕ) (wanted : Wanted) (m : ℕ) → class_named classes class ≡ Some id → IsOfInterface classes id name descr wanted (Some m) → m < length (methods_of classes)
interface-known classes class id name descr wanted m named found = at-class classes id (class-within classes class id named)
    (λ c at. among-known classes (passes wanted) name descr m (interfaces_above classes c) (sym (found c at)))

pub interface-known-if : (classes : List Class) (class id name descr : ℕ) (wanted : Wanted) (result : Option ℕ) → class_named classes class ≡ Some id → IsOfInterface classes id name descr wanted result →
    IfSome result (λ m. m < length (methods_of classes))
interface-known-if classes class id name descr wanted None named found = tt
interface-known-if classes class id name descr wanted (Some m) named found = interface-known classes class id name descr wanted m named found
