-- In a set without cycles each walk up ends before it is cut off.
use Rattle.std.proofs.Common.{◌≡◌, ℕ, suc, zero, ◌+◌, ◌-◌, ◌==◌, ◌<◌, ◌≤◌, List, ◌∷◌, length, refl, sym, ap, ◌∙◌, arith}
use Rattle.std.specs.Prelude.{Option, Some, None, option_and_then, slice_get}
use Rattle.std.proofs.lemmas.Option.{none-some, option_and_then_some, slice_get_within}
use Rattle.std.proofs.lemmas.List.Quantifiers.{position-Some}
use Rattle.fp_model.specs.declared.class.Class.{Class}
use Rattle.fp_model.specs.ClassSet.{IsSet, SetView, after_steps, class_named, superclass_of}
use Rattle.fp_model.proofs.Steps.{IsWithin, Leads-steps, after_steps-add, comes_round_from}
use Rattle.fp_facts.specs.Hierarchy.{class_of_name, superclasses, superclasses_from}
use Rattle.fp_hier.proofs.SuperclassLists.{first-above, none-above}

-- superclasses are classes of the set
superclass_of-within : (classes : List Class) → IsWithin (superclass_of classes) (length classes)
superclass_of-within classes = record {
  from = λ x y e. option_and_then_some (λ (c : Class). option_and_then (class_named classes) c.parent) (slice_get classes x) y e (λ c found there. slice_get_within classes x c found);
  to = λ x y e. option_and_then_some (λ (c : Class). option_and_then (class_named classes) c.parent) (slice_get classes x) y e
      (λ c found there. option_and_then_some (class_named classes) c.parent y there
      (λ name has named. (position-Some (λ (d : Class). d.name == name) classes y c named).0));
}

-- first one step and then others
first-step : (next : ℕ → Option ℕ) (k id p : ℕ) → next id ≡ Some p → after_steps next (suc k) id ≡ after_steps next k p
unfolding after_steps
first-step next k id p is =
    let more : suc k ≡ k + 1 = omega arith in
    ap (λ n. after_steps next n id) more
    ∙ after_steps-add next k 1 id
    ∙ ap (option_and_then (after_steps next k)) is

no-step : (next : ℕ → Option ℕ) (id : ℕ) → after_steps next 0 id ≡ Some id
unfolding after_steps
no-step next id = refl

-- as many steps as there are classes lead nowhere
ends : (set : SetView) (id : ℕ) → IsSet set → id < length set.classes → (to : Option ℕ) → after_steps (superclass_of set.classes) (length set.classes) id ≡ to → to ≡ None
ends set id valid known None is = refl
ends set id valid known (Some z) is =
    let n = length set.classes in
    let round = comes_round_from (superclass_of-within set.classes) n id z (omega arith) (omega (arith, known)) (record { leads = is }) in
    absurd (valid.sound.acyclic (round.0 - 1) z (Leads-steps round.0 (suc (round.0 - 1)) (omega (arith, round.1)) round.3).leads)

behind : (classes : List Class) (k j : ℕ) →
    ((p : ℕ) (d : Class) → slice_get classes p ≡ Some d → after_steps (superclass_of classes) k p ≡ None → superclasses_from classes k d.parent ≡ superclasses_from classes j d.parent) →
    (place : Option ℕ) → ((p : ℕ) → place ≡ Some p → after_steps (superclass_of classes) k p ≡ None) →
    superclasses_from classes k (option_and_then (λ (c : Class). c.parent) (option_and_then (slice_get classes) place))
    ≡ superclasses_from classes j (option_and_then (λ (c : Class). c.parent) (option_and_then (slice_get classes) place))
behind classes k j each None none = none-above classes k ∙ sym (none-above classes j)
behind classes k j each (Some p) none = found (slice_get classes p) refl
  where
    found : (o : Option Class) → slice_get classes p ≡ o →
        superclasses_from classes k (option_and_then (λ (c : Class). c.parent) o) ≡ superclasses_from classes j (option_and_then (λ (c : Class). c.parent) o)
    found None at = none-above classes k ∙ sym (none-above classes j)
    found (Some d) at = each p d at (none p refl)

up : (classes : List Class) (k m p : ℕ) (d : Class) → slice_get classes p ≡ Some d → after_steps (superclass_of classes) (suc k) p ≡ None → suc k ≤ m →
    ((r : ℕ) (e : Class) → slice_get classes r ≡ Some e → after_steps (superclass_of classes) k r ≡ None → superclasses_from classes k e.parent ≡ superclasses_from classes (m - 1) e.parent) →
    (parent : Option ℕ) → d.parent ≡ parent → superclasses_from classes (suc k) parent ≡ superclasses_from classes m parent
up classes k m p d at none less each None is = none-above classes (suc k) ∙ sym (none-above classes m)
up classes k m p d at none less each (Some q) is =
    let rest : m ≡ suc (m - 1) = omega (arith, less) in
    let step : (to : ℕ) → class_named classes q ≡ Some to → after_steps (superclass_of classes) k to ≡ None = λ to named.
    sym (first-step (superclass_of classes) k p to
    (ap (option_and_then (λ (c : Class). option_and_then (class_named classes) c.parent)) at ∙ ap (option_and_then (class_named classes)) is ∙ named))
    ∙ none in
    first-above classes k q
    ∙ ap (λ (l : List ℕ). q ∷ l) (behind classes k (m - 1) each (class_named classes q) step)
    ∙ sym (first-above classes (m - 1) q)
    ∙ ap (λ (n : ℕ). superclasses_from classes n (Some q)) (sym rest)

-- a walk that ends is the same however much longer it may get
chain-ends : (classes : List Class) (k m p : ℕ) (d : Class) → slice_get classes p ≡ Some d → after_steps (superclass_of classes) k p ≡ None → k ≤ m →
    superclasses_from classes k d.parent ≡ superclasses_from classes m d.parent
chain-ends classes zero m p d at none less = absurd (none-some p (sym none ∙ no-step (superclass_of classes) p))
chain-ends classes (suc k) m p d at none less =
    up classes k m p d at none less (λ r e there nowhere. chain-ends classes k (m - 1) r e there nowhere (omega (arith, less))) d.parent refl

-- the superclasses of a class are its superclass's name and those of that
pub superclasses-behind : (set : SetView) (id p q : ℕ) (c d : Class) → IsSet set → slice_get set.classes id ≡ Some c → slice_get set.classes p ≡ Some d → c.parent ≡ Some q → class_named set.classes q ≡ Some p →
    superclasses set.classes c ≡ q ∷ superclasses set.classes d
superclasses-behind set id p q c d valid at there is named =
    let classes = set.classes in
    let n = length classes in
    let known : id < n = slice_get_within classes id c at in
    let rest : n ≡ suc (n - 1) = omega (arith, known) in
    let next : superclass_of classes id ≡ Some p =
    ap (option_and_then (λ (c : Class). option_and_then (class_named classes) c.parent)) at ∙ ap (option_and_then (class_named classes)) is ∙ named in
    let none : after_steps (superclass_of classes) (n - 1) p ≡ None =
    sym (first-step (superclass_of classes) (n - 1) id p next) ∙ ap (λ (k : ℕ). after_steps (superclass_of classes) k id) (sym rest) ∙ ends set id valid known (after_steps (superclass_of classes) n id) refl in
    let parent : option_and_then (λ (c : Class). c.parent) (class_of_name classes q) ≡ d.parent =
    ap (λ (o : Option ℕ). option_and_then (λ (c : Class). c.parent) (option_and_then (slice_get classes) o)) named ∙ ap (option_and_then (λ (c : Class). c.parent)) there in
    ap (superclasses_from classes n) is
    ∙ ap (λ (k : ℕ). superclasses_from classes k (Some q)) rest
    ∙ first-above classes (n - 1) q
    ∙ ap (λ (o : Option ℕ). q ∷ superclasses_from classes (n - 1) o) parent
    ∙ ap (λ (l : List ℕ). q ∷ l) (chain-ends classes (n - 1) n p d there none (omega arith))
