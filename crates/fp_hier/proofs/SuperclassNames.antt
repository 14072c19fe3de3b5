-- The names of superclasses, one after the other.
use Rattle.std.proofs.Common.{◌≡◌, ◌≢◌, ℕ, suc, zero, ◌==◌, ◌||◌, Bool, true, false, List, refl, sym, ap, subst, ◌∙◌}
use Rattle.std.specs.Prelude.{Option, Some, None, option_and_then}
use Rattle.std.proofs.lemmas.Bool.{eq-eqb, ne_eqb}
use Rattle.fp_model.specs.declared.class.Class.{Class}
use Rattle.fp_facts.specs.Hierarchy.{class_of_name, has_number, superclasses_from}

none-above : (classes : List Class) (most name : ℕ) → has_number (superclasses_from classes most None) name ≡ false
unfolding superclasses_from
none-above classes zero name = refl
none-above classes (suc most) name = refl

none-looked : (classes : List Class) (above : Option ℕ) (name : ℕ) → has_number (superclasses_from classes zero above) name ≡ false
unfolding superclasses_from
none-looked classes above name = refl

first-above : (classes : List Class) (most parent name : ℕ) →
    has_number (superclasses_from classes (suc most) (Some parent)) name ≡ ((parent == name) || has_number (superclasses_from classes most (option_and_then (λ c. c.parent) (class_of_name classes parent))) name)
unfolding superclasses_from
first-above classes most parent name = refl

module _ (classes : List Class) (most name : ℕ) (whole : Bool) (above : Option ℕ) (known : has_number (superclasses_from classes most above) name ≡ whole) where
  abbrev P : Option ℕ → Type 0
  P a = has_number (superclasses_from classes most a) name ≡ whole

  -- there is no further name
  pub at-end : above ≡ None → false ≡ whole
  at-end is = sym (none-above classes most name) ∙ subst P is known

  -- so many names were looked at
  pub at-most : most ≡ 0 → false ≡ whole
  at-most is =
      let Q : ℕ → Type 0 = λ m. has_number (superclasses_from classes m above) name ≡ whole in
      sym (none-looked classes above name) ∙ subst Q is known

  one : (rest parent : ℕ) → most ≡ suc rest → above ≡ Some parent → ((parent == name) || has_number (superclasses_from classes rest (option_and_then (λ c. c.parent) (class_of_name classes parent))) name) ≡ whole
  one rest parent more is =
      let Q : ℕ → Type 0 = λ m. has_number (superclasses_from classes m (Some parent)) name ≡ whole in
      sym (first-above classes rest parent name) ∙ subst Q more (subst P is known)

  -- the next name is the one
  pub found : (rest parent : ℕ) → most ≡ suc rest → above ≡ Some parent → parent ≡ name → true ≡ whole
  found rest parent more is here =
      let B : Bool → Type 0 = λ b. (b || has_number (superclasses_from classes rest (option_and_then (λ c. c.parent) (class_of_name classes parent))) name) ≡ whole in
      subst B (eq-eqb parent name here) (one rest parent more is)

  -- it is another one
  pub passed : (rest parent : ℕ) (next : Option ℕ) → most ≡ suc rest → above ≡ Some parent → parent ≢ name → next ≡ option_and_then (λ c. c.parent) (class_of_name classes parent) →
      has_number (superclasses_from classes rest next) name ≡ whole
  passed rest parent next more is here told =
      let B : Bool → Type 0 = λ b. (b || has_number (superclasses_from classes rest (option_and_then (λ c. c.parent) (class_of_name classes parent))) name) ≡ whole in
      ap (λ (a : Option ℕ). has_number (superclasses_from classes rest a) name) told ∙ subst B (ne_eqb parent name here) (one rest parent more is)
