-- The names of superclasses as a list, one after the other.
use Rattle.std.proofs.Common.{◌≡◌, ℕ, suc, zero, List, [], ◌∷◌, ◌++◌, refl, sym, ap, ◌∙◌}
use Rattle.std.specs.Prelude.{Option, Some, None, option_and_then}
use Rattle.std.proofs.lemmas.List.{append_assoc, append-nil}
use Rattle.fp_model.specs.declared.class.Class.{Class}
use Rattle.fp_facts.specs.Hierarchy.{class_of_name, superclasses_from}

pub none-above : (classes : List Class) (most : ℕ) → superclasses_from classes most None ≡ []
unfolding superclasses_from
none-above classes zero = refl
none-above classes (suc most) = refl

none-looked : (classes : List Class) (above : Option ℕ) → superclasses_from classes zero above ≡ []
unfolding superclasses_from
none-looked classes above = refl

pub first-above : (classes : List Class) (most parent : ℕ) → superclasses_from classes (suc most) (Some parent) ≡ parent ∷ superclasses_from classes most (option_and_then (λ c. c.parent) (class_of_name classes parent))
unfolding superclasses_from
first-above classes most parent = refl

module _ (classes : List Class) (most : ℕ) (names whole : List ℕ) (above : Option ℕ) (known : (names ++ superclasses_from classes most above) ≡ whole) where
  -- there is no further name
  pub at-end : above ≡ None → names ≡ whole
  at-end is = sym (append-nil names) ∙ ap (λ (l : List ℕ). names ++ l) (sym (none-above classes most) ∙ ap (superclasses_from classes most) (sym is)) ∙ known

  -- so many names were looked at
  pub at-most : most ≡ 0 → names ≡ whole
  at-most is = sym (append-nil names) ∙ ap (λ (l : List ℕ). names ++ l) (sym (none-looked classes above) ∙ ap (λ (m : ℕ). superclasses_from classes m above) (sym is)) ∙ known

  -- one name more
  pub one-more : (rest parent : ℕ) (next : Option ℕ) (more : List ℕ) → most ≡ suc rest → above ≡ Some parent → next ≡ option_and_then (λ c. c.parent) (class_of_name classes parent) → more ≡ names ++ parent ∷ [] →
      (more ++ superclasses_from classes rest next) ≡ whole
  one-more rest parent next more left is told pushed =
      ap (λ (l : List ℕ). l ++ superclasses_from classes rest next) pushed
      ∙ append_assoc names (parent ∷ []) (superclasses_from classes rest next)
      ∙ ap (λ (a : Option ℕ). names ++ parent ∷ superclasses_from classes rest a) told
      ∙ ap (λ (l : List ℕ). names ++ l) (sym (first-above classes rest parent))
      ∙ ap (λ (m : ℕ). names ++ superclasses_from classes m (Some parent)) (sym left)
      ∙ ap (λ (a : Option ℕ). names ++ superclasses_from classes most a) (sym is)
      ∙ known
