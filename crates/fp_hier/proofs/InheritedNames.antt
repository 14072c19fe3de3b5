-- A class goes by its own name, those of its superinterfaces, and those that its superclass goes by.
use Rattle.std.proofs.Common.{◌≡◌, ℕ, ◌==◌, ◌||◌, Bool, true, false, List, [], ◌∷◌, ◌++◌, flat_map, refl, sym, ap, ◌∙◌}
use Rattle.std.specs.List.{list_any}
use Rattle.std.specs.Option.{option_to_list}
use Rattle.std.specs.Prelude.{Option, Some, option_and_then, slice_get}
use Rattle.std.proofs.lemmas.Option.{get_or_from_slice_get, option_and_then_some}
use Rattle.std.proofs.lemmas.Bool.{eqb-true}
use Rattle.std.proofs.lemmas.List.Quantifiers.{position-Some}
use Rattle.fp_model.specs.declared.class.Class.{Class}
use Rattle.fp_model.specs.ClassSet.{IsSet, SetView, class_named, superclass_of}
use Rattle.fp_facts.specs.Hierarchy.{class_and_above, classes_among, superclasses, superinterfaces_at}
use Rattle.fp_hier.specs.Marks.{own_names}
use Rattle.fp_hier.proofs.EndingChains.{superclasses-behind}
use Rattle.fp_hier.proofs.Lineages.{own-name}

any-append : (f : ℕ → Bool) (xs ys : List ℕ) → list_any f (xs ++ ys) ≡ (list_any f xs || list_any f ys)
any-append f [] ys = refl
any-append f (x ∷ xs) ys = ap (λ (b : Bool). f x || b) (any-append f xs ys) ∙ assoc (f x) (list_any f xs) (list_any f ys)
  where
    assoc : (a b c : Bool) → (a || (b || c)) ≡ ((a || b) || c)
    assoc true b c = refl
    assoc false b c = refl

or-moved : (own above lists more : Bool) → (own || (above || (lists || more))) ≡ ((above || more) || (own || lists))
or-moved true true lists more = refl
or-moved true false lists true = refl
or-moved true false lists false = refl
or-moved false true lists more = refl
or-moved false false true true = refl
or-moved false false true false = refl
or-moved false false false true = refl
or-moved false false false false = refl

named-class : (classes : List Class) (q p : ℕ) (d : Class) → class_named classes q ≡ Some p → slice_get classes p ≡ Some d → d.name ≡ q
named-class classes q p d named there =
    let first = position-Some (λ (c : Class). c.name == q) classes p d named in
    sym (ap (λ (e : Class). e.name) (get_or_from_slice_get classes p d d there)) ∙ eqb-true _ _ first.1

module _ (set : SetView) (id p : ℕ) (c d : Class) (valid : IsSet set) (at : slice_get set.classes id ≡ Some c) (there : slice_get set.classes p ≡ Some d) where
  abbrev classes : List Class
  classes = set.classes

  named-above : (q : ℕ) → c.parent ≡ Some q → class_named classes q ≡ Some p → (f : ℕ → Bool) →
      list_any f (own_names classes c) ≡ (list_any f (own_names classes d) || (f c.name || list_any f (superinterfaces_at classes id)))
  named-above q is named f =
      let above : List ℕ = superclasses classes c in
      let same : q ≡ d.name = sym (named-class classes q p d named there) in
      let chain : above ≡ d.name ∷ superclasses classes d = superclasses-behind set id p q c d valid at there is named ∙ ap (λ (n : ℕ). n ∷ superclasses classes d) same in
      let more : List ℕ = flat_map (superinterfaces_at classes) (classes_among classes above) in
      let ids : class_and_above classes c ≡ id ∷ classes_among classes above =
      ap (λ (o : Option ℕ). option_to_list o ++ classes_among classes above) (own-name set id c valid at) in
      let theirs : own_names classes d ≡ above ++ more =
      sym (ap (λ (l : List ℕ). l ++ flat_map (superinterfaces_at classes) (classes_among classes l)) chain) in
      ap (λ (l : List ℕ). f c.name || list_any f (above ++ flat_map (superinterfaces_at classes) l)) ids
      ∙ ap (λ (b : Bool). f c.name || b) (any-append f above (superinterfaces_at classes id ++ more) ∙ ap (λ (b : Bool). list_any f above || b) (any-append f (superinterfaces_at classes id) more))
      ∙ or-moved (f c.name) (list_any f above) (list_any f (superinterfaces_at classes id)) (list_any f more)
      ∙ ap (λ (b : Bool). b || (f c.name || list_any f (superinterfaces_at classes id))) (sym (any-append f above more) ∙ ap (list_any f) (sym theirs))

  pub inherited : (f : ℕ → Bool) → superclass_of classes id ≡ Some p →
      list_any f (own_names classes c) ≡ (list_any f (own_names classes d) || (f c.name || list_any f (superinterfaces_at classes id)))
  inherited f next =
      option_and_then_some (class_named classes) c.parent p (sym (ap (λ (o : Option Class). option_and_then (λ (e : Class). option_and_then (class_named classes) e.parent) o) at) ∙ next)
      (λ q is named. named-above q is named f)
