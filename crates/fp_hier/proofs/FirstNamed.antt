-- The classes of a list of names, one name after the other, and what they give.
use Rattle.std.proofs.Common.{◌≡◌, ◌+◌, ◌<◌, ℕ, List, [], ◌∷◌, ◌++◌, length, drop, flat_map, get_or, Option, Some, None, sym, ap, ◌∙◌, add-one, append_assoc}
use Rattle.std.specs.Option.{option_or, option_to_list}
use Rattle.std.proofs.Math.Seq.{drop-cons}
use Rattle.fp_model.specs.declared.class.Class.{Class}
use Rattle.fp_model.specs.ClassSet.{class_named}
use Rattle.fp_facts.specs.Hierarchy.{classes_among}
use Rattle.fp_facts.specs.Resolution.{first_given}

-- ---- one class more

-- the next class gives something, or nothing
pub gives-first : (give : ℕ → Option ℕ) (id m : ℕ) (ids : List ℕ) → Some m ≡ give id → Some m ≡ first_given give (id ∷ ids)
gives-first give id m ids is = ap (λ (o : Option ℕ). option_or o (first_given give ids)) is

pub gives-later : (give : ℕ → Option ℕ) (id : ℕ) (ids : List ℕ) → None ≡ give id → first_given give ids ≡ first_given give (id ∷ ids)
gives-later give id ids is = ap (λ (o : Option ℕ). option_or o (first_given give ids)) is

-- what it gives is put behind what there is
pub more-given : (give : ℕ → Option ℕ) (id m : ℕ) (ids before after : List ℕ) → Some m ≡ give id → after ≡ before ++ m ∷ [] →
    after ++ flat_map (λ x. option_to_list (give x)) ids ≡ before ++ flat_map (λ x. option_to_list (give x)) (id ∷ ids)
more-given give id m ids before after is pushed =
    let rest = flat_map (λ x. option_to_list (give x)) ids in
    ap (λ l. l ++ rest) pushed ∙ append_assoc before (m ∷ []) rest ∙ ap (λ o. before ++ (option_to_list o ++ rest)) is

pub none-given : (give : ℕ → Option ℕ) (id : ℕ) (ids before : List ℕ) → None ≡ give id →
    before ++ flat_map (λ x. option_to_list (give x)) ids ≡ before ++ flat_map (λ x. option_to_list (give x)) (id ∷ ids)
none-given give id ids before is = ap (λ o. before ++ (option_to_list o ++ flat_map (λ x. option_to_list (give x)) ids)) is

-- what a list of its gives is put behind what there is
pub list-given : (each : ℕ → List ℕ) (id : ℕ) (ids before list after : List ℕ) → list ≡ each id → after ≡ before ++ list → after ++ flat_map each ids ≡ before ++ flat_map each (id ∷ ids)
list-given each id ids before list after is pushed =
    ap (λ l. l ++ flat_map each ids) pushed ∙ append_assoc before list (flat_map each ids) ∙ ap (λ l. before ++ (l ++ flat_map each ids)) is

-- ---- one name more

module _ (classes : List Class) (names : List ℕ) (i : ℕ) (within : i < length names) where
  next : drop i names ≡ get_or names i 0 ∷ drop (i + 1) names
  next = drop-cons names i 0 within ∙ ap (λ n. get_or names i 0 ∷ drop n names) (sym (add-one i))

  pub name-outside : None ≡ class_named classes (get_or names i 0) → classes_among classes (drop (i + 1) names) ≡ classes_among classes (drop i names)
  name-outside is = ap (λ o. option_to_list o ++ classes_among classes (drop (i + 1) names)) is ∙ sym (ap (classes_among classes) next)

  pub name-known : (id : ℕ) → Some id ≡ class_named classes (get_or names i 0) → id ∷ classes_among classes (drop (i + 1) names) ≡ classes_among classes (drop i names)
  name-known id is = ap (λ o. option_to_list o ++ classes_among classes (drop (i + 1) names)) is ∙ sym (ap (classes_among classes) next)
