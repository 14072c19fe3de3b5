-- Rounds over the types of fields end in the least seed classes.
use Rattle.std.proofs.Common.{◌≡◌, ◌<◌, ◌≤◌, ◌&&◌, ◌||◌, ◌⊎◌, ℕ, Bool, true, false, IsTrue, List, [], ◌∷◌, ◌++◌, Option, Some, None, length, refl, sym, ap, subst, ◌∙◌, inl, inr, arith, zero, suc}
use Rattle.std.specs.Prelude.{slice_get}
use Rattle.std.specs.List.{flat_map, list_any, range_with_len}
use Rattle.std.specs.Option.{option_map_or}
use Rattle.std.proofs.lemmas.Bool.{cases_lt}
use Rattle.std.proofs.lemmas.List.Concat.{flat_map-cons}
use Rattle.std.proofs.lemmas.List.Folds.{list_any-append}
use Rattle.std.proofs.lemmas.Option.{slice_get_within}
use Rattle.fp_model.specs.declared.class.Class.{Class}
use Rattle.fp_eqs.specs.Counts.{count_below-same, count_below-most}
use Rattle.fp_eqs.specs.Equations.{count_below}
use Rattle.fp_eqs.specs.Tests.{left, right, either, both, parts, same-bool}
use Rattle.fp_facts.specs.Hierarchy.{fits, has_number, is_concrete}
use Rattle.fp_facts.specs.Seeds.{AreLeastSeeds, classes_within, field_types, is_within, root_types, seeds, seeds_after}
use Rattle.fp_facts.proofs.ListedNumbers.{and-false, any-from, any-has, has-filter, has-range}

module _ (classes : List Class) where
  within-known : (names : List ℕ) (class : ℕ) → IsTrue (is_within classes names class) → class < length classes
  within-known names class h = by-class (slice_get classes class) refl h
    where
      by-class : (found : Option Class) → slice_get classes class ≡ found → IsTrue (option_map_or (λ c. is_concrete c && list_any (fits classes c) names) found false) → class < length classes
      by-class None is h = let wrong : false ≡ true = h in cc
      by-class (Some c) is h = slice_get_within classes class c is

  has-within : (names : List ℕ) (class : ℕ) → has_number (classes_within classes names) class ≡ is_within classes names class
  has-within names class =
      has-filter (is_within classes names) (range_with_len 0 (length classes)) class
      ∙ same-bool (is_within classes names class && has_number (range_with_len 0 (length classes)) class) (is_within classes names class)
      (λ h. (parts (is_within classes names class) (has_number (range_with_len 0 (length classes)) class) h).0)
      (λ h. both (is_within classes names class) (has_number (range_with_len 0 (length classes)) class) h
      (has-range 0 (length classes) class (omega arith) (omega (arith, within-known names class h))))

  and-or : (a b c : Bool) → (a && (b || c)) ≡ ((a && b) || (a && c))
  and-or true b c = refl
  and-or false b c = refl

  within-append : (first rest : List ℕ) (class : ℕ) → is_within classes (first ++ rest) class ≡ (is_within classes first class || is_within classes rest class)
  within-append first rest class = by-class (slice_get classes class)
    where
      by-class : (found : Option Class) →
          option_map_or (λ c. is_concrete c && list_any (fits classes c) (first ++ rest)) found false
          ≡ (option_map_or (λ c. is_concrete c && list_any (fits classes c) first) found false || option_map_or (λ c. is_concrete c && list_any (fits classes c) rest) found false)
      by-class None = refl
      by-class (Some c) =
          ap (λ b. is_concrete c && b) (list_any-append (fits classes c) first rest) ∙ and-or (is_concrete c) (list_any (fits classes c) first) (list_any (fits classes c) rest)

  within-none : (class : ℕ) → is_within classes [] class ≡ false
  within-none class = by-class (slice_get classes class)
    where
      by-class : (found : Option Class) → option_map_or (λ c. is_concrete c && list_any (fits classes c) []) found false ≡ false
      by-class None = refl
      by-class (Some c) = and-false (is_concrete c)

  within-flat : (f : ℕ → List ℕ) (xs : List ℕ) (class : ℕ) → is_within classes (flat_map f xs) class ≡ list_any (λ x. is_within classes (f x) class) xs
  within-flat f [] class = within-none class
  within-flat f (x ∷ xs) class =
      ap (λ names. is_within classes names class) (flat_map-cons f x xs) ∙ within-append (f x) (flat_map f xs) class
      ∙ ap (λ b. is_within classes (f x) class || b) (within-flat f xs class)

  module _ (names : List ℕ) where
    -- the class is a seed after so many rounds
    in-after : ℕ → ℕ → Bool
    in-after k class = has_number (seeds_after classes names k) class

    -- a class of the seeds has a field of the type
    by-field : ℕ → ℕ → Bool
    by-field k class = list_any (λ above. is_within classes (field_types classes above) class) (seeds_after classes names k)

    after-none : (class : ℕ) → in-after zero class ≡ is_within classes names class
    unfolding in-after seeds_after
    after-none class = has-within names class

    after-more : (k class : ℕ) → in-after (suc k) class ≡ (is_within classes names class || by-field k class)
    unfolding in-after by-field seeds_after
    after-more k class =
        has-within (names ++ flat_map (field_types classes) (seeds_after classes names k)) class
        ∙ within-append names (flat_map (field_types classes) (seeds_after classes names k)) class
        ∙ ap (λ b. is_within classes names class || b) (within-flat (field_types classes) (seeds_after classes names k) class)

    field-grows : (j k : ℕ) → ((class : ℕ) → IsTrue (in-after j class) → IsTrue (in-after k class)) → (class : ℕ) → IsTrue (by-field j class) → IsTrue (by-field k class)
    unfolding in-after by-field
    field-grows j k h class by =
        let r = any-from (λ above. is_within classes (field_types classes above) class) (seeds_after classes names j) by in
        any-has (λ above. is_within classes (field_types classes above) class) (seeds_after classes names k) r.number (h r.number r.listed) r.passes

    after-grows : (k class : ℕ) → IsTrue (in-after k class) → IsTrue (in-after (suc k) class)
    after-grows zero class h =
        subst (λ b. IsTrue b) (sym (after-more zero class)) (left (is_within classes names class) (by-field zero class) (subst (λ b. IsTrue b) (after-none class) h))
    after-grows (suc k) class h =
        subst (λ b. IsTrue b) (sym (after-more (suc k) class))
        (elim (either (is_within classes names class) (by-field k class) (subst (λ b. IsTrue b) (after-more k class) h)) [
          | inl here ↦ left (is_within classes names class) (by-field (suc k) class) here
          | inr by ↦ right (is_within classes names class) (by-field (suc k) class) (field-grows k (suc k) (after-grows k) class by)
        ])

    after-known : (k class : ℕ) → IsTrue (in-after k class) → class < length classes
    unfolding by-field
    after-known zero class h = within-known names class (subst (λ b. IsTrue b) (after-none class) h)
    after-known (suc k) class h = by-parts (either (is_within classes names class) (by-field k class) (subst (λ b. IsTrue b) (after-more k class) h))
      where
        by-parts : IsTrue (is_within classes names class) ⊎ IsTrue (by-field k class) → class < length classes
        by-parts (inl here) = within-known names class here
        by-parts (inr by) =
            let r = any-from (λ above. is_within classes (field_types classes above) class) (seeds_after classes names k) by in
            within-known (field_types classes r.number) class r.passes

    IsStable : ℕ → Type 0
    IsStable k = (class : ℕ) → in-after k class ≡ in-after (suc k) class

    weight : ℕ → ℕ
    weight k = count_below (in-after k) (length classes)

    stable-weight : (k : ℕ) → weight (suc k) ≤ weight k → IsStable k
    unfolding weight IsStable
    stable-weight k le class =
        same-bool (in-after k class) (in-after (suc k) class) (after-grows k class)
        (λ h. subst (λ b. IsTrue b) (sym (count_below-same (in-after k) (in-after (suc k)) (length classes) (λ c _. after-grows k c) le class (after-known (suc k) class h))) h)

    stable-next : (k : ℕ) → IsStable k → IsStable (suc k)
    unfolding IsStable
    stable-next k h class =
        same-bool (in-after (suc k) class) (in-after (suc (suc k)) class) (after-grows (suc k) class)
        (λ more. subst (λ b. IsTrue b) (sym (after-more k class))
        (elim (either (is_within classes names class) (by-field (suc k) class) (subst (λ b. IsTrue b) (after-more (suc k) class) more)) [
          | inl here ↦ left (is_within classes names class) (by-field k class) here
          | inr by ↦ right (is_within classes names class) (by-field k class) (field-grows (suc k) k (λ c at. subst (λ b. IsTrue b) (sym (h c)) at) class by)
        ]))

    stable-or-heavy : (k : ℕ) → IsStable k ⊎ (k < weight (suc k))
    stable-or-heavy zero =
        elim (cases_lt (weight 0) (weight (suc 0))) [ inl more ↦ inr (omega arith) | inr same ↦ inl (stable-weight 0 same) ]
    stable-or-heavy (suc k) =
        elim (stable-or-heavy k) [
          | inl stable ↦ inl (stable-next k stable)
          | inr heavy ↦ elim (cases_lt (weight (suc k)) (weight (suc (suc k)))) [ inl more ↦ inr (omega arith) | inr same ↦ inl (stable-weight (suc k) same) ]
        ]

    weight-most : (k : ℕ) → weight k ≤ length classes
    unfolding weight
    weight-most k = count_below-most (in-after k) (length classes)

    stable-end : IsStable (length classes)
    stable-end =
        elim (stable-or-heavy (length classes)) [
          | inl stable ↦ stable
          | inr heavy ↦ absurd (omega (arith, heavy, weight-most (suc (length classes))))
        ]

    holds-names : (k class : ℕ) → IsTrue (is_within classes names class) → IsTrue (in-after k class)
    holds-names zero class h = subst (λ b. IsTrue b) (sym (after-none class)) h
    holds-names (suc k) class h = after-grows k class (holds-names k class h)

    at-field : (k class field : ℕ) → IsTrue (in-after k class) → IsTrue (is_within classes (field_types classes class) field) → IsTrue (by-field k field)
    unfolding in-after by-field
    at-field k class field h by = any-has (λ above. is_within classes (field_types classes above) field) (seeds_after classes names k) class h by

    end-closed : (class field : ℕ) → IsTrue (in-after (length classes) class) → IsTrue (is_within classes (field_types classes class) field) → IsTrue (in-after (length classes) field)
    unfolding IsStable
    end-closed class field h by =
        subst (λ b. IsTrue b) (sym (stable-end field))
        (subst (λ b. IsTrue b) (sym (after-more (length classes) field)) (right (is_within classes names field) (by-field (length classes) field) (at-field (length classes) class field h by)))

    field-from : (k class : ℕ) → IsTrue (by-field k class) → (P : Type 0) → ((above : ℕ) → IsTrue (in-after k above) → IsTrue (is_within classes (field_types classes above) class) → P) → P
    unfolding in-after by-field
    field-from k class by P then =
        let r = any-from (λ above. is_within classes (field_types classes above) class) (seeds_after classes names k) by in then r.number r.listed r.passes

    after-least : (others : ℕ → Bool) → ((class : ℕ) → IsTrue (is_within classes names class) → IsTrue (others class)) →
        ((class field : ℕ) → IsTrue (others class) → IsTrue (is_within classes (field_types classes class) field) → IsTrue (others field)) →
        (k class : ℕ) → IsTrue (in-after k class) → IsTrue (others class)
    after-least others first closed zero class h = first class (subst (λ b. IsTrue b) (after-none class) h)
    after-least others first closed (suc k) class h =
        elim (either (is_within classes names class) (by-field k class) (subst (λ b. IsTrue b) (after-more k class) h)) [
          | inl here ↦ first class here
          | inr by ↦ field-from k class by (IsTrue (others class)) (λ above among within. closed above class (after-least others first closed k above among) within)
        ]

pub least-seeds : (classes : List Class) (roots : List ℕ) → AreLeastSeeds classes roots (seeds classes roots)
unfolding in-after
least-seeds classes roots =
    let names = flat_map (root_types classes) roots in
    record {
      holds_roots = λ class h. holds-names classes names (length classes) class h;
      closed = λ class field h by. end-closed classes names class field h by;
      least = λ others first closed class h. after-least classes names others first closed (length classes) class h;
    }
