-- Why a set is refused, by the names that were found.
use Rattle.std.proofs.Common.{◌≡◌, ℕ, ◌<◌, Bool, List, length, map, get_or, IfSome, All, Option, Some, None, String, option_map, string_bytes, refl, sym, ap, ap₂, subst, ◌∙◌}
use Rattle.std.specs.List.{range_with_len}
use Rattle.std.specs.Option.{option_or}
use Rattle.std.proofs.lemmas.List.FromFn.{length-map-range_with_len}
use Rattle.fp_model.specs.declared.class.Class.{Class}
use Rattle.fp_model.specs.ClassSet.{Duplicate, SuperCycle, IsClassOver, refusal_of, least_text, marked_names, namesake_marks, cycle_marks, class_named}

-- the first name of the marked classes, as it was found
name_found : {Z : Type 0} (names : List (List ℕ)) (classes : List Class) (marks items xs : List Bool) (found is : Option (String Z)) → items ≡ marks → xs ≡ items → option_map string_bytes found ≡ least_text (marked_names names classes xs) → found ≡ is → least_text (marked_names names classes marks) ≡ option_map string_bytes is
name_found names classes marks items xs found is marked slice least was =
    ap (λ m. least_text (marked_names names classes m)) (sym (slice ∙ marked)) ∙ sym least ∙ ap (option_map string_bytes) was

module _ {Z : Type 0} (names : List (List ℕ)) (classes : List Class) where
  pub refused_duplicate : (items xs : List Bool) (found : Option (String Z)) (name : String Z) → items ≡ namesake_marks classes → xs ≡ items → option_map string_bytes found ≡ least_text (marked_names names classes xs) → found ≡ Some name → refusal_of (record { classes = classes; names = names }) ≡ Some (Duplicate (string_bytes name))
  unfolding refusal_of
  refused_duplicate items xs found name marked slice least was =
      ap (λ o. option_or (option_map Duplicate o) (option_map SuperCycle (least_text (marked_names names classes (cycle_marks classes)))))
      (name_found names classes (namesake_marks classes) items xs found (Some name) marked slice least was)

  pub refused_by_cycle : (items xs more ys : List Bool) (found other is : Option (String Z)) → items ≡ namesake_marks classes → xs ≡ items → option_map string_bytes found ≡ least_text (marked_names names classes xs) → found ≡ None → more ≡ cycle_marks classes → ys ≡ more → option_map string_bytes other ≡ least_text (marked_names names classes ys) → other ≡ is → refusal_of (record { classes = classes; names = names }) ≡ option_map (λ name. SuperCycle (string_bytes name)) is
  unfolding refusal_of
  refused_by_cycle items xs more ys found other is marked slice least was cycles second first_on then =
      ap₂ (λ o p. option_or (option_map Duplicate o) (option_map SuperCycle p))
      (name_found names classes (namesake_marks classes) items xs found None marked slice least was)
      (name_found names classes (cycle_marks classes) more ys other is cycles second first_on then)
      ∙ by_name is
    where
      by_name : (o : Option (String Z)) → option_map SuperCycle (option_map string_bytes o) ≡ option_map (λ name. SuperCycle (string_bytes name)) o
      by_name None = refl
      by_name (Some name) = refl

-- the names of superclasses are in the index
pub parents_known : (names : List (List ℕ)) (classes : List Class) (index : List (Option ℕ)) → All (IsClassOver names) classes → index ≡ map (class_named classes) (range_with_len 0 (length names)) → All (λ c. IfSome c.parent (λ name. name < length index)) classes
parents_known names classes index over is k d within =
    let P : ℕ → Type 0 = λ n. IfSome (get_or classes k d).parent (λ name. name < n) in
    subst P (sym (ap length is ∙ length-map-range_with_len (class_named classes) 0 (length names))) (over k d within).parent

pub index_is : (names : List (List ℕ)) (classes : List Class) (index : List (Option ℕ)) → index ≡ map (class_named classes) (range_with_len 0 (length names)) → index ≡ map (class_named classes) (range_with_len 0 (length index))
index_is names classes index is =
    is ∙ ap (λ n. map (class_named classes) (range_with_len 0 n)) (sym (ap length is ∙ length-map-range_with_len (class_named classes) 0 (length names)))
