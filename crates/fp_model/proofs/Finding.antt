-- Finding a class by its name.
use Rattle.std.proofs.Common.{◌≡◌, ℕ, ◌≤◌, ◌==◌, List, [], ◌∷◌, length, map, slice_get, Option, Some, None, All, ⊎_elim, refl, sym, ap, ◌∙◌, arith, eqb-true}
use Rattle.std.specs.List.{range_with_len}
use Rattle.std.specs.Option.{option_flatten}
use Rattle.std.proofs.lemmas.Bool.{cases_lt}
use Rattle.std.proofs.lemmas.List.FromFn.{length-map-range_with_len}
use Rattle.std.proofs.lemmas.List.Quantifiers.{position-Some}
use Rattle.std.proofs.lemmas.Option.{slice_get_past}
use Rattle.fp_model.specs.declared.class.Class.{Class}
use Rattle.fp_model.specs.ClassSet.{IsClassOver, class_named}
use Rattle.fp_model.proofs.Tables.{table_at}

-- no class has a name that is not of the table
nobody : (names : List (List ℕ)) (classes : List Class) (name : ℕ) → All (IsClassOver names) classes → length names ≤ name → (found : Option ℕ) → class_named classes name ≡ found → found ≡ None
nobody names classes name over past None is = refl
nobody names [] name over past (Some id) is = absurd cc
nobody names (d ∷ rest) name over past (Some id) is =
    let at = position-Some (λ (c : Class). c.name == name) (d ∷ rest) id d is in
    let same = eqb-true _ _ at.1 in
    absurd (omega (arith, (over id d at.0).name))

-- the class of a name, by the index
pub found_by_index : (names : List (List ℕ)) (classes : List Class) (index : List (Option ℕ)) (name : ℕ) → All (IsClassOver names) classes → index ≡ map (class_named classes) (range_with_len 0 (length names)) → option_flatten (slice_get index name) ≡ class_named classes name
found_by_index names classes index name over is = ⊎_elim
    (λ within. ap (λ xs. option_flatten (slice_get xs name)) is ∙ ap option_flatten (table_at (class_named classes) (length names) name within))
    (λ past.
    ap (λ xs. option_flatten (slice_get xs name)) is
    ∙ ap option_flatten (slice_get_past (map (class_named classes) (range_with_len 0 (length names))) name (rw length-map-range_with_len past))
    ∙ sym (nobody names classes name over past (class_named classes name) refl))
    (cases_lt name (length names))
