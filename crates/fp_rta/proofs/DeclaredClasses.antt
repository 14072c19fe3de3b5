-- The classes that declare methods.
use Rattle.std.proofs.Common.{◌≡◌, ◌<◌, ◌+◌, ℕ, List, [], ◌∷◌, ◌++◌, Some, All, get_or, length, take, sym, ap, ◌∙◌, arith}
use Rattle.std.specs.List.{flat_map}
use Rattle.std.specs.Option.{option_to_list}
use Rattle.std.proofs.lemmas.List.Elements.{All-contains_itself}
use Rattle.fp_model.specs.declared.class.Class.{Class}
use Rattle.fp_facts.specs.Hierarchy.{has_number}
use Rattle.fp_facts.specs.Resolution.{class_of_method}
use Rattle.fp_hier.proofs.AscendingLists.{contains-from_has, has-from_contains}
use Rattle.fp_rta.proofs.PlaceLists.{flat-more}

-- the class of one method more
pub class-more : (classes : List Class) (now after methods : List ℕ) (i class : ℕ) → i < length methods → class_of_method classes (get_or methods i 0) ≡ Some class →
    now ≡ flat_map (λ m. option_to_list (class_of_method classes m)) (take i methods) → after ≡ now ++ class ∷ [] → after ≡ flat_map (λ m. option_to_list (class_of_method classes m)) (take (i + 1) methods)
class-more classes now after methods i class lt declared h e =
    let nothing : List ℕ = [] in
    flat-more (λ m. option_to_list (class_of_method classes m)) nothing now after methods i lt h (e ∙ ap (λ o. now ++ option_to_list o) (sym declared))

-- a list with the same members as one of classes of the set is of such
pub same-known : (bound : ℕ) (listed others : List ℕ) → ((n : ℕ) → has_number others n ≡ has_number listed n) → All (λ class. class < bound) listed → All (λ class. class < bound) others
same-known bound listed others same known = λ k d within.
    let class = get_or others k d in
    let has = has-from_contains others class (All-contains_itself others k d within) in
    let at = contains-from_has listed class (sym (same class) ∙ has) in
    (let here = known at.0 class at.1 in omega (arith, here, at.2))
