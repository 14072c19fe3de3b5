-- Which roots have been found.
use Rattle.std.proofs.Common.{◌≡◌, ℕ, ◌+◌, Bool, true, false, cond, ◌&&◌, ◌||◌, List, [], ◌∷◌, Some, take, slice_get, refl, sym, ap, ◌∙◌}
use Rattle.std.proofs.lemmas.List.Folds.{list_any-append}
use Rattle.std.specs.List.{list_any}
use Rattle.std.specs.Str.{bytes_eq}
use Rattle.fp_base.specs.Names.{has_name, with_name}
use Rattle.fp_base.proofs.NameLemmas.{has_name-with_name}
use Rattle.fp_model.specs.declared.class.Method.{Method}
use Rattle.fp_model.specs.ClassSet.{SetView}
use Rattle.fp_cells.specs.declared.kind.KindId.TheVariants.{Reach}
use Rattle.fp_cells.specs.declared.kind.Entity.TheVariants.{Method as OfMethod}
use Rattle.fp_cells.specs.Cells.{Cell}
use Rattle.fp_cells.specs.Entities.{entity_text}
use Rattle.fp_system.specs.Java.{has_code, has_text, is_root, method_cells, reach_cells}
use Rattle.fp_system.specs.Roots.{FindsRoots, HasEntities}
use Rattle.fp_system.proofs.BuildLemmas.{first_failing-same}
use Rattle.fp_system.proofs.MethodCellLemmas.{one_more, own_cell}
use Rattle.fp_system.proofs.ShowLemmas.{or-false}

-- the cells of the first so many methods
abbrev pub first_reach : ℕ → List Method → List Cell
first_reach i methods = method_cells Reach (λ m. 1) has_code 0 (take i methods)

own_found : (test : Cell → Bool) (i : ℕ) (m : Method) → list_any test (own_cell Reach (λ m. 1) has_code i m) ≡ (has_code m && test (record { kind = Reach; entity = OfMethod i; bits = 1 }))
own_found test i m =
    let cell : Cell = record { kind = Reach; entity = OfMethod i; bits = 1 } in
    (elim (has_code m) as (λ b. list_any test (cond b (cell ∷ []) []) ≡ (b && test cell)) [
      | true ↦ or-false (test cell)
      | false ↦ refl
    ])

pub root_step : (set : SetView) (wanted found later : List (List ℕ)) (methods : List Method) (i : ℕ) (m : Method) → slice_get methods i ≡ Some m →
    ((root : List ℕ) → has_name wanted root ≡ true → has_name later root ≡ (has_name found root || (has_code m && bytes_eq root (entity_text set (OfMethod i))))) →
    HasEntities set wanted found (first_reach i methods) → HasEntities set wanted later (first_reach (i + 1) methods)
root_step set wanted found later methods i m at noted h = λ root there.
    let test : Cell → Bool = λ cell. bytes_eq root (entity_text set cell.entity) in
    noted root there ∙ ap (λ b. b || (has_code m && bytes_eq root (entity_text set (OfMethod i)))) (h root there)
    ∙ ap (λ b. list_any test (first_reach i methods) || b) (sym (own_found test i m))
    ∙ sym (list_any-append test (first_reach i methods) (own_cell Reach (λ m. 1) has_code i m))
    ∙ ap (list_any test) (sym (one_more Reach (λ m. 1) has_code methods i m at))

pub roots_same : (set : SetView) (wanted found roots : List (List ℕ)) → ((text : List ℕ) → has_name wanted text ≡ has_text roots text) → HasEntities set wanted found (reach_cells set.classes) → FindsRoots set roots found
roots_same set wanted found roots looks noted = first_failing-same (has_name found) (is_root set) roots (λ root there. noted root (looks root ∙ there))

pub root_noted : (found : List (List ℕ)) (text wanted root : List ℕ) (code : Bool) → text ≡ wanted → code ≡ true → has_name (with_name found text) root ≡ (has_name found root || (code && bytes_eq root wanted))
root_noted found text wanted root code is there =
    has_name-with_name found text root ∙ ap (λ t. has_name found root || bytes_eq root t) is ∙ ap (λ b. has_name found root || (b && bytes_eq root wanted)) (sym there)
