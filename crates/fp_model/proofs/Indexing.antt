-- The index of classes by name, one class after the other.
use Rattle.std.proofs.Common.{◌≡◌, ℕ, ◌+◌, ◌<◌, cond, ◌==◌, List, [], ◌∷◌, ◌++◌, length, get_or, set, take, Option, Some, None, ⊎_elim, refl, sym, ap, ap₂, subst, ◌∙◌, All, IfSome, map, option_and_then, slice_index_or, arith, eq-eqb, ne_eqb, get_or-set_same, get_or-set_other}
use Rattle.std.specs.List.{range_with_len}
use Rattle.std.specs.Option.{option_or}
use Rattle.std.proofs.lemmas.Bool.{cases_eq}
use Rattle.std.proofs.lemmas.List.{get_or_default}
use Rattle.std.proofs.lemmas.List.FromFn.{get_or-map-range_with_len}
use Rattle.std.proofs.lemmas.Option.{slice_get-get_or}
use Rattle.fp_model.specs.declared.class.Class.{Class}
use Rattle.fp_model.specs.ClassSet.{class_named, superclass_of}
use Rattle.fp_model.proofs.Tables.{position_more, table_more}

option_or-None : (o : Option ℕ) → option_or o None ≡ o
option_or-None None = refl
option_or-None (Some x) = refl

-- what holds of all holds of the one at a place
pub one_of_all : {X : Type 0} (P : X → Type 0) (xs : List X) (i : ℕ) (x : X) → All P xs → i < length xs → x ≡ get_or xs i x → P x
one_of_all P xs i x all within is = subst P (sym is) (all i x within)

-- the class of a name among one class more
class_named_more : (classes : List Class) (i : ℕ) (c : Class) (k : ℕ) → i < length classes → c ≡ get_or classes i c → class_named (take (i + 1) classes) k ≡ option_or (class_named (take i classes) k) (cond (c.name == k) (Some i) None)
class_named_more classes i c k within is = position_more (λ (d : Class). d.name == k) classes i c within is

pub index_more : (classes : List Class) (index : List (Option ℕ)) (i : ℕ) (c : Class) (old new : Option ℕ) → i < length classes → c ≡ get_or classes i c → c.name < length index → old ≡ get_or index c.name old → new ≡ option_or old (Some i) → ((k : ℕ) → k < length index → get_or index k None ≡ class_named (take i classes) k) → (k : ℕ) → k < length index → get_or (set index c.name new) k None ≡ class_named (take (i + 1) classes) k
index_more classes index i c old new within is named was made indexed k small = ⊎_elim
    (λ here.
    let had : old ≡ class_named (take i classes) k = was ∙ get_or_default index c.name old None named ∙ ap (λ n. get_or index n None) (sym here) ∙ indexed k small in
    ap (λ n. get_or (set index c.name new) n None) here
    ∙ get_or-set_same index c.name new None named
    ∙ made
    ∙ ap (λ o. option_or o (Some i)) had
    ∙ ap (λ b. option_or (class_named (take i classes) k) (cond b (Some i) None)) (sym (eq-eqb c.name k (sym here)))
    ∙ sym (class_named_more classes i c k within is))
    (λ other.
    get_or-set_other index c.name k new None other
    ∙ indexed k small
    ∙ sym (option_or-None (class_named (take i classes) k))
    ∙ ap (λ b. option_or (class_named (take i classes) k) (cond b (Some i) None)) (sym (ne_eqb c.name k (λ e. other (sym e))))
    ∙ sym (class_named_more classes i c k within is))
    (cases_eq k c.name)

-- the superclass of a class, by the index
superclass_by_index : (classes : List Class) (index : List (Option ℕ)) (i : ℕ) (c : Class) → i < length classes → c ≡ get_or classes i c → IfSome c.parent (λ name. name < length index) → index ≡ map (class_named classes) (range_with_len 0 (length index)) → option_and_then (λ name. slice_index_or index name None) c.parent ≡ superclass_of classes i
superclass_by_index classes index i c within is named table =
    by_parent c.parent named ∙ ap (option_and_then (λ (d : Class). option_and_then (class_named classes) d.parent)) (sym (slice_get-get_or classes i c within ∙ ap (λ d. Some d) (sym is)))
  where
    by_parent : (parent : Option ℕ) → IfSome parent (λ name. name < length index) → option_and_then (λ name. slice_index_or index name None) parent ≡ option_and_then (class_named classes) parent
    by_parent None small = refl
    by_parent (Some name) small =
        ap (λ all. slice_index_or all name None) table
        ∙ get_or-map-range_with_len (class_named classes) 0 (length index) name name None small (omega arith)

-- the superclass of one class more
pub superclasses_more : (classes : List Class) (index supers : List (Option ℕ)) (i : ℕ) (c : Class) (found : Option ℕ) → i < length classes → c ≡ get_or classes i c → All (λ d. IfSome d.parent (λ name. name < length index)) classes → index ≡ map (class_named classes) (range_with_len 0 (length index)) → supers ≡ map (superclass_of classes) (range_with_len 0 i) → found ≡ option_and_then (λ name. slice_index_or index name None) c.parent → supers ++ found ∷ [] ≡ map (superclass_of classes) (range_with_len 0 (i + 1))
superclasses_more classes index supers i c found within is named table so_far one =
    ap₂ (λ front last. front ++ last ∷ []) so_far
    (one ∙ superclass_by_index classes index i c within is (one_of_all (λ (d : Class). IfSome d.parent (λ name. name < length index)) classes i c named within is) table)
    ∙ table_more (superclass_of classes) i
