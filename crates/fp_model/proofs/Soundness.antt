-- A set is refused exactly where it is not sound.
use Rattle.std.proofs.Common.{◌≡◌, ◌≢◌, ℕ, zero, suc, ◌-◌, ◌<◌, Bool, true, false, eqb, ◌==◌, ⊎_elim, List, [], ◌∷◌, length, get_or, count_by, slice_get, Option, Some, None, option_map, refl, sym, ap, ◌∙◌, arith, eqb-true, eq-eqb, lt-ltb, ltb-true}
use Rattle.std.specs.Option.{option_or}
use Rattle.std.proofs.lemmas.Bool.{cases_lt, cases_order, false≢true, false_from_ne_true}
use Rattle.std.proofs.lemmas.List.{get_or-map, get_or_past, length-map}
use Rattle.std.proofs.lemmas.List.FromFn.{get_or-map-range_with_len, length-map-range_with_len}
use Rattle.std.proofs.lemmas.Option.{none-some, slice_get_within, get_or_from_slice_get, slice_get-get_or}
use Rattle.fp_model.specs.declared.class.Class.{Class}
use Rattle.fp_model.specs.ClassSet.{SetView, SetRefusal, Duplicate, SuperCycle, IsSound, IsFirstOf, refusal_of, least_text, marked_names, namesake_marks, cycle_marks, has_namesake, is_on_cycle, ancestor_after, superclass_of}
use Rattle.fp_model.proofs.FirstText.{least_text-None, least_text-Some}
use Rattle.fp_model.proofs.Counting.{counted_two, two_counted}
use Rattle.fp_model.proofs.Reaching.{superclass_of-within}
use Rattle.fp_model.proofs.Steps.{Leads, Leads-steps, comes_back-any, comes_back-true, comes_round_from, starts_within}

-- ---- no name is told where nothing is marked

unmarked : (names : List (List ℕ)) (classes : List Class) (marks : List Bool) → length marks ≡ length classes → marked_names names classes marks ≡ [] → (k : ℕ) → get_or marks k false ≡ false
unmarked names [] [] long e k = refl
unmarked names [] (m ∷ marks) long e k = absurd (omega arith)
unmarked names (c ∷ classes) [] long e k = refl
unmarked names (c ∷ classes) (true ∷ marks) long e k = absurd cc
unmarked names (c ∷ classes) (false ∷ marks) long e zero = refl
unmarked names (c ∷ classes) (false ∷ marks) long e (suc k) = unmarked names classes marks (omega arith) e k

no_name : (names : List (List ℕ)) (classes : List Class) (marks : List Bool) → ((k : ℕ) → get_or marks k false ≡ false) → least_text (marked_names names classes marks) ≡ None
unfolding least_text
no_name names [] marks none = refl
no_name names (c ∷ classes) [] none = refl
no_name names (c ∷ classes) (true ∷ marks) none = absurd (false≢true (sym (none 0)))
no_name names (c ∷ classes) (false ∷ marks) none = no_name names classes marks (λ k. none (suc k))

-- ---- the two causes

none_of_both : (a b : Option (List ℕ)) (f g : List ℕ → SetRefusal) → option_or (option_map f a) (option_map g b) ≡ None → (a ≡ None) × (b ≡ None)
none_of_both None None f g e = (refl, refl)
none_of_both None (Some b) f g e = absurd (none-some (g b) (sym e))
none_of_both (Some a) b f g e = absurd (none-some (f a) (sym e))

-- the mark of a class of the set
namesake_at : (classes : List Class) (i : ℕ) (c : Class) → slice_get classes i ≡ Some c → get_or (namesake_marks classes) i false ≡ has_namesake classes c
namesake_at classes i c at =
    get_or-map (has_namesake classes) classes i c false (slice_get_within classes i c at) ∙ ap (has_namesake classes) (get_or_from_slice_get classes i c c at)

cycle_at : (classes : List Class) (i : ℕ) → i < length classes → get_or (cycle_marks classes) i false ≡ is_on_cycle classes i
cycle_at classes i within = get_or-map-range_with_len (is_on_cycle classes) 0 (length classes) i i false within (omega arith)

-- two classes of one name are marked
distinct_where_unmarked : (classes : List Class) → ((k : ℕ) → get_or (namesake_marks classes) k false ≡ false) → (i j : ℕ) (c d : Class) → slice_get classes i ≡ Some c → slice_get classes j ≡ Some d → c.name ≡ d.name → i ≡ j
distinct_where_unmarked classes none i j c d ci dj same = ⊎_elim
    (λ equal. equal)
    (λ differ. ⊎_elim
    (λ less. absurd (marked i j c less (slice_get_within classes j d dj) ci
    (eq-eqb _ _ (ap (λ (e : Class). e.name) (get_or_from_slice_get classes i c c ci)))
    (eq-eqb _ _ (ap (λ (e : Class). e.name) (get_or_from_slice_get classes j d c dj) ∙ sym same))))
    (λ more. absurd (marked j i d more (slice_get_within classes i c ci) dj
    (eq-eqb _ _ (ap (λ (e : Class). e.name) (get_or_from_slice_get classes j d d dj)))
    (eq-eqb _ _ (ap (λ (e : Class). e.name) (get_or_from_slice_get classes i c d ci) ∙ same))))
    differ)
    (cases_order i j)
  where
    marked : (a b : ℕ) (e : Class) → a < b → b < length classes → slice_get classes a ≡ Some e → eqb (get_or classes a e).name e.name ≡ true → eqb (get_or classes b e).name e.name ≡ true → ⊥
    marked a b e less within at first second =
        false≢true (sym (none a) ∙ namesake_at classes a e at ∙ lt-ltb 1 (count_by (λ f. f.name == e.name) classes) (counted_two (λ (f : Class). f.name == e.name) classes a b e less within first second))

acyclic_where_unmarked : (classes : List Class) → ((k : ℕ) → get_or (cycle_marks classes) k false ≡ false) → (steps id : ℕ) → ancestor_after classes (suc steps) id ≢ Some id
acyclic_where_unmarked classes none steps id round =
    let within = superclass_of-within classes in
    let leads : Leads (superclass_of classes) (suc steps) id id = record { leads = round } in
    false≢true (sym (none id) ∙ cycle_at classes id (starts_within within steps id id leads) ∙ comes_back-any within steps id leads)

pub sound_where_unrefused : (set : SetView) → refusal_of set ≡ None → IsSound set.classes
unfolding refusal_of
sound_where_unrefused set none =
    let both = none_of_both (least_text (marked_names set.names set.classes (namesake_marks set.classes))) (least_text (marked_names set.names set.classes (cycle_marks set.classes))) _ _ none in
    record {
      distinct = distinct_where_unmarked set.classes (unmarked set.names set.classes (namesake_marks set.classes) (length-map set.classes (has_namesake set.classes)) (least_text-None _ both.0));
      acyclic = acyclic_where_unmarked set.classes (unmarked set.names set.classes (cycle_marks set.classes) (length-map-range_with_len (is_on_cycle set.classes) 0 (length set.classes)) (least_text-None _ both.1));
    }

-- ---- the other way: a sound set is not refused

known : (classes : List Class) (k : ℕ) → k < length classes → slice_get classes k ≡ None → ⊥
known [] k within e = omega arith
known (c ∷ classes) zero within e = none-some c (sym e)
known (c ∷ classes) (suc k) within e = known classes k (omega arith) e

unmarked_where_distinct : (classes : List Class) → ((i j : ℕ) (c d : Class) → slice_get classes i ≡ Some c → slice_get classes j ≡ Some d → c.name ≡ d.name → i ≡ j) → (k : ℕ) → get_or (namesake_marks classes) k false ≡ false
unmarked_where_distinct classes distinct k = ⊎_elim
    (λ within. false_from_ne_true (get_or (namesake_marks classes) k false) (λ marked. shared (slice_get classes k) refl within marked))
    (λ past. get_or_past (namesake_marks classes) k false (rw length-map past))
    (cases_lt k (length classes))
  where
    shared : (at : Option Class) → slice_get classes k ≡ at → k < length classes → get_or (namesake_marks classes) k false ≡ true → ⊥
    shared None e within marked = known classes k within e
    shared (Some c) e within marked =
        let two = two_counted (λ (d : Class). d.name == c.name) classes c (ltb-true 1 _ (sym (namesake_at classes k c e) ∙ marked)) in
        let same = distinct two.0 two.1 (get_or classes two.0 c) (get_or classes two.1 c) (slice_get-get_or classes two.0 c (omega arith)) (slice_get-get_or classes two.1 c (omega arith)) (eqb-true _ _ two.4 ∙ sym (eqb-true _ _ two.5)) in
        absurd (omega arith)

unmarked_where_acyclic : (classes : List Class) → ((steps id : ℕ) → ancestor_after classes (suc steps) id ≢ Some id) → (k : ℕ) → get_or (cycle_marks classes) k false ≡ false
unmarked_where_acyclic classes acyclic k = ⊎_elim
    (λ within. cycle_at classes k within ∙ false_from_ne_true (is_on_cycle classes k) (λ round.
    let back = comes_back-true (superclass_of classes) (length classes) k round in
    acyclic (back.0 - 1) k (Leads-steps back.0 (suc (back.0 - 1)) (omega arith) back.3).leads))
    (λ past. get_or_past (cycle_marks classes) k false (rw length-map-range_with_len past))
    (cases_lt k (length classes))

pub unrefused_where_sound : (set : SetView) → IsSound set.classes → refusal_of set ≡ None
unfolding refusal_of
unrefused_where_sound set sound =
    let no_duplicate = no_name set.names set.classes (namesake_marks set.classes) (unmarked_where_distinct set.classes sound.distinct) in
    let no_cycle = no_name set.names set.classes (cycle_marks set.classes) (unmarked_where_acyclic set.classes sound.acyclic) in
    rw (no_duplicate, no_cycle) refl

-- ---- chains end

pub chain_ends : (classes : List Class) → IsSound classes → (id : ℕ) → id < length classes → ancestor_after classes (length classes) id ≡ None
chain_ends classes sound id within = ends (ancestor_after classes (length classes) id) refl
  where
    ends : (to : Option ℕ) → ancestor_after classes (length classes) id ≡ to → to ≡ None
    ends None e = refl
    ends (Some z) e =
        let round = comes_round_from (superclass_of-within classes) (length classes) id z (omega arith) (omega arith) (record { leads = e }) in
        absurd (sound.acyclic (round.0 - 1) z (Leads-steps round.0 (suc (round.0 - 1)) (omega arith) round.3).leads)

-- ---- the name that is told

first_duplicate : (a b : Option (List ℕ)) (name : List ℕ) → option_or (option_map Duplicate a) (option_map SuperCycle b) ≡ Some (Duplicate name) → a ≡ Some name
first_duplicate None None name e = absurd cc
first_duplicate None (Some b) name e = absurd cc
first_duplicate (Some a) b name e = cc

first_on_cycle : (a b : Option (List ℕ)) (name : List ℕ) → option_or (option_map Duplicate a) (option_map SuperCycle b) ≡ Some (SuperCycle name) → (a ≡ None) × (b ≡ Some name)
first_on_cycle None None name e = absurd cc
first_on_cycle None (Some b) name e = (refl, cc)
first_on_cycle (Some a) b name e = absurd cc

pub duplicate_is_first : (set : SetView) (name : List ℕ) → refusal_of set ≡ Some (Duplicate name) → IsFirstOf (marked_names set.names set.classes (namesake_marks set.classes)) name
unfolding refusal_of
duplicate_is_first set name e =
    least_text-Some (marked_names set.names set.classes (namesake_marks set.classes)) name
    (first_duplicate (least_text (marked_names set.names set.classes (namesake_marks set.classes))) (least_text (marked_names set.names set.classes (cycle_marks set.classes))) name e)

pub cycle_is_first : (set : SetView) (name : List ℕ) → refusal_of set ≡ Some (SuperCycle name) → (marked_names set.names set.classes (namesake_marks set.classes) ≡ []) × IsFirstOf (marked_names set.names set.classes (cycle_marks set.classes)) name
unfolding refusal_of
cycle_is_first set name e =
    let both = first_on_cycle (least_text (marked_names set.names set.classes (namesake_marks set.classes))) (least_text (marked_names set.names set.classes (cycle_marks set.classes))) name e in
    (least_text-None _ both.0, least_text-Some (marked_names set.names set.classes (cycle_marks set.classes)) name both.1)
