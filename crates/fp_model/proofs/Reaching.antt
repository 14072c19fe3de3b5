-- Where steps lead from all classes at once, and what is left where they are many.
use Rattle.std.proofs.Common.{◌≡◌, ℕ, suc, ◌+◌, ◌-◌, ◌*◌, ◌<◌, ◌≤◌, Bool, true, false, ◌==◌, List, length, map, get_or, Option, Some, None, IfSome, All, option_and_then, slice_index_or, slice_get, refl, sym, ap, subst, subst₂, ◌∙◌, arith}
use Rattle.std.specs.List.{range_with_len, list_any}
use Rattle.std.proofs.lemmas.List.{get_or-map, length-map}
use Rattle.std.proofs.lemmas.List.FromFn.{get_or-map-range_with_len, length-map-range_with_len, fill_by_all}
use Rattle.std.proofs.lemmas.List.Folds.{Any-from_list_any, list_any_at}
use Rattle.std.proofs.lemmas.List.Quantifiers.{position-Some}
use Rattle.std.proofs.lemmas.Option.{option_and_then_some, slice_get_within}
use Rattle.std.proofs.lemmas.Bool.Decides.{same_from_decides}
use Rattle.fp_model.specs.declared.class.Class.{Class}
use Rattle.fp_model.specs.ClassSet.{after_steps, comes_back, is_number, class_named, superclass_of, ancestor_after, cycle_marks}
use Rattle.fp_model.proofs.Steps.{Leads, IsWithin, after_steps-add, ends_within, comes_round_from, comes_back-from, comes_back-true, reached_by, starts_within, is_number-same, is_number-true, Leads-steps}

-- two functions give one list where they agree
pub map_range_same : {X : Type 0} (f g : ℕ → X) (n : ℕ) (d : X) → ((k : ℕ) → k < n → f k ≡ g k) → map f (range_with_len 0 n) ≡ map g (range_with_len 0 n)
map_range_same f g n d same =
    fill_by_all g (map f (range_with_len 0 n)) n d (length-map-range_with_len f 0 n)
    (λ k within. get_or-map-range_with_len f 0 n k k d within (omega arith) ∙ same k within)

-- superclasses are classes of the set
pub superclass_of-within : (classes : List Class) → IsWithin (superclass_of classes) (length classes)
superclass_of-within classes = record {
  from = λ x y e. option_and_then_some (λ (c : Class). option_and_then (class_named classes) c.parent) (slice_get classes x) y e (λ c found there. slice_get_within classes x c found);
  to = λ x y e. option_and_then_some (λ (c : Class). option_and_then (class_named classes) c.parent) (slice_get classes x) y e
      (λ c found there. option_and_then_some (class_named classes) c.parent y there
      (λ name has named. (position-Some (λ (d : Class). d.name == name) classes y c named).0));
}

module _ (next : ℕ → Option ℕ) (n : ℕ) (within : IsWithin next n) where
  -- what is reached is a class
  pub reached_within : (k : ℕ) → All (λ to. IfSome to (λ id. id < n)) (map (after_steps next k) (range_with_len 0 n))
  reached_within k i d small =
      let here : i < n = rw length-map-range_with_len at small in
      let P : Option ℕ → Type 0 = λ to. IfSome to (λ id. id < n) in
      subst P (sym (get_or-map-range_with_len (after_steps next k) 0 n i i d here (omega arith))) (known (after_steps next k i) refl here)
    where
      known : (to : Option ℕ) → after_steps next k i ≡ to → i < n → IfSome to (λ id. id < n)
      known None e here = tt
      known (Some id) e here = ends_within within k i id here (record { leads = e })

  reached_at : (k i : ℕ) (d : Option ℕ) → i < n → get_or (map (after_steps next k) (range_with_len 0 n)) i d ≡ after_steps next k i
  reached_at k i d here = get_or-map-range_with_len (after_steps next k) 0 n i i d here (omega arith)

  -- twice as many steps
  pub reached_twice : (k : ℕ) → map (λ to. option_and_then (λ id. slice_index_or (map (after_steps next k) (range_with_len 0 n)) id None) to) (map (after_steps next k) (range_with_len 0 n)) ≡ map (after_steps next (k * 2)) (range_with_len 0 n)
  reached_twice k =
      fill_by_all (after_steps next (k * 2)) (map further reached) n None (length-map reached further ∙ length-map-range_with_len (after_steps next k) 0 n)
      (λ i here.
      get_or-map further reached i None None (rw length-map-range_with_len here)
      ∙ ap further (reached_at k i None here)
      ∙ from_there i here (after_steps next k i) refl
      ∙ sym (after_steps-add next k k i)
      ∙ ap (λ steps. after_steps next steps i) twice)
    where
      twice : k + k ≡ k * 2
      twice = omega arith

      reached : List (Option ℕ)
      reached = map (after_steps next k) (range_with_len 0 n)

      further : Option ℕ → Option ℕ
      further to = option_and_then (λ id. slice_index_or reached id None) to

      from_there : (i : ℕ) → i < n → (to : Option ℕ) → after_steps next k i ≡ to → further to ≡ option_and_then (after_steps next k) to
      from_there i here None e = refl
      from_there i here (Some id) e = reached_at k id None (ends_within within k i id here (record { leads = e }))

  -- where many steps lead is on a cycle, and nothing else is
  pub marks_are : (k : ℕ) → n ≤ k → 0 < k → map (λ id. list_any (is_number id) (map (after_steps next k) (range_with_len 0 n))) (range_with_len 0 (length (map (after_steps next k) (range_with_len 0 n)))) ≡ map (comes_back next n) (range_with_len 0 n)
  marks_are k long some =
      ap (λ m. map (λ id. list_any (is_number id) reached) (range_with_len 0 m)) (length-map-range_with_len (after_steps next k) 0 n)
      ∙ map_range_same (λ id. list_any (is_number id) reached) (comes_back next n) n false
      (λ id here. same_from_decides {P = comes_back next n id ≡ true} (list_any (is_number id) reached) (comes_back next n id) (only id, back id here) (λ e. e, λ e. e))
    where
      reached : List (Option ℕ)
      reached = map (after_steps next k) (range_with_len 0 n)

      only : (id : ℕ) → list_any (is_number id) reached ≡ true → comes_back next n id ≡ true
      only id e =
          let found = Any-from_list_any (is_number id) reached e in
          let from : found.0 < n = rw length-map-range_with_len at found.2 in
          let leads : Leads next k found.0 id = record { leads = sym (reached_at k found.0 found.1 from) ∙ found.3 ∙ is_number-true id found.1 found.4 } in
          let round = comes_round_from within k found.0 id long some leads in
          comes_back-from next n id round.0 round.1 round.2 round.3

      back : (id : ℕ) → id < n → comes_back next n id ≡ true → list_any (is_number id) reached ≡ true
      back id here e =
          let round = comes_back-true next n id e in
          let far = reached_by (round.0 - 1) k (Leads-steps round.0 (suc (round.0 - 1)) (omega arith) round.3) in
          let from = starts_within within (k - 1) far.0 id (Leads-steps k (suc (k - 1)) (omega arith) far.1) in
          list_any_at (is_number id) reached far.0 None (rw length-map-range_with_len from)
          (ap (is_number id) (reached_at k far.0 None from ∙ far.1.leads) ∙ is_number-same id)

-- the same for superclasses, with names for the lists
pub reached-one : (classes : List Class) (supers : List (Option ℕ)) → supers ≡ map (superclass_of classes) (range_with_len 0 (length classes)) → supers ≡ map (ancestor_after classes 1) (range_with_len 0 (length classes))
unfolding after_steps
reached-one classes supers is = is

pub reached-within : (classes : List Class) (steps : ℕ) (reached xs : List (Option ℕ)) → xs ≡ reached → reached ≡ map (ancestor_after classes steps) (range_with_len 0 (length classes)) → All (λ to. IfSome to (λ id. id < length xs)) xs
reached-within classes steps reached xs same is =
    let all : xs ≡ map (ancestor_after classes steps) (range_with_len 0 (length classes)) = same ∙ is in
    let long : length classes ≡ length xs = sym (ap length all ∙ length-map-range_with_len (ancestor_after classes steps) 0 (length classes)) in
    let P : ℕ → List (Option ℕ) → Type 0 = λ n ys. All (λ to. IfSome to (λ id. id < n)) ys in
    subst₂ P long (sym all) (reached_within (superclass_of classes) (length classes) (superclass_of-within classes) steps)

pub reached-doubled : (classes : List Class) (steps : ℕ) (reached xs ys : List (Option ℕ)) → xs ≡ reached → reached ≡ map (ancestor_after classes steps) (range_with_len 0 (length classes)) → ys ≡ map (λ to. option_and_then (λ id. slice_index_or xs id None) to) xs → ys ≡ map (ancestor_after classes (steps * 2)) (range_with_len 0 (length classes))
reached-doubled classes steps reached xs ys same is made =
    made ∙ ap (λ zs. map (λ to. option_and_then (λ id. slice_index_or zs id None) to) zs) (same ∙ is)
    ∙ reached_twice (superclass_of classes) (length classes) (superclass_of-within classes) steps

pub reached-marks : (classes : List Class) (steps : ℕ) (reached xs : List (Option ℕ)) (marks : List Bool) → xs ≡ reached → reached ≡ map (ancestor_after classes steps) (range_with_len 0 (length classes)) → length classes ≤ steps → 0 < steps → marks ≡ map (λ id. list_any (is_number id) xs) (range_with_len 0 (length xs)) → marks ≡ cycle_marks classes
reached-marks classes steps reached xs marks same is long some made =
    made ∙ ap (λ zs. map (λ id. list_any (is_number id) zs) (range_with_len 0 (length zs))) (same ∙ is)
    ∙ marks_are (superclass_of classes) (length classes) (superclass_of-within classes) steps long some
