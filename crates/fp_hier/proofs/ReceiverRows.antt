-- In which rows a name marks a class.
use Rattle.std.proofs.Common.{◌≡◌, ◌+◌, ◌<◌, ◌≤◌, ◌==◌, ℕ, Bool, List, [], ◌∷◌, true, false, not, ◌&&◌, ◌||◌, length, Option, Some, None, refl, ap, sym, ◌∙◌, arith}
use Rattle.std.specs.Option.{is_none, option_map_or}
use Rattle.std.proofs.lemmas.Bool.{eq-eqb, eqb-true, ne_eqb}
use Rattle.std.proofs.lemmas.List.Quantifiers.{position-Some}
use Rattle.std.proofs.lemmas.Option.{same_Some}
use Rattle.fp_model.specs.declared.class.Class.{Class}
use Rattle.fp_model.specs.ClassSet.{SetView, class_named}
use Rattle.fp_facts.specs.Hierarchy.{is_array_name, is_object, is_outside}
use Rattle.fp_hier.specs.Marks.{marks, marks_outside}
use Rattle.fp_hier.proofs.AscendingLists.{same-test}

-- ---- which of three tests holds

or-none : (a : Bool) → (a || false) ≡ a
or-none true = refl
or-none false = refl

and-all : (a : Bool) → (a && true) ≡ a
and-all true = refl
and-all false = refl

abbrev of_three : (t u v a b : Bool) → Bool
of_three t u v a b = (t && a) || (u || (v && b))

first-holds : (t u v a b : Bool) → t ≡ true → u ≡ false → v ≡ false → of_three t u v a b ≡ a
first-holds t u v a b ht hu hv = rw (ht, hu, hv) (or-none a)

second-holds : (t u v a b : Bool) → t ≡ false → u ≡ true → of_three t u v a b ≡ true
second-holds t u v a b ht hu = rw (ht, hu) refl

third-holds : (t u v a b : Bool) → t ≡ false → u ≡ false → v ≡ true → of_three t u v a b ≡ b
third-holds t u v a b ht hu hv = rw (ht, hu, hv) refl

none-holds : (t u v a b : Bool) → t ≡ false → u ≡ false → v ≡ false → of_three t u v a b ≡ false
none-holds t u v a b ht hu hv = rw (ht, hu, hv) refl

-- ---- the rows of names outside the set

module _ (n : ℕ) (object array : Bool) (row : ℕ) where
  outside-first : row ≡ n → marks_outside n object array row ≡ not object
  outside-first is =
      first-holds (row == n) (row == n + 1) (row == n + 2) (not object) array
      (eq-eqb row n is) (ne_eqb row (n + 1) (λ e. omega arith)) (ne_eqb row (n + 2) (λ e. omega arith))

  outside-second : row ≡ n + 1 → marks_outside n object array row ≡ true
  outside-second is =
      second-holds (row == n) (row == n + 1) (row == n + 2) (not object) array
      (ne_eqb row n (λ e. omega arith)) (eq-eqb row (n + 1) is)

  outside-third : row ≡ n + 2 → marks_outside n object array row ≡ array
  outside-third is =
      third-holds (row == n) (row == n + 1) (row == n + 2) (not object) array
      (ne_eqb row n (λ e. omega arith)) (ne_eqb row (n + 1) (λ e. omega arith)) (eq-eqb row (n + 2) is)

  outside-below : row < n → marks_outside n object array row ≡ false
  outside-below less =
      none-holds (row == n) (row == n + 1) (row == n + 2) (not object) array
      (ne_eqb row n (λ e. omega arith)) (ne_eqb row (n + 1) (λ e. omega arith)) (ne_eqb row (n + 2) (λ e. omega arith))

-- ---- names of classes

pub named-below : (classes : List Class) (name id : ℕ) → class_named classes name ≡ Some id → id < length classes
named-below [] name id named = absurd cc
named-below (d ∷ rest) name id named = (position-Some (λ (c : Class). c.name == name) (d ∷ rest) id d named).0

-- the class of a name has no other one
same-name : (classes : List Class) (one other id : ℕ) → class_named classes one ≡ Some id → class_named classes other ≡ Some id → one ≡ other
same-name [] one other id named again = absurd cc
same-name (d ∷ rest) one other id named again =
    let first = position-Some (λ (c : Class). c.name == one) (d ∷ rest) id d named in
    let second = position-Some (λ (c : Class). c.name == other) (d ∷ rest) id d again in
    sym (eqb-true _ _ first.1) ∙ eqb-true _ _ second.1

-- ---- marks

module _ (set : SetView) (row name : ℕ) where
  abbrev as_outside : Bool
  as_outside = marks_outside (length set.classes) (is_object set.names name) (is_array_name set.names name) row

  abbrev as_placed : Option ℕ → Bool
  as_placed place = option_map_or (λ id. row == id) place as_outside

  -- in a row behind those of the classes only names outside the set mark
  marks-behind : (b : Bool) (place : Option ℕ) → class_named set.classes name ≡ place → length set.classes ≤ row → as_outside ≡ b → marks set row name ≡ (is_outside set.classes name && b)
  marks-behind b None is behind told =
      ap as_placed is ∙ told ∙ sym (ap (λ (o : Option ℕ). is_none o && b) is)
  marks-behind b (Some id) is behind told =
      let below = named-below set.classes name id is in
      ap as_placed is ∙ ne_eqb row id (λ e. omega arith) ∙ sym (ap (λ (o : Option ℕ). is_none o && b) is)

  pub marks-first : row ≡ length set.classes → marks set row name ≡ (is_outside set.classes name && not (is_object set.names name))
  marks-first is =
      marks-behind (not (is_object set.names name)) (class_named set.classes name) refl (omega arith)
      (outside-first (length set.classes) (is_object set.names name) (is_array_name set.names name) row is)

  pub marks-second : row ≡ length set.classes + 1 → marks set row name ≡ is_outside set.classes name
  marks-second is =
      marks-behind true (class_named set.classes name) refl (omega arith)
      (outside-second (length set.classes) (is_object set.names name) (is_array_name set.names name) row is)
      ∙ and-all (is_outside set.classes name)

  pub marks-third : row ≡ length set.classes + 2 → marks set row name ≡ (is_outside set.classes name && is_array_name set.names name)
  marks-third is =
      marks-behind (is_array_name set.names name) (class_named set.classes name) refl (omega arith)
      (outside-third (length set.classes) (is_object set.names name) (is_array_name set.names name) row is)

  -- in the row of a class only its name marks
  marks-named : (own : ℕ) (place : Option ℕ) → class_named set.classes name ≡ place → class_named set.classes own ≡ Some row → marks set row name ≡ (name == own)
  marks-named own None is named =
      let below = named-below set.classes own row named in
      let apart : name ≡ own → ⊥ = λ e. absurd (let there = ap (class_named set.classes) e in cc) in
      ap as_placed is ∙ outside-below (length set.classes) (is_object set.names name) (is_array_name set.names name) row below
      ∙ sym (ne_eqb name own apart)
  marks-named own (Some id) is named =
      let tests : (row == id) ≡ (name == own) =
      same-test (row == id) (name == own)
      (λ t.
      let same : id ≡ row = sym (eqb-true row id t) in
      eq-eqb name own (same-name set.classes name own row (is ∙ ap (λ i. Some i) same) named))
      (λ t.
      let same : name ≡ own = eqb-true name own t in
      eq-eqb row id (same_Some row id (sym named ∙ sym (ap (class_named set.classes) same) ∙ is))) in
      ap as_placed is ∙ tests

  pub marks-class : (own : ℕ) → class_named set.classes own ≡ Some row → marks set row name ≡ (name == own)
  marks-class own named = marks-named own (class_named set.classes name) refl named
