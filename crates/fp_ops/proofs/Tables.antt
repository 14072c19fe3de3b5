-- Taking the texts of a list into a table of names.
use Rattle.std.proofs.Common.{◌≡◌, ℕ, cond, ◌+◌, ◌<◌, false, List, [], ◌∷◌, ◌++◌, Result, Ok, Err, length, get_or, take, drop, sym, ap, ◌∙◌, subst, arith}
use Rattle.std.specs.Result.{is_ok, is_err}
use Rattle.std.specs.List.{flat_map}
use Rattle.std.proofs.lemmas.Grind.{flat_map-append}
use Rattle.std.proofs.lemmas.List.{append-nil, take-append-drop, drop_more, take_more, take_all}
use Rattle.fp_base.specs.Names.{with_names}
use Rattle.fp_base.specs.declared.names.NameFault.{NameFault}
use Rattle.fp_base.proofs.NameLemmas.{with_names-extends, with_names-append}
use Rattle.fp_model.specs.Interning.{Interned}
use Rattle.fp_model.proofs.Interned.{interned_stop, interned_then}

-- what a push that didn't fail leaves
pub pushed : {A E : Type 0} {B : Type 0} (r : Result A E) (new with without : B) → is_err r ≡ false → new ≡ cond (is_ok r) with without → new ≡ with
pushed (Ok x) new with without h is = is
pushed (Err e) new with without h is = absurd (cc)

-- ---- the texts of each of a list

module _ {A : Type 0} (texts : A → List (List ℕ)) (xs : List A) (i : ℕ) (x : A) (within : i < length xs) (is : x ≡ get_or xs i x) where
  rest_of : drop i xs ≡ x ∷ drop (i + 1) xs
  rest_of = drop_more xs i x within ∙ ap (λ y. y ∷ drop (i + 1) xs) (sym is)

  pub front_of : take (i + 1) xs ≡ take i xs ++ x ∷ []
  front_of = take_more xs i x within ∙ ap (λ y. take i xs ++ y ∷ []) (sym is)

  texts_split : flat_map texts xs ≡ flat_map texts (take i xs) ++ (texts x ++ flat_map texts (drop (i + 1) xs))
  texts_split =
      ap (flat_map texts) (sym (take-append-drop i xs))
      ∙ flat_map-append texts (take i xs) (drop i xs)
      ∙ ap (λ l. flat_map texts (take i xs) ++ flat_map texts l) rest_of

  -- those of one more
  pub names_more : (old mid new : List (List ℕ)) → mid ≡ with_names old (flat_map texts (take i xs)) → new ≡ with_names mid (texts x) → new ≡ with_names old (flat_map texts (take (i + 1) xs))
  names_more old mid new before one =
      one ∙ ap (λ t. with_names t (texts x)) before
      ∙ sym (with_names-append old (flat_map texts (take i xs)) (texts x))
      ∙ ap (with_names old) (ap (λ l. flat_map texts (take i xs) ++ l) (sym (append-nil (texts x))) ∙ sym (flat_map-append texts (take i xs) (x ∷ [])) ∙ ap (flat_map texts) (sym front_of))

  -- one that failed
  pub one_stops : {X Y : Type 0} (f : NameFault) (old mid new : List (List ℕ)) → mid ≡ with_names old (flat_map texts (take i xs)) → Interned {X = X} (Err f) mid new (texts x) → Interned {X = Y} (Err f) old new (flat_map texts xs)
  one_stops {X} {Y} f old mid new before stopped =
      subst (Interned {X = Y} (Err f) old new) (sym texts_split)
      (interned_then (Err f) old mid new (flat_map texts (take i xs)) (texts x ++ flat_map texts (drop (i + 1) xs)) before
      (interned_stop {X = X} {Y = Y} f mid new (texts x) (flat_map texts (drop (i + 1) xs)) stopped))

-- all of them
pub all_interned : {A X : Type 0} (texts : A → List (List ℕ)) (xs : List A) (i : ℕ) (x : X) (old new : List (List ℕ)) → i ≡ length xs → new ≡ with_names old (flat_map texts (take i xs)) → Interned (Ok x) old new (flat_map texts xs)
all_interned texts xs i x old new whole is =
    let all : new ≡ with_names old (flat_map texts xs) = is ∙ ap (λ l. with_names old (flat_map texts l)) (take_all i xs (omega arith)) in
    let longer = with_names-extends old (flat_map texts xs) in
    record { names = all; grown = (longer.0, all ∙ longer.1); full = λ e. absurd (cc) }
