-- Lists of places, one item after the other.
use Rattle.std.proofs.Common.{◌≡◌, ◌<◌, ◌+◌, ◌==◌, ℕ, Bool, true, false, cond, List, [], ◌∷◌, ◌++◌, Option, Some, None, get_or, length, map, take, slice_get, refl, sym, ap, ◌∙◌, arith, inl, inr, zero, suc, append_assoc, length-append}
use Rattle.std.specs.Prelude.{option_and_then, option_map, position, slice_index_or}
use Rattle.std.specs.List.{flat_map, range_with_len}
use Rattle.std.specs.Option.{option_to_list}
use Rattle.std.proofs.lemmas.Bool.{cases_lt}
use Rattle.std.proofs.lemmas.Grind.{flat_map-append}
use Rattle.std.proofs.lemmas.List.{append-nil, get_or_past, take_more}
use Rattle.std.proofs.lemmas.List.FromFn.{get_or-map-range_with_len, length-map-range_with_len}
use Rattle.std.proofs.lemmas.List.Quantifiers.{position-Some}
use Rattle.std.proofs.lemmas.Option.{slice_get_past}
use Rattle.fp_model.specs.declared.class.Class.{Class}
use Rattle.fp_model.specs.ClassSet.{SetView, first_method_of, methods_of}
use Rattle.fp_facts.specs.Initialisation.{is_initialiser}
use Rattle.fp_cells.specs.Cells.{Cell}
use Rattle.fp_rta.specs.CallGraph.{initialiser, initialisers, watched_at}
use Rattle.fp_rta.specs.Places.{inst_place, reach_place, reach_places}

-- what is added for each item of a list, where a list adds what its parts add
pub more-of : (f : List ℕ → List ℕ) → ((xs ys : List ℕ) → f (xs ++ ys) ≡ f xs ++ f ys) → (before now after xs : List ℕ) (i : ℕ) → i < length xs →
    now ≡ before ++ f (take i xs) → after ≡ now ++ f (get_or xs i 0 ∷ []) → after ≡ before ++ f (take (i + 1) xs)
more-of f parts before now after xs i lt h e =
    let one : List ℕ = get_or xs i 0 ∷ [] in
    e ∙ ap (λ l. l ++ f one) h ∙ append_assoc before (f (take i xs)) (f one) ∙ ap (λ l. before ++ l) (sym (ap f (take_more xs i 0 lt) ∙ parts (take i xs) one))

pub flat-more : (f : ℕ → List ℕ) (before now after xs : List ℕ) (i : ℕ) → i < length xs → now ≡ before ++ flat_map f (take i xs) → after ≡ now ++ f (get_or xs i 0) → after ≡ before ++ flat_map f (take (i + 1) xs)
flat-more f before now after xs i lt h e =
    more-of (flat_map f) (λ ys zs. flat_map-append f ys zs) before now after xs i lt h (e ∙ ap (λ l. now ++ l) (sym (append-nil (f (get_or xs i 0)))))

pub reached-parts : (set : SetView) (cells : List Cell) (xs ys : List ℕ) → reach_places cells (initialisers set (xs ++ ys)) ≡ reach_places cells (initialisers set xs) ++ reach_places cells (initialisers set ys)
reached-parts set cells xs ys =
    ap (reach_places cells) (flat_map-append (λ class. option_to_list (initialiser set class)) xs ys)
    ∙ flat_map-append (λ method. option_to_list (reach_place cells method)) (initialisers set xs) (initialisers set ys)

-- the table tells the initialiser of every class
pub table-told : (set : SetView) (table : List (Option ℕ)) (class : ℕ) → table ≡ map (initialiser set) (range_with_len 0 (length set.classes)) → slice_index_or table class None ≡ initialiser set class
table-told set table class are = elim (cases_lt class (length set.classes)) [
  | inl known ↦ ap (λ (l : List (Option ℕ)). slice_index_or l class None) are ∙ get_or-map-range_with_len (initialiser set) 0 (length set.classes) class class None known (omega arith)
  | inr past ↦
      get_or_past table class None (omega (arith, ap length are ∙ length-map-range_with_len (initialiser set) 0 (length set.classes), past))
      ∙ sym (ap (λ (o : Option Class). option_and_then (λ c. option_map (λ i. first_method_of set.classes class + i) (position (is_initialiser set.names) c.methods)) o) (slice_get_past set.classes class past))
]

pub one-place : (set : SetView) (cells : List Cell) (class : ℕ) (o : Option ℕ) → o ≡ initialiser set class → option_to_list (option_and_then (reach_place cells) o) ≡ reach_places cells (initialisers set (class ∷ []))
one-place set cells class None is = ap (λ o. reach_places cells (option_to_list o ++ [])) is
one-place set cells class (Some m) is = sym (append-nil (option_to_list (reach_place cells m))) ∙ ap (λ o. reach_places cells (option_to_list o ++ [])) is

-- the number of a method that a class declares
pub member-below : (classes : List Class) (class : ℕ) (c : Class) (i : ℕ) → slice_get classes class ≡ Some c → i < length c.methods → first_method_of classes class + i < length (methods_of classes)
member-below [] class c i h lt = cc
member-below (d ∷ ds) zero c i h lt =
    let e : d ≡ c = cc in
    let same : length d.methods ≡ length c.methods = ap (λ (x : Class). length x.methods) e in
    omega (arith, length-append d.methods (methods_of ds), same)
member-below (d ∷ ds) (suc k) c i h lt =
    let rest = member-below ds k c i h lt in
    omega (arith, rest, length-append d.methods (methods_of ds), length-append d.methods (methods_of (take k ds)))

pub position-within : {X : Type 0} (p : X → Bool) (xs : List X) (i : ℕ) → position p xs ≡ Some i → i < length xs
position-within p [] i h = cc
position-within p (x ∷ xs) i h = (position-Some p (x ∷ xs) i x h).0

-- a class without a place sets nothing
pub none-watched : (cells : List Cell) (b class : ℕ) (bits : List ℕ) → inst_place cells class ≡ None → watched_at cells b (class, bits) ≡ []
none-watched cells b class [] h = refl
none-watched cells b class (x ∷ bits) h = rw (nothing (x == b) (inst_place cells class) h) (none-watched cells b class bits h)
  where
    nothing : (same : Bool) (o : Option ℕ) → o ≡ None → cond same (option_to_list o) [] ≡ []
    nothing true o e = ap option_to_list e
    nothing false o e = refl
