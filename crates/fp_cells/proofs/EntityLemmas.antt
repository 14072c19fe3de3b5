-- The texts of the members of classes, by their numbers.
use Rattle.std.proofs.Common.{◌≡◌, ℕ, zero, suc, ◌+◌, ◌-◌, ◌<◌, ◌≤◌, List, [], ◌∷◌, ◌++◌, Some, Result, Ok, Err, length, map, take, slice_get, flat_map, unwrap_or, refl, sym, ap, ◌∙◌, arith, add-one, length-append, append-nil, append_assoc}
use Rattle.std.specs.Result.{OnOk}
use Rattle.std.proofs.lemmas.Option.{slice_get-map}
use Rattle.std.specs.Option.{option_map}
use Rattle.fp_model.specs.declared.class.Class.{Class}

pub slice_get-front : {A : Type 0} (xs ys : List A) (i : ℕ) → i < length xs → slice_get (xs ++ ys) i ≡ slice_get xs i
slice_get-front [] ys i h = elim h [ ]
slice_get-front (x ∷ xs) ys zero h = refl
slice_get-front (x ∷ xs) ys (suc i) h = slice_get-front xs ys i (omega arith)

pub slice_get-back : {A : Type 0} (xs ys : List A) (i k : ℕ) → i ≡ length xs + k → slice_get (xs ++ ys) i ≡ slice_get ys k
slice_get-back [] ys i k h = let same : i ≡ k = omega arith in ap (slice_get ys) same
slice_get-back (x ∷ xs) ys zero k h = absurd (omega arith)
slice_get-back (x ∷ xs) ys (suc i) k h = slice_get-back xs ys i k (omega arith)

pub length-map : {A B : Type 0} (f : A → B) (xs : List A) → length (map f xs) ≡ length xs
length-map f [] = refl
length-map f (x ∷ xs) = ap suc (length-map f xs)

-- a member's text stands at the member's number
module _ {F : Type 0} (members : Class → List F) (text : Class → F → List ℕ) where
  texts_at : (classes : List Class) (i id : ℕ) (c : Class) (f : F) → slice_get classes i ≡ Some c → length (flat_map members (take i classes)) ≤ id → id < length (flat_map members (take (suc i) classes)) → slice_get (flat_map members classes) id ≡ Some f →
      slice_get (flat_map (λ c. map (text c) (members c)) classes) id ≡ Some (text c f)
  texts_at [] i id c f at from to is = absurd (cc)
  texts_at (x ∷ xs) zero id c f at from to is =
      let same : x ≡ c = cc in
      let short : length (members x ++ []) ≡ length (members x) = ap length (append-nil (members x)) in
      let own : id < length (members x) = omega (arith, short) in
      let mapped : id < length (map (text x) (members x)) = omega (arith, length-map (text x) (members x)) in
      slice_get-front (map (text x) (members x)) (flat_map (λ c. map (text c) (members c)) xs) id mapped
      ∙ slice_get-map (text x) (members x) id
      ∙ ap (option_map (text x)) (sym (slice_get-front (members x) (flat_map members xs) id own) ∙ is)
      ∙ ap (λ y. Some (text y f)) same
  texts_at (x ∷ xs) (suc i) id c f at from to is =
      let before = length-append (members x) (flat_map members (take i xs)) in
      let behind = length-append (members x) (flat_map members (take (suc i) xs)) in
      let k = id - length (members x) in
      let split : id ≡ length (members x) + k = omega (arith, before) in
      let mapped : id ≡ length (map (text x) (members x)) + k = omega (arith, before, length-map (text x) (members x)) in
      slice_get-back (map (text x) (members x)) (flat_map (λ c. map (text c) (members c)) xs) id k mapped
      ∙ texts_at xs i k c f at (omega (arith, before)) (omega (arith, before, behind)) (sym (slice_get-back (members x) (flat_map members xs) id k split) ∙ is)

  pub member_text : (classes : List Class) (i id : ℕ) (c : Class) (f : F) → slice_get classes i ≡ Some c → length (flat_map members (take i classes)) ≤ id → id < length (flat_map members (take (i + 1) classes)) → slice_get (flat_map members classes) id ≡ Some f →
      unwrap_or (slice_get (flat_map (λ c. map (text c) (members c)) classes) id) [] ≡ text c f
  member_text classes i id c f at from to is =
      let later : id < length (flat_map members (take (suc i) classes)) = rw add-one at to in
      ap (λ o. unwrap_or o []) (texts_at classes i id c f at from later is)

pub class_text_at : (classes : List Class) (i : ℕ) (c : Class) (name : Class → List ℕ) → slice_get classes i ≡ Some c → unwrap_or (slice_get (map name classes) i) [] ≡ name c
class_text_at classes i c name at = ap (λ o. unwrap_or o []) (slice_get-map name classes i ∙ ap (option_map name) at)

-- ---- pieces that were appended one after the other

pub on_ok : {T E P Q : Type 0} (r : Result T E) → (P → Q) → OnOk r P → OnOk r Q
on_ok (Ok x) f p = f p
on_ok (Err e) f p = tt

pub field_pieces : (old class member descr one two now : List ℕ) → one ≡ old ++ (class ++ (46 ∷ member)) → two ≡ one ++ 58 ∷ [] → now ≡ two ++ descr → now ≡ old ++ (class ++ (46 ∷ (member ++ (58 ∷ descr))))
field_pieces old class member descr one two now first then last =
    last ∙ ap (λ v. v ++ descr) (then ∙ ap (λ v. v ++ 58 ∷ []) first)
    ∙ append_assoc (old ++ (class ++ (46 ∷ member))) (58 ∷ []) descr
    ∙ append_assoc old (class ++ (46 ∷ member)) (58 ∷ descr)
    ∙ ap (λ v. old ++ v) (append_assoc class (46 ∷ member) (58 ∷ descr))

pub method_pieces : (old class member descr one now : List ℕ) → one ≡ old ++ (class ++ (46 ∷ member)) → now ≡ one ++ descr → now ≡ old ++ (class ++ (46 ∷ (member ++ descr)))
method_pieces old class member descr one now first last =
    last ∙ ap (λ v. v ++ descr) first
    ∙ append_assoc old (class ++ (46 ∷ member)) descr
    ∙ ap (λ v. old ++ v) (append_assoc class (46 ∷ member) descr)
