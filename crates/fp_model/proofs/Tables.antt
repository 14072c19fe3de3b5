-- Lists that a function gives number by number.
use Rattle.std.proofs.Common.{◌≡◌, ℕ, ◌+◌, ◌<◌, ◌≤◌, Bool, true, false, cond, not, eqb, ltb, List, [], ◌∷◌, ◌++◌, map, length, get_or, take, position, Some, None, slice_get, ⊎_elim, refl, sym, ap, ◌∙◌, arith, eq-eqb, ne_eqb, lt-ltb, le-ltb}
use Rattle.std.specs.List.{range_with_len, position_or_len}
use Rattle.std.specs.Option.{option_or}
use Rattle.std.proofs.lemmas.List.{take_more, length_push, length-take-le}
use Rattle.std.proofs.lemmas.List.FromFn.{map-range_with_len_more, get_or-map-range_with_len, length-map-range_with_len}
use Rattle.std.proofs.lemmas.List.Folds.{position_or_len_push}
use Rattle.std.proofs.lemmas.List.Sums.{prefix_len-le-length}
use Rattle.std.proofs.lemmas.Bool.{cases_eq}
use Rattle.std.proofs.lemmas.Option.{slice_get-get_or}

pub table_more : {X : Type 0} (f : ℕ → X) (n : ℕ) → map f (range_with_len 0 n) ++ f n ∷ [] ≡ map f (range_with_len 0 (n + 1))
table_more f n = sym (map-range_with_len_more f 0 n n (omega arith))

pub table_at : {X : Type 0} (f : ℕ → X) (n k : ℕ) → k < n → slice_get (map f (range_with_len 0 n)) k ≡ Some (f k)
table_at f n k within =
    let long : k < length (map f (range_with_len 0 n)) = rw length-map-range_with_len within in
    slice_get-get_or (map f (range_with_len 0 n)) k (f k) long ∙ ap (λ x. Some x) (get_or-map-range_with_len f 0 n k k (f k) within (omega arith))

-- the first place of a list with one element more
place_more : (a n : ℕ) (b : Bool) → a ≤ n → (first : ℕ) → first ≡ cond (eqb a n) (n + cond b 0 1) a → cond (ltb first (n + 1)) (Some first) None ≡ option_or (cond (ltb a n) (Some a) None) (cond b (Some n) None)
place_more a n true within first is = ⊎_elim
    (λ all. let at : first ≡ n = is ∙ rw (eq-eqb a n all) (omega arith) in rw (lt-ltb first (n + 1) (omega arith), le-ltb a n (omega arith), at) refl)
    (λ some. let at : first ≡ a = is ∙ rw (ne_eqb a n some) refl in rw (lt-ltb first (n + 1) (omega arith), lt-ltb a n (omega arith), at) refl)
    (cases_eq a n)
place_more a n false within first is = ⊎_elim
    (λ all. let at : first ≡ n + 1 = is ∙ rw (eq-eqb a n all) (omega arith) in rw (le-ltb first (n + 1) (omega arith), le-ltb a n (omega arith)) refl)
    (λ some. let at : first ≡ a = is ∙ rw (ne_eqb a n some) refl in rw (lt-ltb first (n + 1) (omega arith), lt-ltb a n (omega arith), at) refl)
    (cases_eq a n)

position_push : {X : Type 0} (p : X → Bool) (ys : List X) (x : X) → position p (ys ++ x ∷ []) ≡ option_or (position p ys) (cond (p x) (Some (length ys)) None)
position_push p ys x =
    let first = position_or_len p (ys ++ x ∷ []) in
    ap (λ m. cond (ltb first m) (Some first) None) (length_push ys x)
    ∙ place_more (position_or_len p ys) (length ys) (p x) (prefix_len-le-length (λ y. not (p y)) ys) first (position_or_len_push p ys x)

pub position_more : {X : Type 0} (p : X → Bool) (xs : List X) (i : ℕ) (x : X) → i < length xs → x ≡ get_or xs i x → position p (take (i + 1) xs) ≡ option_or (position p (take i xs)) (cond (p x) (Some i) None)
position_more p xs i x within is =
    ap (position p) (take_more xs i x within ∙ ap (λ y. take i xs ++ y ∷ []) (sym is))
    ∙ position_push p (take i xs) x
    ∙ ap (λ n. option_or (position p (take i xs)) (cond (p x) (Some n) None)) (length-take-le i xs (omega arith))
