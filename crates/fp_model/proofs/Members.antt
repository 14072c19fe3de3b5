-- The members of the classes before a place.
use Rattle.std.proofs.Common.{◌≡◌, ℕ, ◌+◌, ◌<◌, ◌≤◌, List, [], ◌∷◌, ◌++◌, length, get_or, take, flat_map, refl, sym, ap, subst, ◌∙◌, length-append, append-nil}
use Rattle.std.proofs.lemmas.List.{take_more}
use Rattle.std.proofs.lemmas.List.Concat.{flat_map-append}
use Rattle.std.proofs.lemmas.List.Folds.{length-flat_map-take}

-- one class more
pub members_more : {X Y : Type 0} (f : X → List Y) (xs : List X) (i : ℕ) (x : X) → i < length xs → x ≡ get_or xs i x → length (flat_map f (take i xs)) + length (f x) ≡ length (flat_map f (take (i + 1) xs))
members_more {X} {Y} f xs i x within is =
    let front = take_more xs i x within ∙ ap (λ y. take i xs ++ y ∷ []) (sym is) in
    rw (front, flat_map-append, append-nil, length-append) refl

-- they are some of all members
pub members_fit : {X Y : Type 0} (f : X → List Y) (xs : List X) (i : ℕ) (x : X) → i < length xs → x ≡ get_or xs i x → length (flat_map f (take i xs)) + length (f x) ≤ length (flat_map f xs)
members_fit {X} {Y} f xs i x within is =
    let P : X → Type 0 = λ y. length (flat_map f (take i xs)) + length (f y) ≤ length (flat_map f xs) in
    subst P (sym is) (length-flat_map-take f xs i x within)
