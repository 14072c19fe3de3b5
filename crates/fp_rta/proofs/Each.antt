-- What holds of each item of a list.
use Rattle.std.proofs.Common.{◌≡◌, ◌<◌, ℕ, List, [], ◌∷◌, ◌++◌, Some, All, length, map, slice_get, subst, arith, zero, suc}
use Rattle.std.specs.Prelude.{unwrap_or}
use Rattle.std.specs.List.{flat_map}

abbrev pub Each : {X : Type 0} → (X → Type 0) → List X → Type 0
Each P [] = Unit {0}
Each P (x ∷ xs) = P x × Each P xs

pub each-append : {X : Type 0} (P : X → Type 0) (xs ys : List X) → Each P xs → Each P ys → Each P (xs ++ ys)
each-append P [] ys h k = k
each-append P (x ∷ xs) ys h k = (h.0, each-append P xs ys h.1 k)

pub each-map : {X Y : Type 0} (P : X → Type 0) (Q : Y → Type 0) (f : X → Y) (xs : List X) → ((x : X) → P x → Q (f x)) → Each P xs → Each Q (map f xs)
each-map P Q f [] h e = tt
each-map P Q f (x ∷ xs) h e = (h x e.0, each-map P Q f xs h e.1)

pub each-flat : {X Y : Type 0} (P : X → Type 0) (Q : Y → Type 0) (f : X → List Y) (xs : List X) → ((x : X) → P x → Each Q (f x)) → Each P xs → Each Q (flat_map f xs)
each-flat P Q f [] h e = tt
each-flat P Q f (x ∷ xs) h e = each-append Q (f x) (flat_map f xs) (h x e.0) (each-flat P Q f xs h e.1)

pub each-all : {X : Type 0} (P : X → Type 0) (xs : List X) → All P xs → Each P xs
each-all P [] h = tt
each-all P (x ∷ xs) h = (h 0 x (omega arith), each-all P xs (λ k d lt. h (suc k) d (omega arith)))

pub each-both : {X : Type 0} (P Q : X → Type 0) (xs : List X) → Each P xs → Each Q xs → Each (λ x. P x × Q x) xs
each-both P Q [] h k = tt
each-both P Q (x ∷ xs) h k = ((h.0, k.0), each-both P Q xs h.1 k.1)

pub each-at : {X : Type 0} (P : X → Type 0) (xs : List X) → Each P xs → (t : ℕ) (x : X) → slice_get xs t ≡ Some x → P x
each-at P [] h t x e = cc
each-at P (y ∷ xs) h zero x e = (let same : y ≡ x = cc in subst P same h.0)
each-at P (y ∷ xs) h (suc t) x e = each-at P xs h.1 t x e

pub each-or : {X : Type 0} (P : X → Type 0) (none : X) (xs : List X) → Each P xs → (t : ℕ) → t < length xs → P (unwrap_or (slice_get xs t) none)
each-or P none [] h t lt = absurd (omega arith)
each-or P none (x ∷ xs) h zero lt = h.0
each-or P none (x ∷ xs) h (suc t) lt = each-or P none xs h.1 t (omega arith)
