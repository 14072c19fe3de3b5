-- Rows, one after the other.
use Rattle.std.proofs.Common.{◌≡◌, ◌<◌, ◌+◌, ℕ, List, [], ◌∷◌, ◌++◌, Some, get_or, length, map, take, slice_get, sym, ap, subst, ◌∙◌, zero, suc}
use Rattle.std.proofs.lemmas.List.{append_assoc, map-append, take_more}

-- the rows of one item more
pub rows-more : {X Y : Type 0} (f : X → Y) (first now after : List Y) (xs : List X) (i : ℕ) (x : X) (y : Y) → i < length xs → x ≡ get_or xs i x → y ≡ f x →
    now ≡ first ++ map f (take i xs) → after ≡ now ++ y ∷ [] → after ≡ first ++ map f (take (i + 1) xs)
rows-more f first now after xs i x y lt item same h e =
    let one : map f (x ∷ []) ≡ y ∷ [] = ap (λ z. z ∷ []) (sym same) in
    e ∙ ap (λ l. l ++ y ∷ []) h ∙ append_assoc first (map f (take i xs)) (y ∷ [])
    ∙ ap (λ l. first ++ l) (ap (λ l. map f (take i xs) ++ l) (sym one) ∙ sym (map-append f (take i xs) (x ∷ [])) ∙ ap (λ z. map f (take i xs ++ z ∷ [])) item ∙ ap (map f) (sym (take_more xs i x lt)))

pub mapped-more : {X Y Z : Type 0} (f : X → Z) (g : Y → Z) (now after : List Y) (xs : List X) (i : ℕ) (x : X) (y : Y) → i < length xs → x ≡ get_or xs i x → g y ≡ f x →
    map g now ≡ map f (take i xs) → after ≡ now ++ y ∷ [] → map g after ≡ map f (take (i + 1) xs)
mapped-more f g now after xs i x y lt item same h e =
    rows-more f [] (map g now) (map g after) xs i x (g y) lt item same h (ap (map g) e ∙ map-append g now (y ∷ []))

-- what holds of each row holds with one more
pub each-push : {X : Type 0} (P : X → Type 0) (xs after : List X) (y : X) → ((t : ℕ) (x : X) → slice_get xs t ≡ Some x → P x) → P y → after ≡ xs ++ y ∷ [] → (t : ℕ) (x : X) → slice_get after t ≡ Some x → P x
each-push {X = X} P xs after y h k e t x at = pushed xs h t x (sym (ap (λ l. slice_get l t) e) ∙ at)
  where
    pushed : (zs : List X) → ((n : ℕ) (z : X) → slice_get zs n ≡ Some z → P z) → (n : ℕ) (z : X) → slice_get (zs ++ y ∷ []) n ≡ Some z → P z
    pushed [] g zero z s = (let same : y ≡ z = cc in subst P same k)
    pushed [] g (suc n) z s = cc
    pushed (w ∷ zs) g zero z s = g zero z s
    pushed (w ∷ zs) g (suc n) z s = pushed zs (λ m v r. g (suc m) v r) n z s
