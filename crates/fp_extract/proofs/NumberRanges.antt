-- Numbers up to a bound, one more at a time, and lists that are gone through by a number.
use Rattle.std.proofs.Common.{◌≡◌, ℕ, ◌+◌, Bool, List, [], ◌∷◌, ◌++◌, Some, drop, filter, sym, ap, ◌∙◌, arith, zero, suc}
use Rattle.std.specs.Prelude.{slice_get}
use Rattle.std.specs.List.{flat_map, range_with_len}
use Rattle.std.proofs.lemmas.Grind.{flat_map-append}
use Rattle.std.proofs.lemmas.List.{append_assoc, append-nil, drop_more}
use Rattle.std.proofs.lemmas.List.Concat.{flat_map-cons}
use Rattle.std.proofs.lemmas.List.Elements.{filter-append}
use Rattle.std.proofs.lemmas.Option.{get_or_from_slice_get, slice_get_within}

range-snoc : (a n : ℕ) → range_with_len a (suc n) ≡ range_with_len a n ++ (a + n) ∷ []
range-snoc a zero = ap (λ (k : ℕ). k ∷ []) (omega arith)
range-snoc a (suc n) = ap (λ l. a ∷ l) (range-snoc (a + 1) n ∙ ap (λ (k : ℕ). range_with_len (a + 1) n ++ k ∷ []) (omega arith))

range-more : (n : ℕ) → range_with_len 0 (n + 1) ≡ range_with_len 0 n ++ n ∷ []
range-more n =
    let up : n + 1 ≡ suc n = omega arith in
    let same : 0 + n ≡ n = omega arith in
    ap (range_with_len 0) up ∙ range-snoc 0 n ∙ ap (λ (k : ℕ). range_with_len 0 n ++ k ∷ []) same

pub one-number-more : {X : Type 0} (f : ℕ → List X) (n : ℕ) → flat_map f (range_with_len 0 (n + 1)) ≡ flat_map f (range_with_len 0 n) ++ f n
one-number-more f n =
    ap (flat_map f) (range-more n) ∙ flat_map-append f (range_with_len 0 n) (n ∷ []) ∙ ap (λ l. flat_map f (range_with_len 0 n) ++ l) (append-nil (f n))

pub one-tried-more : (p : ℕ → Bool) (n : ℕ) → filter p (range_with_len 0 (n + 1)) ≡ filter p (range_with_len 0 n) ++ filter p (n ∷ [])
one-tried-more p n = ap (filter p) (range-more n) ∙ filter-append p (range_with_len 0 n) (n ∷ [])

-- what one item gives goes from what is left to what is there
pub one-item-more : {X Y : Type 0} (f : X → List Y) (xs : List X) (i : ℕ) (x : X) (old new whole : List Y) → slice_get xs i ≡ Some x → old ++ flat_map f (drop i xs) ≡ whole → new ≡ old ++ f x →
    new ++ flat_map f (drop (i + 1) xs) ≡ whole
one-item-more f xs i x old new whole there before made =
    let rest = flat_map f (drop (i + 1) xs) in
    let left : drop i xs ≡ x ∷ drop (i + 1) xs = drop_more xs i x (slice_get_within xs i x there) ∙ ap (λ y. y ∷ drop (i + 1) xs) (get_or_from_slice_get xs i x x there) in
    ap (λ l. l ++ rest) made ∙ append_assoc old (f x) rest ∙ ap (λ l. old ++ l) (sym (flat_map-cons f x (drop (i + 1) xs)) ∙ ap (flat_map f) (sym left)) ∙ before
