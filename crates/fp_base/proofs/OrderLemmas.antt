-- Ascending texts that are others in another order are these in their order.
use Rattle.std.proofs.Common.{◌≡◌, ℕ, zero, suc, ◌+◌, ◌<◌, ◌≤◌, true, false, cond, List, [], ◌∷◌, length, map, All, get_or, ⊎_elim, refl, sym, ap, subst, ◌∙◌, is_lt, is_gt, nat_cmp, Ordering, Less, Equal, Greater, arith}
use Rattle.std.specs.Prelude.{⊤}
use Rattle.std.specs.Cmp.Lexicographic.{slice_cmp}
use Rattle.std.specs.Ordering.{ordering_reverse, is_eq}
use Rattle.std.specs.Str.{bytes_eq}
use Rattle.std.specs.List.Sorted.{IsPermutation, IsSorted}
use Rattle.std.proofs.lemmas.Cmp.{nat_list_cmp_total, upto, tied_itself}
use Rattle.std.proofs.lemmas.Bool.{cases_Bool, cond-true, cond-false, cond_both, false≢true, true≢false}
use Rattle.std.proofs.lemmas.List.Elements.{All-nil, All-cons, All-head, All-tail, All-weaker}
use Rattle.std.proofs.lemmas.List.Recursion.{is_sum_by}
use Rattle.std.proofs.lemmas.List.Sorted.{sum_by-IsPermutation, sorted_far, ranks_by, IsPermutation-map}
use Rattle.std.proofs.lemmas.Map.Text.{is_eq-slice_cmp}
use Rattle.std.proofs.lemmas.Slice.Eq.{bytes_eq-Decides}
use Rattle.fp_base.specs.Order.{is_before, put_in_order, in_text_order}

before_reversed : (r s : Ordering) → r ≡ ordering_reverse s → is_lt r ≡ is_gt s
before_reversed r Less e = ap is_lt e
before_reversed r Equal e = ap is_lt e
before_reversed r Greater e = ap is_lt e

-- a text comes before another where that is the greater one
pub before_is : (a b : List ℕ) → is_before a b ≡ is_gt (slice_cmp nat_cmp b a)
before_is a b = before_reversed (slice_cmp nat_cmp a b) (slice_cmp nat_cmp b a) (nat_list_cmp_total.antisymm a b)

pub not_before_itself : (a : List ℕ) → is_before a a ≡ false
not_before_itself a = ap is_lt (tied_itself nat_list_cmp_total a)

-- what doesn't come before a text doesn't come before an earlier one
pub not_before : (a b c : List ℕ) → is_before b a ≡ false → is_before c b ≡ false → is_before c a ≡ false
not_before a b c first second =
    before_is c a ∙ upto nat_list_cmp_total a b c (sym (before_is b a) ∙ first) (sym (before_is c b) ∙ second)

not_after : (r : Ordering) → is_lt r ≡ true → is_gt r ≡ false
not_after Less e = refl
not_after Equal e = refl
not_after Greater e = absurd (false≢true e)

pub before_one_way : (a b : List ℕ) → is_before a b ≡ true → is_before b a ≡ false
before_one_way a b e = before_is b a ∙ not_after (slice_cmp nat_cmp a b) e

neither : (r : Ordering) → is_lt r ≡ false → is_gt r ≡ false → is_eq r ≡ true
neither Less a b = absurd (true≢false a)
neither Equal a b = refl
neither Greater a b = absurd (true≢false b)

-- two texts of which neither comes before the other are one
same_text : (a b : List ℕ) → is_before a b ≡ false → is_before b a ≡ false → a ≡ b
same_text a b h k =
    (bytes_eq-Decides a b).0 (sym (is_eq-slice_cmp a b) ∙ neither (slice_cmp nat_cmp a b) h (sym (before_is b a) ∙ k))

-- how often a text is among others
abbrev times : List ℕ → List (List ℕ) → ℕ
times k [] = 0
times k (x ∷ xs) = cond (bytes_eq x k) 1 0 + times k xs

times-permutation : (k : List ℕ) (xs ys : List (List ℕ)) → IsPermutation xs ys → times k ys ≡ times k xs
times-permutation k xs ys p =
    is_sum_by (times k) (λ x. cond (bytes_eq x k) 1 0) refl (λ x rest. refl) ys
    ∙ sum_by-IsPermutation (λ x. cond (bytes_eq x k) 1 0) xs ys p
    ∙ sym (is_sum_by (times k) (λ x. cond (bytes_eq x k) 1 0) refl (λ x rest. refl) xs)

swapped : (a b c : ℕ) → a + (b + c) ≡ b + (a + c)
swapped a b c = omega arith

times-put : (k text : List ℕ) (others : List (List ℕ)) → times k (put_in_order text others) ≡ cond (bytes_eq text k) 1 0 + times k others
times-put k text [] = refl
times-put k text (other ∷ others) =
    cond_both (is_before other text) (other ∷ put_in_order text others) (text ∷ (other ∷ others)) (λ l. times k l ≡ cond (bytes_eq text k) 1 0 + times k (other ∷ others))
    (λ _. ap (λ n. cond (bytes_eq other k) 1 0 + n) (times-put k text others) ∙ swapped (cond (bytes_eq other k) 1 0) (cond (bytes_eq text k) 1 0) (times k others))
    (λ _. refl)

times-order : (k : List ℕ) (texts : List (List ℕ)) → times k (in_text_order texts) ≡ times k texts
unfolding in_text_order
times-order k [] = refl
times-order k (text ∷ texts) = times-put k text (in_text_order texts) ∙ ap (λ n. cond (bytes_eq text k) 1 0 + n) (times-order k texts)

-- what holds of each text holds of one that is among them
All-times : (P : List ℕ → Type 0) (k : List ℕ) (xs : List (List ℕ)) → All P xs → 0 < times k xs → P k
All-times P k [] all some = absurd (omega (arith, some))
All-times P k (x ∷ xs) all some =
    ⊎_elim
    (λ yes_. subst P ((bytes_eq-Decides x k).0 yes_) (All-head P x xs all))
    (λ no_. All-times P k xs (All-tail P x xs all) (left (cond (bytes_eq x k) 1 0) (times k xs) (cond-false {A = ℕ} (bytes_eq x k) 1 0 no_) some))
    (cases_Bool (bytes_eq x k))
  where
    left : (a b : ℕ) → a ≡ 0 → 0 < a + b → 0 < b
    left a b none some_ = omega (arith, none, some_)

-- no text comes before an earlier one
abbrev Ascends : List (List ℕ) → Type 0
Ascends [] = ⊤
Ascends (x ∷ xs) = All (λ y. is_before y x ≡ false) xs × Ascends xs

All-put : (P : List ℕ → Type 0) (text : List ℕ) (others : List (List ℕ)) → P text → All P others → All P (put_in_order text others)
All-put P text [] one all = All-cons P text [] one all
All-put P text (other ∷ others) one all =
    cond_both (is_before other text) (other ∷ put_in_order text others) (text ∷ (other ∷ others)) (All P)
    (λ _. All-cons P other (put_in_order text others) (All-head P other others all) (All-put P text others one (All-tail P other others all)))
    (λ _. All-cons P text (other ∷ others) one all)

put-ascends : (text : List ℕ) (others : List (List ℕ)) → Ascends others → Ascends (put_in_order text others)
put-ascends text [] up = (All-nil (λ y. is_before y text ≡ false), tt)
put-ascends text (other ∷ others) up =
    cond_both (is_before other text) (other ∷ put_in_order text others) (text ∷ (other ∷ others)) Ascends
    (λ earlier. (All-put (λ y. is_before y other ≡ false) text others (before_one_way other text earlier) up.0, put-ascends text others up.1))
    (λ later. (
      All-cons (λ y. is_before y text ≡ false) other others later
          (All-weaker (λ y. is_before y other ≡ false) (λ y. is_before y text ≡ false) (λ y h. not_before text other y later h) others up.0),
      up,
    ))

order-ascends : (texts : List (List ℕ)) → Ascends (in_text_order texts)
unfolding in_text_order
order-ascends [] = tt
order-ascends (text ∷ texts) = put-ascends text (in_text_order texts) (order-ascends texts)

itself : (x : List ℕ) (xs : List (List ℕ)) → 0 < times x (x ∷ xs)
itself x xs = rw (cond-true {A = ℕ} (bytes_eq x x) 1 0 ((bytes_eq-Decides x x).1 refl)) (omega arith)

-- two ascending lists in which each text stands equally often are one
one_order : (xs ys : List (List ℕ)) → Ascends xs → Ascends ys → ((k : List ℕ) → times k xs ≡ times k ys) → xs ≡ ys
one_order [] [] up vp same = refl
one_order [] (y ∷ ys) up vp same = absurd (omega (arith, itself y ys, same y))
one_order (x ∷ xs) [] up vp same = absurd (omega (arith, itself x xs, same x))
one_order (x ∷ xs) (y ∷ ys) up vp same =
    let all_x : All (λ z. is_before z x ≡ false) (x ∷ xs) = All-cons (λ z. is_before z x ≡ false) x xs (not_before_itself x) up.0 in
    let all_y : All (λ z. is_before z y ≡ false) (y ∷ ys) = All-cons (λ z. is_before z y ≡ false) y ys (not_before_itself y) vp.0 in
    let head : x ≡ y = same_text x y
    (All-times (λ z. is_before z y ≡ false) x (y ∷ ys) all_y (subst (λ n. 0 < n) (same x) (itself x xs)))
    (All-times (λ z. is_before z x ≡ false) y (x ∷ xs) all_x (subst (λ n. 0 < n) (sym (same y)) (itself y ys))) in
    let tails : xs ≡ ys = one_order xs ys up.1 vp.1 (λ k. cancelled (cond (bytes_eq x k) 1 0) (times k xs) (times k ys) (same k ∙ ap (λ z. cond (bytes_eq z k) 1 0 + times k ys) (sym head))) in
    ap (λ z. z ∷ xs) head ∙ ap (λ l. y ∷ l) tails
  where
    cancelled : (a b c : ℕ) → a + b ≡ a + c → b ≡ c
    cancelled a b c e = omega (arith, e)

all_mapped : {X : Type 0} (f : X → List ℕ) (P : List ℕ → Type 0) (xs : List X) → All (λ x. P (f x)) xs → All P (map f xs)
all_mapped f P [] all = All-nil P
all_mapped f P (x ∷ xs) all = All-cons P (f x) (map f xs) (All-head (λ y. P (f y)) x xs all) (all_mapped f P xs (All-tail (λ y. P (f y)) x xs all))

-- what a sort ensures, from each place on
ascends-sorted : {X : Type 0} (f : X → List ℕ) (xs : List X) → ((i j : ℕ) (d : X) → i ≤ j → j < length xs → is_before (f (get_or xs j d)) (f (get_or xs i d)) ≡ false) → Ascends (map f xs)
ascends-sorted f [] up = tt
ascends-sorted f (x ∷ xs) up = (
  all_mapped f (λ y. is_before y (f x) ≡ false) xs (λ j d inside. up zero (suc j) d (omega arith) (omega (arith, inside))),
  ascends-sorted f xs (λ i j d below inside. up (suc i) (suc j) d (omega (arith, below)) (omega (arith, inside))),
)

-- what is sorted by its texts has them in their order
pub sorted_is_order : {X : Type 0} (f : X → List ℕ) (xs ys : List X) → IsPermutation xs ys → IsSorted (λ a b. slice_cmp nat_cmp (f a) (f b)) ys → map f ys ≡ in_text_order (map f xs)
sorted_is_order f xs ys p up =
    one_order (map f ys) (in_text_order (map f xs))
    (ascends-sorted f ys (λ i j d below inside. sorted_far (λ a b. is_lt (slice_cmp nat_cmp (f a) (f b))) (ranks_by nat_list_cmp_total f) ys up i j d below inside))
    (order-ascends (map f xs))
    (λ k. times-permutation k (map f xs) (map f ys) (IsPermutation-map f xs ys p) ∙ sym (times-order k (map f xs)))
