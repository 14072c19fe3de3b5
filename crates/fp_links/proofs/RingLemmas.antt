-- Rings: what putting a number at the head and taking one out leaves.
use Rattle.std.proofs.Common.{◌≡◌, ◌<◌, ◌≤◌, ◌==◌, ◌||◌, ◌&&◌, ℕ, zero, suc, Bool, true, false, not, List, [], ◌∷◌, length, map, IsTrue, if◌then◌else◌, refl, sym, ap, subst, ◌∙◌, inl, inr, arith}
use Rattle.std.specs.List.{AllByRecursion, IsDistinct, list_any}
use Rattle.std.proofs.lemmas.Bool.{cases_eq, eq-eqb, ne_eqb, eqb-true}
use Rattle.std.proofs.lemmas.Map.Steps.{length-le_from_distinct_below}
use Rattle.fp_links.specs.Rings.{put, IsLinked, IsStack, walk, has, distinct, without}

-- ---- tests

pub no-or : (b c : Bool) → (b || c) ≡ false → (b ≡ false) × (c ≡ false)
no-or true c h = cc
no-or false c h = (refl, h)

pub or-true : (b : Bool) → (b || true) ≡ true
or-true true = refl
or-true false = refl

pub and-parts : (b c : Bool) → (b && c) ≡ true → (b ≡ true) × (c ≡ true)
and-parts true c h = (refl, h)
and-parts false c h = cc

pub not-true : (b : Bool) → not b ≡ true → b ≡ false
not-true true h = cc
not-true false h = refl

pub false-if : (b : Bool) → (b ≡ true → ⊥) → b ≡ false
false-if true h = absurd (h refl)
false-if false h = refl

pub same-number : (x : ℕ) → (x == x) ≡ true
same-number x = eq-eqb x x refl

pub same-from : (x y : ℕ) → (x == y) ≡ true → x ≡ y
same-from x y h = eqb-true x y h

pub flip : (x y : ℕ) → (x == y) ≡ (y == x)
flip x y = elim (cases_eq x y) [
  | inl same ↦ eq-eqb x y same ∙ sym (eq-eqb y x (sym same))
  | inr other ↦ ne_eqb x y other ∙ sym (ne_eqb y x (λ e. other (sym e)))
]

-- ---- a function that was changed at one number

pub put-here : {A : Type 0} (f : ℕ → A) (x : ℕ) (v : A) (y : ℕ) → y ≡ x → put f x v y ≡ v
put-here f x v y e = let h = eq-eqb y x e in rw h refl

pub put-other : {A : Type 0} (f : ℕ → A) (x : ℕ) (v : A) (y : ℕ) → (y ≡ x → ⊥) → put f x v y ≡ f y
put-other f x v y ne = let h = ne_eqb y x ne in rw h refl

-- ---- members

pub has-here : (x : ℕ) (xs : List ℕ) → has (x ∷ xs) x ≡ true
has-here x xs = ap (λ b. b || has xs x) (same-number x)

pub has-later : (x y : ℕ) (xs : List ℕ) → has xs y ≡ true → has (x ∷ xs) y ≡ true
has-later x y xs h = ap (λ b. (x == y) || b) h ∙ or-true (x == y)

-- a number that isn't in the list is another than each that is
pub apart : (xs : List ℕ) (x y : ℕ) → has xs x ≡ false → has xs y ≡ true → y ≡ x → ⊥
apart xs x y fails holds e = let same : has xs x ≡ true = subst (λ z. has xs z ≡ true) e holds in let none = fails in cc

pub head-apart : (x y : ℕ) (xs : List ℕ) → has (x ∷ xs) y ≡ false → x ≡ y → ⊥
head-apart x y xs h e = let fails : (x == y) ≡ false = (no-or (x == y) (has xs y) h).0 in let holds = eq-eqb x y e in cc

pub tail-without : (x y : ℕ) (xs : List ℕ) → has (x ∷ xs) y ≡ false → has xs y ≡ false
tail-without x y xs h = (no-or (x == y) (has xs y) h).1

pub distinct-head : (x : ℕ) (xs : List ℕ) → IsTrue (distinct (x ∷ xs)) → has xs x ≡ false
distinct-head x xs d = not-true (has xs x) (and-parts (not (has xs x)) (distinct xs) d).0

pub distinct-tail : (x : ℕ) (xs : List ℕ) → IsTrue (distinct (x ∷ xs)) → IsTrue (distinct xs)
distinct-tail x xs d = (and-parts (not (has xs x)) (distinct xs) d).1

pub distinct-cons : (x : ℕ) (xs : List ℕ) → has xs x ≡ false → IsTrue (distinct xs) → IsTrue (distinct (x ∷ xs))
distinct-cons x xs h d = let P : Bool → Bool = λ b. not b && distinct xs in ap P h ∙ d

-- ---- taking a number out of a list

pub has-without : (e y : ℕ) (xs : List ℕ) → has (without e xs) y ≡ (has xs y && not (y == e))
has-without e y [] = refl
has-without e y (x ∷ xs) =
    let rest = has-without e y xs in
    elim (cases_eq x e) [
      | inl here ↦
          (let gone : not (x == e) ≡ false = ap not (eq-eqb x e here) in
          elim (cases_eq x y) [
            | inl same ↦ (let self : (y == e) ≡ true = eq-eqb y e (sym same ∙ here) in let holds : (x == y) ≡ true = eq-eqb x y same in rw (gone, rest, self, holds) (and-not-true (has xs y)))
            | inr other ↦ (let fails : (x == y) ≡ false = ne_eqb x y other in rw (gone, rest, fails) refl)
          ])
      | inr kept ↦
          (let stays : not (x == e) ≡ true = ap not (ne_eqb x e kept) in
          elim (cases_eq x y) [
            | inl same ↦ (let self : (y == e) ≡ false = ne_eqb y e (λ k. kept (same ∙ k)) in let holds : (x == y) ≡ true = eq-eqb x y same in rw (stays, holds, self) refl)
            | inr other ↦ (let fails : (x == y) ≡ false = ne_eqb x y other in rw (stays, fails, rest) refl)
          ])
    ]
  where
    and-not-true : (b : Bool) → (b && false) ≡ false
    and-not-true true = refl
    and-not-true false = refl

pub without-none : (e : ℕ) (xs : List ℕ) → has xs e ≡ false → without e xs ≡ xs
without-none e [] h = refl
without-none e (x ∷ xs) h =
    let stays : not (x == e) ≡ true = ap not (no-or (x == e) (has xs e) h).0 in
    let rest = without-none e xs (tail-without x e xs h) in
    rw stays (ap (λ l. x ∷ l) rest)

pub without-fewer : (e y : ℕ) (xs : List ℕ) → has xs y ≡ false → has (without e xs) y ≡ false
without-fewer e y xs h = has-without e y xs ∙ ap (λ b. b && not (y == e)) h

pub without-distinct : (e : ℕ) (xs : List ℕ) → IsTrue (distinct xs) → IsTrue (distinct (without e xs))
without-distinct e [] d = refl
without-distinct e (x ∷ xs) d =
    let rest = without-distinct e xs (distinct-tail x xs d) in
    elim (cases_eq x e) [
      | inl here ↦ (let gone : not (x == e) ≡ false = ap not (eq-eqb x e here) in rw gone rest)
      | inr kept ↦ (let stays : not (x == e) ≡ true = ap not (ne_eqb x e kept) in rw stays (distinct-cons x (without e xs) (without-fewer e x xs (distinct-head x xs d)) rest))
    ]

-- distinct numbers below n are n at most
pub few-below : (xs : List ℕ) (n : ℕ) → IsTrue (distinct xs) → ((y : ℕ) → has xs y ≡ true → y < n) → length xs ≤ n
unfolding IsDistinct
few-below xs n d below = length-le_from_distinct_below xs n (as-keys xs d) (λ q h. below q (sym (flipped xs q) ∙ h))
  where
    flipped : (xs : List ℕ) (q : ℕ) → list_any (λ y. q == y) xs ≡ has xs q
    flipped [] q = refl
    flipped (x ∷ xs) q = let here = flip q x in let rest = flipped xs q in cc

    others : (x : ℕ) (xs : List ℕ) → has xs x ≡ false → AllByRecursion (λ y. (x == y) ≡ false) xs
    others x [] h = tt
    others x (y ∷ ys) h = (flip x y ∙ (no-or (y == x) (has ys x) h).0, others x ys (tail-without y x ys h))

    as-keys : (xs : List ℕ) → IsTrue (distinct xs) → IsDistinct (λ a b. a == b) xs
    as-keys [] d = tt
    as-keys (x ∷ xs) d = (others x xs (distinct-head x xs d), as-keys xs (distinct-tail x xs d))

-- ---- rings

-- functions that agree where a ring looks at them have the same ring
pub linked-same : (next previous after before : ℕ → ℕ) (x : ℕ) (xs : List ℕ) (end : ℕ) → IsLinked next previous x xs end →
    ((y : ℕ) → has (x ∷ xs) y ≡ true → after y ≡ next y) → ((y : ℕ) → has (end ∷ xs) y ≡ true → before y ≡ previous y) → IsLinked after before x xs end
linked-same next previous after before x [] end h there back =
    (there x (has-here x []) ∙ h.0, back end (has-here end []) ∙ h.1)
linked-same next previous after before x (y ∷ ys) end h there back = (
  there x (has-here x (y ∷ ys)) ∙ h.0,
  back y (has-later end y (y ∷ ys) (has-here y ys)) ∙ h.1,
  linked-same next previous after before y ys end h.2 (λ z k. there z (has-later x z (y ∷ ys) k)) (λ z k. back z (behind z k)),
)
  where
    behind : (z : ℕ) → has (end ∷ ys) z ≡ true → has (end ∷ y ∷ ys) z ≡ true
    behind z k = elim (cases_eq end z) [
      | inl same ↦ ap (λ b. b || has (y ∷ ys) z) (eq-eqb end z same)
      | inr other ↦ has-later end z (y ∷ ys) (has-later y z ys (let fails = ne_eqb end z other in sym (ap (λ b. b || has ys z) fails) ∙ k))
    ]

-- what stands before a member is a member or the start, and what is next to one is a member or the end
pub previous-in : (next previous : ℕ → ℕ) (x : ℕ) (xs : List ℕ) (end e : ℕ) → IsLinked next previous x xs end → has xs e ≡ true → has (x ∷ xs) (previous e) ≡ true
previous-in next previous x [] end e h k = cc
previous-in next previous x (y ∷ ys) end e h k =
    elim (cases_eq y e) [
      | inl here ↦ (let same : previous e ≡ x = ap previous (sym here) ∙ h.1 in subst (λ z. has (x ∷ y ∷ ys) z ≡ true) (sym same) (has-here x (y ∷ ys)))
      | inr later ↦ has-later x (previous e) (y ∷ ys) (previous-in next previous y ys end e h.2 (sym (ap (λ b. b || has ys e) (ne_eqb y e later)) ∙ k))
    ]

pub next-in : (next previous : ℕ → ℕ) (x : ℕ) (xs : List ℕ) (end e : ℕ) → IsLinked next previous x xs end → has xs e ≡ true → has (end ∷ xs) (next e) ≡ true
next-in next previous x [] end e h k = cc
next-in next previous x (y ∷ []) end e h k =
    elim (cases_eq y e) [
      | inl here ↦ (let same : next e ≡ end = ap next (sym here) ∙ h.2.0 in subst (λ z. has (end ∷ y ∷ []) z ≡ true) (sym same) (has-here end (y ∷ [])))
      | inr later ↦ (let fails = ne_eqb y e later in let wrong : false ≡ true = sym (ap (λ b. b || false) fails) ∙ k in cc)
    ]
next-in next previous x (y ∷ z ∷ zs) end e h k =
    elim (cases_eq y e) [
      | inl here ↦ (let same : next e ≡ z = ap next (sym here) ∙ h.2.0 in subst (λ w. has (end ∷ y ∷ z ∷ zs) w ≡ true) (sym same) (has-later end z (y ∷ z ∷ zs) (has-later y z (z ∷ zs) (has-here z zs))))
      | inr later ↦ widen (next-in next previous y (z ∷ zs) end e h.2 (sym (ap (λ b. b || has (z ∷ zs) e) (ne_eqb y e later)) ∙ k))
    ]
  where
    widen : has (end ∷ z ∷ zs) (next e) ≡ true → has (end ∷ y ∷ z ∷ zs) (next e) ≡ true
    widen m = elim (cases_eq end (next e)) [
      | inl same ↦ ap (λ b. b || has (y ∷ z ∷ zs) (next e)) (eq-eqb end (next e) same)
      | inr other ↦ has-later end (next e) (y ∷ z ∷ zs) (has-later y (next e) (z ∷ zs) (sym (ap (λ b. b || has (z ∷ zs) (next e)) (ne_eqb end (next e) other)) ∙ m))
    ]

-- a number at the head of a ring
pub linked-insert : (next previous : ℕ → ℕ) (s : ℕ) (xs : List ℕ) (e : ℕ) → IsLinked next previous s xs s → has xs s ≡ false → IsTrue (distinct xs) → has (s ∷ xs) e ≡ false →
    IsLinked (put (put next e (next s)) s e) (put (put previous e s) (next s) e) s (e ∷ xs) s
linked-insert next previous s [] e h out d new =
    let other : s ≡ e → ⊥ = head-apart s e [] new in
    let back : e ≡ next s → ⊥ = λ k. other (sym (k ∙ h.0)) in (
      put-here (put next e (next s)) s e s refl,
      put-other (put previous e s) (next s) e e back ∙ put-here previous e s e refl,
      (
        put-other (put next e (next s)) s e e (λ k. other (sym k)) ∙ put-here next e (next s) e refl ∙ h.0,
        put-here (put previous e s) (next s) e s (sym h.0),
      ),
    )
linked-insert next previous s (y ∷ ys) e h out d new =
    let other : s ≡ e → ⊥ = head-apart s e (y ∷ ys) new in
    let fresh : has (y ∷ ys) e ≡ false = tail-without s e (y ∷ ys) new in
    let back : e ≡ next s → ⊥ = λ k. head-apart y e ys fresh (sym (k ∙ h.0)) in (
      put-here (put next e (next s)) s e s refl,
      put-other (put previous e s) (next s) e e back ∙ put-here previous e s e refl,
      (
        put-other (put next e (next s)) s e e (λ k. other (sym k)) ∙ put-here next e (next s) e refl ∙ h.0,
        put-here (put previous e s) (next s) e y (sym h.0),
        linked-same next previous (put (put next e (next s)) s e) (put (put previous e s) (next s) e) y ys s h.2
            (λ z k. put-other (put next e (next s)) s e z (apart (y ∷ ys) s z out k) ∙ put-other next e (next s) z (apart (y ∷ ys) e z fresh k))
            (λ z k. put-other (put previous e s) (next s) e z (λ m. behind z k (m ∙ h.0)) ∙ put-other previous e s z (λ m. fresh-at z k m)),
      ),
    )
  where
    behind : (z : ℕ) → has (s ∷ ys) z ≡ true → z ≡ y → ⊥
    behind z k m = elim (cases_eq s z) [
      | inl same ↦ head-apart y s ys out (sym (same ∙ m))
      | inr fails ↦ apart ys y z (distinct-head y ys d) (sym (ap (λ b. b || has ys z) (ne_eqb s z fails)) ∙ k) m
    ]

    fresh-at : (z : ℕ) → has (s ∷ ys) z ≡ true → z ≡ e → ⊥
    fresh-at z k m = elim (cases_eq s z) [
      | inl same ↦ head-apart s e (y ∷ ys) new (same ∙ m)
      | inr fails ↦ apart ys e z (tail-without y e ys (tail-without s e (y ∷ ys) new)) (sym (ap (λ b. b || has ys z) (ne_eqb s z fails)) ∙ k) m
    ]

-- a number taken out
pub linked-remove : (next previous : ℕ → ℕ) (x : ℕ) (xs : List ℕ) (end e : ℕ) → IsLinked next previous x xs end → has xs x ≡ false → IsTrue (distinct xs) → has xs end ≡ false → has xs e ≡ true →
    IsLinked (put next (previous e) (next e)) (put previous (next e) (previous e)) x (without e xs) end
linked-remove next previous x [] end e h out d last k = cc
linked-remove next previous x (y ∷ ys) end e h out d last k =
    elim (cases_eq y e) [
      | inl here ↦
          (let gone : not (y == e) ≡ false = ap not (eq-eqb y e here) in
          let none : without e ys ≡ ys = without-none e ys (subst (λ z. has ys z ≡ false) here (distinct-head y ys d)) in
          let kept : IsLinked (put next (previous e) (next e)) (put previous (next e) (previous e)) x ys end = taken here in
          rw (gone, none) kept)
      | inr later ↦
          (let stays : not (y == e) ≡ true = ap not (ne_eqb y e later) in
          let inside : has ys e ≡ true = sym (ap (λ b. b || has ys e) (ne_eqb y e later)) ∙ k in
          let rest = linked-remove next previous y ys end e h.2 (distinct-head y ys d) (distinct-tail y ys d) (tail-without y end ys last) inside in
          let before : x ≡ previous e → ⊥ = λ m. apart (y ∷ ys) x (previous e) out (previous-in next previous y ys end e h.2 inside) (sym m) in
          let after : y ≡ next e → ⊥ = λ m. not-next inside m in
          rw stays (put-other next (previous e) (next e) x before ∙ h.0, put-other previous (next e) (previous e) y after ∙ h.1, rest))
    ]
  where
    not-next : has ys e ≡ true → y ≡ next e → ⊥
    not-next inside m = elim (cases_eq end (next e)) [
      | inl same ↦ head-apart y end ys last (m ∙ sym same)
      | inr fails ↦ apart ys y (next e) (distinct-head y ys d) (sym (ap (λ b. b || has ys (next e)) (ne_eqb end (next e) fails)) ∙ next-in next previous y ys end e h.2 inside) (sym m)
    ]

    ends : (z : ℕ) (zs : List ℕ) (w : ℕ) → IsTrue (distinct (z ∷ zs)) → has (z ∷ zs) end ≡ false → has (end ∷ zs) w ≡ true → w ≡ z → ⊥
    ends z zs w d last m r = elim (cases_eq end w) [
      | inl same ↦ head-apart z end zs last (sym (same ∙ r))
      | inr fails ↦ apart zs z w (distinct-head z zs d) (sym (ap (λ b. b || has zs w) (ne_eqb end w fails)) ∙ m) r
    ]

    passed : (ys : List ℕ) → previous e ≡ x → IsLinked next previous e ys end → has ys x ≡ false → IsTrue (distinct ys) → has ys end ≡ false →
        IsLinked (put next (previous e) (next e)) (put previous (next e) (previous e)) x ys end
    passed [] same l out d last = (put-here next (previous e) (next e) x (sym same) ∙ l.0, put-here previous (next e) (previous e) end (sym l.0) ∙ same)
    passed (z ∷ zs) same l out d last = (
      put-here next (previous e) (next e) x (sym same) ∙ l.0,
      put-here previous (next e) (previous e) z (sym l.0) ∙ same,
      linked-same next previous (put next (previous e) (next e)) (put previous (next e) (previous e)) z zs end l.2
          (λ w m. put-other next (previous e) (next e) w (λ r. apart (z ∷ zs) x w out m (r ∙ same)))
          (λ w m. put-other previous (next e) (previous e) w (λ r. ends z zs w d last m (r ∙ l.0))),
    )

    taken : y ≡ e → IsLinked (put next (previous e) (next e)) (put previous (next e) (previous e)) x ys end
    taken here = let same : previous e ≡ x = ap previous (sym here) ∙ h.1 in passed ys same (subst (λ z. IsLinked next previous z ys end) here h.2) (tail-without y x ys out) (distinct-tail y ys d) (tail-without y end ys last)

-- the walk over a ring
pub walk-is : (next previous : ℕ → ℕ) (x : ℕ) (xs : List ℕ) (end n : ℕ) → IsLinked next previous x xs end → has xs end ≡ false → length xs ≤ n → walk next end n x ≡ xs
walk-is next previous x [] end zero h out few = refl
walk-is next previous x [] end (suc n) h out few = let stop : (next x == end) ≡ true = eq-eqb (next x) end h.0 in rw stop refl
walk-is next previous x (y ∷ ys) end zero h out few = absurd (omega arith)
walk-is next previous x (y ∷ ys) end (suc n) h out few =
    let go : (next x == end) ≡ false = ne_eqb (next x) end (λ m. head-apart y end ys out (sym h.0 ∙ m)) in
    let rest : walk next end n y ≡ ys = walk-is next previous y ys end n h.2 (tail-without y end ys out) (omega arith) in
    rw (go, h.0) (ap (λ l. y ∷ l) rest)

-- ---- stacks

-- a stack doesn't see what lies elsewhere
pub stack-same : (behind after : ℕ → ℕ) (none x : ℕ) (xs : List ℕ) → IsStack behind none x xs → ((y : ℕ) → has xs y ≡ true → after y ≡ behind y) → IsStack after none x xs
stack-same behind after none x [] h same = h
stack-same behind after none x (y ∷ ys) h same =
    (h.0, subst (λ z. IsStack after none z ys) (sym (same y (has-here y ys))) (stack-same behind after none (behind y) ys h.1 (λ z k. same z (has-later y z ys k))))

-- ---- lists of what a function gives

pub map-put : {A : Type 0} (f : ℕ → A) (e : ℕ) (v : A) (xs : List ℕ) → has xs e ≡ false → map (put f e v) xs ≡ map f xs
map-put f e v [] h = refl
map-put f e v (x ∷ xs) h =
    let here : put f e v x ≡ f x = put-other f e v x (head-apart x e xs h) in
    let rest = map-put f e v xs (tail-without x e xs h) in cc

-- what a list of all has, each list of some has
pub map-fewer : (f : ℕ → ℕ) (e y : ℕ) (xs : List ℕ) → has (map f xs) y ≡ false → has (map f (without e xs)) y ≡ false
map-fewer f e y [] h = refl
map-fewer f e y (x ∷ xs) h =
    let parts = no-or (f x == y) (has (map f xs) y) h in
    let rest = map-fewer f e y xs parts.1 in
    elim (cases_eq x e) [
      | inl here ↦ (let gone : not (x == e) ≡ false = ap not (eq-eqb x e here) in rw gone rest)
      | inr kept ↦ (let stays : not (x == e) ≡ true = ap not (ne_eqb x e kept) in rw (stays, parts.0) rest)
    ]

pub map-distinct : (f : ℕ → ℕ) (e : ℕ) (xs : List ℕ) → IsTrue (distinct (map f xs)) → IsTrue (distinct (map f (without e xs)))
map-distinct f e [] d = refl
map-distinct f e (x ∷ xs) d =
    let rest = map-distinct f e xs (distinct-tail (f x) (map f xs) d) in
    elim (cases_eq x e) [
      | inl here ↦ (let gone : not (x == e) ≡ false = ap not (eq-eqb x e here) in rw gone rest)
      | inr kept ↦ (let stays : not (x == e) ≡ true = ap not (ne_eqb x e kept) in rw stays (distinct-cons (f x) (map f (without e xs)) (map-fewer f e (f x) xs (distinct-head (f x) (map f xs) d)) rest))
    ]

-- functions that agree do so where both are changed alike
pub put-along : {A : Type 0} (f g : ℕ → A) (x : ℕ) (v : A) (y : ℕ) → ((z : ℕ) → f z ≡ g z) → put f x v y ≡ put g x v y
put-along f g x v y same = ap (λ z. if y == x then v else z) (same y)
