-- Counts above 0 and above 1, and the places that they count.
use Rattle.std.proofs.Common.{◌≡◌, ℕ, suc, ◌+◌, ◌<◌, ◌≤◌, Bool, true, cond, ⊎_elim, List, [], ◌∷◌, length, get_or, take, drop, count_by, ap, ◌∙◌, arith, length-take-le, get_or-take, get_or-drop, length-drop, add-zero, le_of_lt}
use Rattle.std.proofs.lemmas.Bool.{cases_Bool, cond-true, cond-false}
use Rattle.std.proofs.lemmas.List.Sums.{sum_by-cons, get_or-le-sum_by, sum_by-take-drop}

-- an element that passes is counted
counted_one : {X : Type 0} (p : X → Bool) (xs : List X) (k : ℕ) (d : X) → k < length xs → p (get_or xs k d) ≡ true → 1 ≤ count_by p xs
counted_one p xs k d within passes =
    let one = cond-true {A = ℕ} (p (get_or xs k d)) 1 0 passes in
    omega (arith, get_or-le-sum_by (λ x. cond (p x) 1 0) xs k d within)

-- two elements that pass are counted
pub counted_two : {X : Type 0} (p : X → Bool) (xs : List X) (i j : ℕ) (d : X) → i < j → j < length xs → p (get_or xs i d) ≡ true → p (get_or xs j d) ≡ true → 1 < count_by p xs
counted_two p xs i j d less within first second =
    let long = length-take-le j xs (le_of_lt within) in
    let front = counted_one p (take j xs) i d (omega arith) (ap p (get_or-take j xs i d less) ∙ first) in
    let back = counted_one p (drop j xs) 0 d (rw length-drop (omega arith)) (ap p (get_or-drop j xs 0 d ∙ ap (λ n. get_or xs n d) (add-zero j)) ∙ second) in
    omega (arith, front, back, sum_by-take-drop (λ x. cond (p x) 1 0) xs j)

-- where something is counted, an element passes
pub one_counted : {X : Type 0} (p : X → Bool) (xs : List X) (d : X) → 0 < count_by p xs → (k : ℕ) × (k < length xs) × (p (get_or xs k d) ≡ true)
one_counted p [] d some = absurd (omega arith)
one_counted p (x ∷ xs) d some = ⊎_elim
    (λ yes. (0, omega arith, yes))
    (λ no.
    let rest = sum_by-cons (λ y. cond (p y) 1 0) x xs ∙ ap (λ n. n + count_by p xs) (cond-false (p x) 1 0 no) in
    let found = one_counted p xs d (omega arith) in
    (suc found.0, omega arith, found.2))
    (cases_Bool (p x))

-- where more than one are counted, two elements pass
pub two_counted : {X : Type 0} (p : X → Bool) (xs : List X) (d : X) → 1 < count_by p xs → (i : ℕ) × (j : ℕ) × (i < j) × (j < length xs) × (p (get_or xs i d) ≡ true) × (p (get_or xs j d) ≡ true)
two_counted p [] d some = absurd (omega arith)
two_counted p (x ∷ xs) d some = ⊎_elim
    (λ yes.
    let rest = sum_by-cons (λ y. cond (p y) 1 0) x xs ∙ ap (λ n. n + count_by p xs) (cond-true (p x) 1 0 yes) in
    let found = one_counted p xs d (omega arith) in
    (0, suc found.0, omega arith, omega arith, yes, found.2))
    (λ no.
    let rest = sum_by-cons (λ y. cond (p y) 1 0) x xs ∙ ap (λ n. n + count_by p xs) (cond-false (p x) 1 0 no) in
    let found = two_counted p xs d (omega arith) in
    (suc found.0, suc found.1, omega arith, omega arith, found.4, found.5))
    (cases_Bool (p x))
