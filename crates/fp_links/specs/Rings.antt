-- Rings of numbers: which number is next, and which one stands before.
use Rattle.std.specs.Prelude.{◌≡◌, ℕ, zero, suc, ◌==◌, Bool, true, not, ◌&&◌, List, [], ◌∷◌, filter, if◌then◌else◌}
use Rattle.std.specs.List.{list_any}

-- f but for v at x
abbrev pub put : {A : Type 0} → (ℕ → A) → ℕ → A → ℕ → A
put f x v y = if y == x then v else f y

-- the numbers follow each other from x to the end, and lead back
abbrev pub IsLinked : (ℕ → ℕ) → (ℕ → ℕ) → ℕ → List ℕ → ℕ → Type 0
IsLinked next previous x [] end = (next x ≡ end) × (previous end ≡ x)
IsLinked next previous x (y ∷ ys) end = (next x ≡ y) × (previous y ≡ x) × IsLinked next previous y ys end

-- the numbers behind x, as far as the end, and so many at most
abbrev pub walk : (ℕ → ℕ) → ℕ → ℕ → ℕ → List ℕ
walk next end zero x = []
walk next end (suc n) x = if next x == end then [] else next x ∷ walk next end n (next x)

-- the numbers of a list that ends at `none`, each leading to the one behind it
abbrev pub IsStack : (ℕ → ℕ) → ℕ → ℕ → List ℕ → Type 0
IsStack behind none x [] = x ≡ none
IsStack behind none x (y ∷ ys) = (x ≡ y) × IsStack behind none (behind y) ys

abbrev pub has : List ℕ → ℕ → Bool
has xs x = list_any (λ y. y == x) xs

-- no number stands twice
abbrev pub distinct : List ℕ → Bool
distinct [] = true
distinct (x ∷ xs) = not (has xs x) && distinct xs

abbrev pub without : ℕ → List ℕ → List ℕ
without x xs = filter (λ y. not (y == x)) xs

-- f at n numbers from i on
abbrev pub table : {A : Type 0} → (ℕ → A) → ℕ → ℕ → List A
table f i zero = []
table f i (suc n) = f i ∷ table f (suc i) n
