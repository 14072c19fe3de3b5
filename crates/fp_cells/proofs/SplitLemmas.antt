-- Texts that are put together of parts with a byte between, and the parts that they tell.
use Rattle.std.proofs.Common.{◌≡◌, ◌≢◌, ℕ, ◌+◌, ◌%◌, ◌<◌, ◌^◌, List, [], ◌∷◌, ◌++◌, refl, sym, ap, subst, ◌∙◌, arith}
use Rattle.std.specs.Prelude.{decimal, All}
use Rattle.std.specs.Str.Parse.{digits_value}
use Rattle.std.proofs.lemmas.Fmt.{decimal_by_steps, decimal_is_IsNumeral}
use Rattle.std.proofs.lemmas.List.Elements.{All-append, All-cons, All-head, All-nil, All-tail}

-- the byte is not among those of a text
abbrev pub Lacks : ℕ → List ℕ → Type 0
Lacks byte text = All (λ x. x ≢ byte) text

-- two parts with a byte between that the first part lacks
pub split_first : (byte : ℕ) (xs ys us vs : List ℕ) → Lacks byte xs → Lacks byte ys → xs ++ (byte ∷ us) ≡ ys ++ (byte ∷ vs) → (xs ≡ ys) × (us ≡ vs)
split_first byte [] [] us vs lx ly e = (refl, cc)
split_first byte [] (y ∷ ys) us vs lx ly e = let same : y ≡ byte = cc in absurd (All-head (λ x. x ≢ byte) y ys ly same)
split_first byte (x ∷ xs) [] us vs lx ly e = let same : x ≡ byte = cc in absurd (All-head (λ x. x ≢ byte) x xs lx same)
split_first byte (x ∷ xs) (y ∷ ys) us vs lx ly e =
    let same : x ≡ y = cc in
    let rest : xs ++ (byte ∷ us) ≡ ys ++ (byte ∷ vs) = cc in
    let parts = split_first byte xs ys us vs (All-tail (λ x. x ≢ byte) x xs lx) (All-tail (λ x. x ≢ byte) y ys ly) rest in
    (ap (λ z. z ∷ xs) same ∙ ap (λ zs. y ∷ zs) parts.0, parts.1)

lacks_none : (byte : ℕ) (xs us : List ℕ) → Lacks byte (xs ++ (byte ∷ us)) → ⊥
lacks_none byte [] us lacks = All-head (λ x. x ≢ byte) byte us lacks refl
lacks_none byte (x ∷ xs) us lacks = lacks_none byte xs us (All-tail (λ x. x ≢ byte) x (xs ++ (byte ∷ us)) lacks)

-- or that the second part lacks
pub split_last : (byte : ℕ) (xs ys us vs : List ℕ) → Lacks byte us → Lacks byte vs → xs ++ (byte ∷ us) ≡ ys ++ (byte ∷ vs) → (xs ≡ ys) × (us ≡ vs)
split_last byte [] [] us vs lu lv e = (refl, cc)
split_last byte [] (y ∷ ys) us vs lu lv e =
    let rest : us ≡ ys ++ (byte ∷ vs) = cc in
    absurd (lacks_none byte ys vs (subst (Lacks byte) rest lu))
split_last byte (x ∷ xs) [] us vs lu lv e =
    let rest : vs ≡ xs ++ (byte ∷ us) = cc in
    absurd (lacks_none byte xs us (subst (Lacks byte) rest lv))
split_last byte (x ∷ xs) (y ∷ ys) us vs lu lv e =
    let same : x ≡ y = cc in
    let rest : xs ++ (byte ∷ us) ≡ ys ++ (byte ∷ vs) = cc in
    let parts = split_last byte xs ys us vs lu lv rest in
    (ap (λ z. z ∷ xs) same ∙ ap (λ zs. y ∷ zs) parts.0, parts.1)

-- ---- decimal numbers

digit_is : (d : ℕ) → d < 10 → 48 + d ≢ 64
digit_is d small e = omega (arith, small, e)

-- they lack '@'
pub decimal_lacks : (n : ℕ) → n < 2 ^ 64 → Lacks 64 (decimal n)
decimal_lacks = decimal_by_steps (λ n ds. Lacks 64 ds)
    (λ n small. All-cons (λ x. x ≢ 64) (48 + n) [] (digit_is n small) (All-nil (λ x. x ≢ 64)))
    (λ n ds ten lacks. All-append (λ x. x ≢ 64) ds ((48 + n % 10) ∷ []) lacks (All-cons (λ x. x ≢ 64) (48 + n % 10) [] (digit_is (n % 10) (omega arith)) (All-nil (λ x. x ≢ 64))))

pub same_decimal : (a b : ℕ) → a < 2 ^ 64 → b < 2 ^ 64 → decimal a ≡ decimal b → a ≡ b
same_decimal a b la lb e = sym (decimal_is_IsNumeral a la).1 ∙ ap (digits_value 10) e ∙ (decimal_is_IsNumeral b lb).1
