-- The origins of a group that a word tells.
use Rattle.std.proofs.Common.{◌≡◌, ℕ, zero, suc, ◌+◌, ◌<◌, ◌/◌, ◌%◌, ◌^◌, ◌==◌, Bool, true, false, List, [], ◌∷◌, ◌++◌, length, filter, drop, get_or, refl, sym, ap, ◌∙◌, cond, arith}
use Rattle.std.specs.Prelude.{slice_get, Some}
use Rattle.std.proofs.lemmas.List.{drop_more}
use Rattle.std.specs.Int.{bit_at, trailing_zeros, w64}
use Rattle.std.proofs.lemmas.Nat.{shr-shr}
use Rattle.std.proofs.lemmas.Nat.Bits.{bit_at-suc, bit_at-trailing_zeros, bit_at_lowest}
use Rattle.fp_facts.specs.declared.origin.Origin.{Origin}
use Rattle.fp_facts.specs.declared.origin.Origin.TheVariants as origin
use Rattle.fp_origin.specs.Groups.{has_bit}
use Rattle.fp_origin.specs.Growth.{chosen}

nothing-chosen : (group : List Origin) → chosen group 0 ≡ []
nothing-chosen [] = refl
nothing-chosen (g ∷ group) = nothing-chosen group

pub chosen-zero : (group : List Origin) (word : ℕ) → word ≡ 0 → chosen group word ≡ []
chosen-zero group word none = ap (chosen group) none ∙ nothing-chosen group

abbrev chosen_first : Bool → Origin → List Origin → List Origin
chosen_first b g group = cond b (g ∷ []) [] ++ group

-- they are those of a test that the bits tell
pub chosen-filter : (group : List Origin) (word : ℕ) (test : Origin → Bool) → ((place : ℕ) (o : Origin) → slice_get group place ≡ Some o → has_bit place word ≡ test o) → chosen group word ≡ filter test group
chosen-filter [] word test same = refl
chosen-filter (g ∷ group) word test same =
    let rest : chosen group (word / 2) ≡ filter test group = chosen-filter group (word / 2) test (λ place o at. ap (λ (n : ℕ). n == 1) (sym (bit_at-suc word place)) ∙ same (suc place) o at) in
    let first : (word % 2 == 1) ≡ test g = ap (λ (n : ℕ). n == 1) (sym (bit_at_lowest word)) ∙ same 0 g refl in
    let moved : chosen_first (word % 2 == 1) g (chosen group (word / 2)) ≡ chosen_first (test g) g (filter test group) = ap (λ (b : Bool). chosen_first b g (chosen group (word / 2))) first ∙ ap (chosen_first (test g) g) rest in
    moved ∙ (elim (test g) as (λ b. chosen_first b g (filter test group) ≡ cond b (g ∷ filter test group) (filter test group)) [ true ↦ refl | false ↦ refl ])

-- ---- low bits that are not set

low-even : (g : Origin) (group : List Origin) (word : ℕ) → bit_at word 0 ≡ 0 → chosen (g ∷ group) word ≡ chosen group (word / 2)
low-even g group word even = ap (λ (n : ℕ). chosen_first (n == 1) g (chosen group (word / 2))) (sym (bit_at_lowest word) ∙ even)

pub without-low : (z : ℕ) (group : List Origin) (word : ℕ) → ((i : ℕ) → i < z → bit_at word i ≡ 0) → chosen (drop z group) (word / 2 ^ z) ≡ chosen group word
without-low zero group word low = let whole : word / 1 ≡ word = omega arith in ap (chosen group) whole
without-low (suc z) [] word low = refl
without-low (suc z) (g ∷ group) word low =
    let halves : word / 2 ^ suc z ≡ word / 2 / 2 ^ z = sym (shr-shr word 1 z ∙ ap (λ (n : ℕ). word / 2 ^ n) (omega arith)) in
    ap (chosen (drop z group)) halves ∙
    without-low z group (word / 2) (λ i lt. sym (bit_at-suc word i) ∙ low (suc i) (omega (arith, lt))) ∙
    sym (low-even g group word (low 0 (omega arith)))

-- those before the lowest bit that is set
pub trailing-same : (group : List Origin) (word : ℕ) → 0 < word → word < 2 ^ 64 → chosen (drop (trailing_zeros w64 word) group) (word / 2 ^ trailing_zeros w64 word) ≡ chosen group word
trailing-same group word some fits = let low = bit_at-trailing_zeros w64 word some fits in without-low (trailing_zeros w64 word) group word low.2

-- ---- one origin more

abbrev chosen_count : List Origin → ℕ → ℕ
chosen_count group word = length (chosen group word)

pub count-odd : (group : List Origin) (i word : ℕ) → i < length group → word % 2 ≡ 1 → chosen_count (drop i group) word ≡ 1 + chosen_count (drop (i + 1) group) (word / 2)
count-odd group i word lt odd =
    let behind : List Origin = chosen (drop (i + 1) group) (word / 2) in
    let g : Origin = get_or group i origin.Other in
    ap (λ (l : List Origin). chosen_count l word) (drop_more group i origin.Other lt) ∙
    ap (λ (n : ℕ). length (cond (n == 1) (g ∷ []) [] ++ behind)) odd ∙ omega arith

pub count-even : (group : List Origin) (i word : ℕ) → i < length group → (word % 2 == 1) ≡ false → chosen_count (drop i group) word ≡ chosen_count (drop (i + 1) group) (word / 2)
count-even group i word lt even =
    let behind : List Origin = chosen (drop (i + 1) group) (word / 2) in
    let g : Origin = get_or group i origin.Other in
    ap (λ (l : List Origin). chosen_count l word) (drop_more group i origin.Other lt) ∙
    ap (λ (b : Bool). length (cond b (g ∷ []) [] ++ behind)) even
