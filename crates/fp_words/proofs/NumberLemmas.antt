-- Numbers in words.
use Rattle.std.proofs.Common.{◌≡◌, ℕ, ◌<◌, ◌^◌, ◌&&◌, Bool, true, false, cond, Some, None, Err, List, [], ◌∷◌, length, refl, arith, nat_le}
use Rattle.std.proofs.lemmas.Bool.Decides.{nat_tests}
use Rattle.std.proofs.lemmas.Str.Parse.{parse_digits, numerals_by_value, tells_all_ascii_digits}
use Rattle.std.specs.Str.{all_ascii_digits}
use Rattle.std.specs.Str.Parse.{digits_value, ParsesUnsigned}
use Rattle.fp_words.specs.Numbers.{is_numeral, number_between}

numeral-digits : (word : List ℕ) → is_numeral word ≡ true → all_ascii_digits word ≡ true
numeral-digits [] e = cc
numeral-digits (digit ∷ []) e = e
numeral-digits (digit ∷ next ∷ rest) e = grind arith

numeral-some : (word : List ℕ) → is_numeral word ≡ true → 0 < length word
numeral-some [] e = cc
numeral-some (digit ∷ rest) e = omega arith

-- a number past the most is none of those between
past_most : (numeral : Bool) (least most value : ℕ) → most < value → None ≡ cond (numeral && (nat_le least value && nat_le value most)) (Some value) None
past_most false least most value past = refl
past_most true least most value past = grind (arith, nat_tests)

-- a numeral that does not fit 32 bits is past the most
pub too_large : {E : Type 0} (least most : ℕ) (word : List ℕ) (fault : E) → most < 2 ^ 32 → is_numeral word ≡ true → ParsesUnsigned 32 10 word (Err fault) → None ≡ number_between least most word
too_large least most word fault fits numeral parsed =
    let parts = parse_digits (numerals_by_value _ tells_all_ascii_digits) 32 word (Err fault) parsed (numeral-digits word numeral) in
    let some : 0 < length word = numeral-some word numeral in
    let no : digits_value 10 word < 2 ^ 32 → ⊥ = λ lt. parts (some, lt) in
    let past : most < digits_value 10 word = omega (arith, no) in
    past_most (is_numeral word) least most (digits_value 10 word) past
