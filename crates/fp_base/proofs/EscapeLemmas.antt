-- Different byte strings have different escaped texts and names, and these have printable bytes alone.
use Rattle.std.proofs.Common.{◌⊎◌, ◌≡◌, ◌≢◌, ℕ, ◌/◌, ◌%◌, ◌<◌, ◌≤◌, Bool, true, false, cond, List, [], ◌∷◌, ◌++◌, length, get_or, IsAscii, IsUtf8, ⊎_elim, refl, sym, ap, arith}
use Rattle.std.proofs.lemmas.Bool.{cases_lt}
use Rattle.std.proofs.lemmas.Bool.Decides.{nat_tests}
use Rattle.std.proofs.lemmas.List.{get_or_default, get_or_past}
use Rattle.std.proofs.lemmas.Str.{IsUtf8-from_ascii}
use Rattle.std.proofs.lemmas.List.Elements.{All-head, All-tail, All-nil, All-cons, All-append}
use Rattle.std.specs.Prelude.{codes, All}
use Rattle.fp_base.specs.Escape.{hex_digit, is_plain, escaped_by, escaped_text, escaped_name, AreBytes, IsTextByte, IsNameByte}

-- ---- escaping loses nothing

-- different values have different digits
same_digit : (a b : ℕ) → a < 16 → b < 16 → hex_digit a ≡ hex_digit b → a ≡ b
same_digit a b la lb e = grind (arith, nat_tests)

-- a byte is told by its two digits
same_digits : (a b : ℕ) → a < 256 → b < 256 → hex_digit (a / 16) ≡ hex_digit (b / 16) → hex_digit (a % 16) ≡ hex_digit (b % 16) → a ≡ b
same_digits a b la lb high low =
    let h : a / 16 ≡ b / 16 = same_digit (a / 16) (b / 16) (omega arith) (omega arith) high in
    let l : a % 16 ≡ b % 16 = same_digit (a % 16) (b % 16) (omega arith) (omega arith) low in
    omega arith

-- what stands for a byte that is plain or is not
written : Bool → ℕ → List ℕ
written plain byte = cond plain (byte ∷ []) (codes "\\x" ++ hex_digit (byte / 16) ∷ hex_digit (byte % 16) ∷ [])

same_written : (p q : Bool) (x y : ℕ) (xs ys : List ℕ) → (p ≡ true → x ≢ 92) → (q ≡ true → y ≢ 92) → x < 256 → y < 256 → written p x ++ xs ≡ written q y ++ ys → (x ≡ y) × (xs ≡ ys)
unfolding written
same_written true true x y xs ys px qy lx ly e = (cc, cc)
same_written true false x y xs ys px qy lx ly e = let slash : x ≡ 92 = cc in absurd (px refl slash)
same_written false true x y xs ys px qy lx ly e = let slash : y ≡ 92 = cc in absurd (qy refl slash)
same_written false false x y xs ys px qy lx ly e =
    let high : hex_digit (x / 16) ≡ hex_digit (y / 16) = cc in
    let low : hex_digit (x % 16) ≡ hex_digit (y % 16) = cc in
    (same_digits x y lx ly high low, cc)

-- a plain byte is no backslash where that is reserved
no_backslash : (reserved : List ℕ) (byte : ℕ) → is_plain reserved 92 ≡ false → is_plain reserved byte ≡ true → byte ≢ 92
no_backslash reserved byte slash plain is =
    let also : is_plain reserved byte ≡ is_plain reserved 92 = ap (is_plain reserved) is in
    grind arith

-- something stands for each byte
written_some : (p : Bool) (x : ℕ) (xs : List ℕ) → written p x ++ xs ≢ []
unfolding written
written_some true x xs e = cc
written_some false x xs e = cc

-- where a backslash is reserved, texts that are escaped alike are equal
same_text : (reserved : List ℕ) → is_plain reserved 92 ≡ false → (a b : List ℕ) → AreBytes a → AreBytes b → escaped_by reserved a ≡ escaped_by reserved b → a ≡ b
unfolding written
same_text reserved slash [] [] la lb e = refl
same_text reserved slash [] (y ∷ ys) la lb e = absurd (written_some (is_plain reserved y) y (escaped_by reserved ys) (sym e))
same_text reserved slash (x ∷ xs) [] la lb e = absurd (written_some (is_plain reserved x) x (escaped_by reserved xs) e)
same_text reserved slash (x ∷ xs) (y ∷ ys) la lb e =
    let lx : x < 256 = All-head (λ byte. byte < 256) x xs la in
    let ly : y < 256 = All-head (λ byte. byte < 256) y ys lb in
    let first : (x ≡ y) × (escaped_by reserved xs ≡ escaped_by reserved ys) = same_written (is_plain reserved x) (is_plain reserved y) x y (escaped_by reserved xs) (escaped_by reserved ys) (no_backslash reserved x slash) (no_backslash reserved y slash) lx ly e in
    let rest : xs ≡ ys = same_text reserved slash xs ys (All-tail (λ byte. byte < 256) x xs la) (All-tail (λ byte. byte < 256) y ys lb) first.1 in
    let head : x ≡ y = first.0 in
    cc

pub same_escaped_text : (a b : List ℕ) → AreBytes a → AreBytes b → escaped_text a ≡ escaped_text b → a ≡ b
unfolding escaped_text
same_escaped_text a b la lb e = same_text (codes "\\,") refl a b la lb e

pub same_escaped_name : (a b : List ℕ) → AreBytes a → AreBytes b → escaped_name a ≡ escaped_name b → a ≡ b
unfolding escaped_name
same_escaped_name a b la lb e = same_text (codes "\\,.(:") refl a b la lb e

-- ---- the bytes of an escaped text

-- a digit is one of `0` to `9` or of `a` to `f`
hex_digit_range : (value : ℕ) → value < 16 → (48 ≤ hex_digit value) × (hex_digit value ≤ 102) × ((hex_digit value < 58) ⊎ (97 ≤ hex_digit value))
hex_digit_range value small = grind (arith, nat_tests)

all_written : (P : ℕ → Type 0) (p : Bool) (x : ℕ) → (p ≡ true → P x) → P 92 → P 120 → P (hex_digit (x / 16)) → P (hex_digit (x % 16)) → All P (written p x)
unfolding written
all_written P true x plain slash letter high low = All-cons P x [] (plain refl) (All-nil P)
all_written P false x plain slash letter high low =
    All-cons P 92 (120 ∷ hex_digit (x / 16) ∷ hex_digit (x % 16) ∷ []) slash
    (All-cons P 120 (hex_digit (x / 16) ∷ hex_digit (x % 16) ∷ []) letter
    (All-cons P (hex_digit (x / 16)) (hex_digit (x % 16) ∷ []) high
    (All-cons P (hex_digit (x % 16)) [] low (All-nil P))))

-- what holds of plain bytes, of `\x` and of digits holds of each byte of an escaped text
all_escaped : (P : ℕ → Type 0) (reserved : List ℕ) → ((x : ℕ) → is_plain reserved x ≡ true → P x) → P 92 → P 120 → ((value : ℕ) → value < 16 → P (hex_digit value)) → (text : List ℕ) → AreBytes text → All P (escaped_by reserved text)
unfolding written
all_escaped P reserved plain slash letter digit [] bytes = All-nil P
all_escaped P reserved plain slash letter digit (x ∷ xs) bytes =
    let lx : x < 256 = All-head (λ byte. byte < 256) x xs bytes in
    All-append P (written (is_plain reserved x) x) (escaped_by reserved xs)
    (all_written P (is_plain reserved x) x (plain x) slash letter (digit (x / 16) (omega arith)) (digit (x % 16) (omega arith)))
    (all_escaped P reserved plain slash letter digit xs (All-tail (λ byte. byte < 256) x xs bytes))

text_byte_plain : (x : ℕ) → is_plain (codes "\\,") x ≡ true → IsTextByte x
text_byte_plain x plain = grind (arith, nat_tests)

name_byte_plain : (x : ℕ) → is_plain (codes "\\,.(:") x ≡ true → IsNameByte x
name_byte_plain x plain = grind (arith, nat_tests)

name_byte_digit : (value : ℕ) → value < 16 → IsNameByte (hex_digit value)
name_byte_digit value small = let range = hex_digit_range value small in search arith

backslash : IsNameByte 92
backslash = grind arith

letter_x : IsNameByte 120
letter_x = search arith

pub escaped_text-bytes : (text : List ℕ) → AreBytes text → All IsTextByte (escaped_text text)
unfolding escaped_text
escaped_text-bytes text bytes = all_escaped IsTextByte (codes "\\,") text_byte_plain backslash.in_text letter_x.in_text (λ v small. (name_byte_digit v small).in_text) text bytes

pub escaped_name-bytes : (name : List ℕ) → AreBytes name → All IsNameByte (escaped_name name)
unfolding escaped_name
escaped_name-bytes name bytes = all_escaped IsNameByte (codes "\\,.(:") name_byte_plain backslash letter_x name_byte_digit name bytes

pub ruleset text_laws = (same_escaped_text, escaped_text-bytes)

pub ruleset name_laws = (same_escaped_name, escaped_name-bytes)

-- ---- an escaped name is text

pub escaped_name-IsUtf8 : (name : List ℕ) → ((i : ℕ) → get_or name i 0 < 256) → IsUtf8 (escaped_name name)
escaped_name-IsUtf8 name bytes = IsUtf8-from_ascii (escaped_name name) ascii
  where
    are_bytes : AreBytes name
    are_bytes k d within = rw (get_or_default name k d 0 within) (bytes k)

    ascii : IsAscii (escaped_name name)
    ascii i = ⊎_elim
        (λ within. let byte = escaped_name-bytes name are_bytes i 0 within in omega (arith, byte.in_text.below_delete))
        (λ past. rw (get_or_past (escaped_name name) i 0 past) (omega arith))
        (cases_lt i (length (escaped_name name)))
