-- Escaped texts and escaped names of byte strings.
use Rattle.std.specs.Prelude.{◌≢◌, ℕ, ◌+◌, ◌<◌, ◌/◌, ◌%◌, ◌==◌, nat_lt, nat_le, Bool, not, ◌&&◌, List, [], ◌∷◌, ◌++◌, codes, All, if◌then◌else◌}
use Rattle.std.specs.List.{flat_map, list_any}

-- the lower-case hexadecimal digit of a value below 16
abbrev pub hex_digit : ℕ → ℕ
hex_digit value = if nat_lt value 10 then 48 + value else 87 + value

-- whether the byte stands for itself: a printable one but space, and not reserved
abbrev pub is_plain : List ℕ → ℕ → Bool
is_plain reserved byte = nat_le 0x21 byte && nat_le byte 0x7E && not (list_any (λ other. other == byte) reserved)

-- the byte itself, or `\x` and its two hexadecimal digits
abbrev pub escaped_byte : List ℕ → ℕ → List ℕ
escaped_byte reserved byte =
    if is_plain reserved byte then byte ∷ [] else codes "\\x" ++ hex_digit (byte / 16) ∷ hex_digit (byte % 16) ∷ []

-- each byte in turn
abbrev pub escaped_by : List ℕ → List ℕ → List ℕ
escaped_by reserved text = flat_map (escaped_byte reserved) text

-- the escaped text of a byte string
unfoldable pub escaped_text : List ℕ → List ℕ
escaped_text text = escaped_by (codes "\\,") text

-- the escaped name of a byte string
unfoldable pub escaped_name : List ℕ → List ℕ
escaped_name name = escaped_by (codes "\\,.(:") name

-- each number is a byte's
abbrev pub AreBytes : List ℕ → Type 0
AreBytes text = All (λ byte. byte < 256) text

-- a byte that an escaped text may have: a printable one, neither a space nor a comma
pub record IsTextByte (byte : ℕ) : Type 0 where
  pub above_space : 0x20 < byte
  pub below_delete : byte < 0x7F
  pub no_comma : byte ≢ 44

-- a byte that an escaped name may have: one of a text, and none of `.`, `(` and `:`
pub record IsNameByte (byte : ℕ) : Type 0 where
  pub in_text : IsTextByte byte
  pub no_dot : byte ≢ 46
  pub no_parenthesis : byte ≢ 40
  pub no_colon : byte ≢ 58
