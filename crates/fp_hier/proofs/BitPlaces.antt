-- Where the bits of rows stand, and what a write leaves.
use Rattle.std.proofs.Common.{◌≡◌, ◌≢◌, ◌<◌, ◌≤◌, ◌+◌, ◌*◌, ◌/◌, ◌%◌, ◌^◌, ◌==◌, ◌&&◌, ◌||◌, nat_lt, max, ℕ, zero, suc, Bool, true, false, List, length, get_or, set, bit_or, replicate, refl, sym, ap, ◌∙◌, arith, ⊎_elim, w64}
use Rattle.std.specs.Int.{bit_at}
use Rattle.std.proofs.lemmas.Bool.{cases_eq, cases_lt, eq-eqb, le-ltb, lt-ltb, ne_eqb}
use Rattle.std.proofs.lemmas.List.{get_or-replicate, get_or-set_same, get_or-set_other, get_or_past, length-replicate, length-set}
use Rattle.std.proofs.lemmas.Nat.{mul-add-lt, same_from_place, div_below, mod_below}
use Rattle.std.proofs.lemmas.Nat.Bits.{bit_at-lt, bit_at-zero, bit_at_or, bit_at_set_same, bit_at_set_other}
use Rattle.std.proofs.Math.Nat.{mul_comm}
use Rattle.fp_hier.specs.BitRows.{HoldsRows, Marks, bit_in, bit_of}
use Rattle.fp_hier.specs.declared.bit_rows.BitRows.{BitRows}

-- ---- the places

module _ (t : BitRows) (holds : HoldsRows t) where
  pub word-within : (index column : ℕ) → index < t.height → column < t.columns → index * t.columns + column < length t.words.items
  word-within index column h k = omega (arith, mul-add-lt index t.columns column t.height h k, mul_comm t.columns t.height, holds.all_words)

  pub index-within : (row : ℕ) → row < t.rows → row / 64 < t.height
  index-within row h = div_below row 64 t.height (omega arith) (omega (arith, h, holds.enough))

  pub bit-within : (row column : ℕ) → row < t.rows → column < t.columns → row / 64 * t.columns + column < length t.words.items
  bit-within row column h k = word-within (row / 64) column (index-within row h) k

-- ---- no bit is set

no-word : (count i : ℕ) → ◌≡◌ {A = ℕ} (get_or (replicate count 0) i 0) 0
no-word count i =
    ⊎_elim (λ h. get_or-replicate {A = ℕ} count i 0 0 h) (λ h. get_or_past (replicate {A = ℕ} count 0) i 0 (omega (arith, h, length-replicate {A = ℕ} count 0))) (cases_lt i count)

pub no-bit : (words : List ℕ) (count columns row column : ℕ) → words ≡ replicate count 0 → bit_in words columns row column ≡ false
no-bit words count columns row column is =
    ap (λ (l : List ℕ). bit_in l columns row column) is
    ∙ ap (λ (w : ℕ). bit_at w (row % 64) == 1) (no-word count (row / 64 * columns + column))
    ∙ ap (λ (n : ℕ). n == 1) (bit_at-zero (row % 64))

-- ---- tests

or-set : (b x y : Bool) → x ≡ true → y ≡ true → true ≡ (b || (x && y))
or-set true x y first second = refl
or-set false x y first second = sym (ap (λ (t : Bool). t && y) first ∙ second)

or-row : (b x y : Bool) → y ≡ false → b ≡ (b || (x && y))
or-row true x y other = refl
or-row false true y other = sym other
or-row false false y other = refl

or-column : (b x y : Bool) → x ≡ false → b ≡ (b || (x && y))
or-column true x y other = refl
or-column false x y other = sym (ap (λ (t : Bool). t && y) other)

-- ---- a bit is set

-- what the word of a bit becomes
abbrev pub with_bit : (words : List ℕ) (at k : ℕ) → List ℕ
with_bit words at k = set words at (bit_or (get_or words at 0) (1 * 2 ^ k % 2 ^ 64))

module _ (words : List ℕ) (columns row column : ℕ) (there : row / 64 * columns + column < length words) (narrow : column < columns) where
  abbrev place : ℕ
  place = row / 64 * columns + column

  abbrev changed : List ℕ
  changed = with_bit words place (row % 64)

  set-itself : bit_in changed columns row column ≡ true
  set-itself =
      ap (λ w. bit_at w (row % 64) == 1) (get_or-set_same words place (bit_or (get_or words place 0) (1 * 2 ^ (row % 64) % 2 ^ 64)) 0 there)
      ∙ ap (λ n. n == 1) (bit_at_set_same w64 (get_or words place 0) (row % 64) (mod_below row 64 (omega arith)))

  other-word : (r c : ℕ) → r / 64 * columns + c ≢ place → bit_in changed columns r c ≡ bit_in words columns r c
  other-word r c other =
      ap (λ w. bit_at w (r % 64) == 1) (get_or-set_other words place (r / 64 * columns + c) (bit_or (get_or words place 0) (1 * 2 ^ (row % 64) % 2 ^ 64)) 0 other)

  same-word : (r : ℕ) → r / 64 ≡ row / 64 → r ≢ row → bit_in changed columns r column ≡ bit_in words columns r column
  same-word r same other =
      let at : r / 64 * columns + column ≡ place = ap (λ (q : ℕ). q * columns + column) same in
      ap (λ i. bit_at (get_or changed i 0) (r % 64) == 1) at
      ∙ ap (λ w. bit_at w (r % 64) == 1) (get_or-set_same words place (bit_or (get_or words place 0) (1 * 2 ^ (row % 64) % 2 ^ 64)) 0 there)
      ∙ ap (λ n. n == 1) (bit_at_set_other w64 (get_or words place 0) (row % 64) (mod_below row 64 (omega arith)) (r % 64) (λ e. other (omega (arith, e, same))))
      ∙ ap (λ i. bit_at (get_or words i 0) (r % 64) == 1) (sym at)

  set-column : (r : ℕ) → bit_in changed columns r column ≡ (bit_in words columns r column || ((column == column) && (r == row)))
  set-column r =
      ⊎_elim
      (λ same. ap (λ (q : ℕ). bit_in changed columns q column) same ∙ set-itself ∙ or-set (bit_in words columns r column) (column == column) (r == row) (eq-eqb column column refl) (eq-eqb r row same))
      (λ other.
      ⊎_elim (λ same. same-word r same other) (λ apart. other-word r column (λ e. apart (same_from_place (r / 64) column (row / 64) column columns narrow narrow e).0)) (cases_eq (r / 64) (row / 64))
      ∙ or-row (bit_in words columns r column) (column == column) (r == row) (ne_eqb r row other))
      (cases_eq r row)

  pub set-bits : (r c : ℕ) → c < columns → bit_in changed columns r c ≡ (bit_in words columns r c || ((c == column) && (r == row)))
  set-bits r c within =
      ⊎_elim
      (λ same. ap (λ (k : ℕ). bit_in changed columns r k) same ∙ set-column r ∙ ap (λ (k : ℕ). bit_in words columns r k || ((k == column) && (r == row))) (sym same))
      (λ other. other-word r c (λ e. other (same_from_place (r / 64) c (row / 64) column columns within narrow e).1) ∙ or-column (bit_in words columns r c) (c == column) (r == row) (ne_eqb c column other))
      (cases_eq c column)

-- ---- a column is joined

either-is : (m n : ℕ) → m < 2 → n < 2 → (max m n == 1) ≡ ((m == 1) || (n == 1))
either-is zero zero h k = refl
either-is zero (suc zero) h k = refl
either-is zero (suc (suc n)) h k = absurd (omega (arith, k))
either-is (suc zero) zero h k = refl
either-is (suc zero) (suc zero) h k = refl
either-is (suc zero) (suc (suc n)) h k = absurd (omega (arith, k))
either-is (suc (suc m)) n h k = absurd (omega (arith, h))

either-bit : (x y i : ℕ) → (bit_at (bit_or x y) i == 1) ≡ ((bit_at x i == 1) || (bit_at y i == 1))
either-bit x y i = ap (λ n. n == 1) (bit_at_or x y i) ∙ either-is (bit_at x i) (bit_at y i) (bit_at-lt x i) (bit_at-lt y i)

-- a column is joined as far as its first words
pub record IsJoined (columns column from index : ℕ) (old now : List ℕ) : Type 0 where
  pub long : length now ≡ length old
  pub bits : (r c : ℕ) → c < columns → bit_in now columns r c ≡ (bit_in old columns r c || ((c == column) && (nat_lt (r / 64) index && bit_in old columns r from)))

none-lower : (b x y t : Bool) → t ≡ false → b ≡ (b || (x && (t && y)))
none-lower b x y t none = or-row b x (t && y) (ap (λ (s : Bool). s && y) none)

pub none-joined : (columns column from : ℕ) (old now : List ℕ) → now ≡ old → IsJoined columns column from 0 old now
none-joined columns column from old now same = record {
  long = ap length same;
  bits = λ r c within.
      ap (λ (l : List ℕ). bit_in l columns r c) same
      ∙ none-lower (bit_in old columns r c) (c == column) (bit_in old columns r from) (nat_lt (r / 64) 0) (le-ltb (r / 64) 0 (omega arith));
}

module _ (columns column from index : ℕ) (old now : List ℕ) (x y : ℕ) (before : IsJoined columns column from index old now) (narrow : column < columns) (known : from < columns)
    (there : index * columns + column < length now) (first : x ≡ get_or now (index * columns + column) 0) (second : y ≡ get_or now (index * columns + from) 0) where
  abbrev spot : ℕ
  spot = index * columns + column

  abbrev joined : List ℕ
  joined = set now spot (bit_or x y)

  unjoined : (r c : ℕ) → r / 64 * columns + c ≢ spot → bit_in joined columns r c ≡ bit_in now columns r c
  unjoined r c other = ap (λ w. bit_at w (r % 64) == 1) (get_or-set_other now spot (r / 64 * columns + c) (bit_or x y) 0 other)

  still : (r c : ℕ) → c < columns → r / 64 ≡ index → bit_in now columns r c ≡ bit_in old columns r c
  still r c within same =
      before.bits r c within
      ∙ sym (none-lower (bit_in old columns r c) (c == column) (bit_in old columns r from) (nat_lt (r / 64) index) (le-ltb (r / 64) index (omega (arith, same))))

  at-word : (r c : ℕ) → r / 64 ≡ index → (bit_at (get_or now (index * columns + c) 0) (r % 64) == 1) ≡ bit_in now columns r c
  at-word r c same = ap (λ (q : ℕ). bit_at (get_or now (q * columns + c) 0) (r % 64) == 1) (sym same)

  here : (r : ℕ) → r / 64 ≡ index → bit_in joined columns r column ≡ (bit_in old columns r column || ((column == column) && (nat_lt (r / 64) (index + 1) && bit_in old columns r from)))
  here r same =
      ap (λ (q : ℕ). bit_at (get_or joined (q * columns + column) 0) (r % 64) == 1) same
      ∙ ap (λ w. bit_at w (r % 64) == 1) (get_or-set_same now spot (bit_or x y) 0 there)
      ∙ either-bit x y (r % 64)
      ∙ ap (λ (w : ℕ). (bit_at w (r % 64) == 1) || (bit_at y (r % 64) == 1)) first
      ∙ ap (λ (w : ℕ). (bit_at (get_or now (index * columns + column) 0) (r % 64) == 1) || (bit_at w (r % 64) == 1)) second
      ∙ ap (λ (b : Bool). b || (bit_at (get_or now (index * columns + from) 0) (r % 64) == 1)) (at-word r column same ∙ still r column narrow same)
      ∙ ap (λ (b : Bool). bit_in old columns r column || b) (at-word r from same ∙ still r from known same)
      ∙ sym (ap (λ (t : Bool). bit_in old columns r column || (t && (nat_lt (r / 64) (index + 1) && bit_in old columns r from))) (eq-eqb column column refl)
      ∙ ap (λ (t : Bool). bit_in old columns r column || (t && bit_in old columns r from)) (lt-ltb (r / 64) (index + 1) (omega (arith, same))))

  later : (r : ℕ) → r / 64 ≢ index → nat_lt (r / 64) index ≡ nat_lt (r / 64) (index + 1)
  later r other =
      ⊎_elim (λ less. lt-ltb (r / 64) index less ∙ sym (lt-ltb (r / 64) (index + 1) (omega (arith, less))))
      (λ past. le-ltb (r / 64) index past ∙ sym (le-ltb (r / 64) (index + 1) (omega (arith, past, other)))) (cases_lt (r / 64) index)

  there-bits : (r c : ℕ) → c < columns → r / 64 ≢ index → bit_in joined columns r c ≡ (bit_in old columns r c || ((c == column) && (nat_lt (r / 64) (index + 1) && bit_in old columns r from)))
  there-bits r c within other =
      unjoined r c (λ e. other (same_from_place (r / 64) c index column columns within narrow e).0)
      ∙ before.bits r c within
      ∙ ap (λ (t : Bool). bit_in old columns r c || ((c == column) && (t && bit_in old columns r from))) (later r other)

  beside : (r c : ℕ) → c < columns → c ≢ column → bit_in joined columns r c ≡ (bit_in old columns r c || ((c == column) && (nat_lt (r / 64) (index + 1) && bit_in old columns r from)))
  beside r c within other =
      unjoined r c (λ e. other (same_from_place (r / 64) c index column columns within narrow e).1)
      ∙ before.bits r c within
      ∙ sym (or-column (bit_in old columns r c) (c == column) (nat_lt (r / 64) index && bit_in old columns r from) (ne_eqb c column other))
      ∙ or-column (bit_in old columns r c) (c == column) (nat_lt (r / 64) (index + 1) && bit_in old columns r from) (ne_eqb c column other)

  pub word-joined : IsJoined columns column from (index + 1) old joined
  word-joined = record {
    long = length-set now spot (bit_or x y) ∙ before.long;
    bits = λ r c within.
        ⊎_elim
        (λ same.
        ⊎_elim (λ row. ap (λ (k : ℕ). bit_in joined columns r k) same ∙ here r row ∙ ap (λ (k : ℕ). bit_in old columns r k || ((k == column) && (nat_lt (r / 64) (index + 1) && bit_in old columns r from))) (sym same))
        (λ other. there-bits r c within other) (cases_eq (r / 64) index))
        (λ other. beside r c within other) (cases_eq c column);
  }

-- all words are joined
pub column-joined : (old new : BitRows) (column from index : ℕ) → HoldsRows old → old.height ≤ index → IsJoined old.columns column from index old.words.items new.words.items →
    new.rows ≡ old.rows → new.columns ≡ old.columns → new.height ≡ old.height → Marks column (λ r. bit_of old r from) old new
column-joined old new column from index holds past joined rows columns height = record {
  bits = λ row c in_rows in_columns.
      ap (λ (n : ℕ). bit_in new.words.items n row c) columns
      ∙ joined.bits row c in_columns
      ∙ ap (λ (t : Bool). bit_in old.words.items old.columns row c || ((c == column) && (t && bit_in old.words.items old.columns row from))) (lt-ltb (row / 64) index (omega (arith, index-within old holds row in_rows, past)));
  rows = rows;
  columns = columns;
  holds = λ h. record {
    all_words = joined.long ∙ h.all_words ∙ ap (λ (n : ℕ). n * old.columns) (sym height) ∙ ap (λ (n : ℕ). new.height * n) (sym columns);
    enough = omega (arith, h.enough, rows, height);
  };
}

pub bit-set : (old new : BitRows) (row column word : ℕ) → HoldsRows old → row < old.rows → column < old.columns → word ≡ get_or old.words.items (row / 64 * old.columns + column) 0 →
    new.words.items ≡ set old.words.items (row / 64 * old.columns + column) (bit_or word (1 * 2 ^ (row % 64) % 2 ^ 64)) → new.rows ≡ old.rows → new.columns ≡ old.columns → new.height ≡ old.height →
    Marks column (λ r. r == row) old new
bit-set old new row column word holds in_rows in_columns read made rows columns height =
    let there = bit-within old holds row column in_rows in_columns in
    let are : new.words.items ≡ with_bit old.words.items (row / 64 * old.columns + column) (row % 64) =
    made ∙ ap (λ (w : ℕ). set old.words.items (row / 64 * old.columns + column) (bit_or w (1 * 2 ^ (row % 64) % 2 ^ 64))) read in
    record {
      bits = λ r c h k.
          ap (λ (n : ℕ). bit_in new.words.items n r c) columns
          ∙ ap (λ (l : List ℕ). bit_in l old.columns r c) are
          ∙ set-bits old.words.items old.columns row column there in_columns r c k;
      rows = rows;
      columns = columns;
      holds = λ h. record {
        all_words = ap length made ∙ length-set old.words.items (row / 64 * old.columns + column) (bit_or word (1 * 2 ^ (row % 64) % 2 ^ 64)) ∙ h.all_words ∙ ap (λ (n : ℕ). n * old.columns) (sym height) ∙ ap (λ (n : ℕ). new.height * n) (sym columns);
        enough = omega (arith, h.enough, rows, height);
      };
    }
