-- What the table of names keeps while texts are interned.
use Rattle.std.proofs.Common.{◌≡◌, ◌⊎◌, inl, inr, ℕ, zero, suc, ◌<◌, ◌≤◌, Bool, true, false, ◌||◌, cond, List, [], ◌∷◌, ◌++◌, Some, length, get_or, refl, sym, ap, ◌∙◌, arith, length-append}
use Rattle.std.proofs.lemmas.Grind.{fold-append}
use Rattle.std.proofs.lemmas.Option.{slice_get-get_or}
use Rattle.std.proofs.lemmas.List.{get_or_append_left, append_assoc, append-nil}
use Rattle.std.proofs.lemmas.List.Folds.{list_any-append, list_any_at, Any-from_list_any}
use Rattle.std.proofs.lemmas.List.Elements.{All-head, All-tail}
use Rattle.std.proofs.lemmas.List.Sums.{position_or_len_is, fails_before_first, passes_at_first}
use Rattle.std.proofs.lemmas.Map.Keys.{any_passes_from_place}
use Rattle.std.proofs.lemmas.Bool.Decides.{nat_tests}
use Rattle.std.proofs.lemmas.Slice.Eq.{bytes_eq-Decides}
use Rattle.std.specs.List.{All, Contains, slice_get, position_or_len}
use Rattle.std.specs.Str.{bytes_eq}
use Rattle.fp_base.specs.Names.{has_name, number_of, with_name, with_names, AreDistinct, IsNameTable}

-- ---- numbers and texts

-- a text with a number is in the table
pub has_name-at : (names : List (List ℕ)) (i : ℕ) (text : List ℕ) → slice_get names i ≡ Some text → has_name names text ≡ true
has_name-at names i text at = any_passes_from_place (bytes_eq text) names i text at ((bytes_eq-Decides text text).1 refl)

-- the first position of a text that is in the table
first_position : (names : List (List ℕ)) (text : List ℕ) → has_name names text ≡ true → position_or_len (bytes_eq text) names < length names
first_position names text has =
    let (k, x, within, read, passes) = Any-from_list_any (bytes_eq text) names has in
    let before : k < position_or_len (bytes_eq text) names → bytes_eq text (get_or names k x) ≡ false = fails_before_first (bytes_eq text) names k x in
    let here : bytes_eq text (get_or names k x) ≡ true = ap (bytes_eq text) read ∙ passes in
    grind arith

-- which is its number
number_of-first : (names : List (List ℕ)) (text : List ℕ) → has_name names text ≡ true → number_of names text ≡ position_or_len (bytes_eq text) names
unfolding number_of
number_of-first names text has =
    let within : position_or_len (bytes_eq text) names < length names = first_position names text has in
    grind (arith, nat_tests)

-- a text that is in the table stands at its number
pub slice_get-number_of : (names : List (List ℕ)) (text : List ℕ) → has_name names text ≡ true → slice_get names (number_of names text) ≡ Some text
slice_get-number_of names text has =
    let first = position_or_len (bytes_eq text) names in
    let within : first < length names = first_position names text has in
    let same : text ≡ get_or names first text = (bytes_eq-Decides text (get_or names first text)).0 (passes_at_first (bytes_eq text) names text within) in
    ap (slice_get names) (number_of-first names text has) ∙ slice_get-get_or names first text within ∙ ap Some (sym same)

-- where texts are distinct, a text's number is the one position at which it stands
pub number_of-at : (names : List (List ℕ)) (i : ℕ) (text : List ℕ) → AreDistinct names → slice_get names i ≡ Some text → number_of names text ≡ i
number_of-at names i text distinct at = distinct.same_number (number_of names text) i text (slice_get-number_of names text (has_name-at names i text at)) at

-- ---- longer tables

-- a longer table keeps what stands in a shorter one
pub slice_get-append : (names more : List (List ℕ)) (i : ℕ) (text : List ℕ) → slice_get names i ≡ Some text → slice_get (names ++ more) i ≡ Some text
slice_get-append [] more i text at = grind arith
slice_get-append (x ∷ xs) more zero text at = at
slice_get-append (x ∷ xs) more (suc i) text at = slice_get-append xs more i text at

-- a text keeps its number in a longer table
pub number_of-append : (names more : List (List ℕ)) (text : List ℕ) → has_name names text ≡ true → number_of (names ++ more) text ≡ number_of names text
number_of-append names more text has =
    let first = position_or_len (bytes_eq text) names in
    let within : first < length names = first_position names text has in
    let longer : has_name (names ++ more) text ≡ true = list_any-append (bytes_eq text) names more ∙ ap (λ b. b || has_name more text) has in
    let before : (k : ℕ) → k < first → bytes_eq text (get_or (names ++ more) k text) ≡ false = λ (k : ℕ) (h : k < first). ap (bytes_eq text) (get_or_append_left names more text k (omega arith)) ∙ fails_before_first (bytes_eq text) names k text h in
    let here : bytes_eq text (get_or (names ++ more) first text) ≡ true = ap (bytes_eq text) (get_or_append_left names more text first within) ∙ passes_at_first (bytes_eq text) names text within in
    number_of-first (names ++ more) text longer
    ∙ position_or_len_is (bytes_eq text) (names ++ more) first text (omega (arith, length-append names more)) before (λ _. here)
    ∙ sym (number_of-first names text has)

-- ---- one text interned

pub with_name-known : (names : List (List ℕ)) (text : List ℕ) → has_name names text ≡ true → with_name names text ≡ names
unfolding with_name
with_name-known names text has = ap (λ b. cond b names (names ++ text ∷ [])) has

pub with_name-new : (names : List (List ℕ)) (text : List ℕ) → has_name names text ≡ false → with_name names text ≡ names ++ text ∷ []
unfolding with_name
with_name-new names text new = ap (λ b. cond b names (names ++ text ∷ [])) new

-- a table grows at its end alone
pub with_name-extends : (names : List (List ℕ)) (text : List ℕ) → (more : List (List ℕ)) × (with_name names text ≡ names ++ more)
unfolding with_name
with_name-extends names text =
    elim (has_name names text) as (λ b. (more : List (List ℕ)) × (cond b names (names ++ text ∷ []) ≡ names ++ more)) [ true ↦ ([], sym (append-nil names)) | false ↦ (text ∷ [], refl) ]

-- which texts the longer table has
pub has_name-with_name : (names : List (List ℕ)) (text other : List ℕ) → has_name (with_name names text) other ≡ (has_name names other || bytes_eq other text)
has_name-with_name names text other =
    let same : bytes_eq other text ≡ true → has_name names text ≡ has_name names other = λ (h : bytes_eq other text ≡ true). ap (has_name names) (sym ((bytes_eq-Decides other text).0 h)) in
    let known : has_name names text ≡ true → with_name names text ≡ names = with_name-known names text in
    let new : has_name names text ≡ false → with_name names text ≡ names ++ text ∷ [] = with_name-new names text in
    let longer : has_name (names ++ text ∷ []) other ≡ (has_name names other || (bytes_eq other text || false)) = list_any-append (bytes_eq other) names (text ∷ []) in
    elim (has_name names text) as (λ b. has_name names text ≡ b → has_name (with_name names text) other ≡ (has_name names other || bytes_eq other text)) [
      | true ↦ λ has. ap (λ table. has_name table other) (known has) ∙ grind arith
      | false ↦ λ has. ap (λ table. has_name table other) (new has) ∙ grind arith
    ] refl

-- a text that was interned is in the table
pub has_name-interned : (names : List (List ℕ)) (text : List ℕ) → has_name (with_name names text) text ≡ true
has_name-interned names text =
    let same : bytes_eq text text ≡ true = (bytes_eq-Decides text text).1 refl in
    let has : has_name (with_name names text) text ≡ (has_name names text || bytes_eq text text) = has_name-with_name names text text in
    grind arith

-- names keep their numbers
pub slice_get-with_name : (names : List (List ℕ)) (text : List ℕ) (i : ℕ) (other : List ℕ) → slice_get names i ≡ Some other → slice_get (with_name names text) i ≡ Some other
slice_get-with_name names text i other at =
    let (more, is) = with_name-extends names text in
    rw is (slice_get-append names more i other at)

-- ---- several texts interned

or_assoc : (a b c : Bool) → ((a || b) || c) ≡ (a || (b || c))
or_assoc true b c = refl
or_assoc false b c = refl

-- a table grows at its end alone
pub with_names-extends : (names texts : List (List ℕ)) → (more : List (List ℕ)) × (with_names names texts ≡ names ++ more)
with_names-extends names [] = ([], sym (append-nil names))
with_names-extends names (text ∷ texts) =
    let (one, is) = with_name-extends names text in
    let (rest, are) = with_names-extends (with_name names text) texts in
    (one ++ rest, are ∙ ap (λ table. table ++ rest) is ∙ append_assoc names one rest)

-- texts are interned one after another
pub with_names-append : (names some rest : List (List ℕ)) → with_names names (some ++ rest) ≡ with_names (with_names names some) rest
with_names-append names some rest = fold-append with_name names some rest

-- names keep their numbers
pub slice_get-with_names : (names texts : List (List ℕ)) (i : ℕ) (other : List ℕ) → slice_get names i ≡ Some other → slice_get (with_names names texts) i ≡ Some other
slice_get-with_names names [] i other at = at
slice_get-with_names names (text ∷ texts) i other at = slice_get-with_names (with_name names text) texts i other (slice_get-with_name names text i other at)

pub number_of-with_names : (names texts : List (List ℕ)) (text : List ℕ) → has_name names text ≡ true → number_of (with_names names texts) text ≡ number_of names text
number_of-with_names names texts text has =
    let (more, is) = with_names-extends names texts in
    rw is (number_of-append names more text has)

-- which texts the longer table has
pub has_name-with_names : (names texts : List (List ℕ)) (other : List ℕ) → has_name (with_names names texts) other ≡ (has_name names other || has_name texts other)
has_name-with_names names [] other = grind arith
has_name-with_names names (text ∷ texts) other =
    has_name-with_names (with_name names text) texts other
    ∙ ap (λ b. b || has_name texts other) (has_name-with_name names text other)
    ∙ or_assoc (has_name names other) (bytes_eq other text) (has_name texts other)

-- the table keeps its texts
pub has_name-kept : (names texts : List (List ℕ)) (other : List ℕ) → has_name names other ≡ true → has_name (with_names names texts) other ≡ true
has_name-kept names texts other has = has_name-with_names names texts other ∙ ap (λ b. b || has_name texts other) has

-- the table has each text that was interned
pub has_name-among : (names texts : List (List ℕ)) (text : List ℕ) → Contains texts text → has_name (with_names names texts) text ≡ true
has_name-among names texts text (k, within, read) =
    let same : bytes_eq text (get_or texts k text) ≡ true = ap (bytes_eq text) read ∙ (bytes_eq-Decides text text).1 refl in
    let among : has_name texts text ≡ true = list_any_at (bytes_eq text) texts k text within same in
    let has : has_name (with_names names texts) text ≡ (has_name names text || has_name texts text) = has_name-with_names names texts text in
    grind arith

-- texts that are in the table leave it as it is
pub with_names-known : (names texts : List (List ℕ)) → All (λ text. has_name names text ≡ true) texts → with_names names texts ≡ names
with_names-known names [] known = refl
with_names-known names (text ∷ texts) known =
    ap (λ table. with_names table texts) (with_name-known names text (All-head (λ t. has_name names t ≡ true) text texts known))
    ∙ with_names-known names texts (All-tail (λ t. has_name names t ≡ true) text texts known)

-- ---- how long a table is

pub length-le-with_names : (names texts : List (List ℕ)) → length names ≤ length (with_names names texts)
length-le-with_names names texts =
    let (more, is) = with_names-extends names texts in
    omega (arith, ap length is, length-append names more)

-- a new text makes it longer, whatever comes after
pub length-lt-with_names : (names : List (List ℕ)) (text : List ℕ) (texts : List (List ℕ)) → has_name names text ≡ false → length names < length (with_names names (text ∷ texts))
length-lt-with_names names text texts new =
    omega (arith, length-le-with_names (with_name names text) texts, ap length (with_name-new names text new), length-append names (text ∷ []))

-- ---- distinct texts

pub AreDistinct-nil : AreDistinct []
AreDistinct-nil = record { same_number = λ i j text at other. grind arith }

-- what stands in a table with one more text
slice_get_push : (names : List (List ℕ)) (text : List ℕ) (i : ℕ) (other : List ℕ) → slice_get (names ++ text ∷ []) i ≡ Some other → (slice_get names i ≡ Some other) ⊎ ((i ≡ length names) × (other ≡ text))
slice_get_push [] text zero other at = grind arith
slice_get_push [] text (suc i) other at = grind arith
slice_get_push (x ∷ xs) text zero other at = inl at
slice_get_push (x ∷ xs) text (suc i) other at =
    elim (slice_get_push xs text i other at) [ inl old ↦ inl old | inr new ↦ inr (ap suc new.0, new.1) ]

apart : (names : List (List ℕ)) (text other : List ℕ) → has_name names text ≡ false → has_name names other ≡ true → other ≡ text → ⊥
apart names text other new old same =
    let also : has_name names other ≡ has_name names text = ap (has_name names) same in
    grind arith

pub AreDistinct-push : (names : List (List ℕ)) (text : List ℕ) → AreDistinct names → has_name names text ≡ false → AreDistinct (names ++ text ∷ [])
AreDistinct-push names text distinct new = record {
  same_number = λ i j other at also.
      let old_i : slice_get names i ≡ Some other → has_name names other ≡ true = has_name-at names i other in
      let old_j : slice_get names j ≡ Some other → has_name names other ≡ true = has_name-at names j other in
      let both : slice_get names i ≡ Some other → slice_get names j ≡ Some other → i ≡ j = distinct.same_number i j other in
      elim (slice_get_push names text i other at) [
        | inl a ↦ elim (slice_get_push names text j other also) [ inl b ↦ both a b | inr b ↦ absurd (apart names text other new (old_i a) b.1) ]
        | inr a ↦ elim (slice_get_push names text j other also) [ inl b ↦ absurd (apart names text other new (old_j b) a.1) | inr b ↦ a.0 ∙ sym b.0 ]
      ];
}

pub AreDistinct-with_name : (names : List (List ℕ)) (text : List ℕ) → AreDistinct names → AreDistinct (with_name names text)
AreDistinct-with_name names text distinct =
    elim (has_name names text) as (λ b. has_name names text ≡ b → AreDistinct (with_name names text)) [
      | true ↦ λ has. rw (with_name-known names text has) distinct
      | false ↦ λ new. rw (with_name-new names text new) (AreDistinct-push names text distinct new)
    ] refl

pub AreDistinct-with_names : (names texts : List (List ℕ)) → AreDistinct names → AreDistinct (with_names names texts)
AreDistinct-with_names names [] distinct = distinct
AreDistinct-with_names names (text ∷ texts) distinct = AreDistinct-with_names (with_name names text) texts (AreDistinct-with_name names text distinct)

-- ---- a table and one new text

-- the last text of a longer table
pub slice_get_last : (names : List (List ℕ)) (text : List ℕ) → slice_get (names ++ text ∷ []) (length names) ≡ Some text
slice_get_last [] text = refl
slice_get_last (x ∷ xs) text = slice_get_last xs text

-- a table that is not full stays a table with one new text
pub IsNameTable-push : (names longer : List (List ℕ)) (text : List ℕ) → IsNameTable names → has_name names text ≡ false → length names < 16777216 → longer ≡ names ++ text ∷ [] → IsNameTable longer
IsNameTable-push names longer text table new room is = rw is (record { distinct = AreDistinct-push names text table.distinct new; within_limit = omega (arith, length-append names (text ∷ [])) })

-- for functions that intern
pub ruleset interning = (with_name-known, with_name-new, AreDistinct-push, slice_get_last)
