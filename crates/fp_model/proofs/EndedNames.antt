-- Where a class name and its ';' stop.
use Rattle.std.proofs.Common.{◌≡◌, ◌≢◌, inl, inr, ℕ, suc, ◌+◌, ◌-◌, ◌<◌, ◌≤◌, Bool, true, false, ◌&&◌, List, [], ◌∷◌, ◌++◌, length, take, drop, get_or, refl, sym, ap, ◌∙◌, arith, length-append, add-one, drop-cons}
use Rattle.std.specs.Prelude.{◌==◌, nat_lt, take_while}
use Rattle.std.specs.List.{list_all, prefix_len}
use Rattle.std.proofs.lemmas.List.{append-nil, append_assoc, take-append-drop}
use Rattle.std.proofs.lemmas.Grind.{common_steps}
use Rattle.std.proofs.lemmas.List.Folds.{length-prefix_len, list_all-append}
use Rattle.std.proofs.lemmas.List.Sums.{take_while-cons}
use Rattle.std.proofs.Math.Seq.{take-append_seam}
use Rattle.std.proofs.lemmas.Bool.{and_parts, and_left, and_right, and_from, ne_eqb, both_ways, cases_lt, cases_eq, lt-ltb}
use Rattle.std.proofs.lemmas.Bool.Decides.{nat_tests}
use Rattle.fp_model.specs.Descriptor.{is_name_byte, is_ended_name, GoesOn, StopsAt}
use Rattle.fp_model.proofs.Stops.{StopsAt-byte, StopsAt-end}

-- ---- a text by its last byte

by_length : (text : List ℕ) (n : ℕ) → length text ≡ suc n → is_ended_name text ≡ (nat_lt 0 n && ((get_or text n 0 == 59) && list_all is_name_byte (take n text)))
by_length text n e =
    let k : length text - 1 ≡ n = omega arith in
    let longer : nat_lt 1 (length text) ≡ nat_lt 0 n = grind (arith, nat_tests) in
    rw (k, longer) refl

last_byte : (name : List ℕ) (byte : ℕ) → get_or (name ++ byte ∷ []) (length name) 0 ≡ byte
last_byte [] byte = refl
last_byte (x ∷ xs) byte = last_byte xs byte

pub is_ended_name-push : (name : List ℕ) (byte : ℕ) → is_ended_name (name ++ byte ∷ []) ≡ (nat_lt 0 (length name) && ((byte == 59) && list_all is_name_byte name))
is_ended_name-push name byte =
    let n : length (name ++ byte ∷ []) ≡ suc (length name) = omega (arith, length-append name (byte ∷ [])) in
    by_length (name ++ byte ∷ []) (length name) n
    ∙ ap (λ b. nat_lt 0 (length name) && ((b == 59) && list_all is_name_byte (take (length name) (name ++ byte ∷ [])))) (last_byte name byte)
    ∙ ap (λ t. nat_lt 0 (length name) && ((byte == 59) && list_all is_name_byte t)) (take-append_seam name (byte ∷ []))

-- a text that is not empty has a last byte
pub front_and_last : (x : ℕ) (xs : List ℕ) → (front : List ℕ) × (last : ℕ) × (x ∷ xs ≡ front ++ last ∷ [])
front_and_last x [] = ([], x, refl)
front_and_last x (y ∷ ys) =
    let (front, last, is) = front_and_last y ys in
    (x ∷ front, last, ap (λ t. x ∷ t) is)

-- ---- what is a name with its ';', and what is none

-- a name and its ';'
pub is_ended_name-name : (name : List ℕ) → 0 < length name → list_all is_name_byte name ≡ true → is_ended_name (name ++ 59 ∷ []) ≡ true
is_ended_name-name name some passes =
    is_ended_name-push name 59 ∙ and_from (nat_lt 0 (length name)) (list_all is_name_byte name) (lt-ltb 0 (length name) some) passes

-- a byte of no name, and more behind it
inner : (name : List ℕ) (byte x : ℕ) (xs : List ℕ) → is_name_byte byte ≡ false → is_ended_name (name ++ byte ∷ x ∷ xs) ≡ false
inner name byte x xs fails =
    let (front, last, is) = front_and_last x xs in
    let split : name ++ byte ∷ x ∷ xs ≡ (name ++ byte ∷ front) ++ last ∷ [] = ap (λ t. name ++ byte ∷ t) is ∙ sym (append_assoc name (byte ∷ front) (last ∷ [])) in
    let none : list_all is_name_byte (name ++ byte ∷ front) ≡ false = list_all-append is_name_byte name (byte ∷ front) ∙ and_right (list_all is_name_byte name) _ (and_left (is_name_byte byte) (list_all is_name_byte front) fails) in
    ap is_ended_name split
    ∙ is_ended_name-push (name ++ byte ∷ front) last
    ∙ and_right (nat_lt 0 (length (name ++ byte ∷ front))) _ (and_right (last == 59) (list_all is_name_byte (name ++ byte ∷ front)) none)

-- a byte that is no ';' at the end
other : (name : List ℕ) (byte : ℕ) → byte ≢ 59 → is_ended_name (name ++ byte ∷ []) ≡ false
other name byte ne =
    is_ended_name-push name byte
    ∙ and_right (nat_lt 0 (length name)) _ (and_left (byte == 59) (list_all is_name_byte name) (ne_eqb byte 59 ne))

-- a byte of a name is no ';'
no_end : (byte : ℕ) → is_name_byte byte ≡ true → byte ≢ 59
no_end byte passes e = both_ways (is_name_byte byte) (ap is_name_byte e) passes

-- bytes of a name alone
unended : (name : List ℕ) → list_all is_name_byte name ≡ true → is_ended_name name ≡ false
unended [] passes = refl
unended (x ∷ xs) passes =
    let (front, last, is) = front_and_last x xs in
    let all : (list_all is_name_byte front && (is_name_byte last && true)) ≡ true = sym (list_all-append is_name_byte front (last ∷ [])) ∙ ap (list_all is_name_byte) (sym is) ∙ passes in
    let here : (is_name_byte last && true) ≡ true = (and_parts (list_all is_name_byte front) (is_name_byte last && true) all).1 in
    ap is_ended_name is ∙ other front last (no_end last (and_parts (is_name_byte last) true here).0)

-- a name goes on
goes_on : (name : List ℕ) → list_all is_name_byte name ≡ true → GoesOn is_ended_name name
goes_on name passes =
    let all : list_all is_name_byte (name ++ 97 ∷ []) ≡ true = list_all-append is_name_byte name (97 ∷ []) ∙ and_from (list_all is_name_byte name) true passes refl in
    let some : 0 < length (name ++ 97 ∷ []) = omega (arith, length-append name (97 ∷ [])) in
    (97 ∷ 59 ∷ [], ap is_ended_name (sym (append_assoc name (97 ∷ []) (59 ∷ []))) ∙ is_ended_name-name (name ++ 97 ∷ []) some all)

-- ---- the longest front that is a name

pub all_front : (p : ℕ → Bool) (xs : List ℕ) → list_all p (take_while p xs) ≡ true
all_front p [] = refl
all_front p (x ∷ xs) =
    let rest : list_all p (take_while p xs) ≡ true = all_front p xs in
    elim (p x) as (λ b. p x ≡ b → list_all p (take_while p (x ∷ xs)) ≡ true) [
      | true ↦ λ h. rw (take_while-cons p x xs, h) (grind arith)
      | false ↦ λ h. rw (take_while-cons p x xs, h) refl
    ] refl

next_fails : (p : ℕ → Bool) (xs : List ℕ) (c : ℕ) (rest : List ℕ) → drop (length (take_while p xs)) xs ≡ c ∷ rest → p c ≡ false
next_fails p [] c rest = λ e. absurd cc
next_fails p (x ∷ xs) c rest =
    elim (p x) as (λ b. p x ≡ b → drop (length (take_while p (x ∷ xs))) (x ∷ xs) ≡ c ∷ rest → p c ≡ false) [
      | true ↦ λ h e. next_fails p xs c rest (rw (take_while-cons p x xs, h) at e)
      | false ↦ λ h e. let k : x ∷ xs ≡ c ∷ rest = rw (take_while-cons p x xs, h) at e in let same : x ≡ c = cc in ap p (sym same) ∙ h
    ] refl

-- ---- where a text stops, by what follows its name

module _ (text : List ℕ) (name rest : List ℕ) (is : name ++ rest ≡ text) (passes : list_all is_name_byte name ≡ true) where
  stops_short : rest ≡ [] → StopsAt is_ended_name text (length name)
  stops_short e =
      let whole : name ≡ text = sym (append-nil name) ∙ ap (λ r. name ++ r) (sym e) ∙ is in
      rw (sym whole) (StopsAt-end is_ended_name name (goes_on name passes) (unended name passes))

  stops_other : (byte : ℕ) (more : List ℕ) → rest ≡ byte ∷ more → is_name_byte byte ≡ false → byte ≢ 59 → StopsAt is_ended_name text (length name)
  stops_other byte more e fails ne =
      let whole : name ++ byte ∷ more ≡ text = ap (λ r. name ++ r) (sym e) ∙ is in
      rw (sym whole) (StopsAt-byte is_ended_name name byte more (goes_on name passes) (λ t. elim t as (λ t. is_ended_name (name ++ byte ∷ t) ≡ false) [ [] ↦ other name byte ne | x ∷ xs ↦ inner name byte x xs fails ]))

  stops_empty : (more : List ℕ) → rest ≡ 59 ∷ more → length name ≡ 0 → StopsAt is_ended_name text (length name)
  stops_empty more e none =
      let whole : name ++ 59 ∷ more ≡ text = ap (λ r. name ++ r) (sym e) ∙ is in
      let empty : is_ended_name (name ++ 59 ∷ []) ≡ false = is_ended_name-push name 59 ∙ ap (λ n. nat_lt 0 n && (true && list_all is_name_byte name)) none in
      rw (sym whole) (StopsAt-byte is_ended_name name 59 more (goes_on name passes) (λ t. elim t as (λ t. is_ended_name (name ++ 59 ∷ t) ≡ false) [ [] ↦ empty | x ∷ xs ↦ inner name 59 x xs refl ]))

  stops_behind : (byte : ℕ) (more : List ℕ) → rest ≡ 59 ∷ byte ∷ more → 0 < length name → StopsAt is_ended_name text (length name + 1)
  stops_behind byte more e some =
      let whole : (name ++ 59 ∷ []) ++ byte ∷ more ≡ text = append_assoc name (59 ∷ []) (byte ∷ more) ∙ ap (λ r. name ++ r) (sym e) ∙ is in
      let ended : is_ended_name ((name ++ 59 ∷ []) ++ []) ≡ true = ap is_ended_name (append-nil (name ++ 59 ∷ [])) ∙ is_ended_name-name name some passes in
      let none : (t : List ℕ) → is_ended_name ((name ++ 59 ∷ []) ++ byte ∷ t) ≡ false = λ (t : List ℕ). ap is_ended_name (append_assoc name (59 ∷ []) (byte ∷ t)) ∙ inner name 59 byte t refl in
      let place : length name + 1 ≡ length (name ++ 59 ∷ []) = sym (length-append name (59 ∷ [])) in
      rw (sym whole, place) (StopsAt-byte is_ended_name (name ++ 59 ∷ []) byte more ([], ended) none)

  ends_whole : rest ≡ 59 ∷ [] → 0 < length name → is_ended_name text ≡ true
  ends_whole e some = ap is_ended_name (sym is ∙ ap (λ r. name ++ r) e) ∙ is_ended_name-name name some passes

-- ---- the same by the length of the name

pub split : (text : List ℕ) → take_while is_name_byte text ++ drop (length (take_while is_name_byte text)) text ≡ text
split text = rw (length-prefix_len is_name_byte text) (take-append-drop (prefix_len is_name_byte text) text)

-- the byte behind the name is of none
pub behind : (text : List ℕ) (byte : ℕ) (more : List ℕ) → drop (length (take_while is_name_byte text)) text ≡ byte ∷ more → is_name_byte byte ≡ false
behind text = next_fails is_name_byte text

-- a byte within a text, and what stands behind it
pub at_byte : (text : List ℕ) (len : ℕ) → len < length text → drop len text ≡ get_or text len 0 ∷ drop (len + 1) text
at_byte text len lt = rw add-one (drop-cons text len 0 lt)

module _ (text : List ℕ) (len : ℕ) (count : len ≡ length (take_while is_name_byte text)) where
  rest_is : (rest : List ℕ) → drop len text ≡ rest → drop (length (take_while is_name_byte text)) text ≡ rest
  rest_is rest e = ap (λ n. drop n text) (sym count) ∙ e

  -- the text ends in its name
  pub name_at_end : len ≡ length text → StopsAt is_ended_name text len
  name_at_end e =
      let none : drop len text ≡ [] = grind (arith, common_steps) in
      rw count (stops_short text (take_while is_name_byte text) (drop (length (take_while is_name_byte text)) text) (split text) (all_front is_name_byte text) (rest_is [] none))

  -- a byte stands behind it that is no ';'
  pub name_at_other : len < length text → get_or text len 0 ≢ 59 → StopsAt is_ended_name text len
  name_at_other lt ne =
      let here : drop (length (take_while is_name_byte text)) text ≡ get_or text len 0 ∷ drop (len + 1) text = rest_is _ (at_byte text len lt) in
      rw count (stops_other text (take_while is_name_byte text) (drop (length (take_while is_name_byte text)) text) (split text) (all_front is_name_byte text) (get_or text len 0) (drop (len + 1) text) here (behind text _ _ here) ne)

  -- a ';' and no name
  name_none : len < length text → get_or text len 0 ≡ 59 → len ≡ 0 → StopsAt is_ended_name text len
  name_none lt is none =
      let here : drop len text ≡ 59 ∷ drop (len + 1) text = at_byte text len lt ∙ ap (λ b. b ∷ drop (len + 1) text) is in
      rw count (stops_empty text (take_while is_name_byte text) (drop (length (take_while is_name_byte text)) text) (split text) (all_front is_name_byte text) (drop (len + 1) text) (rest_is _ here) (sym count ∙ none))

  -- no name
  pub name_empty : len ≡ 0 → len ≤ length text → StopsAt is_ended_name text len
  name_empty none le = elim (cases_lt len (length text)) [
    | inl lt ↦ elim (cases_eq (get_or text len 0) 59) [ inl is ↦ name_none lt is none | inr ne ↦ name_at_other lt ne ]
    | inr ge ↦ name_at_end (omega arith)
  ]

  -- a name, a ';' and a byte behind them
  pub name_and_more : 0 < len → len + 1 < length text → get_or text len 0 ≡ 59 → StopsAt is_ended_name text (len + 1)
  name_and_more some lt is =
      let two : drop len text ≡ 59 ∷ get_or text (len + 1) 0 ∷ drop (len + 1 + 1) text = at_byte text len (omega arith) ∙ ap (λ b. b ∷ drop (len + 1) text) is ∙ ap (λ t. 59 ∷ t) (at_byte text (len + 1) lt) in
      let there : 0 < length (take_while is_name_byte text) = omega arith in
      rw count (stops_behind text (take_while is_name_byte text) (drop (length (take_while is_name_byte text)) text) (split text) (all_front is_name_byte text) (get_or text (len + 1) 0) (drop (len + 1 + 1) text) (rest_is _ two) there)

  -- a name and a ';'
  pub name_whole : 0 < len → len + 1 ≡ length text → get_or text len 0 ≡ 59 → is_ended_name text ≡ true
  name_whole some e is =
      let end : drop (len + 1) text ≡ [] = grind (arith, common_steps) in
      let one : drop len text ≡ 59 ∷ [] = at_byte text len (omega arith) ∙ ap (λ b. b ∷ drop (len + 1) text) is ∙ ap (λ t. 59 ∷ t) end in
      let there : 0 < length (take_while is_name_byte text) = omega arith in
      ends_whole text (take_while is_name_byte text) (drop (length (take_while is_name_byte text)) text) (split text) (all_front is_name_byte text) (rest_is _ one) there

-- for the function that looks for the place
pub ruleset name_stops = (name_empty, name_at_end, name_at_other, name_and_more, name_whole)
