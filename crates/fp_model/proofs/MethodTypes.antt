-- Where a method descriptor stops: its '(', the field descriptors behind it, its ')', and its result.
use Rattle.std.proofs.Common.{◌≡◌, ◌≢◌, inl, inr, ℕ, zero, suc, ◌+◌, ◌-◌, ◌<◌, ◌≤◌, Bool, true, false, ◌&&◌, ◌||◌, cond, List, [], ◌∷◌, ◌++◌, length, take, drop, get_or, replicate, codes, refl, sym, ap, ◌∙◌, subst, arith, length-append, length-drop, add-one, drop-cons}
use Rattle.std.specs.Prelude.{◌==◌, nat_lt, nat_le, take_while, Option, Some, None, IfSome}
use Rattle.std.specs.List.{list_all}
use Rattle.std.specs.Str.{bytes_eq}
use Rattle.std.proofs.lemmas.List.{append_assoc, drop_all, get_or-drop, take-append-drop, take-append-le, take-take, take_all, length-take, length-take-le, length-replicate}
use Rattle.std.proofs.lemmas.List.Sums.{take_while-cons}
use Rattle.std.proofs.Math.Seq.{take-append-add, take-append_seam, drop-append_seam, take-add}
use Rattle.std.proofs.lemmas.Bool.{and_parts, and_left, and_right, or_left, eqb-true, ne_eqb, both_ways, cases_eq, cases_lt}
use Rattle.fp_model.specs.Descriptor.{closes_behind, dimensions, element_len, field_len, fields_behind, first_field, is_among, is_element, is_ended_name, is_field_descriptor, is_method_descriptor, is_name_byte, is_result, GoesOn, StopsAt}
use Rattle.fp_model.proofs.Stops.{StopsAt-byte, StopsAt-end}
use Rattle.fp_model.proofs.EndedNames.{front_and_last, is_ended_name-push, all_front, split, at_byte, behind}
use Rattle.fp_model.proofs.ArrayTypes.{brackets_and_rest, cut_behind, dimensions-other, dimensions-replicate, dimensions-rest, first_tells, is_field_descriptor-brackets, not_class}

-- ---- what stands behind so many bytes

pub closes-skip : (n : ℕ) (text : List ℕ) → closes_behind n text ≡ closes_behind 0 (drop n text)
unfolding closes_behind
closes-skip zero text = refl
closes-skip (suc n) [] = refl
closes-skip (suc n) (c ∷ rest) = closes-skip n rest

pub fields-skip : (n : ℕ) (text : List ℕ) → fields_behind n text ≡ fields_behind 0 (drop n text)
unfolding fields_behind
fields-skip zero text = refl
fields-skip (suc n) [] = refl
fields-skip (suc n) (c ∷ rest) = fields-skip n rest

-- ---- how long a field descriptor is

name_ends : (name : List ℕ) (x : ℕ) (rest : List ℕ) → list_all is_name_byte name ≡ true → is_name_byte x ≡ false → take_while is_name_byte (name ++ x ∷ rest) ≡ name
name_ends [] x rest all none = take_while-cons is_name_byte x rest ∙ ap (λ b. cond b (x ∷ take_while is_name_byte rest) []) none
name_ends (y ∷ name) x rest all none =
    let parts = and_parts (is_name_byte y) (list_all is_name_byte name) all in
    take_while-cons is_name_byte y (name ++ x ∷ rest)
    ∙ ap (λ b. cond b (y ∷ take_while is_name_byte (name ++ x ∷ rest)) []) parts.0
    ∙ ap (λ t. y ∷ t) (name_ends name x rest parts.1 none)

ended_name : (rest : List ℕ) → is_ended_name rest ≡ true → (name : List ℕ) × (rest ≡ name ++ 59 ∷ []) × (list_all is_name_byte name ≡ true)
ended_name [] passes = absurd cc
ended_name (x ∷ xs) passes =
    let (front, last, is) = front_and_last x xs in
    let both : (nat_lt 0 (length front) && ((last == 59) && list_all is_name_byte front)) ≡ true = sym (is_ended_name-push front last) ∙ ap is_ended_name (sym is) ∙ passes in
    let parts = and_parts (nat_lt 0 (length front)) ((last == 59) && list_all is_name_byte front) both in
    let more = and_parts (last == 59) (list_all is_name_byte front) parts.1 in
    (front, is ∙ ap (λ b. front ++ b ∷ []) (eqb-true last 59 more.0), more.1)

element_len-other : (c : ℕ) (rest : List ℕ) → c ≢ 76 → element_len (c ∷ rest) ≡ 1
element_len-other c rest ne = ap (λ b. cond b (length (take_while is_name_byte rest) + 2) 1) (ne_eqb c 76 ne)

element_len-class : (name : List ℕ) (x : ℕ) (rest : List ℕ) → list_all is_name_byte name ≡ true → is_name_byte x ≡ false → element_len (76 ∷ (name ++ x ∷ rest)) ≡ length name + 2
element_len-class name x rest all none = ap (λ t. length t + 2) (name_ends name x rest all none)

-- the type of an element has the length that is told
element_whole : (text : List ℕ) → is_element text ≡ true → element_len text ≡ length text
element_whole [] passes = absurd cc
element_whole (c ∷ rest) passes = elim (cases_eq c 76) [
  | inl is ↦
      let (name, whole, all) = ended_name rest (ap (λ c. is_element (c ∷ rest)) (sym is) ∙ passes) in
      let told : element_len (c ∷ rest) ≡ length name + 2 = ap (λ c. element_len (c ∷ rest)) is ∙ ap (λ t. element_len (76 ∷ t)) whole ∙ element_len-class name 59 [] all refl in
      let long : length rest ≡ length name + 1 = ap length whole ∙ length-append name (59 ∷ []) in
      omega (arith, told, long)
  | inr ne ↦
      let none : length rest ≡ 0 = eqb-true (length rest) 0 (and_parts (is_among (codes "BCDFIJSZ") c) (length rest == 0) (sym (not_class c rest ne) ∙ passes)).1 in
      omega (arith, element_len-other c rest ne, none)
]

-- a text is its '[' and the rest, by their lengths
brackets_length : (text : List ℕ) → dimensions text + length (drop (dimensions text) text) ≡ length text
brackets_length text =
    let whole : length (replicate (dimensions text) 91) + length (drop (dimensions text) text) ≡ length text = sym (length-append (replicate (dimensions text) 91) (drop (dimensions text) text)) ∙ ap length (brackets_and_rest text) in
    omega (arith, whole, length-replicate {A = ℕ} (dimensions text) 91)

-- a field descriptor has the length that is told
field_whole_len : (text : List ℕ) → is_field_descriptor text ≡ true → field_len text ≡ length text
field_whole_len text passes =
    let element = element_whole (drop (dimensions text) text) (and_parts (nat_le (dimensions text) 255) (is_element (drop (dimensions text) text)) passes).1 in
    omega (arith, element, brackets_length text)

-- which bytes behind it don't change

element_local : (c : ℕ) (rest more : List ℕ) → element_len (c ∷ rest) ≤ length (c ∷ rest) → element_len (take (element_len (c ∷ rest)) (c ∷ rest) ++ more) ≡ element_len (c ∷ rest)
element_local c rest more fits = elim (cases_eq c 76) [
  | inl is ↦
      let name = take_while is_name_byte rest in
      let told : element_len (c ∷ rest) ≡ length name + 2 = ap (λ c. element_len (c ∷ rest)) is in
      let lt : length name < length rest = omega (arith, told, fits) in
      let x = get_or rest (length name) 0 in
      let here : drop (length name) rest ≡ x ∷ drop (length name + 1) rest = at_byte rest (length name) lt in
      let whole : rest ≡ name ++ x ∷ drop (length name + 1) rest = sym (split rest) ∙ ap (λ t. name ++ t) here in
      local name x (drop (length name + 1) rest) (all_front is_name_byte rest) (behind rest x (drop (length name + 1) rest) here) whole told is
  | inr ne ↦
      let one = element_len-other c rest ne in
      rw one (element_len-other c (take 0 rest ++ more) ne)
]
  where
    local : (name : List ℕ) (x : ℕ) (after : List ℕ) → list_all is_name_byte name ≡ true → is_name_byte x ≡ false → rest ≡ name ++ x ∷ after → element_len (c ∷ rest) ≡ length name + 2 → c ≡ 76 → element_len (take (element_len (c ∷ rest)) (c ∷ rest) ++ more) ≡ element_len (c ∷ rest)
    local name x after all none whole told is =
        let cut : take (length name + 1) rest ≡ name ++ x ∷ [] = ap (take (length name + 1)) whole ∙ take-append-add name (x ∷ after) 1 in
        let long : element_len (c ∷ rest) ≡ suc (length name + 1) = omega (arith, told) in
        let front : take (element_len (c ∷ rest)) (c ∷ rest) ≡ 76 ∷ (name ++ x ∷ []) = ap (λ n. take n (c ∷ rest)) long ∙ ap (λ t. c ∷ t) cut ∙ ap (λ c. c ∷ (name ++ x ∷ [])) is in
        ap (λ t. element_len (t ++ more)) front
        ∙ ap (λ t. element_len (76 ∷ t)) (append_assoc name (x ∷ []) more)
        ∙ element_len-class name x more all none
        ∙ sym told

field_len-brackets : (n : ℕ) (rest : List ℕ) → dimensions rest ≡ 0 → field_len (replicate n 91 ++ rest) ≡ n + element_len rest
field_len-brackets n rest none =
    let count : dimensions (replicate n 91 ++ rest) ≡ n = dimensions-replicate n rest ∙ omega (arith, none) in
    let behind : drop n (replicate n 91 ++ rest) ≡ rest = ap (λ k. drop k (replicate n 91 ++ rest)) (sym (length-replicate n 91)) ∙ drop-append_seam (replicate n 91) rest in
    rw (count, behind) refl

element_len-some : (rest : List ℕ) → 0 < element_len rest
element_len-some [] = omega arith
element_len-some (c ∷ rest) = elim (cases_eq c 76) [
  | inl is ↦ let told : element_len (c ∷ rest) ≡ length (take_while is_name_byte rest) + 2 = ap (λ c. element_len (c ∷ rest)) is in omega (arith, told)
  | inr ne ↦ omega (arith, element_len-other c rest ne)
]

pub field_len-some : (text : List ℕ) → 0 < field_len text
field_len-some text = omega (arith, element_len-some (drop (dimensions text) text))

brackets_local : (n : ℕ) (rest more : List ℕ) → dimensions rest ≡ 0 → n + element_len rest ≤ n + length rest → field_len (take (n + element_len rest) (replicate n 91 ++ rest) ++ more) ≡ n + element_len rest
brackets_local n [] more none fits = absurd (omega (arith, fits))
brackets_local n (c ∷ rest) more none fits =
    let some : (k : ℕ) × (element_len (c ∷ rest) ≡ suc k) = (element_len (c ∷ rest) - 1, omega (arith, element_len-some (c ∷ rest))) in
    let cut : take (element_len (c ∷ rest)) (c ∷ rest) ≡ c ∷ take some.0 rest = ap (λ k. take k (c ∷ rest)) some.1 in
    let begins : dimensions (take (element_len (c ∷ rest)) (c ∷ rest) ++ more) ≡ 0 = ap (λ t. dimensions (t ++ more)) cut ∙ first_tells c rest (take some.0 rest ++ more) none in
    ap (λ t. field_len (t ++ more)) (cut_behind n (c ∷ rest) (element_len (c ∷ rest)))
    ∙ ap field_len (append_assoc (replicate n 91) (take (element_len (c ∷ rest)) (c ∷ rest)) more)
    ∙ field_len-brackets n (take (element_len (c ∷ rest)) (c ∷ rest) ++ more) begins
    ∙ ap (λ k. n + k) (element_local c rest more (omega (arith, fits)))

-- the length of the field descriptor at the front is told by its own bytes alone
field_local : (text more : List ℕ) → field_len text ≤ length text → field_len (take (field_len text) text ++ more) ≡ field_len text
field_local text more fits =
    let rest = drop (dimensions text) text in
    let all : replicate (dimensions text) 91 ++ rest ≡ text = brackets_and_rest text in
    let cut : take (field_len text) (replicate (dimensions text) 91 ++ rest) ≡ take (field_len text) text = ap (take (field_len text)) all in
    ap (λ t. field_len (t ++ more)) (sym cut) ∙ brackets_local (dimensions text) rest more (dimensions-rest text) (omega (arith, fits, brackets_length text))

-- a field descriptor is found at the front of a text
pub field_front : (field more : List ℕ) → is_field_descriptor field ≡ true → field_len (field ++ more) ≡ length field
field_front field more passes =
    let whole : field_len field ≡ length field = field_whole_len field passes in
    let all : take (field_len field) field ≡ field = take_all (field_len field) field (omega (arith, whole)) in
    ap (λ t. field_len (t ++ more)) (sym all) ∙ field_local field more (omega (arith, whole)) ∙ whole

pub first_field-front : (field more : List ℕ) → is_field_descriptor field ≡ true → first_field (field ++ more) ≡ field
first_field-front field more passes = ap (λ n. take n (field ++ more)) (field_front field more passes) ∙ take-append_seam field more

-- a field descriptor at the front of a text lies in it
pub field_fits : (text : List ℕ) → is_field_descriptor (first_field text) ≡ true → field_len text ≤ length text
field_fits text passes = elim (cases_lt (length text) (field_len text)) [
  | inl lt ↦
      let all : first_field text ≡ text = take_all (field_len text) text (omega (arith, lt)) in
      let whole : field_len text ≡ length text = field_whole_len text (ap is_field_descriptor (sym all) ∙ passes) in
      omega (arith, whole)
  | inr ge ↦ omega (arith, ge)
]

-- ---- field descriptors, one behind the other

pub closes-step : (c : ℕ) (rest : List ℕ) → c ≢ 41 → closes_behind 0 (c ∷ rest) ≡ (is_field_descriptor (first_field (c ∷ rest)) && closes_behind 0 (drop (field_len (c ∷ rest)) (c ∷ rest)))
unfolding closes_behind
closes-step c rest ne =
    let some : (k : ℕ) × (field_len (c ∷ rest) ≡ suc k) = (field_len (c ∷ rest) - 1, let one = field_len-some (c ∷ rest) in omega (arith, one)) in
    let less : field_len (c ∷ rest) - 1 ≡ some.0 = omega (arith, some.1) in
    let behind : closes_behind (field_len (c ∷ rest) - 1) rest ≡ closes_behind 0 (drop (field_len (c ∷ rest)) (c ∷ rest)) = ap (λ n. closes_behind n rest) less ∙ closes-skip some.0 rest ∙ ap (λ n. closes_behind 0 (drop n (c ∷ rest))) (sym some.1) in
    ap (λ b. cond b (is_result rest) (is_field_descriptor (first_field (c ∷ rest)) && closes_behind (field_len (c ∷ rest) - 1) rest)) (ne_eqb c 41 ne)
    ∙ ap (λ b. is_field_descriptor (first_field (c ∷ rest)) && b) behind

pub not_closing : (c : ℕ) (rest : List ℕ) → is_field_descriptor (c ∷ rest) ≡ true → c ≢ 41
not_closing c rest passes is =
    let closing : is_field_descriptor (41 ∷ rest) ≡ false = is_field_descriptor-brackets 0 (41 ∷ rest) (dimensions-other 41 rest refl) ∙ and_right (nat_le 0 255) (is_element (41 ∷ rest)) refl in
    both_ways (is_field_descriptor (c ∷ rest)) (ap (λ c. is_field_descriptor (c ∷ rest)) is ∙ closing) passes

pub closes-front : (field more : List ℕ) → is_field_descriptor field ≡ true → closes_behind 0 (field ++ more) ≡ closes_behind 0 more
closes-front [] more passes = absurd cc
closes-front (c ∷ field) more passes =
    closes-step c (field ++ more) (not_closing c field passes)
    ∙ ap (λ t. is_field_descriptor t && closes_behind 0 (drop (field_len ((c ∷ field) ++ more)) ((c ∷ field) ++ more))) (first_field-front (c ∷ field) more passes)
    ∙ ap (λ b. b && closes_behind 0 (drop (field_len ((c ∷ field) ++ more)) ((c ∷ field) ++ more))) passes
    ∙ ap (λ n. closes_behind 0 (drop n ((c ∷ field) ++ more))) (field_front (c ∷ field) more passes)
    ∙ ap (closes_behind 0) (drop-append_seam (c ∷ field) more)

-- ---- where they stop

-- a part stops where the whole does
pub StopsAt-shift : (test inner : List ℕ → Bool) (front rest : List ℕ) (at : ℕ) → ((more : List ℕ) → test (front ++ more) ≡ inner more) → StopsAt inner rest at → StopsAt test (front ++ rest) (length front + at)
StopsAt-shift test inner front rest at same stops = record {
  within = omega (arith, stops.within, length-append front rest);
  before =
      let on = stops.before in
      rw (take-append-add front rest at) (on.0, ap test (append_assoc front (take at rest) on.0) ∙ same (take at rest ++ on.0) ∙ on.1);
  after = λ lt on.
      let cut : take (length front + at + 1) (front ++ rest) ≡ front ++ take (at + 1) rest = ap (λ k. take k (front ++ rest)) (omega arith) ∙ take-append-add front rest (at + 1) in
      let whole : test ((front ++ take (at + 1) rest) ++ on.0) ≡ true = rw cut at on.1 in
      stops.after (omega (arith, length-append front rest)) (on.0, sym (same (take (at + 1) rest ++ on.0)) ∙ ap test (sym (append_assoc front (take (at + 1) rest) on.0)) ∙ whole);
  whole = λ e. same rest ∙ stops.whole (omega (arith, length-append front rest, e));
}

closing : List ℕ
closing = 41 ∷ 86 ∷ []

closes-closing : closes_behind 0 closing ≡ true
unfolding closing closes_behind
closes-closing = refl

pub closes-end : StopsAt (closes_behind 0) [] 0
unfolding closing closes_behind
closes-end = StopsAt-end (closes_behind 0) [] (41 ∷ 86 ∷ [], refl) refl

pub closes-result : (rest : List ℕ) → closes_behind 0 (41 ∷ rest) ≡ is_result rest
unfolding closes_behind
closes-result rest = refl

-- a text that begins with a field descriptor tells so by that
begins : (text field more : List ℕ) → text ≡ field ++ more → is_field_descriptor field ≡ true → is_field_descriptor (first_field text) ≡ true
begins text field more whole passes = ap (λ t. is_field_descriptor (first_field t)) whole ∙ ap is_field_descriptor (first_field-front field more passes) ∙ passes

module _ (c : ℕ) (rest : List ℕ) (at : ℕ) (ne : c ≢ 41) (fails : is_field_descriptor (first_field (c ∷ rest)) ≡ false) (stops : StopsAt is_field_descriptor (first_field (c ∷ rest)) at) where
  size : length (first_field (c ∷ rest)) ≤ length (c ∷ rest)
  size = omega (arith, length-take (field_len (c ∷ rest)) (c ∷ rest))

  short : length (first_field (c ∷ rest)) ≤ field_len (c ∷ rest)
  short = omega (arith, length-take (field_len (c ∷ rest)) (c ∷ rest))

  goes_before : GoesOn (closes_behind 0) (take at (c ∷ rest))
  goes_before =
      let cut : take at (first_field (c ∷ rest)) ≡ take at (c ∷ rest) = take-take at (field_len (c ∷ rest)) (c ∷ rest) (omega (arith, short, stops.within)) in
      let on : GoesOn is_field_descriptor (take at (c ∷ rest)) = rw cut at stops.before in (
        on.0 ++ closing,
        ap (closes_behind 0) (sym (append_assoc (take at (c ∷ rest)) on.0 closing))
            ∙ closes-front (take at (c ∷ rest) ++ on.0) closing on.1
            ∙ closes-closing,
      )

  -- a field descriptor that begins with all up to the place and one byte more
  longer : (field : List ℕ) (more : List ℕ) → at < length (c ∷ rest) → is_field_descriptor field ≡ true → field ≡ take (at + 1) (c ∷ rest) ++ more → ⊥
  longer field more lt passes whole = elim (cases_lt at (length (first_field (c ∷ rest)))) [
    | inl inside ↦
        let cut : take (at + 1) (first_field (c ∷ rest)) ≡ take (at + 1) (c ∷ rest) = take-take (at + 1) (field_len (c ∷ rest)) (c ∷ rest) (omega (arith, short, inside)) in
        stops.after inside (more, ap (λ t. is_field_descriptor (t ++ more)) cut ∙ ap is_field_descriptor (sym whole) ∙ passes)
    | inr outside ↦
        let here : at ≡ field_len (c ∷ rest) = omega (arith, length-take (field_len (c ∷ rest)) (c ∷ rest), stops.within, outside, lt) in
        let split : field ≡ take (field_len (c ∷ rest)) (c ∷ rest) ++ (take 1 (drop at (c ∷ rest)) ++ more) =
        whole ∙ ap (λ t. t ++ more) (take-add at 1 (c ∷ rest)) ∙ append_assoc (take at (c ∷ rest)) (take 1 (drop at (c ∷ rest))) more
        ∙ ap (λ n. take n (c ∷ rest) ++ (take 1 (drop at (c ∷ rest)) ++ more)) here in
        let told : field_len field ≡ field_len (c ∷ rest) = ap field_len split ∙ field_local (c ∷ rest) (take 1 (drop at (c ∷ rest)) ++ more) (omega (arith, here, lt)) in
        let long : length field ≡ length (take (at + 1) (c ∷ rest)) + length more = ap length whole ∙ length-append (take (at + 1) (c ∷ rest)) more in
        omega (arith, told, here, long, field_whole_len field passes, length-take (at + 1) (c ∷ rest), lt)
  ]

  -- one that ends before it
  shorter : (field more : List ℕ) → is_field_descriptor field ≡ true → take (length field) (c ∷ rest) ≡ field → ⊥
  shorter field more passes cut =
      both_ways (is_field_descriptor (first_field (c ∷ rest)))
      fails
      (begins (c ∷ rest) field (drop (length field) (c ∷ rest)) (sym (take-append-drop (length field) (c ∷ rest)) ∙ ap (λ t. t ++ drop (length field) (c ∷ rest)) cut) passes)

  none_after : at < length (c ∷ rest) → ¬ GoesOn (closes_behind 0) (take (at + 1) (c ∷ rest))
  none_after lt on =
      let front = take (at + 1) (c ∷ rest) in
      let text = front ++ on.0 in
      let first : text ≡ c ∷ (take at rest ++ on.0) = rw add-one refl in
      let both : (is_field_descriptor (first_field text) && closes_behind 0 (drop (field_len text) text)) ≡ true =
      ap (λ t. is_field_descriptor (first_field t) && closes_behind 0 (drop (field_len t) t)) first
      ∙ sym (closes-step c (take at rest ++ on.0) ne)
      ∙ ap (closes_behind 0) (sym first) ∙ on.1 in
      let passes : is_field_descriptor (first_field text) ≡ true = (and_parts (is_field_descriptor (first_field text)) (closes_behind 0 (drop (field_len text) text)) both).0 in
      found (first_field text) (drop (field_len text) text) on.0 lt passes (take-append-drop (field_len text) text)
    where
      found : (field more rest' : List ℕ) → at < length (c ∷ rest) → is_field_descriptor field ≡ true → field ++ more ≡ take (at + 1) (c ∷ rest) ++ rest' → ⊥
      found field more rest' lt passes whole =
          let front = take (at + 1) (c ∷ rest) in
          let size : length front ≡ at + 1 = length-take-le (at + 1) (c ∷ rest) (omega (arith, lt)) in
          let cut : take (length field) (front ++ rest') ≡ field = ap (take (length field)) (sym whole) ∙ take-append_seam field more in
          elim (cases_lt (length field) (length front)) [
            | inl less ↦
                let inside : take (length field) front ≡ field = sym (take-append-le (length field) front rest' (omega (arith, less))) ∙ cut in
                shorter field more passes (sym (take-take (length field) (at + 1) (c ∷ rest) (omega (arith, less, size))) ∙ inside)
            | inr more_or_same ↦
                let split : take (length field) (front ++ rest') ≡ front ++ take (length field - length front) rest' = ap (λ n. take n (front ++ rest')) (omega (arith, more_or_same)) ∙ take-append-add front rest' (length field - length front) in
                longer field (take (length field - length front) rest') lt passes (sym cut ∙ split)
          ]

  -- no more field descriptors, and no ')'
  closes-stops : StopsAt (closes_behind 0) (c ∷ rest) at
  closes-stops = record {
    within = omega (arith, stops.within, size);
    before = goes_before;
    after = none_after;
    whole = λ e. closes-step c rest ne ∙ and_left (is_field_descriptor (first_field (c ∷ rest))) (closes_behind 0 (drop (field_len (c ∷ rest)) (c ∷ rest))) fails;
  }

pub closes_stops : (text : List ℕ) (at : ℕ) → 0 < length text → get_or text 0 0 ≢ 41 → is_field_descriptor (first_field text) ≡ false → StopsAt is_field_descriptor (first_field text) at → StopsAt (closes_behind 0) text at
closes_stops [] at some ne fails stops = absurd (omega arith)
closes_stops (c ∷ rest) at some ne fails stops = closes-stops c rest at ne fails stops

-- ---- a result

result_cons : (c : ℕ) (rest : List ℕ) → c ≢ 86 → is_result (c ∷ rest) ≡ is_field_descriptor (c ∷ rest)
result_cons c rest ne = grind (arith, ne_eqb c 86 ne)

pub result_same : (text : List ℕ) → get_or text 0 0 ≢ 86 → is_result text ≡ is_field_descriptor text
result_same [] ne = refl
result_same (c ∷ rest) ne = result_cons c rest ne

pub result_other : (text : List ℕ) (at : ℕ) → get_or text 0 0 ≢ 86 → StopsAt is_field_descriptor text at → StopsAt is_result text at
result_other text at ne stops = record {
  within = stops.within;
  before =
      let on = stops.before in
      (on.0, or_left (is_field_descriptor (take at text ++ on.0)) (bytes_eq (take at text ++ on.0) (codes "V")) on.1);
  after = λ lt on. stops.after lt (on.0, sym (same text ne (at + 1) on.0 (omega arith) (omega (arith, lt))) ∙ on.1);
  whole = λ e. result_same text ne ∙ stops.whole e;
}
  where
    same : (text : List ℕ) → get_or text 0 0 ≢ 86 → (n : ℕ) (more : List ℕ) → 0 < n → 0 < length text → is_result (take n text ++ more) ≡ is_field_descriptor (take n text ++ more)
    same [] ne n more some there = absurd (omega arith)
    same (c ∷ rest) ne zero more some there = absurd (omega arith)
    same (c ∷ rest) ne (suc n) more some there = result_cons c (take n rest ++ more) ne

pub result_others : (text : List ℕ) (place : Option ℕ) → get_or text 0 0 ≢ 86 → IfSome place (StopsAt is_field_descriptor text) → IfSome place (StopsAt is_result text)
result_others text None ne stops = tt
result_others text (Some at) ne stops = result_other text at ne stops

pub result_void_more : (x : ℕ) (more : List ℕ) → is_result (86 ∷ x ∷ more) ≡ false
result_void_more x more =
    let none : is_field_descriptor (86 ∷ x ∷ more) ≡ false = is_field_descriptor-brackets 0 (86 ∷ x ∷ more) (dimensions-other 86 (x ∷ more) refl) ∙ and_right (nat_le 0 255) (is_element (86 ∷ x ∷ more)) refl in
    ap (λ b. b || bytes_eq (86 ∷ x ∷ more) (codes "V")) none

pub result_more : (text : List ℕ) → 1 < length text → get_or text 0 0 ≡ 86 → StopsAt is_result text 1
result_more [] some is = absurd (omega arith)
result_more (c ∷ []) some is = absurd (omega arith)
result_more (c ∷ x ∷ rest) some is = subst (λ c. StopsAt is_result (c ∷ x ∷ rest) 1) (sym is) (StopsAt-byte is_result (86 ∷ []) x rest ([], refl) (λ more. result_void_more x more))

pub result_one : (text : List ℕ) → length text ≡ 1 → get_or text 0 0 ≡ 86 → is_result text ≡ true
result_one [] one is = absurd (omega arith)
result_one (c ∷ []) one is = ap (λ c. is_result (c ∷ [])) is
result_one (c ∷ x ∷ rest) one is = absurd (omega arith)

pub result_empty : (text : List ℕ) (at : ℕ) → length text ≡ 0 → StopsAt is_field_descriptor text at → StopsAt is_result text at
result_empty [] at none stops = result_other [] at (λ e. absurd cc) stops
result_empty (c ∷ rest) at none stops = absurd (omega arith)

pub result_field : (text : List ℕ) → is_field_descriptor text ≡ true → is_result text ≡ true
result_field text passes = or_left (is_field_descriptor text) (bytes_eq text (codes "V")) passes

-- for the function that looks for the place
pub ruleset results = (result_other, result_more, result_one, result_empty, result_field)

-- ---- the whole

pub method_empty : (text : List ℕ) → length text ≡ 0 → StopsAt is_method_descriptor text 0
unfolding closes_behind
method_empty [] none = StopsAt-end is_method_descriptor [] (40 ∷ 41 ∷ 86 ∷ [], refl) refl
method_empty (c ∷ rest) none = absurd (omega arith)

pub method_other : (text : List ℕ) → 0 < length text → get_or text 0 0 ≢ 40 → StopsAt is_method_descriptor text 0
unfolding closes_behind
method_other [] some ne = absurd (omega arith)
method_other (c ∷ rest) some ne = StopsAt-byte is_method_descriptor [] c rest (40 ∷ 41 ∷ 86 ∷ [], refl) (λ more. and_left (c == 40) (closes_behind 1 (c ∷ more)) (ne_eqb c 40 ne))

pub method_opens : (text : List ℕ) → 0 < length text → get_or text 0 0 ≡ 40 → (more : List ℕ) → is_method_descriptor (take 1 text ++ more) ≡ closes_behind 0 more
unfolding closes_behind
method_opens [] some is more = absurd (omega arith)
method_opens (c ∷ rest) some is more = ap (λ c. is_method_descriptor (c ∷ more)) is

module _ (text slice : List ℕ) (at : ℕ) (rest : slice ≡ drop at text) (passed : (more : List ℕ) → is_method_descriptor (take at text ++ more) ≡ closes_behind 0 more) where
  whole_text : take at text ++ slice ≡ text
  whole_text = ap (λ t. take at text ++ t) rest ∙ take-append-drop at text

  pub method_goes : (len : ℕ) → len ≡ field_len slice → is_field_descriptor (first_field slice) ≡ true → (more : List ℕ) → is_method_descriptor (take (at + len) text ++ more) ≡ closes_behind 0 more
  method_goes len count passes more =
      let cut : take (at + len) text ≡ take at text ++ first_field slice = take-add at len text ∙ ap (λ t. take at text ++ take len t) (sym rest) ∙ ap (λ n. take at text ++ take n slice) count in
      ap (λ t. is_method_descriptor (t ++ more)) cut
      ∙ ap is_method_descriptor (append_assoc (take at text) (first_field slice) more)
      ∙ passed (first_field slice ++ more)
      ∙ closes-front (first_field slice) more passes

  behind_front : (place : ℕ) → at ≤ length text → StopsAt (closes_behind 0) slice place → StopsAt is_method_descriptor text (at + place)
  behind_front place le stops =
      let size : length (take at text) ≡ at = length-take-le at text le in
      subst (λ t. StopsAt is_method_descriptor t (at + place)) whole_text
      (subst (λ n. StopsAt is_method_descriptor (take at text ++ slice) (n + place)) size
      (StopsAt-shift is_method_descriptor (closes_behind 0) (take at text) slice place passed stops))

  first_byte : get_or slice 0 0 ≡ get_or text at 0
  first_byte = ap (λ t. get_or t 0 0) rest ∙ get_or-drop at text 0 0 ∙ ap (λ n. get_or text n 0) (omega arith)

  pub method_stops : (place : ℕ) → at < length text → get_or text at 0 ≢ 41 → is_field_descriptor (first_field slice) ≡ false → StopsAt is_field_descriptor (first_field slice) place → StopsAt is_method_descriptor text (at + place)
  method_stops place lt ne fails stops =
      behind_front place (omega (arith, lt))
      (closes_stops slice place (omega (arith, lt, ap length rest, length-drop at text)) (λ e. ne (sym first_byte ∙ e)) fails stops)

  pub method_ends : at ≡ length text → StopsAt is_method_descriptor text at
  method_ends end =
      let none : slice ≡ [] = rest ∙ drop_all at text (omega (arith, end)) in
      subst (StopsAt is_method_descriptor text) (omega arith) (behind_front 0 (omega (arith, end)) (subst (λ t. StopsAt (closes_behind 0) t 0) (sym none) closes-end))

  -- the ')' stands here
  module _ (behind : List ℕ) (after : behind ≡ drop (at + 1) text) (lt : at < length text) (is : get_or text at 0 ≡ 41) where
    closing_text : slice ≡ 41 ∷ behind
    closing_text = rest ∙ drop-cons text at 0 lt ∙ ap (λ c. c ∷ drop (suc at) text) is ∙ ap (λ t. 41 ∷ t) (sym (after ∙ ap (λ n. drop n text) (add-one at)))

    pub method_whole : is_result behind ≡ true → is_method_descriptor text ≡ true
    method_whole passes = ap is_method_descriptor (sym whole_text) ∙ passed slice ∙ ap (closes_behind 0) closing_text ∙ closes-result behind ∙ passes

    pub method_result : (place : ℕ) → StopsAt is_result behind place → StopsAt is_method_descriptor text (at + 1 + place)
    method_result place stops =
        let inner : StopsAt (closes_behind 0) (41 ∷ behind) (1 + place) = StopsAt-shift (closes_behind 0) is_result (41 ∷ []) behind place closes-result stops in
        subst (StopsAt is_method_descriptor text) (omega arith) (behind_front (1 + place) (omega (arith, lt)) (subst (λ t. StopsAt (closes_behind 0) t (1 + place)) (sym closing_text) inner))
