-- What the text of an element's type has: its letter, or its class name.
use Rattle.std.proofs.Common.{◌≡◌, ◌≢◌, ℕ, suc, ◌-◌, ◌<◌, true, ◌&&◌, cond, List, [], ◌∷◌, ◌++◌, Some, None, length, take, drop, get_or, replicate, codes, refl, sym, ap, ◌∙◌, arith, length-append}
use Rattle.std.specs.Prelude.{◌==◌, nat_le, nat_lt, slice_get, unwrap_or}
use Rattle.std.specs.List.{list_all}
use Rattle.std.proofs.lemmas.Bool.{and_parts, and_from, eqb-true, ne_eqb, ltb-true, lt-ltb}
use Rattle.std.proofs.lemmas.Option.{slice_get_within}
use Rattle.fp_model.specs.declared.kind.Elem.{Elem}
use Rattle.fp_model.specs.declared.kind.Elem.TheVariants as elem
use Rattle.fp_model.specs.declared.kind.Kind.TheVariants as kind
use Rattle.fp_model.specs.Descriptor.{is_among, is_element, is_ended_name, is_field_descriptor, is_name_byte, dimensions, element_names, element_text, is_kind, is_proper, kind_text, text_of, IsKindOf}
use Rattle.fp_model.proofs.EndedNames.{front_and_last, is_ended_name-push}
use Rattle.fp_model.proofs.ArrayTypes.{brackets_and_rest, is_field_descriptor-brackets}
use Rattle.std.proofs.Math.Seq.{take-append_seam}

-- ---- a name and its ';'

pub name_parts : (front : List ℕ) (last : ℕ) → is_ended_name (front ++ last ∷ []) ≡ true → (0 < length front) × (last ≡ 59)
name_parts front last passes =
    let both : (nat_lt 0 (length front) && ((last == 59) && list_all is_name_byte front)) ≡ true = sym (is_ended_name-push front last) ∙ passes in
    let parts = and_parts (nat_lt 0 (length front)) ((last == 59) && list_all is_name_byte front) both in
    (ltb-true 0 (length front) parts.0, eqb-true last 59 (and_parts (last == 59) (list_all is_name_byte front) parts.1).0)

-- the name before the ';'
ended : (text : List ℕ) → is_ended_name text ≡ true → (1 < length text) × (take (length text - 1) text ++ 59 ∷ [] ≡ text)
ended [] passes = absurd cc
ended (x ∷ xs) passes =
    let (front, last, is) = front_and_last x xs in
    let parts = name_parts front last (ap is_ended_name (sym is) ∙ passes) in
    let count : length (x ∷ xs) ≡ suc (length front) = ap length is ∙ omega (arith, length-append front (last ∷ [])) in
    let less : length (x ∷ xs) - 1 ≡ length front = omega arith in
    let name : take (length (x ∷ xs) - 1) (x ∷ xs) ≡ front = ap (λ n. take n (x ∷ xs)) less ∙ ap (take (length front)) is ∙ take-append_seam front (last ∷ []) in
    (omega (arith, parts.0), ap (λ t. t ++ 59 ∷ []) name ∙ ap (λ b. front ++ b ∷ []) (sym parts.1) ∙ sym is)

-- ---- the type of an element

pub element_some : (text : List ℕ) → is_element text ≡ true → 0 < length text
element_some [] passes = absurd cc
element_some (c ∷ rest) passes = omega arith

class_rest : (text : List ℕ) → is_element text ≡ true → get_or text 0 0 ≡ 76 → (is_ended_name (drop 1 text) ≡ true) × (76 ∷ drop 1 text ≡ text)
class_rest [] passes first = absurd cc
class_rest (c ∷ rest) passes first = (ap (λ c. is_element (c ∷ rest)) (sym first) ∙ passes, ap (λ c. c ∷ rest) (sym first))

pub class_length : (text : List ℕ) → is_element text ≡ true → get_or text 0 0 ≡ 76 → 2 < length text
class_length text passes first =
    let rest = class_rest text passes first in
    let some = ended (drop 1 text) rest.0 in
    let count : suc (length (drop 1 text)) ≡ length text = ap length rest.1 in
    omega (arith, some.0)

name_is : (text : List ℕ) → is_element text ≡ true → get_or text 0 0 ≡ 76 → take (length text - 1 - 1) (drop 1 text) ≡ take (length (drop 1 text) - 1) (drop 1 text)
name_is text passes first =
    let count : suc (length (drop 1 text)) ≡ length text = ap length (class_rest text passes first).1 in
    ap (λ n. take n (drop 1 text)) (omega arith)

pub class_text : (text : List ℕ) → is_element text ≡ true → get_or text 0 0 ≡ 76 → 76 ∷ (take (length text - 1 - 1) (drop 1 text) ++ 59 ∷ []) ≡ text
class_text text passes first =
    let rest = class_rest text passes first in
    ap (λ t. 76 ∷ (t ++ 59 ∷ [])) (name_is text passes first) ∙ ap (λ t. 76 ∷ t) (ended (drop 1 text) rest.0).1 ∙ rest.1

pub class_names : (text : List ℕ) → is_element text ≡ true → get_or text 0 0 ≡ 76 → element_names text ≡ take (length text - 1 - 1) (drop 1 text) ∷ []
class_names text passes first =
    ap element_names (sym (class_rest text passes first).1) ∙ ap (λ t. t ∷ []) (sym (name_is text passes first))

pub letter_text : (text : List ℕ) → is_element text ≡ true → get_or text 0 0 ≢ 76 → get_or text 0 0 ∷ [] ≡ text
letter_text [] passes ne = absurd cc
letter_text (c ∷ []) passes ne = refl
letter_text (c ∷ x ∷ rest) passes ne =
    let both : (is_among (codes "BCDFIJSZ") c && (length (x ∷ rest) == 0)) ≡ true = sym (ap (λ b. cond b (is_ended_name (x ∷ rest)) (is_among (codes "BCDFIJSZ") c && (length (x ∷ rest) == 0))) (ne_eqb c 76 ne)) ∙ passes in
    let none : length (x ∷ rest) ≡ 0 = eqb-true (length (x ∷ rest)) 0 (and_parts (is_among (codes "BCDFIJSZ") c) (length (x ∷ rest) == 0) both).1 in
    absurd (omega arith)

pub letter_names : (text : List ℕ) → get_or text 0 0 ≢ 76 → element_names text ≡ []
letter_names [] ne = refl
letter_names (c ∷ rest) ne = ap (λ b. cond b (take (length rest - 1) rest ∷ []) []) (ne_eqb c 76 ne)

-- for the function that reads it
pub ruleset element_parts = (element_some, class_length, class_text, class_names, letter_text, letter_names)

-- ---- a kind

pub IsKindOf-array : (names : List (List ℕ)) (text : List ℕ) (dims : ℕ) (element : Elem) → 0 < dims → dims ≡ dimensions text → is_field_descriptor text ≡ true → element_text names element ≡ drop dims text → IsKindOf names text (kind.Array dims element)
IsKindOf-array names text dims element some count passes is =
    let written : kind_text names (kind.Array dims element) ≡ text = ap (λ t. replicate dims 91 ++ t) is ∙ ap (λ n. replicate n 91 ++ drop n text) count ∙ brackets_and_rest text in
    record {
      written = written;
      kind = and_from (nat_lt 0 dims) _ (lt-ltb 0 dims some) (ap is_field_descriptor written ∙ passes);
    }

some_within : (names : List (List ℕ)) (n : ℕ) → 0 < length (text_of names n) → n < length names
some_within names n some =
    elim (slice_get names n) as (λ o. slice_get names n ≡ o → 0 < length (unwrap_or o []) → n < length names) [
      | Some text ↦ λ at some. slice_get_within names n text at
      | None ↦ λ at some. absurd (omega arith)
    ] refl some

-- the name of a class that a descriptor says is of the table
pub class_within : (names : List (List ℕ)) (n : ℕ) → is_kind names (kind.Class n) ≡ true → n < length names
class_within names n is =
    let text = element_text names (elem.Class n) in
    let passes = (and_parts (is_proper (kind.Class n)) (is_field_descriptor text) is).1 in
    some_within names n (name_parts (text_of names n) 59 (and_parts (nat_le 0 255) (is_element text) (sym (is_field_descriptor-brackets 0 text refl) ∙ passes)).1).0
