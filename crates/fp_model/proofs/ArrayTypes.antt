-- Where a field descriptor stops: its '[', and the type of an element.
use Rattle.std.proofs.Common.{◌≡◌, ◌≢◌, ℕ, zero, suc, ◌+◌, ◌-◌, ◌<◌, ◌≤◌, true, false, ◌&&◌, cond, List, [], ◌∷◌, ◌++◌, length, take, drop, get_or, replicate, codes, refl, sym, ap, ◌∙◌, subst, arith, length-append, length-drop, add-one}
use Rattle.std.specs.Prelude.{◌==◌, nat_le, take_while}
use Rattle.std.proofs.lemmas.List.{append_assoc, length-replicate, replicate-append-replicate, take_all}
use Rattle.std.proofs.lemmas.List.Sums.{take_while-cons}
use Rattle.std.proofs.Math.Seq.{take-append-add, drop-append_seam}
use Rattle.std.proofs.lemmas.Bool.{and_parts, and_left, and_right, and_from, eqb-true, ne_eqb, both_ways, le-leb, lt-leb}
use Rattle.fp_model.specs.Descriptor.{is_among, is_element, is_ended_name, is_field_descriptor, dimensions, GoesOn, StopsAt}
use Rattle.fp_model.proofs.Stops.{StopsAt-byte, StopsAt-end}

-- the part of a text from a place on
pub from_place : (text : List ℕ) (n : ℕ) → take (length text - n) (drop n text) ≡ drop n text
from_place text n = take_all (length text - n) (drop n text) (omega (arith, length-drop n text))

pub whole_place : (text : List ℕ) (n : ℕ) → n ≡ 0 → take (length text - n) (drop n text) ≡ text
whole_place text n none = from_place text n ∙ ap (λ k. drop k text) none

-- ---- the type of an element

pub element_empty : StopsAt is_element [] 0
element_empty = StopsAt-end is_element [] (66 ∷ [], refl) refl

class_name : (rest : List ℕ) (at : ℕ) → StopsAt is_ended_name rest at → StopsAt is_element (76 ∷ rest) (suc at)
class_name rest at stops = record {
  within = omega (arith, stops.within);
  before = stops.before;
  after = λ lt on. stops.after (omega arith) (rw add-one (rw add-one at on));
  whole = λ e. stops.whole (omega arith);
}

pub element_class : (text : List ℕ) (at : ℕ) → 0 < length text → get_or text 0 0 ≡ 76 → StopsAt is_ended_name (take (length text - 1) (drop 1 text)) at → StopsAt is_element text (at + 1)
element_class [] at some first stops = absurd (omega arith)
element_class (c ∷ rest) at some first stops = rw (add-one, first) (class_name rest at (rw from_place at stops))

pub not_class : (c : ℕ) (rest : List ℕ) → c ≢ 76 → is_element (c ∷ rest) ≡ (is_among (codes "BCDFIJSZ") c && (length rest == 0))
not_class c rest ne = ap (λ b. cond b (is_ended_name rest) (is_among (codes "BCDFIJSZ") c && (length rest == 0))) (ne_eqb c 76 ne)

pub element_other : (c : ℕ) (rest : List ℕ) → c ≢ 76 → is_among (codes "BCDFIJSZ") c ≡ false → StopsAt is_element (c ∷ rest) 0
element_other c rest ne fails = StopsAt-byte is_element [] c rest (66 ∷ [], refl) (λ more. not_class c more ne ∙ and_left _ (length more == 0) fails)

pub element_more : (c x : ℕ) (rest : List ℕ) → c ≢ 76 → is_among (codes "BCDFIJSZ") c ≡ true → StopsAt is_element (c ∷ x ∷ rest) 1
element_more c x rest ne passes =
    StopsAt-byte is_element (c ∷ []) x rest
    ([], not_class c [] ne ∙ and_from _ true passes refl)
    (λ more. not_class c (x ∷ more) ne ∙ and_right (is_among (codes "BCDFIJSZ") c) _ (ne_eqb (suc (length more)) 0 (λ e. omega arith)))

pub element_primitive : (c : ℕ) → c ≢ 76 → is_among (codes "BCDFIJSZ") c ≡ true → is_element (c ∷ []) ≡ true
element_primitive c ne passes = not_class c [] ne ∙ and_from _ true passes refl

-- ---- how many '[' there are

dimensions-bracket : (rest : List ℕ) → dimensions (91 ∷ rest) ≡ suc (dimensions rest)
dimensions-bracket rest = ap length (take_while-cons (λ c. c == 91) 91 rest)

pub dimensions-other : (c : ℕ) (rest : List ℕ) → (c == 91) ≡ false → dimensions (c ∷ rest) ≡ 0
dimensions-other c rest ne = ap length (take_while-cons (λ c. c == 91) c rest ∙ ap (λ b. cond b (c ∷ take_while (λ c. c == 91) rest) []) ne)

pub dimensions-replicate : (n : ℕ) (rest : List ℕ) → dimensions (replicate n 91 ++ rest) ≡ n + dimensions rest
dimensions-replicate zero rest = omega arith
dimensions-replicate (suc n) rest =
    let more : dimensions (replicate n 91 ++ rest) ≡ n + dimensions rest = dimensions-replicate n rest in
    let one : dimensions (91 ∷ (replicate n 91 ++ rest)) ≡ suc (dimensions (replicate n 91 ++ rest)) = dimensions-bracket (replicate n 91 ++ rest) in
    omega arith

-- a text is its '[' and the rest
pub brackets_and_rest : (text : List ℕ) → replicate (dimensions text) 91 ++ drop (dimensions text) text ≡ text
brackets_and_rest [] = refl
brackets_and_rest (x ∷ xs) =
    elim (x == 91) as (λ b. (x == 91) ≡ b → replicate (dimensions (x ∷ xs)) 91 ++ drop (dimensions (x ∷ xs)) (x ∷ xs) ≡ x ∷ xs) [
      | true ↦ λ h.
          let same : 91 ≡ x = sym (eqb-true x 91 h) in
          let count : dimensions (x ∷ xs) ≡ suc (dimensions xs) = ap (λ c. dimensions (c ∷ xs)) (sym same) ∙ dimensions-bracket xs in
          rw count (ap (λ t. 91 ∷ t) (brackets_and_rest xs) ∙ ap (λ c. c ∷ xs) same)
      | false ↦ λ h. rw (dimensions-other x xs h) refl
    ] refl

-- which begins with none
pub dimensions-rest : (text : List ℕ) → dimensions (drop (dimensions text) text) ≡ 0
dimensions-rest [] = refl
dimensions-rest (x ∷ xs) =
    elim (x == 91) as (λ b. (x == 91) ≡ b → dimensions (drop (dimensions (x ∷ xs)) (x ∷ xs)) ≡ 0) [
      | true ↦ λ h.
          let count : dimensions (x ∷ xs) ≡ suc (dimensions xs) = ap (λ c. dimensions (c ∷ xs)) (eqb-true x 91 h) ∙ dimensions-bracket xs in
          rw count (dimensions-rest xs)
      | false ↦ λ h. let none : dimensions (x ∷ xs) ≡ 0 = dimensions-other x xs h in rw none none
    ] refl

-- the first byte tells whether there is one
pub first_tells : (c : ℕ) (some other : List ℕ) → dimensions (c ∷ some) ≡ 0 → dimensions (c ∷ other) ≡ 0
first_tells c some other none =
    elim (c == 91) as (λ b. (c == 91) ≡ b → dimensions (c ∷ other) ≡ 0) [
      | true ↦ λ h.
          let count : dimensions (c ∷ some) ≡ suc (dimensions some) = ap (λ c. dimensions (c ∷ some)) (eqb-true c 91 h) ∙ dimensions-bracket some in
          absurd (omega arith)
      | false ↦ λ h. dimensions-other c other h
    ] refl

-- the type of an element begins with none
pub dimensions-element : (text : List ℕ) → is_element text ≡ true → dimensions text ≡ 0
dimensions-element [] e = refl
dimensions-element (c ∷ rest) e =
    elim (c == 91) as (λ b. (c == 91) ≡ b → dimensions (c ∷ rest) ≡ 0) [
      | true ↦ λ h. absurd (both_ways (is_element (c ∷ rest)) (ap (λ c. is_element (c ∷ rest)) (eqb-true c 91 h)) e)
      | false ↦ λ h. dimensions-other c rest h
    ] refl

-- ---- a field descriptor

pub is_field_descriptor-brackets : (n : ℕ) (rest : List ℕ) → dimensions rest ≡ 0 → is_field_descriptor (replicate n 91 ++ rest) ≡ (nat_le n 255 && is_element rest)
is_field_descriptor-brackets n rest none =
    let count : dimensions (replicate n 91 ++ rest) ≡ n = dimensions-replicate n rest ∙ omega arith in
    let behind : drop n (replicate n 91 ++ rest) ≡ rest = ap (λ k. drop k (replicate n 91 ++ rest)) (sym (length-replicate n 91)) ∙ drop-append_seam (replicate n 91) rest in
    rw (count, behind) refl

element_goes_on : (n : ℕ) (front : List ℕ) → n ≤ 255 → GoesOn is_element front → GoesOn is_field_descriptor (replicate n 91 ++ front)
element_goes_on n front le on = (
  on.0,
  ap is_field_descriptor (append_assoc (replicate n 91) front on.0)
      ∙ is_field_descriptor-brackets n (front ++ on.0) (dimensions-element (front ++ on.0) on.1)
      ∙ and_from (nat_le n 255) _ (le-leb n 255 le) on.1,
)

element_from_field : (n : ℕ) (front : List ℕ) (c : ℕ) (rest : List ℕ) → front ≡ c ∷ rest → dimensions (c ∷ rest) ≡ 0 → GoesOn is_field_descriptor (replicate n 91 ++ front) → GoesOn is_element front
element_from_field n front c rest is none on =
    let begins : dimensions (front ++ on.0) ≡ 0 = ap (λ t. dimensions (t ++ on.0)) is ∙ first_tells c rest (rest ++ on.0) none in
    let both : (nat_le n 255 && is_element (front ++ on.0)) ≡ true = sym (is_field_descriptor-brackets n (front ++ on.0) begins) ∙ ap is_field_descriptor (sym (append_assoc (replicate n 91) front on.0)) ∙ on.1 in
    (on.0, (and_parts (nat_le n 255) (is_element (front ++ on.0)) both).1)

pub cut_behind : (n : ℕ) (rest : List ℕ) (at : ℕ) → take (n + at) (replicate n 91 ++ rest) ≡ replicate n 91 ++ take at rest
cut_behind n rest at = ap (λ k. take (k + at) (replicate n 91 ++ rest)) (sym (length-replicate n 91)) ∙ take-append-add (replicate n 91) rest at

stops_later : (n : ℕ) (rest : List ℕ) (at : ℕ) → dimensions rest ≡ 0 → StopsAt is_element rest at → at < length rest → ¬ GoesOn is_field_descriptor (replicate n 91 ++ take (at + 1) rest)
stops_later n [] at none stops lt = λ on. absurd (omega arith)
stops_later n (c ∷ rest) at none stops lt = λ on.
    stops.after lt (element_from_field n (take (at + 1) (c ∷ rest)) c (take at rest) (rw add-one refl) (first_tells c rest (take at rest) none) on)

-- a field descriptor stops where the type of its element does
stops_behind : (n : ℕ) (rest : List ℕ) (at : ℕ) → n ≤ 255 → dimensions rest ≡ 0 → StopsAt is_element rest at → StopsAt is_field_descriptor (replicate n 91 ++ rest) (n + at)
stops_behind n rest at le none stops =
    let all : length (replicate n 91 ++ rest) ≡ n + length rest = length-append (replicate n 91) rest ∙ ap (λ k. k + length rest) (length-replicate n 91) in
    record {
      within = omega (arith, stops.within);
      before = rw (cut_behind n rest at) (element_goes_on n (take at rest) le stops.before);
      after = λ lt on.
          let cut : take (n + at + 1) (replicate n 91 ++ rest) ≡ replicate n 91 ++ take (at + 1) rest = ap (λ k. take k (replicate n 91 ++ rest)) (omega arith) ∙ cut_behind n rest (at + 1) in
          stops_later n rest at none stops (omega arith) (rw cut at on);
      whole = λ e. is_field_descriptor-brackets n rest none ∙ and_right (nat_le n 255) (is_element rest) (stops.whole (omega arith));
    }

pub field_stops : (text : List ℕ) (n at : ℕ) → n ≡ dimensions text → n ≤ 255 → StopsAt is_element (take (length text - n) (drop n text)) at → StopsAt is_field_descriptor text (n + at)
field_stops text n at count le stops =
    let split : replicate n 91 ++ drop n text ≡ text = ap (λ k. replicate k 91 ++ drop k text) count ∙ brackets_and_rest text in
    let none : dimensions (drop n text) ≡ 0 = ap (λ k. dimensions (drop k text)) count ∙ dimensions-rest text in
    rw (sym split) (stops_behind n (drop n text) at le none (rw from_place at stops))

pub field_whole : (text : List ℕ) (n : ℕ) → n ≡ dimensions text → n ≤ 255 → is_element (drop n text) ≡ true → is_field_descriptor text ≡ true
field_whole text n count le passes =
    let within : nat_le (dimensions text) 255 ≡ true = le-leb (dimensions text) 255 (omega arith) in
    let element : is_element (drop (dimensions text) text) ≡ true = ap (λ k. is_element (drop k text)) (sym count) ∙ passes in
    and_from _ _ within element

too_many : (n : ℕ) (rest : List ℕ) → n ≡ 255 → StopsAt is_field_descriptor (replicate n 91 ++ 91 ∷ rest) n
too_many n rest limit =
    let goes : is_field_descriptor (replicate n 91 ++ 66 ∷ []) ≡ true = is_field_descriptor-brackets n (66 ∷ []) refl ∙ and_from (nat_le n 255) true (le-leb n 255 (omega arith)) refl in
    let stops : (more : List ℕ) → is_field_descriptor (replicate n 91 ++ 91 ∷ more) ≡ false = λ (more : List ℕ).
    let count : dimensions (replicate n 91 ++ 91 ∷ more) ≡ n + suc (dimensions more) = dimensions-replicate n (91 ∷ more) ∙ ap (λ k. n + k) (dimensions-bracket more) in
    and_left (nat_le (dimensions (replicate n 91 ++ 91 ∷ more)) 255) _ (lt-leb (dimensions (replicate n 91 ++ 91 ∷ more)) 255 (omega arith)) in
    subst (StopsAt is_field_descriptor (replicate n 91 ++ 91 ∷ rest)) (length-replicate n 91) (StopsAt-byte is_field_descriptor (replicate n 91) 91 rest (66 ∷ [], goes) stops)

-- the 256th '[' is one too many
pub brackets_stop : (text : List ℕ) (n : ℕ) → n ≡ 255 → n < dimensions text → StopsAt is_field_descriptor text n
brackets_stop text n limit lt =
    let k = dimensions text - suc n in
    let count : n + suc k ≡ dimensions text = omega arith in
    let split : replicate n 91 ++ 91 ∷ (replicate k 91 ++ drop (dimensions text) text) ≡ text =
    sym (append_assoc (replicate n 91) (replicate (suc k) 91) (drop (dimensions text) text))
    ∙ ap (λ t. t ++ drop (dimensions text) text) (replicate-append-replicate n (suc k) 91)
    ∙ ap (λ d. replicate d 91 ++ drop (dimensions text) text) count
    ∙ brackets_and_rest text in
    rw (sym split) (too_many n (replicate k 91 ++ drop (dimensions text) text) limit)

-- for the functions that look for the place
pub ruleset element_stops = (element_empty, element_class, element_other, element_more, element_primitive)

pub ruleset field_stops_at = (field_stops, field_whole, brackets_stop)
