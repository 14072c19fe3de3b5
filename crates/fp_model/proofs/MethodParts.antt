-- The parameters of a method descriptor, one behind the other.
use Rattle.std.proofs.Common.{◌≡◌, ◌≢◌, inl, inr, ℕ, suc, ◌+◌, ◌-◌, ◌<◌, ◌≤◌, true, cond, List, [], ◌∷◌, length, take, drop, get_or, sym, ap, ◌∙◌, arith, length-drop, drop-cons}
use Rattle.std.specs.Prelude.{◌==◌}
use Rattle.std.proofs.lemmas.List.{drop_all, drop-drop, get_or-drop}
use Rattle.std.proofs.lemmas.Bool.{and_parts, ne_eqb, both_ways, cases_lt}
use Rattle.fp_model.specs.Descriptor.{closes_behind, field_len, fields_behind, first_field, is_field_descriptor, is_method_descriptor, is_result, parameters, words_of, words_of_all}
use Rattle.fp_model.proofs.MethodTypes.{closes-skip, closes-step, field_fits, field_len-some, fields-skip}

pub fields-step : (c : ℕ) (rest : List ℕ) → c ≢ 41 → fields_behind 0 (c ∷ rest) ≡ first_field (c ∷ rest) ∷ fields_behind 0 (drop (field_len (c ∷ rest)) (c ∷ rest))
unfolding fields_behind
fields-step c rest ne =
    let some : (k : ℕ) × (field_len (c ∷ rest) ≡ suc k) = (field_len (c ∷ rest) - 1, let one = field_len-some (c ∷ rest) in omega (arith, one)) in
    let less : field_len (c ∷ rest) - 1 ≡ some.0 = omega (arith, some.1) in
    let behind : fields_behind (field_len (c ∷ rest) - 1) rest ≡ fields_behind 0 (drop (field_len (c ∷ rest)) (c ∷ rest)) = ap (λ n. fields_behind n rest) less ∙ fields-skip some.0 rest ∙ ap (λ n. fields_behind 0 (drop n (c ∷ rest))) (sym some.1) in
    ap (λ b. cond b [] (first_field (c ∷ rest) ∷ fields_behind (field_len (c ∷ rest) - 1) rest)) (ne_eqb c 41 ne)
    ∙ ap (λ l. first_field (c ∷ rest) ∷ l) behind

-- the words of a value are told by the first byte
words-first : (c : ℕ) (rest : List ℕ) → words_of (first_field (c ∷ rest)) ≡ words_of (c ∷ [])
words-first c rest =
    let some : field_len (c ∷ rest) ≡ suc (field_len (c ∷ rest) - 1) = let one = field_len-some (c ∷ rest) in omega (arith, one) in
    ap (λ n. words_of (take n (c ∷ rest))) some

-- ---- where the first parameter begins

pub parameters-open : (text : List ℕ) → is_method_descriptor text ≡ true → (closes_behind 0 (drop 1 text) ≡ true) × (fields_behind 0 (drop 1 text) ≡ parameters text) × (1 ≤ length text)
unfolding closes_behind
parameters-open [] passes = absurd cc
parameters-open (c ∷ rest) passes = (
  sym (closes-skip 1 (c ∷ rest)) ∙ (and_parts (c == 40) (closes_behind 1 (c ∷ rest)) passes).1,
  sym (fields-skip 1 (c ∷ rest)),
  omega arith,
)

-- ---- the next one

pub closes-there : (text : List ℕ) (at : ℕ) → closes_behind 0 (drop at text) ≡ true → at < length text
unfolding closes_behind
closes-there text at closes = elim (cases_lt at (length text)) [
  | inl lt ↦ lt
  | inr ge ↦ absurd (both_ways (closes_behind 0 (drop at text)) (ap (closes_behind 0) (drop_all at text (omega (arith, ge)))) closes)
]

-- what is known where a parameter stands
pub record Next (text slice : List ℕ) (at : ℕ) : Type 0 where
  pub field : is_field_descriptor (first_field slice) ≡ true
  pub some : 0 < field_len slice
  pub within : at + field_len slice ≤ length text
  pub closes : closes_behind 0 (drop (at + field_len slice) text) ≡ true
  pub fields : fields_behind 0 slice ≡ first_field slice ∷ fields_behind 0 (drop (at + field_len slice) text)
  pub words : words_of (first_field slice) ≡ words_of (get_or text at 0 ∷ [])

next_in : (text : List ℕ) (at : ℕ) (slice : List ℕ) → slice ≡ drop at text → at < length text → get_or text at 0 ≢ 41 → closes_behind 0 slice ≡ true → Next text slice at
unfolding closes_behind
next_in text at [] is lt ne closes = absurd cc
next_in text at (c ∷ rest) is lt ne closes =
    let first : c ≡ get_or text at 0 = ap (λ t. get_or t 0 0) is ∙ get_or-drop at text 0 0 ∙ add_none at in
    let parts = and_parts (is_field_descriptor (first_field (c ∷ rest))) (closes_behind 0 (drop (field_len (c ∷ rest)) (c ∷ rest))) (sym (closes-step c rest (λ e. ne (sym first ∙ e))) ∙ closes) in
    let later : drop (field_len (c ∷ rest)) (c ∷ rest) ≡ drop (at + field_len (c ∷ rest)) text = ap (drop (field_len (c ∷ rest))) is ∙ drop-drop (field_len (c ∷ rest)) at text in
    record {
      field = parts.0;
      some = field_len-some (c ∷ rest);
      within = let fits = field_fits (c ∷ rest) parts.0 in omega (arith, fits, ap length is, length-drop at text, lt);
      closes = ap (closes_behind 0) (sym later) ∙ parts.1;
      fields = fields-step c rest (λ e. ne (sym first ∙ e)) ∙ ap (λ t. first_field (c ∷ rest) ∷ fields_behind 0 t) later;
      words = words-first c rest ∙ ap (λ c. words_of (c ∷ [])) first;
    }
  where
    add_none : (at : ℕ) → get_or text (at + 0) 0 ≡ get_or text at 0
    add_none at = let none : at + 0 ≡ at = omega arith in ap (λ n. get_or text n 0) none

pub parameters-next : (text : List ℕ) (at : ℕ) (slice : List ℕ) → slice ≡ drop at text → get_or text at 0 ≢ 41 → closes_behind 0 (drop at text) ≡ true → Next text slice at
parameters-next text at slice is ne closes = next_in text at slice is (closes-there text at closes) ne (ap (closes_behind 0) is ∙ closes)

-- ---- the ')'

pub parameters-end : (text : List ℕ) (at : ℕ) → get_or text at 0 ≡ 41 → closes_behind 0 (drop at text) ≡ true → (fields_behind 0 (drop at text) ≡ []) × (is_result (drop (at + 1) text) ≡ true)
unfolding closes_behind fields_behind
parameters-end text at is closes =
    let here : drop at text ≡ 41 ∷ drop (suc at) text = drop-cons text at 0 (closes-there text at closes) ∙ ap (λ c. c ∷ drop (suc at) text) is in
    let later : suc at ≡ at + 1 = omega arith in
    (ap (fields_behind 0) here, ap (λ n. is_result (drop n text)) (sym later) ∙ sym (ap (closes_behind 0) here) ∙ closes)

-- ---- their words

module _ (text : List ℕ) (at words : ℕ) (closes : closes_behind 0 (drop at text) ≡ true) (so_far : words + words_of_all (fields_behind 0 (drop at text)) ≡ words_of_all (parameters text)) where
  pub words-next : (slice : List ℕ) (len more : ℕ) → slice ≡ drop at text → get_or text at 0 ≢ 41 → len ≡ field_len slice → more ≡ words_of (get_or text at 0 ∷ []) → words + more + words_of_all (fields_behind 0 (drop (at + len) text)) ≡ words_of_all (parameters text)
  unfolding words_of_all
  words-next slice len more is ne count told =
      let next = parameters-next text at slice is ne closes in
      let left : words_of_all (fields_behind 0 (drop at text)) ≡ words_of (first_field slice) + words_of_all (fields_behind 0 (drop (at + len) text)) =
      ap (λ t. words_of_all (fields_behind 0 t)) (sym is) ∙ ap words_of_all next.fields ∙ ap (λ n. words_of (first_field slice) + words_of_all (fields_behind 0 (drop (at + n) text))) (sym count) in
      omega (arith, left, so_far, told, next.words)

  pub words-end : get_or text at 0 ≡ 41 → words ≡ words_of_all (parameters text)
  unfolding words_of_all
  words-end is =
      let none : words_of_all (fields_behind 0 (drop at text)) ≡ 0 = ap words_of_all (parameters-end text at is closes).0 in
      omega (arith, none, so_far)

pub words-few : (c : ℕ) → words_of (c ∷ []) ≤ 2
words-few c = grind arith
