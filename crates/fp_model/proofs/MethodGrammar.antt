-- The texts of method descriptors are those of their grammar.
use Rattle.std.proofs.Common.{◌≡◌, ℕ, zero, suc, ◌+◌, ◌-◌, true, false, ◌&&◌, cond, List, [], ◌∷◌, ◌++◌, length, drop, refl, sym, ap, ◌∙◌, subst, arith}
use Rattle.std.specs.Prelude.{◌==◌}
use Rattle.std.specs.List.{flat_map, list_all}
use Rattle.std.proofs.Math.Seq.{drop-append-add, drop-append_seam}
use Rattle.std.proofs.lemmas.Bool.{and_parts, and_from, eqb-true}
use Rattle.std.proofs.lemmas.List.{append_assoc, take-append-drop}
use Rattle.fp_model.specs.Descriptor.{closes_behind, field_len, fields_behind, first_field, is_field_descriptor, is_method_descriptor, is_result, parameters, result_of, IsMethodOf, TellsParts}
use Rattle.fp_model.proofs.MethodTypes.{closes-front, closes-result, field_front, field_len-some, first_field-front, not_closing}
use Rattle.fp_model.proofs.MethodParts.{fields-step}

-- ---- a method descriptor has the parts

record Splits (text : List ℕ) (fields : List (List ℕ)) : Type 0 where
  last : List ℕ
  whole : text ≡ flat_map (λ field. field) fields ++ (41 ∷ last)
  passes : is_result last ≡ true
  all : list_all is_field_descriptor fields ≡ true

splits : (n : ℕ) (text : List ℕ) → closes_behind n text ≡ true → Splits (drop n text) (fields_behind n text)
unfolding closes_behind fields_behind
splits zero [] closes = absurd cc
splits (suc n) [] closes = absurd cc
splits (suc n) (c ∷ rest) closes = splits n rest closes
splits zero (c ∷ rest) closes =
    elim (c == 41) as (λ b. (c == 41) ≡ b → cond b (is_result rest) (is_field_descriptor (first_field (c ∷ rest)) && closes_behind (field_len (c ∷ rest) - 1) rest) ≡ true → Splits (c ∷ rest) (cond b [] (first_field (c ∷ rest) ∷ fields_behind (field_len (c ∷ rest) - 1) rest))) [
      | true ↦ λ is e. record { last = rest; whole = ap (λ c. c ∷ rest) (eqb-true c 41 is); passes = e; all = refl }
      | false ↦ λ is e.
          let parts = and_parts (is_field_descriptor (first_field (c ∷ rest))) (closes_behind (field_len (c ∷ rest) - 1) rest) e in
          let more = splits (field_len (c ∷ rest) - 1) rest parts.1 in
          let some : field_len (c ∷ rest) ≡ suc (field_len (c ∷ rest) - 1) = let one = field_len-some (c ∷ rest) in omega (arith, one) in
          let left : drop (field_len (c ∷ rest)) (c ∷ rest) ≡ drop (field_len (c ∷ rest) - 1) rest = ap (λ n. drop n (c ∷ rest)) some in
          record {
            last = more.last;
            whole =
                sym (take-append-drop (field_len (c ∷ rest)) (c ∷ rest))
                ∙ ap (λ t. first_field (c ∷ rest) ++ t) (left ∙ more.whole)
                ∙ sym (append_assoc (first_field (c ∷ rest)) (flat_map (λ field. field) (fields_behind (field_len (c ∷ rest) - 1) rest)) (41 ∷ more.last));
            passes = more.passes;
            all = and_from (is_field_descriptor (first_field (c ∷ rest))) (list_all is_field_descriptor (fields_behind (field_len (c ∷ rest) - 1) rest)) parts.0 more.all;
          }
    ] refl closes

-- what stands behind the parts
behind_parts : (front last : List ℕ) → drop (length front + 2) (40 ∷ (front ++ (41 ∷ last))) ≡ last
behind_parts front last =
    let two : length front + 2 ≡ suc (length front + 1) = omega arith in
    ap (λ n. drop n (40 ∷ (front ++ (41 ∷ last)))) two ∙ drop-append-add front (41 ∷ last) 1

method_parts : (text : List ℕ) → is_method_descriptor text ≡ true → Splits (drop 1 text) (parameters text) × (40 ∷ drop 1 text ≡ text)
unfolding closes_behind
method_parts [] passes = absurd cc
method_parts (c ∷ rest) passes =
    let parts = and_parts (c == 40) (closes_behind 1 (c ∷ rest)) passes in
    (splits 1 (c ∷ rest) parts.1, ap (λ c. c ∷ rest) (sym (eqb-true c 40 parts.0)))

pub has_parts : (text : List ℕ) → is_method_descriptor text ≡ true → IsMethodOf text (parameters text) (result_of text)
has_parts text passes =
    let (parts, first) = method_parts text passes in
    let front = flat_map (λ field. field) (parameters text) in
    let written : text ≡ 40 ∷ (front ++ (41 ∷ parts.last)) = sym first ∙ ap (λ t. 40 ∷ t) parts.whole in
    let result : result_of text ≡ parts.last = ap (λ t. drop (length front + 2) t) written ∙ behind_parts front parts.last in
    record {
      written = written ∙ ap (λ t. 40 ∷ (front ++ (41 ∷ t))) (sym result);
      all_fields = parts.all;
      passes = ap is_result result ∙ parts.passes;
    }

-- ---- the parts make a method descriptor

fields-front : (field more : List ℕ) → is_field_descriptor field ≡ true → fields_behind 0 (field ++ more) ≡ field ∷ fields_behind 0 more
fields-front [] more passes = absurd cc
fields-front (c ∷ field) more passes =
    fields-step c (field ++ more) (not_closing c field passes)
    ∙ ap (λ f. f ∷ fields_behind 0 (drop (field_len ((c ∷ field) ++ more)) ((c ∷ field) ++ more))) (first_field-front (c ∷ field) more passes)
    ∙ ap (λ n. (c ∷ field) ∷ fields_behind 0 (drop n ((c ∷ field) ++ more))) (field_front (c ∷ field) more passes)
    ∙ ap (λ t. (c ∷ field) ∷ fields_behind 0 t) (drop-append_seam (c ∷ field) more)

all_close : (fields : List (List ℕ)) (last : List ℕ) → list_all is_field_descriptor fields ≡ true → is_result last ≡ true → closes_behind 0 (flat_map (λ field. field) fields ++ (41 ∷ last)) ≡ true
all_close [] last all passes = closes-result last ∙ passes
all_close (f ∷ fields) last all passes =
    let parts = and_parts (is_field_descriptor f) (list_all is_field_descriptor fields) all in
    ap (closes_behind 0) (append_assoc f (flat_map (λ field. field) fields) (41 ∷ last))
    ∙ closes-front f (flat_map (λ field. field) fields ++ (41 ∷ last)) parts.0
    ∙ all_close fields last parts.1 passes

all_fields_behind : (fields : List (List ℕ)) (last : List ℕ) → list_all is_field_descriptor fields ≡ true → fields_behind 0 (flat_map (λ field. field) fields ++ (41 ∷ last)) ≡ fields
unfolding fields_behind
all_fields_behind [] last all = refl
all_fields_behind (f ∷ fields) last all =
    let parts = and_parts (is_field_descriptor f) (list_all is_field_descriptor fields) all in
    ap (fields_behind 0) (append_assoc f (flat_map (λ field. field) fields) (41 ∷ last))
    ∙ fields-front f (flat_map (λ field. field) fields ++ (41 ∷ last)) parts.0
    ∙ ap (λ l. f ∷ l) (all_fields_behind fields last parts.1)

made_parts : (fields : List (List ℕ)) (last : List ℕ) → list_all is_field_descriptor fields ≡ true → is_result last ≡ true → TellsParts (40 ∷ (flat_map (λ field. field) fields ++ (41 ∷ last))) fields last
unfolding closes_behind fields_behind
made_parts fields last all passes =
    let is : parameters (40 ∷ (flat_map (λ field. field) fields ++ (41 ∷ last))) ≡ fields = all_fields_behind fields last all in
    record {
      passes = all_close fields last all passes;
      fields_are = is;
      result_is = ap (λ l. drop (length (flat_map (λ field. field) l) + 2) (40 ∷ (flat_map (λ field. field) fields ++ (41 ∷ last)))) is ∙ behind_parts (flat_map (λ field. field) fields) last;
    }

pub tells_parts : (text : List ℕ) (fields : List (List ℕ)) (last : List ℕ) → IsMethodOf text fields last → TellsParts text fields last
tells_parts text fields last is = subst (λ t. TellsParts t fields last) (sym is.written) (made_parts fields last is.all_fields is.passes)
