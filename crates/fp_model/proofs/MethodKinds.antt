-- The kinds of the parameters and of the result of a method, as they are read.
use Rattle.std.proofs.Common.{◌≡◌, ◌≢◌, ℕ, suc, ◌+◌, ◌<◌, ◌≤◌, true, List, [], ◌∷◌, ◌++◌, length, take, drop, get_or, codes, Some, None, refl, sym, ap, ◌∙◌, arith, drop-cons, add-one}
use Rattle.std.specs.Prelude.{◌==◌, Option}
use Rattle.std.specs.List.{flat_map, list_all, AllZip}
use Rattle.std.proofs.Math.Seq.{take-add}
use Rattle.std.proofs.lemmas.Bool.{and_parts, and_from, eqb-true, both_ways}
use Rattle.std.proofs.lemmas.Grind.{flat_map-append}
use Rattle.std.proofs.lemmas.List.{append-nil, append_assoc, take-append-drop, length-take-le}
use Rattle.fp_model.specs.declared.kind.Kind.{Kind}
use Rattle.fp_model.specs.Descriptor.{closes_behind, field_len, fields_behind, first_field, is_field_descriptor, is_kind, is_method_descriptor, is_result, kind_names, kind_text, parameters, result_of, result_text, IsDescrOf, IsKindOf, IsParametersEnd, IsResultOf}
use Rattle.fp_model.proofs.LongerTables.{Keeps, IsKindOf-kept}
use Rattle.fp_model.proofs.MethodTypes.{field_fits, result_same, result_void_more}
use Rattle.fp_model.proofs.MethodParts.{closes-there, parameters-open, parameters-next, parameters-end, Next}

-- ---- lists place by place

kinds_kept : (names longer fields : List (List ℕ)) (kinds : List Kind) → Keeps names longer → AllZip (IsKindOf names) fields kinds → AllZip (IsKindOf longer) fields kinds
kinds_kept names longer [] [] kept all = tt
kinds_kept names longer [] (k ∷ kinds) kept all = absurd all
kinds_kept names longer (f ∷ fields) [] kept all = absurd all
kinds_kept names longer (f ∷ fields) (k ∷ kinds) kept all = (IsKindOf-kept names longer kept f k all.0, kinds_kept names longer fields kinds kept all.1)

kinds_more : (names fields : List (List ℕ)) (kinds : List Kind) (f : List ℕ) (k : Kind) → AllZip (IsKindOf names) fields kinds → IsKindOf names f k → AllZip (IsKindOf names) (fields ++ f ∷ []) (kinds ++ k ∷ [])
kinds_more names [] [] f k all one = (one, tt)
kinds_more names [] (b ∷ kinds) f k all one = absurd all
kinds_more names (a ∷ fields) [] f k all one = absurd all
kinds_more names (a ∷ fields) (b ∷ kinds) f k all one = (all.0, kinds_more names fields kinds f k all.1 one)

-- one more, over a table that grew
pub kinds_next : (names longer fields : List (List ℕ)) (kinds : List Kind) (f : List ℕ) (k : Kind) → Keeps names longer → AllZip (IsKindOf names) fields kinds → IsKindOf longer f k → AllZip (IsKindOf longer) (fields ++ f ∷ []) (kinds ++ k ∷ [])
kinds_next names longer fields kinds f k kept all one = kinds_more longer fields kinds f k (kinds_kept names longer fields kinds kept all) one

kinds_written : (names fields : List (List ℕ)) (kinds : List Kind) → AllZip (IsKindOf names) fields kinds → flat_map (kind_text names) kinds ≡ flat_map (λ field. field) fields
kinds_written names [] [] all = refl
kinds_written names [] (k ∷ kinds) all = absurd all
kinds_written names (f ∷ fields) [] all = absurd all
kinds_written names (f ∷ fields) (k ∷ kinds) all = ap (λ t. t ++ flat_map (kind_text names) kinds) all.0.written ∙ ap (λ t. f ++ t) (kinds_written names fields kinds all.1)

kinds_are : (names fields : List (List ℕ)) (kinds : List Kind) → AllZip (IsKindOf names) fields kinds → list_all (is_kind names) kinds ≡ true
kinds_are names [] [] all = refl
kinds_are names [] (k ∷ kinds) all = absurd all
kinds_are names (f ∷ fields) [] all = absurd all
kinds_are names (f ∷ fields) (k ∷ kinds) all = and_from (is_kind names k) (list_all (is_kind names) kinds) all.0.kind (kinds_are names fields kinds all.1)

-- ---- how far the parameters are read

pub record UpTo (text : List ℕ) (at : ℕ) (done : List (List ℕ)) : Type 0 where
  pub closes : closes_behind 0 (drop at text) ≡ true
  pub fields : done ++ fields_behind 0 (drop at text) ≡ parameters text
  pub front : take at text ≡ 40 ∷ flat_map (λ field. field) done

pub up_to_open : (text : List ℕ) → is_method_descriptor text ≡ true → UpTo text 1 []
up_to_open text passes = record {
  closes = (parameters-open text passes).0;
  fields = (parameters-open text passes).1;
  front = opening text passes;
}
  where
    opening : (text : List ℕ) → is_method_descriptor text ≡ true → take 1 text ≡ 40 ∷ []
    opening [] passes = absurd cc
    opening (c ∷ rest) passes = ap (λ b. b ∷ []) (eqb-true c 40 (and_parts (c == 40) (closes_behind 1 (c ∷ rest)) passes).0)

module _ (text : List ℕ) (at : ℕ) (done : List (List ℕ)) (so_far : UpTo text at done) where
  pub up_to_within : at < length text
  up_to_within = closes-there text at so_far.closes

  pub up_to_field : get_or text at 0 ≢ 41 → Next text (drop at text) at
  up_to_field ne = parameters-next text at (drop at text) refl ne so_far.closes

  pub up_to_next : (len : ℕ) → get_or text at 0 ≢ 41 → len ≡ field_len (drop at text) → UpTo text (at + len) (done ++ first_field (drop at text) ∷ [])
  up_to_next len ne count =
      let next = up_to_field ne in
      let place : at + field_len (drop at text) ≡ at + len = ap (λ n. at + n) (sym count) in
      record {
        closes = ap (λ n. closes_behind 0 (drop n text)) (sym place) ∙ next.closes;
        fields =
            append_assoc done (first_field (drop at text) ∷ []) (fields_behind 0 (drop (at + len) text))
            ∙ ap (λ n. done ++ first_field (drop at text) ∷ fields_behind 0 (drop n text)) (sym place)
            ∙ ap (λ l. done ++ l) (sym next.fields)
            ∙ so_far.fields;
        front =
            ap (λ n. take n text) (sym place)
            ∙ take-add at (field_len (drop at text)) text
            ∙ ap (λ t. t ++ first_field (drop at text)) so_far.front
            ∙ ap (λ t. 40 ∷ t) (ap (λ t. flat_map (λ field. field) done ++ t) (sym (append-nil (first_field (drop at text)))) ∙ sym (flat_map-append (λ field. field) done (first_field (drop at text) ∷ [])));
      }

  -- the length of what is read next
  pub up_to_length : (field : List ℕ) → get_or text at 0 ≢ 41 → field ≡ first_field (drop at text) → length field ≡ field_len (drop at text)
  up_to_length field ne is =
      let next = up_to_field ne in
      let fits : field_len (drop at text) ≤ length (drop at text) = field_fits (drop at text) next.field in
      ap length is ∙ length-take-le (field_len (drop at text)) (drop at text) fits

  -- what is left to read
  pub up_to_split : get_or text at 0 ≢ 41 → (left : List (List ℕ)) × (done ++ first_field (drop at text) ∷ left ≡ parameters text)
  up_to_split ne =
      let next = up_to_field ne in
      (fields_behind 0 (drop (at + field_len (drop at text)) text), ap (λ l. done ++ l) (sym next.fields) ∙ so_far.fields)

  pub up_to_all : get_or text at 0 ≡ 41 → done ≡ parameters text
  up_to_all is = sym (append-nil done) ∙ ap (λ l. done ++ l) (sym (parameters-end text at is so_far.closes).0) ∙ so_far.fields

  pub up_to_end : get_or text at 0 ≡ 41 → IsParametersEnd text at
  up_to_end is = record {
    within = up_to_within;
    front = so_far.front ∙ ap (λ l. 40 ∷ flat_map (λ field. field) l) (up_to_all is);
    closing = is;
    result = (parameters-end text at is so_far.closes).1;
  }

-- ---- the whole

module _ (text : List ℕ) (end : ℕ) (ends : IsParametersEnd text end) where
  pub result_is : drop (end + 1) text ≡ result_of text
  result_is =
      let size : length (take end text) ≡ end = let within = ends.within in length-take-le end text (omega (arith, within)) in
      let front : length (take end text) ≡ suc (length (flat_map (λ field. field) (parameters text))) = ap length ends.front in
      let same : end + 1 ≡ length (flat_map (λ field. field) (parameters text)) + 2 = omega (arith, size, front) in
      ap (λ n. drop n text) same

  pub descr_made : (names longer : List (List ℕ)) (args : List Kind) (result : Option Kind) → Keeps names longer → AllZip (IsKindOf names) (parameters text) args → IsResultOf longer (drop (end + 1) text) result → IsDescrOf longer text (record { args = args; result = result })
  descr_made names longer args result kept all is =
      let kinds = kinds_kept names longer (parameters text) args kept all in
      let last : drop end text ≡ 41 ∷ drop (end + 1) text = drop-cons text end 0 ends.within ∙ ap (λ c. c ∷ drop (suc end) text) ends.closing ∙ ap (λ n. 41 ∷ drop n text) (sym (add-one end)) in
      record {
        written =
            ap (λ t. 40 ∷ (t ++ (41 ∷ result_text longer result))) (kinds_written longer (parameters text) args kinds)
            ∙ ap (λ t. 40 ∷ (flat_map (λ field. field) (parameters text) ++ (41 ∷ t))) is.written
            ∙ ap (λ t. t ++ (41 ∷ drop (end + 1) text)) (sym ends.front)
            ∙ ap (λ t. take end text ++ t) (sym last)
            ∙ take-append-drop end text;
        args = kinds_are longer (parameters text) args kinds;
        result = is.kind;
      }

-- ---- a result

result_void : (text : List ℕ) → is_result text ≡ true → get_or text 0 0 ≡ 86 → text ≡ codes "V"
result_void [] passes is = absurd cc
result_void (c ∷ []) passes is = ap (λ c. c ∷ []) is
result_void (c ∷ x ∷ rest) passes is = absurd (both_ways (is_result (c ∷ x ∷ rest)) (ap (λ c. is_result (c ∷ x ∷ rest)) is ∙ result_void_more x rest) passes)

pub void_result : (names : List (List ℕ)) (text : List ℕ) → is_result text ≡ true → get_or text 0 0 ≡ 86 → IsResultOf names text None × (kind_names text ≡ [])
void_result names text passes is =
    let whole = result_void text passes is in
    (record { written = sym whole; kind = tt }, ap kind_names whole)

pub result_is_field : (text : List ℕ) → is_result text ≡ true → get_or text 0 0 ≢ 86 → is_field_descriptor text ≡ true
result_is_field text passes ne = sym (result_same text ne) ∙ passes

pub field_result : (names : List (List ℕ)) (text : List ℕ) (k : Kind) → IsKindOf names text k → IsResultOf names text (Some k)
field_result names text k is = record { written = is.written; kind = is.kind }
