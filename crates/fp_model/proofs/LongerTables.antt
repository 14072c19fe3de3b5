-- What is said over a table of names holds over a longer one.
use Rattle.std.proofs.Common.{◌≡◌, ℕ, ◌<◌, true, ◌&&◌, List, [], ◌∷◌, ◌++◌, Option, Some, None, length, get_or, replicate, refl, sym, ap, ◌∙◌, arith}
use Rattle.std.specs.Prelude.{nat_le, slice_get, unwrap_or, IfSome, IsTrue}
use Rattle.std.specs.List.{flat_map, list_all}
use Rattle.std.proofs.lemmas.Bool.{and_from, and_parts}
use Rattle.std.proofs.lemmas.Option.{slice_get-get_or, slice_get_within}
use Rattle.fp_model.specs.declared.kind.Descr.{Descr}
use Rattle.fp_model.specs.declared.kind.Kind.{Kind}
use Rattle.fp_model.specs.declared.kind.Kind.TheVariants as kind
use Rattle.fp_model.specs.declared.kind.Elem.{Elem}
use Rattle.fp_model.specs.declared.kind.Elem.TheVariants as elem
use Rattle.fp_model.specs.Descriptor.{element_text, is_element, is_field_descriptor, is_kind, is_proper, kind_text, result_text, text_of, IsDescrOf, IsKindOf}
use Rattle.fp_model.proofs.ArrayTypes.{is_field_descriptor-brackets}
use Rattle.fp_model.proofs.ElementTexts.{name_parts}

-- a longer table has what stands in a shorter one
pub record Keeps (names longer : List (List ℕ)) : Type 0 where
  pub stands : (i : ℕ) (text : List ℕ) → slice_get names i ≡ Some text → slice_get longer i ≡ Some text

module _ (names longer : List (List ℕ)) (kept : Keeps names longer) where
  -- ---- numbers

  there : (n : ℕ) → n < length names → slice_get longer n ≡ Some (get_or names n [])
  there n within = kept.stands n (get_or names n []) (slice_get-get_or names n [] within)

  -- a number of the table stands for the same text
  pub same_at : (n : ℕ) → n < length names → slice_get longer n ≡ slice_get names n
  same_at n within = there n within ∙ sym (slice_get-get_or names n [] within)

  pub within_kept : (n : ℕ) → n < length names → n < length longer
  within_kept n within = slice_get_within longer n (get_or names n []) (there n within)

  pub text_same : (n : ℕ) → n < length names → text_of longer n ≡ text_of names n
  text_same n within = ap (λ o. unwrap_or o []) (same_at n within)

  -- ---- kinds

  pub text_kept : (n : ℕ) → 0 < length (text_of names n) → text_of longer n ≡ text_of names n
  text_kept n some =
      elim (slice_get names n) as (λ o. slice_get names n ≡ o → 0 < length (unwrap_or o []) → unwrap_or (slice_get longer n) [] ≡ unwrap_or o []) [
        | Some text ↦ λ at some. ap (λ o. unwrap_or o []) (kept.stands n text at)
        | None ↦ λ at some. absurd (omega arith)
      ] refl some

  element_kept : (e : Elem) → is_element (element_text names e) ≡ true → element_text longer e ≡ element_text names e
  element_kept (elem.Prim letter) passes = refl
  element_kept (elem.Class n) passes = ap (λ t. 76 ∷ (t ++ (59 ∷ []))) (text_kept n (name_parts (text_of names n) 59 passes).0)

  array_kept : (dims : ℕ) (e : Elem) → is_field_descriptor (replicate dims 91 ++ element_text names e) ≡ true → element_text longer e ≡ element_text names e
  array_kept dims (elem.Prim letter) passes = refl
  array_kept dims (elem.Class n) passes =
      let text = element_text names (elem.Class n) in
      element_kept (elem.Class n) (and_parts (nat_le dims 255) (is_element text) (sym (is_field_descriptor-brackets dims text refl) ∙ passes)).1

  kind_kept : (k : Kind) → is_field_descriptor (kind_text names k) ≡ true → kind_text longer k ≡ kind_text names k
  kind_kept (kind.Int letter) passes = refl
  kind_kept kind.Long passes = refl
  kind_kept kind.Float passes = refl
  kind_kept kind.Double passes = refl
  kind_kept (kind.Class n) passes = array_kept 0 (elem.Class n) passes
  kind_kept (kind.Array dims e) passes = ap (λ t. replicate dims 91 ++ t) (array_kept dims e passes)

  -- a kind says the same text
  pub IsKindOf-kept : (text : List ℕ) (k : Kind) → IsKindOf names text k → IsKindOf longer text k
  IsKindOf-kept text k is =
      let same : kind_text longer k ≡ kind_text names k = kind_kept k (and_parts (is_proper k) (is_field_descriptor (kind_text names k)) is.kind).1 in
      record {
        written = same ∙ is.written;
        kind = ap (λ t. is_proper k && is_field_descriptor t) same ∙ is.kind;
      }

  pub is_kind-kept : (k : Kind) → is_kind names k ≡ true → (kind_text longer k ≡ kind_text names k) × (is_kind longer k ≡ true)
  is_kind-kept k is =
      let same = IsKindOf-kept (kind_text names k) k (record { written = refl; kind = is }) in
      (same.written, same.kind)

  -- ---- method descriptors

  parameters_kept : (ks : List Kind) → list_all (is_kind names) ks ≡ true → (flat_map (kind_text longer) ks ≡ flat_map (kind_text names) ks) × (list_all (is_kind longer) ks ≡ true)
  parameters_kept [] is = (refl, refl)
  parameters_kept (k ∷ ks) is =
      let parts = and_parts (is_kind names k) (list_all (is_kind names) ks) is in
      let first = is_kind-kept k parts.0 in
      let rest = parameters_kept ks parts.1 in
      (ap (λ t. t ++ flat_map (kind_text longer) ks) first.0 ∙ ap (λ t. kind_text names k ++ t) rest.0, and_from (is_kind longer k) (list_all (is_kind longer) ks) first.1 rest.1)

  result_kept : (r : Option Kind) → IfSome r (λ k. IsTrue (is_kind names k)) → (result_text longer r ≡ result_text names r) × IfSome r (λ k. IsTrue (is_kind longer k))
  result_kept None is = (refl, tt)
  result_kept (Some k) is = is_kind-kept k is

  -- kinds say the same text
  pub descr_kept : (text : List ℕ) (d : Descr) → IsDescrOf names text d → IsDescrOf longer text d
  descr_kept text d is =
      let args = parameters_kept d.args is.args in
      let result = result_kept d.result is.result in
      record {
        written =
            ap (λ t. 40 ∷ (t ++ (41 ∷ result_text longer d.result))) args.0
            ∙ ap (λ t. 40 ∷ (flat_map (kind_text names) d.args ++ (41 ∷ t))) result.0
            ∙ is.written;
        args = args.1;
        result = result.1;
      }
