-- The words of a method's arguments by their kinds are those by its descriptor.
use Rattle.std.proofs.Common.{◌≡◌, ℕ, zero, suc, ◌+◌, true, List, [], ◌∷◌, ◌++◌, Option, Some, None, codes, map, refl, sym, ap, ap₂, ◌∙◌, arith}
use Rattle.std.specs.Prelude.{IsTrue, IfSome}
use Rattle.std.specs.List.{list_all}
use Rattle.std.proofs.lemmas.Bool.{and_from, and_parts, cond-true}
use Rattle.std.proofs.lemmas.Bool.Decides.{nat_tests}
use Rattle.std.proofs.lemmas.List.Folds.{flat_map-map}
use Rattle.fp_model.specs.declared.kind.Descr.{Descr}
use Rattle.fp_model.specs.declared.kind.Kind.{Kind}
use Rattle.fp_model.specs.declared.kind.Kind.TheVariants as kind
use Rattle.fp_model.specs.Descriptor.{is_among, is_field_descriptor, is_kind, is_method_descriptor, is_proper, is_result, kind_text, parameter_words, result_text, words_of, words_of_all, IsDescrOf, IsMethodOf}
use Rattle.fp_model.specs.SoundCode.{kind_words, kind_words_all}
use Rattle.fp_model.proofs.MethodGrammar.{tells_parts}
use Rattle.fp_model.proofs.MethodTypes.{result_field}

module _ (names : List (List ℕ)) where
  letter_words : (letter : ℕ) → is_among (codes "BCISZ") letter ≡ true → words_of (letter ∷ []) ≡ 1
  letter_words letter proper = grind (arith, nat_tests)

  one_kind : (k : Kind) → is_proper k ≡ true → words_of (kind_text names k) ≡ kind_words k
  one_kind (kind.Int letter) proper = letter_words letter proper
  one_kind kind.Long proper = refl
  one_kind kind.Float proper = refl
  one_kind kind.Double proper = refl
  one_kind (kind.Class name) proper = refl
  one_kind (kind.Array zero element) proper = absurd cc
  one_kind (kind.Array (suc dims) element) proper = refl

  all_kinds : (ks : List Kind) → list_all (is_kind names) ks ≡ true → words_of_all (map (kind_text names) ks) ≡ kind_words_all ks
  unfolding words_of_all kind_words_all
  all_kinds [] are = refl
  all_kinds (k ∷ ks) are =
      let parts = and_parts (is_kind names k) (list_all (is_kind names) ks) are in
      let proper = (and_parts (is_proper k) (is_field_descriptor (kind_text names k)) parts.0).0 in
      ap₂ (λ a b. a + b) (one_kind k proper) (all_kinds ks parts.1)

  all_fields : (ks : List Kind) → list_all (is_kind names) ks ≡ true → list_all is_field_descriptor (map (kind_text names) ks) ≡ true
  all_fields [] are = refl
  all_fields (k ∷ ks) are =
      let parts = and_parts (is_kind names k) (list_all (is_kind names) ks) are in
      let field = (and_parts (is_proper k) (is_field_descriptor (kind_text names k)) parts.0).1 in
      and_from (is_field_descriptor (kind_text names k)) (list_all is_field_descriptor (map (kind_text names) ks)) field (all_fields ks parts.1)

  result_passes : (result : Option Kind) → IfSome result (λ k. IsTrue (is_kind names k)) → is_result (result_text names result) ≡ true
  result_passes None is = refl
  result_passes (Some k) is = result_field (kind_text names k) (and_parts (is_proper k) (is_field_descriptor (kind_text names k)) is).1

  has_grammar : (text : List ℕ) (d : Descr) → IsDescrOf names text d → IsMethodOf text (map (kind_text names) d.args) (result_text names d.result)
  has_grammar text d is = record {
    written = sym is.written ∙ ap (λ t. 40 ∷ (t ++ (41 ∷ result_text names d.result))) (sym (flat_map-map (λ field. field) (kind_text names) d.args));
    all_fields = all_fields d.args is.args;
    passes = result_passes d.result is.result;
  }

  pub descr_words : (text : List ℕ) (d : Descr) → IsDescrOf names text d → parameter_words text ≡ Some (kind_words_all d.args)
  descr_words text d is =
      let parts = tells_parts text (map (kind_text names) d.args) (result_text names d.result) (has_grammar text d is) in
      cond-true (is_method_descriptor text) _ _ parts.passes
      ∙ ap (λ fields. Some (words_of_all fields)) parts.fields_are
      ∙ ap Some (all_kinds d.args is.args)
