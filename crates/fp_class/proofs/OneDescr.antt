-- What a descriptor says is determined, over a table of distinct names.
use Rattle.std.proofs.Common.{◌≡◌, ℕ, ◌-◌, ◌<◌, true, false, cond, List, [], ◌∷◌, ◌++◌, Option, Some, None, length, take, drop, map, codes, refl, sym, ap, ap₂, ◌∙◌, arith, length-append}
use Rattle.std.specs.Prelude.{◌==◌, nat_le, IsTrue, IfSome}
use Rattle.std.specs.List.{flat_map, list_all}
use Rattle.std.specs.Str.{bytes_eq}
use Rattle.std.proofs.lemmas.Bool.{and_from, and_parts, both_ways, eqb-true}
use Rattle.std.proofs.lemmas.Slice.Eq.{bytes_eq-Decides}
use Rattle.std.proofs.Math.Seq.{take-append_seam}
use Rattle.fp_base.specs.Names.{number_of, AreDistinct}
use Rattle.fp_base.proofs.NameLemmas.{number_of-at}
use Rattle.fp_model.specs.declared.kind.Descr.{Descr}
use Rattle.fp_model.specs.declared.kind.Elem.{Elem}
use Rattle.fp_model.specs.declared.kind.Elem.TheVariants as elem
use Rattle.fp_model.specs.declared.kind.Kind.{Kind}
use Rattle.fp_model.specs.Descriptor.{dimensions, element_text, is_element, is_field_descriptor, is_kind, is_proper, is_result, kind_text, parameters, result_of, result_text, text_of, IsDescrOf, IsKindOf, IsMethodOf, TellsParts}
use Rattle.fp_model.specs.Kinds.{element_in, kind_in}
use Rattle.fp_model.proofs.ElementTexts.{name_parts}
use Rattle.fp_model.proofs.MethodGrammar.{tells_parts}
use Rattle.fp_model.proofs.MethodTypes.{result_field}
use Rattle.fp_model.proofs.OneKind.{element_of, kind_from, kind_from-count, made, seen, stands}
use Rattle.fp_class.specs.CodeNumbers.{descr_in, result_in}

-- ---- a kind

-- the name before the ';'
name_cut : (name : List ℕ) → take (length (name ++ 59 ∷ []) - 1) (name ++ 59 ∷ []) ≡ name
name_cut name = ap (λ n. take n (name ++ 59 ∷ [])) (omega (arith, length-append name (59 ∷ []))) ∙ take-append_seam name (59 ∷ [])

-- the type of an element is what its text says
element_said : (names : List (List ℕ)) (e : Elem) → AreDistinct names → is_element (element_text names e) ≡ true → element_in names (element_text names e) ≡ e
element_said names (elem.Prim letter) distinct passes =
    elim (letter == 76) as (λ b. (letter == 76) ≡ b → element_in names (letter ∷ []) ≡ elem.Prim letter) [
      | true ↦ λ h. absurd (both_ways (is_element (letter ∷ [])) (ap (λ c. is_element (c ∷ [])) (eqb-true letter 76 h)) passes)
      | false ↦ λ h. ap (λ b. cond b (elem.Class (number_of names [])) (elem.Prim letter)) h
    ] refl
element_said names (elem.Class n) distinct passes =
    let some : 0 < length (text_of names n) = (name_parts (text_of names n) 59 passes).0 in
    ap (λ text. elem.Class (number_of names text)) (name_cut (text_of names n))
    ∙ ap elem.Class (number_of-at names n (text_of names n) distinct (stands names n some))

-- a kind by its dimensions and the type of its element
kind_by_parts : (names : List (List ℕ)) (text : List ℕ) → kind_in names text ≡ kind_from (dimensions text) (element_in names (drop (dimensions text) text))
kind_by_parts names text =
    kind_from-count (dimensions text) (element_in names text) (element_in names (drop (dimensions text) text)) (λ none. ap (λ n. element_in names (drop n text)) (sym none))

-- a kind is what its descriptor says
pub kind_said : (names : List (List ℕ)) (text : List ℕ) (k : Kind) → AreDistinct names → IsKindOf names text k → k ≡ kind_in names text
kind_said names text k distinct is =
    let parts = seen names text k is in
    let whole = and_parts (is_proper k) (is_field_descriptor (kind_text names k)) is.kind in
    let descriptor : is_field_descriptor text ≡ true = ap is_field_descriptor (sym is.written) ∙ whole.1 in
    let passes : is_element (element_text names (element_of k)) ≡ true = ap is_element parts.1 ∙ (and_parts (nat_le (dimensions text) 255) (is_element (drop (dimensions text) text)) descriptor).1 in
    let element : element_in names (drop (dimensions text) text) ≡ element_of k = ap (element_in names) (sym parts.1) ∙ element_said names (element_of k) distinct passes in
    sym (made k whole.0)
    ∙ ap₂ kind_from parts.0 (sym element)
    ∙ sym (kind_by_parts names text)

-- ---- parameters

is_field : (names : List (List ℕ)) (k : Kind) → is_kind names k ≡ true → is_field_descriptor (kind_text names k) ≡ true
is_field names k is = (and_parts (is_proper k) (is_field_descriptor (kind_text names k)) is).1

are_fields : (names : List (List ℕ)) (ks : List Kind) → list_all (is_kind names) ks ≡ true → list_all is_field_descriptor (map (kind_text names) ks) ≡ true
are_fields names [] are = refl
are_fields names (k ∷ ks) are =
    let parts = and_parts (is_kind names k) (list_all (is_kind names) ks) are in
    and_from (is_field_descriptor (kind_text names k)) (list_all is_field_descriptor (map (kind_text names) ks)) (is_field names k parts.0) (are_fields names ks parts.1)

joined : (names : List (List ℕ)) (ks : List Kind) → flat_map (kind_text names) ks ≡ flat_map (λ field. field) (map (kind_text names) ks)
joined names [] = refl
joined names (k ∷ ks) = ap (λ t. kind_text names k ++ t) (joined names ks)

kinds_said : (names : List (List ℕ)) (ks : List Kind) → AreDistinct names → list_all (is_kind names) ks ≡ true → ks ≡ map (kind_in names) (map (kind_text names) ks)
kinds_said names [] distinct are = refl
kinds_said names (k ∷ ks) distinct are =
    let parts = and_parts (is_kind names k) (list_all (is_kind names) ks) are in
    ap₂ (λ x xs. x ∷ xs)
    (kind_said names (kind_text names k) k distinct (record { written = refl; kind = parts.0 }))
    (kinds_said names ks distinct parts.1)

-- ---- a result

-- no field descriptor is a 'V'
not_void : (text : List ℕ) → is_field_descriptor text ≡ true → bytes_eq text (codes "V") ≡ false
not_void text passes =
    elim (bytes_eq text (codes "V")) as (λ b. bytes_eq text (codes "V") ≡ b → b ≡ false) [
      | true ↦ λ h. absurd (both_ways (is_field_descriptor text) (ap is_field_descriptor ((bytes_eq-Decides text (codes "V")).0 h)) passes)
      | false ↦ λ h. refl
    ] refl

result_passes : (names : List (List ℕ)) (r : Option Kind) → IfSome r (λ k. IsTrue (is_kind names k)) → is_result (result_text names r) ≡ true
result_passes names None is = refl
result_passes names (Some k) is = result_field (kind_text names k) (is_field names k is)

result_said : (names : List (List ℕ)) (r : Option Kind) → AreDistinct names → IfSome r (λ k. IsTrue (is_kind names k)) → r ≡ result_in names (result_text names r)
result_said names None distinct is = refl
result_said names (Some k) distinct is =
    ap Some (kind_said names (kind_text names k) k distinct (record { written = refl; kind = is }))
    ∙ ap (λ b. cond b None (Some (kind_in names (kind_text names k)))) (sym (not_void (kind_text names k) (is_field names k is)))

-- ---- the whole

descr_parts : (names : List (List ℕ)) (text : List ℕ) (d : Descr) → IsDescrOf names text d → TellsParts text (map (kind_text names) d.args) (result_text names d.result)
descr_parts names text d is =
    let grammar : IsMethodOf text (map (kind_text names) d.args) (result_text names d.result) = record {
      written = sym is.written ∙ ap (λ t. 40 ∷ (t ++ (41 ∷ result_text names d.result))) (joined names d.args);
      all_fields = are_fields names d.args is.args;
      passes = result_passes names d.result is.result;
    } in
    tells_parts text (map (kind_text names) d.args) (result_text names d.result) grammar

descr_by_parts : (d : Descr) (args : List Kind) (result : Option Kind) → d.args ≡ args → d.result ≡ result → d ≡ record { args = args; result = result }
descr_by_parts d args result a r =
    ap (λ a. record { args = a; result = d.result }) a
    ∙ ap (λ r. record { args = args; result = r }) r

-- the kinds of a method are what its descriptor says
pub descr_said : (names : List (List ℕ)) (text : List ℕ) (d : Descr) → AreDistinct names → IsDescrOf names text d → d ≡ descr_in names text
descr_said names text d distinct is =
    let parts = descr_parts names text d is in
    let args : d.args ≡ map (kind_in names) (parameters text) = kinds_said names d.args distinct is.args ∙ ap (map (kind_in names)) (sym parts.fields_are) in
    let result : d.result ≡ result_in names (result_of text) = result_said names d.result distinct is.result ∙ ap (result_in names) (sym parts.result_is) in
    descr_by_parts d (map (kind_in names) (parameters text)) (result_in names (result_of text)) args result
