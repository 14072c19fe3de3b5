-- Texts and classes of a constant pool without a fault.
use Rattle.std.proofs.Common.{◌≡◌, inl, inr, ℕ, suc, ◌+◌, ◌<◌, Bool, true, not, ◌&&◌, ◌||◌, ◌==◌, List, [], ◌∷◌, Option, Some, None, Ok, length, drop, refl, sym, ap, ◌∙◌, subst, arith}
use Rattle.std.specs.Prelude.{slice_get, nat_le, nat_lt}
use Rattle.std.proofs.lemmas.Bool.{and_parts, and_from, cases_Bool, eqb-true, le-leb, leb-true, lt-ltb, ltb-true}
use Rattle.fp_model.specs.declared.raw.pool.Entry.{Entry}
use Rattle.fp_model.specs.declared.raw.pool.Entry.TheVariants as entry
use Rattle.fp_model.specs.Descriptor.{dimensions, is_array_like, is_class_text, is_element, is_field_descriptor}
use Rattle.fp_model.specs.NamedInstructions.{is_array_text, is_entry_text}
use Rattle.fp_model.specs.Entries.{tag_at, tag_in, class_name_at, class_name_in, passes, text_at, text_in}
use Rattle.fp_model.specs.References.{entry_checked, holds_of, is_any, tagged, text_checked}
use Rattle.fp_model.proofs.ArrayTypes.{dimensions-other, dimensions-replicate}
use Rattle.fp_model.proofs.Readers.{opened, demanded-true}
use Rattle.fp_ops.specs.Checked.{is_short_entry, IsCheckedPool}
use Rattle.fp_ops.proofs.PassedEntries.{each_passes, each_of}

-- a text that is there, and short
pub record HasText (test : List ℕ → Bool) (text : Option (List ℕ)) : Type 0 where
  pub words : List ℕ
  pub is : text ≡ Some words
  pub passes_test : is_entry_text test words ≡ true

pub text_there-passes : (test : List ℕ → Bool) (o : Option (List ℕ)) → HasText test o → passes (is_entry_text test) o ≡ true
text_there-passes test o has = ap (passes (is_entry_text test)) has.is ∙ has.passes_test

pub holds_any : (o : Option (List ℕ)) → holds_of is_any o ≡ true
holds_any None = refl
holds_any (Some text) = refl

bracket_text : (rest : List ℕ) → is_class_text (91 ∷ rest) ≡ true → is_array_text (91 ∷ rest) ≡ true
bracket_text rest class =
    let count : dimensions (91 ∷ rest) ≡ suc (dimensions rest) = let more = dimensions-replicate 1 rest in omega (arith, more) in
    let like : is_array_like (91 ∷ rest) ≡ true = lt-ltb 0 (dimensions (91 ∷ rest)) (omega (arith, count)) in
    let field : is_field_descriptor (91 ∷ rest) ≡ true = sym (ap (λ b. not b || is_field_descriptor (91 ∷ rest)) like) ∙ class in
    let whole : (nat_le (suc (dimensions rest)) 255 && is_element (drop (suc (dimensions rest)) (91 ∷ rest))) ≡ true = sym (ap (λ n. nat_le n 255 && is_element (drop n (91 ∷ rest))) count) ∙ field in
    let parts = and_parts (nat_le (suc (dimensions rest)) 255) (is_element (drop (suc (dimensions rest)) (91 ∷ rest))) whole in
    let few = leb-true (suc (dimensions rest)) 255 parts.0 in
    and_from (nat_lt 0 (length (91 ∷ rest))) (is_field_descriptor rest) (lt-ltb 0 (length (91 ∷ rest)) (omega arith)) (and_from (nat_le (dimensions rest) 255) (is_element (drop (dimensions rest) rest)) (le-leb (dimensions rest) 255 (omega (arith, few))) parts.1)

-- the class of an array of one dimension at least has elements with a descriptor
pub array_text : (text : List ℕ) → is_class_text text ≡ true → 0 < dimensions text → is_array_text text ≡ true
array_text [] class some = absurd (omega arith)
array_text (c ∷ rest) class some = elim (cases_Bool (c == 91)) [
  | inl is ↦ subst (λ b. is_class_text (b ∷ rest) ≡ true → is_array_text (b ∷ rest) ≡ true) (sym (eqb-true c 91 is)) (bracket_text rest) class
  | inr other ↦ let none = dimensions-other c rest other in absurd (omega (arith, none, some))
]

module _ (entries : List Entry) (checked : IsCheckedPool entries) where
  text_short : (o : Option Entry) → ((x : Entry) → o ≡ Some x → is_short_entry x ≡ true) → (test : List ℕ → Bool) → tag_in o ≡ 1 → holds_of test (text_in o) ≡ true → HasText test (text_in o)
  text_short (Some (entry.Utf8 text)) short test is holds = record { words = text; is = refl; passes_test = and_from (nat_lt (length text) 65536) (test text) (short (entry.Utf8 text) refl) holds }
  text_short _ short test is holds = absurd (cc)

  -- a text that is referred to
  pub text_there : (test : List ℕ → Bool) (at index : ℕ) → tagged entries 1 at index ≡ Ok tt → holds_of test (text_at entries index) ≡ true → HasText test (text_at entries index)
  text_there test at index is holds =
      text_short (slice_get entries index) (λ x is. each_of is_short_entry entries checked.short index x is) test (eqb-true (tag_at entries index) 1 (demanded-true (tag_at entries index == 1) _ is)) holds

  pub text_passes : (test : List ℕ → Bool) (at index : ℕ) → text_checked entries test at index ≡ Ok tt → HasText test (text_at entries index)
  unfolding text_checked
  text_passes test at index e =
      opened (tagged entries 1 at index) _ (λ u is more. text_there test at index is (demanded-true (holds_of test (text_at entries index)) _ more)) e

  -- ---- classes

  class_passes : (o : Option Entry) → ((x : Entry) → o ≡ Some x → (at : ℕ) × (entry_checked entries at x ≡ Ok tt)) → tag_in o ≡ 7 → HasText is_class_text (class_name_in entries o)
  unfolding entry_checked
  class_passes (Some (entry.Class name)) check is = let passed = check (entry.Class name) refl in text_passes is_class_text (passed.0 + 1) name passed.1
  class_passes _ check is = absurd (cc)

  pub at_index : (index : ℕ) (x : Entry) → slice_get entries index ≡ Some x → (at : ℕ) × (entry_checked entries at x ≡ Ok tt)
  at_index index x is = each_passes _ (entry_checked entries) checked.at entries checked.referred index x is

  pub class_there : (index : ℕ) → tag_at entries index ≡ 7 → HasText is_class_text (class_name_at entries index)
  class_there index is = class_passes (slice_get entries index) (at_index index) is

  pub class_text_there : (index : ℕ) → tag_at entries index ≡ 7 → passes (is_entry_text is_class_text) (class_name_at entries index) ≡ true
  class_text_there index is = text_there-passes is_class_text (class_name_at entries index) (class_there index is)

  pub array_there : (index : ℕ) → tag_at entries index ≡ 7 → passes is_array_like (class_name_at entries index) ≡ true → passes (is_entry_text is_array_text) (class_name_at entries index) ≡ true
  array_there index is like =
      let named = class_there index is in
      let parts = and_parts (nat_lt (length named.words) 65536) (is_class_text named.words) named.passes_test in
      let long : is_array_like named.words ≡ true = sym (ap (passes is_array_like) named.is) ∙ like in
      ap (passes (is_entry_text is_array_text)) named.is ∙ and_from (nat_lt (length named.words) 65536) (is_array_text named.words) parts.0 (array_text named.words parts.1 (ltb-true 0 (dimensions named.words) long))
