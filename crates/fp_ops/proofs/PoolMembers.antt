-- Members of a constant pool without a fault, and their names and types.
use Rattle.std.proofs.Common.{◌≡◌, inl, inr, ℕ, ◌+◌, Bool, true, not, ◌||◌, ◌==◌, List, Option, Some, Ok, length, refl, sym, ap, ◌∙◌}
use Rattle.std.specs.Prelude.{slice_get, is_some, nat_lt}
use Rattle.std.proofs.lemmas.Bool.{and_parts, and_from, both_ways, eqb-true, or_cases}
use Rattle.fp_model.specs.declared.raw.pool.Entry.{Entry}
use Rattle.fp_model.specs.declared.raw.pool.Entry.TheVariants as entry
use Rattle.fp_model.specs.Descriptor.{is_field_descriptor, is_method_descriptor}
use Rattle.fp_model.specs.NamedInstructions.{is_entry_text, member_at, member_in, member_with}
use Rattle.fp_model.specs.Entries.{tag_at, tag_in, passes, text_at}
use Rattle.fp_model.specs.References.{descr_at, descr_index_in, entry_checked, holds_of, is_any, is_descriptor, member_checked, pair_checked, pair_described, tagged, text_of_index}
use Rattle.fp_model.proofs.Readers.{opened, demanded-true}
use Rattle.fp_ops.specs.Checked.{IsCheckedPool}
use Rattle.fp_ops.proofs.NamedParts.{passes-is_some}
use Rattle.fp_ops.proofs.PoolTexts.{at_index, class_there, holds_any, text_passes, text_there, HasText}

is_field_of : (text : List ℕ) → is_descriptor text ≡ true → not (is_method_descriptor text) ≡ true → is_field_descriptor text ≡ true
is_field_of text either other = elim (or_cases (is_field_descriptor text) (is_method_descriptor text) either) [
  | inl is ↦ is
  | inr is ↦ absurd (both_ways (not (is_method_descriptor text)) (ap not is) other)
]

is_method_of : (text : List ℕ) → is_descriptor text ≡ true → not (is_field_descriptor text) ≡ true → is_method_descriptor text ≡ true
is_method_of text either other = elim (or_cases (is_field_descriptor text) (is_method_descriptor text) either) [
  | inl is ↦ absurd (both_ways (not (is_field_descriptor text)) (ap not is) other)
  | inr is ↦ is
]

-- a name and type whose descriptor passes the test
pub record HasPair (entries : List Entry) (good : List ℕ → Bool) (o : Option Entry) : Type 0 where
  pub name_index : ℕ
  pub descr_index : ℕ
  pub is : o ≡ Some (entry.Pair name_index descr_index)
  pub name : HasText is_any (text_at entries name_index)
  pub descr : HasText good (text_at entries descr_index)

-- what a tag says of a reference to a member
abbrev pub is_member_tag : ℕ → Bool
is_member_tag tag = (tag == 9) || ((tag == 10) || (tag == 11))

module _ (entries : List Entry) (checked : IsCheckedPool entries) where
  pair_texts : (o : Option Entry) → ((x : Entry) → o ≡ Some x → (at : ℕ) × (entry_checked entries at x ≡ Ok tt)) → tag_in o ≡ 12 → HasPair entries is_descriptor o
  unfolding entry_checked pair_checked
  pair_texts (Some (entry.Pair name descr)) check is =
      let passed = check (entry.Pair name descr) refl in
      opened (tagged entries 1 (passed.0 + 1) name) _ (λ u named more. record {
        name_index = name;
        descr_index = descr;
        is = refl;
        name = text_there entries checked is_any (passed.0 + 1) name named (holds_any (text_at entries name));
        descr = text_passes entries checked is_descriptor (passed.0 + 3) descr more;
      }) passed.1
  pair_texts _ check is = absurd (cc)

  -- one that is referred to, whose descriptor passes a further test
  pub pair_there : (test good : List ℕ → Bool) → ((text : List ℕ) → is_descriptor text ≡ true → test text ≡ true → good text ≡ true) → (at pair : ℕ) → pair_described entries test at pair ≡ Ok tt → HasPair entries good (slice_get entries pair)
  unfolding pair_described
  pair_there test good says at pair e =
      opened (tagged entries 12 at pair) _ (λ u is more.
      let both = pair_texts (slice_get entries pair) (at_index entries checked pair) (eqb-true (tag_at entries pair) 12 (demanded-true (tag_at entries pair == 12) _ is)) in
      let holds : holds_of test (descr_at entries pair) ≡ true = demanded-true (holds_of test (descr_at entries pair)) _ more in
      let there : descr_at entries pair ≡ Some both.descr.words = ap (λ o. text_of_index entries (descr_index_in o)) both.is ∙ both.descr.is in
      let parts = and_parts (nat_lt (length both.descr.words) 65536) (is_descriptor both.descr.words) both.descr.passes_test in
      let passed : test both.descr.words ≡ true = sym (ap (holds_of test) there) ∙ holds in
      record {
        name_index = both.name_index;
        descr_index = both.descr_index;
        is = both.is;
        name = both.name;
        descr = record { words = both.descr.words; is = both.descr.is; passes_test = and_from (nat_lt (length both.descr.words) 65536) (good both.descr.words) parts.0 (says both.descr.words parts.1 passed) };
      }) e

  -- ---- members

  member_texts : (test good : List ℕ → Bool) → ((text : List ℕ) → is_descriptor text ≡ true → test text ≡ true → good text ≡ true) → (at class pair : ℕ) → member_checked entries test at class pair ≡ Ok tt → passes (λ texts. is_entry_text good texts.descr) (member_with entries class (slice_get entries pair)) ≡ true
  unfolding member_checked
  member_texts test good says at class pair e =
      opened (tagged entries 7 (at + 1) class) _ (λ u is more.
      let named = class_there entries checked class (eqb-true (tag_at entries class) 7 (demanded-true (tag_at entries class == 7) _ is)) in
      let both = pair_there test good says (at + 3) pair more in
      rw (both.is, named.is, both.name.is, both.descr.is) both.descr.passes_test) e

  field_passes : (o : Option Entry) → ((x : Entry) → o ≡ Some x → (at : ℕ) × (entry_checked entries at x ≡ Ok tt)) → tag_in o ≡ 9 → passes (λ texts. is_entry_text is_field_descriptor texts.descr) (member_in entries o) ≡ true
  unfolding entry_checked
  field_passes (Some (entry.FieldRef class pair)) check is =
      let passed = check (entry.FieldRef class pair) refl in
      member_texts (λ text. not (is_method_descriptor text)) is_field_descriptor is_field_of passed.0 class pair passed.1
  field_passes _ check is = absurd (cc)

  method_passes : (o : Option Entry) → ((x : Entry) → o ≡ Some x → (at : ℕ) × (entry_checked entries at x ≡ Ok tt)) → ((tag_in o == 10) || (tag_in o == 11)) ≡ true → passes (λ texts. is_entry_text is_method_descriptor texts.descr) (member_in entries o) ≡ true
  unfolding entry_checked
  method_passes (Some (entry.MethodRef class pair)) check is =
      let passed = check (entry.MethodRef class pair) refl in
      member_texts (λ text. not (is_field_descriptor text)) is_method_descriptor is_method_of passed.0 class pair passed.1
  method_passes (Some (entry.InterfaceRef class pair)) check is =
      let passed = check (entry.InterfaceRef class pair) refl in
      member_texts (λ text. not (is_field_descriptor text)) is_method_descriptor is_method_of passed.0 class pair passed.1
  method_passes _ check is = absurd (cc)

  pub field_there : (index : ℕ) → tag_at entries index ≡ 9 → passes (λ texts. is_entry_text is_field_descriptor texts.descr) (member_at entries index) ≡ true
  field_there index is = field_passes (slice_get entries index) (at_index entries checked index) is

  pub method_there : (index : ℕ) → ((tag_at entries index == 10) || (tag_at entries index == 11)) ≡ true → passes (λ texts. is_entry_text is_method_descriptor texts.descr) (member_at entries index) ≡ true
  method_there index is = method_passes (slice_get entries index) (at_index entries checked index) is

  pub member_there : (index : ℕ) → is_member_tag (tag_at entries index) ≡ true → is_some (member_at entries index) ≡ true
  member_there index is = elim (or_cases (tag_at entries index == 9) ((tag_at entries index == 10) || (tag_at entries index == 11)) is) [
    | inl field ↦ passes-is_some _ (member_at entries index) (field_there index (eqb-true (tag_at entries index) 9 field))
    | inr method ↦ passes-is_some _ (member_at entries index) (method_there index method)
  ]
