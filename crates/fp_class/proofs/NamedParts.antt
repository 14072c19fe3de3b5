-- The parts of a class in numbers of a table of names.
use Rattle.std.proofs.Common.{◌≡◌, ℕ, true, ◌&&◌, Bool, zero, suc, ◌<◌, List, [], ◌∷◌, map, Option, Some, None, length, refl, sym, ap, ◌∙◌, subst, arith}
use Rattle.std.proofs.lemmas.List.Elements.{All-nil, All-cons}
use Rattle.std.proofs.lemmas.Bool.{and_from, and_parts, lt-ltb, ltb-true}
use Rattle.std.specs.List.{All, list_all, AllZip, slice_get}
use Rattle.std.specs.Prelude.{nat_lt}
use Rattle.std.specs.Option.{is_some, option_and_then, unwrap_or, IfSome}
use Rattle.fp_model.specs.declared.raw.pool.Entry.{Entry}
use Rattle.fp_model.specs.declared.raw.pool.Entry.TheVariants as entry
use Rattle.fp_model.specs.declared.kind.Kind.{Kind}
use Rattle.fp_model.specs.declared.raw.RawMember.{RawMember}
use Rattle.fp_model.specs.declared.class.Field.{Field}
pub use Rattle.fp_ops.proofs.NamedParts.{passes-is_some, AllZip-to, AllZip-more}
use Rattle.fp_class.specs.Classes.{IsFieldOf}
use Rattle.fp_model.specs.ClassSet.{IsFieldOver}
use Rattle.fp_model.specs.Descriptor.{is_field_descriptor, IsKindOf}
use Rattle.fp_model.specs.Entries.{passes, text_in, text_at, class_name_at}
use Rattle.fp_model.specs.NamedInstructions.{is_entry_text}
use Rattle.fp_model.proofs.LongerTables.{Keeps, IsKindOf-kept}
use Rattle.fp_model.proofs.Interned.{Keeps-then}
use Rattle.fp_ops.specs.Checked.{is_short_entry}
use Rattle.fp_class.specs.Interning.{IsClassName, IsParentName, IsNamedField}
use Rattle.fp_class.specs.Naming.{is_sound_field}

-- ---- lists place by place

pub AllZip-All : {A B : Type 0} (P : A → B → Type 0) (Q : A → Type 0) (xs : List A) (ys : List B) → ((x : A) (y : B) → P x y → Q x) → AllZip P xs ys → All Q xs
AllZip-All P Q [] [] f all = All-nil Q
AllZip-All P Q [] (y ∷ ys) f all = absurd all
AllZip-All P Q (x ∷ xs) [] f all = absurd all
AllZip-All P Q (x ∷ xs) (y ∷ ys) f all = All-cons Q x xs (f x y all.0) (AllZip-All P Q xs ys f all.1)

-- ---- in a longer table

pub IsClassName-kept : (names longer : List (List ℕ)) (entries : List Entry) (n index : ℕ) → Keeps names longer → IsClassName names entries n index → IsClassName longer entries n index
IsClassName-kept names longer entries n index kept is = record { text = is.text; number = kept.stands n is.text is.number; name = is.name }

pub IsParentName-kept : (names longer : List (List ℕ)) (entries : List Entry) (n : Option ℕ) (index : ℕ) → Keeps names longer → IsParentName names entries n index → IsParentName longer entries n index
IsParentName-kept names longer entries None index kept is = is
IsParentName-kept names longer entries (Some n) index kept is = IsClassName-kept names longer entries n index kept is

pub IsNamedField-kept : (names longer : List (List ℕ)) (entries : List Entry) (f : Field) (member : RawMember) → Keeps names longer → IsNamedField names entries f member → IsNamedField longer entries f member
IsNamedField-kept names longer entries f member kept is = record {
  flags = is.flags;
  name = is.name;
  name_number = kept.stands f.name is.name is.name_number;
  name_text = is.name_text;
  descr = is.descr;
  descr_number = kept.stands f.descr is.descr is.descr_number;
  descr_text = is.descr_text;
  kind = IsKindOf-kept names longer kept is.descr f.kind is.kind;
}

-- ---- what is there

-- the texts of a sound member
pub record HasTexts (entries : List Entry) (member : RawMember) : Type 0 where
  pub name : List ℕ
  pub descr : List ℕ
  pub name_is : text_at entries member.name ≡ Some name
  pub descr_is : text_at entries member.descr ≡ Some descr

some_of : {A : Type 0} (o : Option A) → is_some o ≡ true → (x : A) × (o ≡ Some x)
some_of None h = absurd (cc)
some_of (Some x) h = (x, refl)

pub texts_of : (test : List ℕ → Bool) (entries : List Entry) (member : RawMember) → (is_some (text_at entries member.name) && passes test (text_at entries member.descr)) ≡ true → HasTexts entries member
texts_of test entries member sound =
    let parts = and_parts (is_some (text_at entries member.name)) (passes test (text_at entries member.descr)) sound in
    let name = some_of (text_at entries member.name) parts.0 in
    let descr = some_of (text_at entries member.descr) (passes-is_some test (text_at entries member.descr) parts.1) in
    record { name = name.0; descr = descr.0; name_is = name.1; descr_is = descr.1 }

-- ---- parts of the class

pub within : (names : List (List ℕ)) (n : ℕ) (text : List ℕ) → slice_get names n ≡ Some text → n < length names
within [] n text at = absurd (cc)
within (x ∷ xs) zero text at = omega arith
within (x ∷ xs) (suc n) text at = omega (arith, within xs n text at)

pub field_over : (names : List (List ℕ)) (entries : List Entry) (f : Field) (member : RawMember) → IsNamedField names entries f member → IsFieldOver names f
field_over names entries f member is = record {
  name = within names f.name is.name is.name_number;
  descr = within names f.descr is.descr is.descr_number;
  kind = subst (λ text. IsKindOf names text f.kind) (sym (ap (λ o. unwrap_or o []) is.descr_number)) is.kind;
}

pub field_of : (names : List (List ℕ)) (entries : List Entry) (f : Field) (member : RawMember) → IsNamedField names entries f member → IsFieldOf names entries f member
field_of names entries f member is = record {
  flags = is.flags;
  name = is.name_number ∙ sym is.name_text;
  descr = is.descr_number ∙ sym is.descr_text;
}

pub parent_over : (names : List (List ℕ)) (entries : List Entry) (n : Option ℕ) (index : ℕ) → IsParentName names entries n index → IfSome n (λ m. m < length names)
parent_over names entries None index is = tt
parent_over names entries (Some n) index is = within names n is.text is.number

pub parent_of : (names : List (List ℕ)) (entries : List Entry) (n : Option ℕ) (index : ℕ) → IsParentName names entries n index → option_and_then (slice_get names) n ≡ class_name_at entries index
parent_of names entries None index is = sym is
parent_of names entries (Some n) index is = is.number ∙ sym is.name

pub names_of : (names : List (List ℕ)) (entries : List Entry) (numbers indexes : List ℕ) → AllZip (IsClassName names entries) numbers indexes → map (slice_get names) numbers ≡ map (class_name_at entries) indexes
names_of names entries [] [] all = refl
names_of names entries [] (i ∷ indexes) all = absurd all
names_of names entries (n ∷ numbers) [] all = absurd all
names_of names entries (n ∷ numbers) (i ∷ indexes) all =
    ap (λ o. o ∷ map (slice_get names) numbers) (all.0.number ∙ sym all.0.name)
    ∙ ap (λ l. class_name_at entries i ∷ l) (names_of names entries numbers indexes all.1)

-- a field whose texts were numbered one after the other
pub field_named : (n1 n2 n3 : List (List ℕ)) (entries : List Entry) (member : RawMember) (name descr : ℕ) (k : Kind) → is_sound_field entries member ≡ true
    → slice_get n1 name ≡ text_at entries member.name → Keeps n1 n2 → slice_get n2 descr ≡ text_at entries member.descr → Keeps n2 n3 → IsKindOf n3 (unwrap_or (text_at entries member.descr) []) k
    → IsNamedField n3 entries (record { name = name; descr = descr; kind = k; flags = member.flags }) member
field_named n1 n2 n3 entries member name descr k sound first k12 second k23 says =
    let texts = texts_of is_field_descriptor entries member sound in
    record {
      flags = refl;
      name = texts.name;
      name_number = (Keeps-then n1 n2 n3 k12 k23).stands name texts.name (first ∙ texts.name_is);
      name_text = texts.name_is;
      descr = texts.descr;
      descr_number = k23.stands descr texts.descr (second ∙ texts.descr_is);
      descr_text = texts.descr_is;
      kind = subst (λ o. IsKindOf n3 (unwrap_or o []) k) texts.descr_is says;
    }

-- ---- descriptors

entry_text : (e : Entry) (text : List ℕ) → is_short_entry e ≡ true → text_in (Some e) ≡ Some text → length text < 65536
entry_text (entry.Utf8 t) text short at = let is : t ≡ text = cc in omega (arith, ltb-true (length t) 65536 short, ap length is)
entry_text e text short at = absurd (cc)

-- a text is shorter than 2 ^ 16 bytes
pub text_short : (entries : List Entry) (i : ℕ) (text : List ℕ) → list_all is_short_entry entries ≡ true → text_at entries i ≡ Some text → length text < 65536
text_short [] i text short at = absurd (cc)
text_short (e ∷ entries) zero text short at = entry_text e text (and_parts (is_short_entry e) (list_all is_short_entry entries) short).0 at
text_short (e ∷ entries) (suc i) text short at = text_short entries i text (and_parts (is_short_entry e) (list_all is_short_entry entries) short).1 at

-- so a text that passes a test does as one of a class file
pub entry_passes : (test : List ℕ → Bool) (entries : List Entry) (i : ℕ) → list_all is_short_entry entries ≡ true → passes test (text_at entries i) ≡ true → passes (is_entry_text test) (text_at entries i) ≡ true
entry_passes test entries i short =
    elim (text_at entries i) as (λ o. text_at entries i ≡ o → passes test o ≡ true → passes (is_entry_text test) o ≡ true) [
      | None ↦ λ at passed. passed
      | Some text ↦ λ at passed. and_from (nat_lt (length text) 65536) (test text) (lt-ltb (length text) 65536 (text_short entries i text short at)) passed
    ] refl
