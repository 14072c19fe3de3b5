-- What is read as a field or a method has texts as its name and its descriptor.
use Rattle.std.proofs.Common.{◌≡◌, ℕ, true, ◌==◌, Bool, List, [], ◌∷◌, ◌++◌, length, Ok, refl, subst}
use Rattle.std.proofs.lemmas.Bool.{and_from, and_parts}
use Rattle.std.specs.List.{list_all}
use Rattle.std.specs.Int.{w16}
use Rattle.fp_model.specs.declared.fault.FileFault.TheVariants as fault
use Rattle.fp_model.specs.declared.raw.pool.Entry.{Entry}
use Rattle.fp_model.specs.declared.raw.RawMember.{RawMember}
use Rattle.fp_model.specs.Descriptor.{is_field_descriptor}
use Rattle.fp_model.specs.Entries.{tag_at}
use Rattle.fp_model.specs.Reading.{counted_at, demanded, number_at}
use Rattle.fp_model.specs.References.{tagged, text_checked}
use Rattle.fp_model.proofs.Readers.{demanded-true, opened}
use Rattle.fp_attr.specs.Attributes.{attribute_at}
use Rattle.fp_attr.specs.declared.owner.Owner.TheVariants as owner
use Rattle.fp_class.specs.Keys.{has_texts}
use Rattle.fp_class.specs.Members.{code_count, field_at, is_new, is_type_of, method_at, name_at, wanted_codes, words_at}

text_there : (entries : List Entry) (test : List ℕ → Bool) (at index : ℕ) {u : Unit {0}} → text_checked entries test at index ≡ Ok u → (tag_at entries index == 1) ≡ true
unfolding text_checked
text_there entries test at index e = opened (tagged entries 1 at index) _ (λ v is rest. demanded-true (tag_at entries index == 1) (fault.Index at index) is) e

words_there : (entries : List Entry) (flags at index words : ℕ) → words_at entries flags at index ≡ Ok words → (tag_at entries index == 1) ≡ true
unfolding words_at
words_there entries flags at index words e = opened (text_checked entries (is_type_of flags) at index) _ (λ v is rest. text_there entries (is_type_of flags) at index is) e

pub field_texts : (entries : List Entry) (bytes : List ℕ) (before : List RawMember) (at : ℕ) (x : RawMember × ℕ) → field_at entries bytes before at ≡ Ok x → has_texts entries x.0 ≡ true
unfolding field_at
field_texts entries bytes before at x e =
    opened (number_at w16 bytes at) _ (λ flags e0 r0.
    opened (number_at w16 bytes flags.1) _ (λ name e1 r1.
    opened (number_at w16 bytes name.1) _ (λ descr e2 r2.
    opened (demanded (is_new entries before name.0 descr.0) (fault.Repeat at)) _ (λ u e3 r3.
    opened (tagged entries 1 flags.1 name.0) _ (λ v e4 r4.
    opened (text_checked entries is_field_descriptor name.1 descr.0) _ (λ w e5 r5.
    opened (counted_at (attribute_at entries owner.Field bytes) bytes descr.1) _ (λ attributes e6 last.
    let is : (record { flags = flags.0; name = name.0; descr = descr.0; attributes = attributes.0 }, attributes.1) ≡ x = cc in
    subst (λ (y : RawMember × ℕ). has_texts entries y.0 ≡ true) is
    (and_from (tag_at entries name.0 == 1) (tag_at entries descr.0 == 1) (demanded-true (tag_at entries name.0 == 1) (fault.Index flags.1 name.0) e4) (text_there entries is_field_descriptor name.1 descr.0 e5))
    ) r5) r4) r3) r2) r1) r0) e

pub method_texts : (entries : List Entry) (bytes : List ℕ) (before : List RawMember) (at : ℕ) (x : RawMember × ℕ) → method_at entries bytes before at ≡ Ok x → has_texts entries x.0 ≡ true
unfolding method_at
method_texts entries bytes before at x e =
    opened (number_at w16 bytes at) _ (λ flags e0 r0.
    opened (number_at w16 bytes flags.1) _ (λ name e1 r1.
    opened (number_at w16 bytes name.1) _ (λ descr e2 r2.
    opened (demanded (is_new entries before name.0 descr.0) (fault.Repeat at)) _ (λ u e3 r3.
    opened (tagged entries 1 flags.1 name.0) _ (λ v e4 r4.
    opened (words_at entries flags.0 name.1 descr.0) _ (λ words e5 r5.
    opened (counted_at (name_at entries bytes) bytes descr.1) _ (λ names e6 r6.
    opened (demanded (code_count entries names.0 == wanted_codes flags.0) (fault.CodeCount (length before))) _ (λ w e7 r7.
    opened (counted_at (attribute_at entries (owner.Method words) bytes) bytes descr.1) _ (λ attributes e8 last.
    let is : (record { flags = flags.0; name = name.0; descr = descr.0; attributes = attributes.0 }, attributes.1) ≡ x = cc in
    subst (λ (y : RawMember × ℕ). has_texts entries y.0 ≡ true) is
    (and_from (tag_at entries name.0 == 1) (tag_at entries descr.0 == 1) (demanded-true (tag_at entries name.0 == 1) (fault.Index flags.1 name.0) e4) (words_there entries flags.0 name.1 descr.0 words e5))
    ) r7) r6) r5) r4) r3) r2) r1) r0) e

-- those before and one more
pub all_texts : (entries : List Entry) (before : List RawMember) (member : RawMember) → list_all (has_texts entries) before ≡ true → has_texts entries member ≡ true → list_all (has_texts entries) (before ++ member ∷ []) ≡ true
all_texts entries [] member all one = and_from (has_texts entries member) true one refl
all_texts entries (m ∷ before) member all one =
    let parts = and_parts (has_texts entries m) (list_all (has_texts entries) before) all in
    and_from (has_texts entries m) (list_all (has_texts entries) (before ++ member ∷ [])) parts.0 (all_texts entries before member parts.1 one)
