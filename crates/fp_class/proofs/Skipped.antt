-- What is read ends where it is skipped to.
use Rattle.std.proofs.Common.{◌≡◌, ℕ, zero, suc, List, [], ◌∷◌, ◌++◌, Result, Ok, length, ◌==◌, ap, ◌∙◌}
use Rattle.std.specs.Int.{w16}
use Rattle.fp_model.specs.declared.fault.FileFault.{FileFault}
use Rattle.fp_model.specs.declared.fault.FileFault.TheVariants as fault
use Rattle.fp_model.specs.declared.raw.pool.Entry.{Entry}
use Rattle.fp_model.specs.declared.raw.RawMember.{RawMember}
use Rattle.fp_model.specs.Descriptor.{is_field_descriptor}
use Rattle.fp_model.specs.Reading.{counted_at, demanded, many_at, number_at}
use Rattle.fp_model.specs.References.{tagged, text_checked}
use Rattle.fp_model.proofs.Readers.{opened, stepped}
use Rattle.fp_attr.specs.declared.owner.Owner.{Owner}
use Rattle.fp_attr.specs.declared.owner.Owner.TheVariants as owner
use Rattle.fp_attr.specs.Attributes.{attribute_at, attribute_skipped}
use Rattle.fp_attr.proofs.Spelled.{skipped_so}
use Rattle.fp_class.specs.ClassFile.{class_attribute_at, class_owner}
use Rattle.fp_class.specs.Layout.{counted_skipped, many_skipped, member_skipped}
use Rattle.fp_class.specs.Members.{code_count, counted_after, field_at, is_new, many_after, method_at, name_at, wanted_codes, words_at}

-- the offset behind what is read
abbrev Skips : {A : Type 0} → (ℕ → Result (A × ℕ) FileFault) → (ℕ → Result ℕ FileFault) → Type 0
Skips {A} read skip = (at : ℕ) (x : A × ℕ) → read at ≡ Ok x → skip at ≡ Ok x.1

-- ---- so many of one kind

module _ {A : Type 0} (read : ℕ → Result (A × ℕ) FileFault) (skip : ℕ → Result ℕ FileFault) (skips : Skips read skip) where
  many_skips : (count : ℕ) (before : List A) (at : ℕ) (x : List A × ℕ) → many_at read count before at ≡ Ok x → many_skipped skip count at ≡ Ok x.1
  unfolding many_at many_skipped
  many_skips zero before at x e =
      let is : (before, at) ≡ x = cc in
      ap (λ (p : List A × ℕ). Ok p.1) is
  many_skips (suc n) before at x e =
      opened (read at) _ (λ y reads rest.
      stepped (skip at) _ y.1 (skips at y reads) (many_skips n (before ++ y.0 ∷ []) y.1 x rest)) e

  counted_skips : (bytes : List ℕ) → Skips (counted_at read bytes) (counted_skipped skip bytes)
  unfolding counted_at counted_skipped
  counted_skips bytes at x e =
      opened (number_at w16 bytes at) _ (λ count counts rest.
      stepped (number_at w16 bytes at) _ count counts (many_skips count.0 [] count.1 x rest)) e

-- the same where each may depend on those before it
module _ {A : Type 0} (read : List A → ℕ → Result (A × ℕ) FileFault) (skip : ℕ → Result ℕ FileFault) (skips : (before : List A) → Skips (read before) skip) where
  many_after_skips : (count : ℕ) (before : List A) (at : ℕ) (x : List A × ℕ) → many_after read count before at ≡ Ok x → many_skipped skip count at ≡ Ok x.1
  unfolding many_after many_skipped
  many_after_skips zero before at x e =
      let is : (before, at) ≡ x = cc in
      ap (λ (p : List A × ℕ). Ok p.1) is
  many_after_skips (suc n) before at x e =
      opened (read before at) _ (λ y reads rest.
      stepped (skip at) _ y.1 (skips before at y reads) (many_after_skips n (before ++ y.0 ∷ []) y.1 x rest)) e

  pub counted_after_skips : (bytes : List ℕ) → Skips (counted_after read bytes) (counted_skipped skip bytes)
  unfolding counted_after counted_skipped
  counted_after_skips bytes at x e =
      opened (number_at w16 bytes at) _ (λ count counts rest.
      stepped (number_at w16 bytes at) _ count counts (many_after_skips count.0 [] count.1 x rest)) e

-- ---- attributes and members

module _ (entries : List Entry) (bytes : List ℕ) where
  attribute_skips : (o : Owner) → Skips (attribute_at entries o bytes) (attribute_skipped bytes)
  attribute_skips o at x e = skipped_so entries o bytes at x.0 x.1 e

  attributes_skip : (o : Owner) → Skips (counted_at (attribute_at entries o bytes) bytes) (counted_skipped (attribute_skipped bytes) bytes)
  attributes_skip o = counted_skips (attribute_at entries o bytes) (attribute_skipped bytes) (attribute_skips o) bytes

  pub class_attributes_skip : Skips (counted_after (class_attribute_at entries bytes) bytes) (counted_skipped (attribute_skipped bytes) bytes)
  class_attributes_skip = counted_after_skips (class_attribute_at entries bytes) (attribute_skipped bytes) (λ before. attribute_skips (class_owner before)) bytes

  member_steps : (at end : ℕ) (flags name descr : ℕ × ℕ) → number_at w16 bytes at ≡ Ok flags → number_at w16 bytes flags.1 ≡ Ok name → number_at w16 bytes name.1 ≡ Ok descr → counted_skipped (attribute_skipped bytes) bytes descr.1 ≡ Ok end → member_skipped bytes at ≡ Ok end
  unfolding member_skipped
  member_steps at end flags name descr e0 e1 e2 e3 =
      stepped (number_at w16 bytes at) _ flags e0 (stepped (number_at w16 bytes flags.1) _ name e1 (stepped (number_at w16 bytes name.1) _ descr e2 e3))

  field_skips : (before : List RawMember) → Skips (field_at entries bytes before) (member_skipped bytes)
  unfolding field_at
  field_skips before at x e =
      opened (number_at w16 bytes at) _ (λ flags e0 r0.
      opened (number_at w16 bytes flags.1) _ (λ name e1 r1.
      opened (number_at w16 bytes name.1) _ (λ descr e2 r2.
      opened (demanded (is_new entries before name.0 descr.0) (fault.Repeat at)) _ (λ u e3 r3.
      opened (tagged entries 1 flags.1 name.0) _ (λ v e4 r4.
      opened (text_checked entries is_field_descriptor name.1 descr.0) _ (λ w e5 r5.
      opened (counted_at (attribute_at entries owner.Field bytes) bytes descr.1) _ (λ attributes e6 last.
      let made : RawMember = record { flags = flags.0; name = name.0; descr = descr.0; attributes = attributes.0 } in
      let is : (made, attributes.1) ≡ x = cc in
      member_steps at x.1 flags name descr e0 e1 e2 (attributes_skip owner.Field descr.1 attributes e6 ∙ ap (λ (p : RawMember × ℕ). Ok p.1) is)
      ) r5) r4) r3) r2) r1) r0) e

  pub fields_skip : Skips (counted_after (field_at entries bytes) bytes) (counted_skipped (member_skipped bytes) bytes)
  fields_skip = counted_after_skips (field_at entries bytes) (member_skipped bytes) field_skips bytes

  method_skips : (before : List RawMember) → Skips (method_at entries bytes before) (member_skipped bytes)
  unfolding method_at
  method_skips before at x e =
      opened (number_at w16 bytes at) _ (λ flags e0 r0.
      opened (number_at w16 bytes flags.1) _ (λ name e1 r1.
      opened (number_at w16 bytes name.1) _ (λ descr e2 r2.
      opened (demanded (is_new entries before name.0 descr.0) (fault.Repeat at)) _ (λ u e3 r3.
      opened (tagged entries 1 flags.1 name.0) _ (λ v e4 r4.
      opened (words_at entries flags.0 name.1 descr.0) _ (λ words e5 r5.
      opened (counted_at (name_at entries bytes) bytes descr.1) _ (λ names e6 r6.
      opened (demanded (code_count entries names.0 == wanted_codes flags.0) (fault.CodeCount (length before))) _ (λ w e7 r7.
      opened (counted_at (attribute_at entries (owner.Method words) bytes) bytes descr.1) _ (λ attributes e8 last.
      let made : RawMember = record { flags = flags.0; name = name.0; descr = descr.0; attributes = attributes.0 } in
      let is : (made, attributes.1) ≡ x = cc in
      member_steps at x.1 flags name descr e0 e1 e2 (attributes_skip (owner.Method words) descr.1 attributes e8 ∙ ap (λ (p : RawMember × ℕ). Ok p.1) is)
      ) r7) r6) r5) r4) r3) r2) r1) r0) e

  pub methods_skip : Skips (counted_after (method_at entries bytes) bytes) (counted_skipped (member_skipped bytes) bytes)
  methods_skip = counted_after_skips (method_at entries bytes) (member_skipped bytes) method_skips bytes
