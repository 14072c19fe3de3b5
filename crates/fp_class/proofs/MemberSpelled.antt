-- What is read of fields, methods and attributes is spelled so.
use Rattle.std.proofs.Common.{◌≡◌, ℕ, zero, suc, List, [], ◌∷◌, ◌++◌, Result, Ok, length, ◌==◌, refl, sym, ap, ◌∙◌, subst}
use Rattle.std.proofs.lemmas.List.{append-nil, append_assoc}
use Rattle.std.specs.List.{flat_map}
use Rattle.std.specs.Int.{w16}
use Rattle.fp_model.specs.declared.fault.FileFault.{FileFault}
use Rattle.fp_model.specs.declared.fault.FileFault.TheVariants as fault
use Rattle.fp_model.specs.declared.raw.pool.Entry.{Entry}
use Rattle.fp_model.specs.declared.raw.attribute.RawAttr.{RawAttr}
use Rattle.fp_model.specs.declared.raw.RawMember.{RawMember}
use Rattle.fp_model.specs.Descriptor.{is_field_descriptor}
use Rattle.fp_model.specs.Reading.{counted_at, demanded, many_at, number_at}
use Rattle.fp_model.specs.References.{tagged, text_checked}
use Rattle.fp_model.specs.Spelling.{counted, spelled_attr, spelled_member, u2}
use Rattle.fp_model.proofs.Readers.{opened, reads_u2, IsBytes}
use Rattle.fp_model.proofs.Takes.{Takes, Takes-nil, Takes-then}
use Rattle.fp_attr.specs.declared.owner.Owner.{Owner}
use Rattle.fp_attr.specs.declared.owner.Owner.TheVariants as owner
use Rattle.fp_attr.specs.Attributes.{attribute_at}
use Rattle.fp_attr.proofs.Spelled.{found_spelled}
use Rattle.fp_class.specs.ClassFile.{class_attribute_at, class_owner}
use Rattle.fp_class.specs.Members.{code_count, counted_after, field_at, is_new, many_after, method_at, name_at, wanted_codes, words_at}

-- what is read is spelled where it stands
abbrev IsSpelled : {A : Type 0} → List ℕ → (A → List ℕ) → (ℕ → Result (A × ℕ) FileFault) → Type 0
IsSpelled {A} bytes spelled read = (at : ℕ) (x : A × ℕ) → read at ≡ Ok x → Takes bytes at (spelled x.0) x.1

-- ---- so many of one kind

-- what a loop reads behind what it has
record Adds {A : Type 0} (bytes : List ℕ) (spelled : A → List ℕ) (before : List A) (count at : ℕ) (x : List A × ℕ) : Type 0 where
  more : List A
  all : x.0 ≡ before ++ more
  size : length more ≡ count
  takes : Takes bytes at (flat_map spelled more) x.1

module _ {A : Type 0} (bytes : List ℕ) (below : IsBytes bytes) (spelled : A → List ℕ) where
  none_added : (before : List A) (at : ℕ) (x : List A × ℕ) → (before, at) ≡ x → Adds bytes spelled before 0 at x
  none_added before at x is = record {
    more = [];
    all = sym (ap (λ (p : List A × ℕ). p.0) is) ∙ sym (append-nil before);
    size = refl;
    takes = subst (Takes bytes at []) (ap (λ (p : List A × ℕ). p.1) is) (Takes-nil bytes at);
  }

  one_added : (before : List A) (n at : ℕ) (y : A × ℕ) (x : List A × ℕ) → Takes bytes at (spelled y.0) y.1 → Adds bytes spelled (before ++ y.0 ∷ []) n y.1 x → Adds bytes spelled before (suc n) at x
  one_added before n at y x one adds = record {
    more = y.0 ∷ adds.more;
    all = adds.all ∙ append_assoc before (y.0 ∷ []) adds.more;
    size = ap suc adds.size;
    takes = Takes-then one adds.takes;
  }

  all_added : (at : ℕ) (count : ℕ × ℕ) (x : List A × ℕ) → number_at w16 bytes at ≡ Ok count → Adds bytes spelled [] count.0 count.1 x → Takes bytes at (counted spelled x.0) x.1
  all_added at count x counts adds =
      let number = ((reads_u2 bytes).takes below at count counts).1 in
      let first : Takes bytes at (u2 (length adds.more)) count.1 = subst (λ n. Takes bytes at (u2 n) count.1) (sym adds.size) number in
      subst (λ xs. Takes bytes at (counted spelled xs) x.1) (sym adds.all) (Takes-then first adds.takes)

  module _ (read : ℕ → Result (A × ℕ) FileFault) (takes : IsSpelled bytes spelled read) where
    many_take : (count : ℕ) (before : List A) (at : ℕ) (x : List A × ℕ) → many_at read count before at ≡ Ok x → Adds bytes spelled before count at x
    unfolding many_at
    many_take zero before at x e = none_added before at x cc
    many_take (suc n) before at x e =
        opened (read at) _ (λ y reads rest. one_added before n at y x (takes at y reads) (many_take n (before ++ y.0 ∷ []) y.1 x rest)) e

    counted_take : IsSpelled bytes (counted spelled) (counted_at read bytes)
    unfolding counted_at
    counted_take at x e = opened (number_at w16 bytes at) _ (λ count counts rest. all_added at count x counts (many_take count.0 [] count.1 x rest)) e

  -- the same where each may depend on those before it
  module _ (read : List A → ℕ → Result (A × ℕ) FileFault) (takes : (before : List A) → IsSpelled bytes spelled (read before)) where
    many_after_take : (count : ℕ) (before : List A) (at : ℕ) (x : List A × ℕ) → many_after read count before at ≡ Ok x → Adds bytes spelled before count at x
    unfolding many_after
    many_after_take zero before at x e = none_added before at x cc
    many_after_take (suc n) before at x e =
        opened (read before at) _ (λ y reads rest. one_added before n at y x (takes before at y reads) (many_after_take n (before ++ y.0 ∷ []) y.1 x rest)) e

    counted_after_take : IsSpelled bytes (counted spelled) (counted_after read bytes)
    unfolding counted_after
    counted_after_take at x e = opened (number_at w16 bytes at) _ (λ count counts rest. all_added at count x counts (many_after_take count.0 [] count.1 x rest)) e

-- ---- attributes and members

module _ (entries : List Entry) (bytes : List ℕ) (below : IsBytes bytes) where
  attribute_takes : (o : Owner) → IsSpelled bytes spelled_attr (attribute_at entries o bytes)
  attribute_takes o at x e = found_spelled entries o bytes below at (Ok x) e

  attributes_take : (o : Owner) → IsSpelled bytes (counted spelled_attr) (counted_at (attribute_at entries o bytes) bytes)
  attributes_take o = counted_take bytes below spelled_attr (attribute_at entries o bytes) (attribute_takes o)

  pub class_attributes_take : IsSpelled bytes (counted spelled_attr) (counted_after (class_attribute_at entries bytes) bytes)
  class_attributes_take = counted_after_take bytes below spelled_attr (class_attribute_at entries bytes) (λ before. attribute_takes (class_owner before))

  member_parts : (at : ℕ) (flags name descr : ℕ × ℕ) (attributes : List RawAttr × ℕ) → number_at w16 bytes at ≡ Ok flags → number_at w16 bytes flags.1 ≡ Ok name → number_at w16 bytes name.1 ≡ Ok descr → Takes bytes descr.1 (counted spelled_attr attributes.0) attributes.1 → Takes bytes at (u2 flags.0 ++ (u2 name.0 ++ (u2 descr.0 ++ counted spelled_attr attributes.0))) attributes.1
  member_parts at flags name descr attributes e0 e1 e2 rest =
      Takes-then ((reads_u2 bytes).takes below at flags e0).1
      (Takes-then ((reads_u2 bytes).takes below flags.1 name e1).1
      (Takes-then ((reads_u2 bytes).takes below name.1 descr e2).1 rest))

  field_takes : (before : List RawMember) → IsSpelled bytes spelled_member (field_at entries bytes before)
  unfolding field_at
  field_takes before at x e =
      opened (number_at w16 bytes at) _ (λ flags e0 r0.
      opened (number_at w16 bytes flags.1) _ (λ name e1 r1.
      opened (number_at w16 bytes name.1) _ (λ descr e2 r2.
      opened (demanded (is_new entries before name.0 descr.0) (fault.Repeat at)) _ (λ u e3 r3.
      opened (tagged entries 1 flags.1 name.0) _ (λ v e4 r4.
      opened (text_checked entries is_field_descriptor name.1 descr.0) _ (λ w e5 r5.
      opened (counted_at (attribute_at entries owner.Field bytes) bytes descr.1) _ (λ attributes e6 last.
      let made : RawMember = record { flags = flags.0; name = name.0; descr = descr.0; attributes = attributes.0 } in
      let is : (made, attributes.1) ≡ x = cc in
      subst (λ (p : RawMember × ℕ). Takes bytes at (spelled_member p.0) p.1) is
      (member_parts at flags name descr attributes e0 e1 e2 (attributes_take owner.Field descr.1 attributes e6))
      ) r5) r4) r3) r2) r1) r0) e

  pub fields_take : IsSpelled bytes (counted spelled_member) (counted_after (field_at entries bytes) bytes)
  fields_take = counted_after_take bytes below spelled_member (field_at entries bytes) field_takes

  method_takes : (before : List RawMember) → IsSpelled bytes spelled_member (method_at entries bytes before)
  unfolding method_at
  method_takes before at x e =
      opened (number_at w16 bytes at) _ (λ flags e0 r0.
      opened (number_at w16 bytes flags.1) _ (λ name e1 r1.
      opened (number_at w16 bytes name.1) _ (λ descr e2 r2.
      opened (demanded (is_new entries before name.0 descr.0) (fault.Repeat at)) _ (λ u e3 r3.
      opened (tagged entries 1 flags.1 name.0) _ (λ v e4 r4.
      opened (words_at entries flags.0 name.1 descr.0) _ (λ words e5 r5.
      opened (counted_at (name_at entries bytes) bytes descr.1) _ (λ names e6 r6.
      opened (demanded (code_count entries names.0 == wanted_codes flags.0) (fault.CodeCount (length before))) _ (λ w e7 r7.
      opened (counted_at (attribute_at entries (owner.Method words) bytes) bytes descr.1) _ (λ attributes e8 last.
      let made : RawMember = record { flags = flags.0; name = name.0; descr = descr.0; attributes = attributes.0 } in
      let is : (made, attributes.1) ≡ x = cc in
      subst (λ (p : RawMember × ℕ). Takes bytes at (spelled_member p.0) p.1) is
      (member_parts at flags name descr attributes e0 e1 e2 (attributes_take (owner.Method words) descr.1 attributes e8))
      ) r7) r6) r5) r4) r3) r2) r1) r0) e

  pub methods_take : IsSpelled bytes (counted spelled_member) (counted_after (method_at entries bytes) bytes)
  methods_take = counted_after_take bytes below spelled_member (method_at entries bytes) method_takes
