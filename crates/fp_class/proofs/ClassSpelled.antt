-- What is read of a class file is spelled so.
use Rattle.std.proofs.Common.{◌≡◌, ℕ, List, Result, Ok, length, refl, sym, subst}
use Rattle.fp_model.specs.declared.fault.FileFault.{FileFault}
use Rattle.fp_model.specs.declared.raw.Raw.{Raw}
use Rattle.fp_model.specs.References.{each_checked, entries_checked}
use Rattle.fp_model.specs.Spelling.{counted, spelled, spelled_attr, spelled_entry}
use Rattle.fp_model.proofs.Readers.{opened, IsBytes}
use Rattle.fp_model.proofs.Takes.{Takes, Takes-then, Takes-whole}
use Rattle.fp_attr.specs.Attributes.{attribute_skipped}
use Rattle.fp_class.specs.declared.layout.Layout.{Layout}
use Rattle.fp_class.specs.ClassFile.{boot_number_checked, boots_of, class_attribute_at, class_of, entries_start, names_checked, parts_of}
use Rattle.fp_class.specs.Layout.{counted_skipped, layout_of, member_skipped}
use Rattle.fp_class.specs.Members.{counted_after, field_at, method_at}
use Rattle.fp_class.proofs.Heads.{head_of, IsHead}
use Rattle.fp_class.proofs.MemberSpelled.{class_attributes_take, fields_take, methods_take}
use Rattle.fp_class.proofs.Skipped.{class_attributes_skip, fields_skip, methods_skip}

-- from one offset one end is reached
one_end : (skip : ℕ → Result ℕ FileFault) (at from end next : ℕ) → at ≡ from → skip at ≡ Ok end → skip from ≡ Ok next → end ≡ next
one_end skip at from end next same p q = cc

-- the parts behind the head end where the layout says, at the end of the bytes
parts_take : (bytes : List ℕ) → IsBytes bytes → (l : Layout) → IsHead bytes l → (raw : Raw) → parts_of bytes l ≡ Ok raw → Takes bytes 0 (spelled raw) (length bytes)
unfolding parts_of
parts_take bytes below l head raw e =
    let entries = l.pool.entries in
    opened (counted_after (field_at entries bytes) bytes l.fields_at) _ (λ fields e0 r0.
    opened (counted_after (method_at entries bytes) bytes fields.1) _ (λ methods e1 r1.
    opened (counted_after (class_attribute_at entries bytes) bytes methods.1) _ (λ attributes e2 r2.
    opened (each_checked spelled_entry (boot_number_checked (boots_of attributes.0)) entries_start entries) _ (λ u e3 last.
    let made : Raw = record { minor = l.minor; major = l.major; pool = l.pool; flags = l.flags; this = l.this; parent = l.parent; interfaces = l.interfaces; fields = fields.0; methods = methods.0; attributes = attributes.0 } in
    let is : made ≡ raw = cc in
    let a : head.methods ≡ fields.1 = one_end (counted_skipped (member_skipped bytes) bytes) l.fields_at l.fields_at head.methods fields.1 refl head.skips_fields (fields_skip entries bytes l.fields_at fields e0) in
    let b : head.attributes ≡ methods.1 = one_end (counted_skipped (member_skipped bytes) bytes) head.methods fields.1 head.attributes methods.1 a head.skips_methods (methods_skip entries bytes fields.1 methods e1) in
    let end : attributes.1 ≡ length bytes = sym (one_end (counted_skipped (attribute_skipped bytes) bytes) head.attributes methods.1 (length bytes) attributes.1 b head.skips_attributes (class_attributes_skip entries bytes methods.1 attributes e2)) in
    let t0 = fields_take entries bytes below l.fields_at fields e0 in
    let t1 = methods_take entries bytes below fields.1 methods e1 in
    let t2 : Takes bytes methods.1 (counted spelled_attr attributes.0) (length bytes) = subst (Takes bytes methods.1 (counted spelled_attr attributes.0)) end (class_attributes_take entries bytes below methods.1 attributes e2) in
    subst (λ r. Takes bytes 0 (spelled r) (length bytes)) is (head.takes _ (length bytes) (Takes-then t0 (Takes-then t1 t2)))
    ) r2) r1) r0) e

-- what is read is spelled so
pub class_takes : (bytes : List ℕ) → IsBytes bytes → (raw : Raw) → class_of bytes ≡ Ok raw → spelled raw ≡ bytes
unfolding class_of
class_takes bytes below raw e =
    opened (layout_of bytes) _ (λ l layout r0.
    opened (entries_checked l.pool.entries entries_start l.pool.entries) _ (λ u referred r1.
    opened (names_checked l.pool.entries l) _ (λ v named parts.
    Takes-whole bytes (spelled raw) (parts_take bytes below l (head_of bytes below l layout) raw parts)) r1) r0) e
