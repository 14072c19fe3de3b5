-- How much the classes of well-formed files have.
use Rattle.std.proofs.Common.{◌≡◌, ℕ, ◌*◌, ◌<◌, ◌≤◌, true, List, [], ◌∷◌, Result, Ok, Err, not, length, refl, subst, arith, length-append}
use Rattle.std.specs.Prelude.{All}
use Rattle.std.specs.List.{AllZip}
use Rattle.std.proofs.lemmas.Bool.{ltb-true}
use Rattle.std.proofs.lemmas.List.Elements.{All-filter, All-head, All-tail}
use Rattle.std.proofs.lemmas.List.Filters.{length-filter_both}
use Rattle.std.proofs.lemmas.Slice.Zip.{AllZip-long}
use Rattle.fp_base.specs.Files.{File}
use Rattle.fp_model.specs.declared.class.Class.{Class}
use Rattle.fp_model.specs.declared.fault.FileFault.{FileFault}
use Rattle.fp_model.specs.declared.raw.Raw.{Raw}
use Rattle.fp_model.specs.ClassSet.{fields_of, methods_of, AreFew}
use Rattle.fp_model.specs.References.{each_checked, entries_checked}
use Rattle.fp_model.specs.Spelling.{is_u2, spelled, spelled_entry}
use Rattle.fp_model.proofs.Readers.{opened, IsBytes}
use Rattle.fp_class.specs.declared.layout.Layout.{Layout}
use Rattle.fp_class.specs.ClassFile.{boot_number_checked, boots_of, class_attribute_at, class_of, entries_start, is_module, names_checked, parts_of, IsWellFormed}
use Rattle.fp_class.specs.Classes.{IsClassOf, IsFieldOf, IsMethodOf}
use Rattle.fp_class.specs.Layout.{layout_of}
use Rattle.fp_class.specs.Members.{counted_after, field_at, method_at}
use Rattle.fp_class.proofs.Facts.{counted_formed, facts_of}
use Rattle.fp_load.specs.Gathering.{with_class}
use Rattle.fp_load.specs.Load.{raw_in, raws_of}

-- ---- the methods of a class file

parts_methods : (bytes : List ℕ) → IsBytes bytes → (layout : Layout) (raw : Raw) → parts_of bytes layout ≡ Ok raw → is_u2 (length raw.methods) ≡ true
unfolding parts_of
parts_methods bytes below layout raw e =
    opened (counted_after (field_at layout.pool.entries bytes) bytes layout.fields_at) _ (λ fields e0 r0.
    opened (counted_after (method_at layout.pool.entries bytes) bytes fields.1) _ (λ methods e1 r1.
    opened (counted_after (class_attribute_at layout.pool.entries bytes) bytes methods.1) _ (λ attributes e2 r2.
    opened (each_checked spelled_entry (boot_number_checked (boots_of attributes.0)) entries_start layout.pool.entries) _ (λ w e3 last.
    let is : record { minor = layout.minor; major = layout.major; pool = layout.pool; flags = layout.flags; this = layout.this; parent = layout.parent; interfaces = layout.interfaces; fields = fields.0; methods = methods.0; attributes = attributes.0 } ≡ raw = cc in
    subst (λ (r : Raw). is_u2 (length r.methods) ≡ true) is
    (counted_formed (λ _. true) (method_at layout.pool.entries bytes) (λ before at x found. refl) bytes below fields.1 methods e1).0
    ) r2) r1) r0) e

read_methods : (bytes : List ℕ) → IsBytes bytes → (raw : Raw) → class_of bytes ≡ Ok raw → is_u2 (length raw.methods) ≡ true
unfolding class_of
read_methods bytes below raw e =
    opened (layout_of bytes) _ (λ layout e0 r0.
    opened (entries_checked layout.pool.entries entries_start layout.pool.entries) _ (λ u e1 r1.
    opened (names_checked layout.pool.entries layout) _ (λ v e2 rest. parts_methods bytes below layout raw rest) r1) r0) e

few_methods : (raw : Raw) → IsWellFormed raw → length raw.methods < 65536
few_methods raw formed = ltb-true (length raw.methods) 65536 (read_methods (spelled raw) (record { below = formed.bytes }) raw formed.read)

few_fields : (raw : Raw) → IsWellFormed raw → length raw.fields < 65536
few_fields raw formed = ltb-true (length raw.fields) 65536 (facts_of raw formed).few_fields

-- ---- the members of many classes

fields_few : (names : List (List ℕ)) (classes : List Class) (raws : List Raw) → AllZip (IsClassOf names) classes raws → All IsWellFormed raws → length (fields_of classes) ≤ 65535 * length classes
fields_few names [] [] all formed = omega arith
fields_few names [] (raw ∷ raws) all formed = absurd all
fields_few names (c ∷ classes) [] all formed = absurd all
fields_few names (c ∷ classes) (raw ∷ raws) all formed =
    let size : length raw.fields ≡ length c.fields = AllZip-long (IsFieldOf names raw.pool.entries) c.fields raw.fields all.0.fields in
    omega (arith, size, few_fields raw (All-head IsWellFormed raw raws formed), length-append c.fields (fields_of classes), fields_few names classes raws all.1 (All-tail IsWellFormed raw raws formed))

methods_few : (names : List (List ℕ)) (classes : List Class) (raws : List Raw) → AllZip (IsClassOf names) classes raws → All IsWellFormed raws → length (methods_of classes) ≤ 65535 * length classes
methods_few names [] [] all formed = omega arith
methods_few names [] (raw ∷ raws) all formed = absurd all
methods_few names (c ∷ classes) [] all formed = absurd all
methods_few names (c ∷ classes) (raw ∷ raws) all formed =
    let size : length raw.methods ≡ length c.methods = AllZip-long (IsMethodOf names raw.pool.entries (boots_of raw.attributes)) c.methods raw.methods all.0.methods in
    omega (arith, size, few_methods raw (All-head IsWellFormed raw raws formed), length-append c.methods (methods_of classes), methods_few names classes raws all.1 (All-tail IsWellFormed raw raws formed))

-- ---- how many classes there are

length-raw_in : (result : Result Raw FileFault) → length (raw_in result) ≤ 1
length-raw_in (Ok raw) = omega arith
length-raw_in (Err fault) = omega arith

length-raws_of : (files : List File) → length (raws_of files) ≤ length files
length-raws_of [] = omega arith
length-raws_of (file ∷ files) = omega (arith, length-raw_in (class_of file.bytes), length-raws_of files, length-append (raw_in (class_of file.bytes)) (raws_of files))

-- 20,000 files have few classes and members
pub AreFew-classes : (names : List (List ℕ)) (classes : List Class) (files : List File) → AllZip (IsClassOf names) classes (with_class (raws_of files)) → All IsWellFormed (raws_of files) → length files ≤ 20000 → AreFew classes
AreFew-classes names classes files all formed few =
    let raws = with_class (raws_of files) in
    let kept : All IsWellFormed raws = All-filter (λ raw. not (is_module raw.flags)) IsWellFormed (raws_of files) formed in
    let count : length raws ≡ length classes = AllZip-long (IsClassOf names) classes raws all in
    let most : length classes ≤ 20000 = omega (arith, length-filter_both (λ (raw : Raw). not (is_module raw.flags)) (λ (raw : Raw). not (not (is_module raw.flags))) (λ raw. refl) (raws_of files), length-raws_of files) in
    record {
      classes = omega arith;
      fields = omega (arith, fields_few names classes raws all kept);
      methods = omega (arith, methods_few names classes raws all kept);
    }
