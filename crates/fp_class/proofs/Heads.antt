-- The parts of a file up to its fields, which stand in its bytes from the first one on.
use Rattle.std.proofs.Common.{◌≡◌, ℕ, ◌+◌, ◌<◌, ◌≤◌, List, ◌++◌, Ok, IsTrue, length, ◌==◌, ap, ◌∙◌, subst, arith}
use Rattle.std.proofs.lemmas.Bool.{eqb-true}
use Rattle.std.specs.List.{flat_map}
use Rattle.std.specs.Int.{w16, w32}
use Rattle.fp_model.specs.declared.fault.FileFault.TheVariants as fault
use Rattle.fp_model.specs.Pool.{pool_at}
use Rattle.fp_model.specs.Reading.{counted_at, demanded, number_at}
use Rattle.fp_model.specs.Spelling.{u2, u4, counted, is_u2, spelled_entry, spelled_pool}
use Rattle.fp_model.proofs.Takes.{Takes, Takes-then, Takes-room}
use Rattle.fp_model.proofs.Readers.{demanded-true, opened, reads_counted, reads_u2, u4_takes, IsBytes}
use Rattle.fp_pool.specs.Form.{has_form}
use Rattle.fp_pool.proofs.Formed.{pool_has_form}
use Rattle.fp_pool.proofs.Spelled.{pool_spelled}
use Rattle.fp_attr.specs.Attributes.{attribute_skipped}
use Rattle.fp_class.specs.declared.layout.Layout.{Layout}
use Rattle.fp_class.specs.ClassFile.{entries_start}
use Rattle.fp_class.specs.Layout.{counted_skipped, is_version, layout_of, member_skipped}

-- what is known of a layout
pub record IsHead (bytes : List ℕ) (l : Layout) : Type 0 where
  pub pool_room : entries_start + length (flat_map spelled_entry l.pool.entries) ≡ l.flags_at
  pub names_room : l.flags_at + 8 + length (flat_map u2 l.interfaces) ≡ l.fields_at
  pub inside : l.fields_at ≤ length bytes
  pub form : IsTrue (has_form l.pool)
  pub takes : (rest : List ℕ) (next : ℕ) → Takes bytes l.fields_at rest next → Takes bytes 0 (u4 0xCAFEBABE ++ (u2 l.minor ++ (u2 l.major ++ (spelled_pool l.pool ++ (u2 l.flags ++ (u2 l.this ++ (u2 l.parent ++ (counted u2 l.interfaces ++ rest)))))))) next
  pub methods : ℕ
  pub attributes : ℕ
  pub skips_fields : counted_skipped (member_skipped bytes) bytes l.fields_at ≡ Ok methods
  pub skips_methods : counted_skipped (member_skipped bytes) bytes methods ≡ Ok attributes
  pub skips_attributes : counted_skipped (attribute_skipped bytes) bytes attributes ≡ Ok (length bytes)

pub head_of : (bytes : List ℕ) → IsBytes bytes → (l : Layout) → layout_of bytes ≡ Ok l → IsHead bytes l
unfolding layout_of
head_of bytes below l e =
    opened (number_at w32 bytes 0) _ (λ magic e0 r0.
    opened (demanded (magic.0 == 0xCAFEBABE) fault.Magic) _ (λ u is_class r1.
    opened (number_at w16 bytes magic.1) _ (λ minor e2 r2.
    opened (number_at w16 bytes minor.1) _ (λ major e3 r3.
    opened (demanded (is_version major.0 minor.0) (fault.Version major.0 minor.0)) _ (λ v is_read r4.
    opened (pool_at bytes major.1) _ (λ pool e5 r5.
    opened (number_at w16 bytes pool.1) _ (λ flags e6 r6.
    opened (number_at w16 bytes flags.1) _ (λ this e7 r7.
    opened (number_at w16 bytes this.1) _ (λ parent e8 r8.
    opened (counted_at (number_at w16 bytes) bytes parent.1) _ (λ interfaces e9 r9.
    opened (counted_skipped (member_skipped bytes) bytes interfaces.1) _ (λ methods e10 r10.
    opened (counted_skipped (member_skipped bytes) bytes methods) _ (λ attributes e11 r11.
    opened (counted_skipped (attribute_skipped bytes) bytes attributes) _ (λ end e12 r12.
    opened (demanded (end == length bytes) (fault.Trailing end)) _ (λ w whole last.
    let made : Layout = record { minor = minor.0; major = major.0; pool = pool.0; flags = flags.0; this = this.0; parent = parent.0; interfaces = interfaces.0; flags_at = pool.1; fields_at = interfaces.1 } in
    let is : made ≡ l = cc in
    let first : Takes bytes 0 (u4 0xCAFEBABE) magic.1 = subst (λ n. Takes bytes 0 (u4 n) magic.1) (eqb-true magic.0 0xCAFEBABE (demanded-true (magic.0 == 0xCAFEBABE) fault.Magic is_class)) (u4_takes bytes below 0 magic e0) in
    let t2 = ((reads_u2 bytes).takes below magic.1 minor e2).1 in
    let t3 = ((reads_u2 bytes).takes below minor.1 major e3).1 in
    let t5 : Takes bytes major.1 (spelled_pool pool.0) pool.1 = pool_spelled bytes below major.1 (Ok pool) e5 in
    let t6 = ((reads_u2 bytes).takes below pool.1 flags e6).1 in
    let t7 = ((reads_u2 bytes).takes below flags.1 this e7).1 in
    let t8 = ((reads_u2 bytes).takes below this.1 parent e8).1 in
    let t9 : Takes bytes parent.1 (counted u2 interfaces.0) interfaces.1 = ((reads_counted bytes is_u2 u2 (number_at w16 bytes) (reads_u2 bytes)).takes below parent.1 interfaces e9).1 in
    let some : 0 < length (counted u2 interfaces.0) = omega arith in
    let known : IsHead bytes made = record {
      pool_room = omega (arith, first.after, t2.after, t3.after, t5.after);
      names_room = omega (arith, t6.after, t7.after, t8.after, t9.after);
      inside = omega (arith, t9.after, Takes-room some t9);
      form = pool_has_form bytes below major.1 (Ok pool) e5;
      takes = λ rest next p. Takes-then first (Takes-then t2 (Takes-then t3 (Takes-then t5 (Takes-then t6 (Takes-then t7 (Takes-then t8 (Takes-then t9 p)))))));
      methods = methods;
      attributes = attributes;
      skips_fields = e10;
      skips_methods = e11;
      skips_attributes = e12 ∙ ap (λ n. Ok n) (eqb-true end (length bytes) (demanded-true (end == length bytes) (fault.Trailing end) whole));
    } in
    subst (IsHead bytes) is known
    ) r12) r11) r10) r9) r8) r7) r6) r5) r4) r3) r2) r1) r0) e

pub layout_room : (bytes : List ℕ) → IsBytes bytes → (l : Layout) → layout_of bytes ≡ Ok l → (entries_start + length (flat_map spelled_entry l.pool.entries) ≡ l.flags_at) × (l.flags_at + 8 + length (flat_map u2 l.interfaces) ≡ l.fields_at) × IsTrue (has_form l.pool)
layout_room bytes below l e =
    let known = head_of bytes below l e in
    (known.pool_room, known.names_room, known.form)

-- the fields begin within the bytes
pub layout_inside : (bytes : List ℕ) → IsBytes bytes → (l : Layout) → layout_of bytes ≡ Ok l → l.fields_at ≤ length bytes
layout_inside bytes below l e = (head_of bytes below l e).inside
