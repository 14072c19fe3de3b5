-- What a well-formed class file has.
use Rattle.std.proofs.Common.{◌≡◌, ℕ, zero, suc, ◌+◌, Bool, true, false, List, [], ◌∷◌, ◌++◌, Option, Some, None, Result, Ok, IsTrue, length, ◌==◌, refl, sym, ap, ◌∙◌, subst}
use Rattle.std.proofs.lemmas.Bool.{and_parts, and_from}
use Rattle.std.proofs.lemmas.List.{append-nil, append_assoc}
use Rattle.std.specs.Int.{w16, w32}
use Rattle.std.specs.List.{list_all}
use Rattle.std.specs.Option.{is_some}
use Rattle.std.specs.Prelude.{nat_le}
use Rattle.fp_model.specs.declared.fault.FileFault.{FileFault}
use Rattle.fp_model.specs.declared.fault.FileFault.TheVariants as fault
use Rattle.fp_model.specs.declared.raw.pool.Entry.{Entry}
use Rattle.fp_model.specs.declared.raw.pool.Entry.TheVariants as entry
use Rattle.fp_model.specs.declared.raw.RawMember.{RawMember}
use Rattle.fp_model.specs.declared.raw.Raw.{Raw}
use Rattle.fp_model.specs.Descriptor.{is_field_descriptor, is_method_descriptor}
use Rattle.fp_model.specs.Entries.{is_class_index, passes, tag_at, text_at}
use Rattle.fp_model.specs.Pool.{is_wide, pool_at}
use Rattle.fp_model.specs.Reading.{counted_at, demanded, number_at}
use Rattle.fp_model.specs.References.{each_checked, entries_checked, holds_of, tagged, text_checked}
use Rattle.fp_model.specs.Spelling.{is_u2, spelled, spelled_entry, u2}
use Rattle.fp_model.proofs.Readers.{opened, demanded-true, IsBytes, reads_u2, reads_counted}
use Rattle.fp_attr.specs.Attributes.{attribute_at, attribute_skipped}
use Rattle.fp_attr.specs.declared.owner.Owner.TheVariants as owner
use Rattle.fp_ops.specs.Checked.{is_short_entry, IsCheckedPool}
use Rattle.fp_pool.specs.Form.{are_slots, is_slot}
use Rattle.fp_pool.proofs.Formed.{pool_has_form}
use Rattle.fp_class.specs.declared.layout.Layout.{Layout}
use Rattle.fp_class.specs.ClassFile.{boot_number_checked, boots_of, class_attribute_at, class_of, entries_start, interface_checked, is_parent, names_checked, parts_of, IsWellFormed}
use Rattle.fp_class.specs.Layout.{counted_skipped, is_version, layout_of, member_skipped}
use Rattle.fp_class.specs.Members.{argument_words, code_count, counted_after, field_at, is_new, is_type_of, many_after, method_at, name_at, wanted_codes, words_at}
use Rattle.fp_class.specs.Naming.{is_sound_field, is_sound_method}
use Rattle.fp_class.proofs.Sorts.{sorted, text_tagged}

-- ---- the constant pool

short_slot : (empty : Bool) (e : Entry) → is_slot empty e ≡ true → is_short_entry e ≡ true
short_slot true (entry.Utf8 text) formed = absurd (cc)
short_slot false (entry.Utf8 text) formed = formed
short_slot empty e formed = refl

short_slots : (empty : Bool) (entries : List Entry) → are_slots empty entries ≡ true → list_all is_short_entry entries ≡ true
unfolding are_slots
short_slots empty [] formed = refl
short_slots empty (e ∷ entries) formed =
    let parts = and_parts (is_slot empty e) (are_slots (is_wide e) entries) formed in
    and_from (is_short_entry e) (list_all is_short_entry entries) (short_slot empty e parts.0) (short_slots (is_wide e) entries parts.1)

-- ---- the layout

pub record LayoutFacts (layout : Layout) : Type 0 where
  pub few_entries : is_u2 (length layout.pool.entries) ≡ true
  pub short : list_all is_short_entry layout.pool.entries ≡ true
  pub few_interfaces : is_u2 (length layout.interfaces) ≡ true

pub layout_facts : (bytes : List ℕ) → IsBytes bytes → (layout : Layout) → layout_of bytes ≡ Ok layout → LayoutFacts layout
unfolding layout_of
layout_facts bytes below layout e =
    opened (number_at w32 bytes 0) _ (λ magic e0 r0.
    opened (demanded (magic.0 == 0xCAFEBABE) fault.Magic) _ (λ u e1 r1.
    opened (number_at w16 bytes magic.1) _ (λ minor e2 r2.
    opened (number_at w16 bytes minor.1) _ (λ major e3 r3.
    opened (demanded (is_version major.0 minor.0) (fault.Version major.0 minor.0)) _ (λ v e4 r4.
    opened (pool_at bytes major.1) _ (λ pool e5 r5.
    opened (number_at w16 bytes pool.1) _ (λ flags e6 r6.
    opened (number_at w16 bytes flags.1) _ (λ this e7 r7.
    opened (number_at w16 bytes this.1) _ (λ parent e8 r8.
    opened (counted_at (number_at w16 bytes) bytes parent.1) _ (λ interfaces e9 r9.
    opened (counted_skipped (member_skipped bytes) bytes interfaces.1) _ (λ methods e10 r10.
    opened (counted_skipped (member_skipped bytes) bytes methods) _ (λ attributes e11 r11.
    opened (counted_skipped (attribute_skipped bytes) bytes attributes) _ (λ end e12 r12.
    opened (demanded (end == length bytes) (fault.Trailing end)) _ (λ w e13 last.
    let is : record { minor = minor.0; major = major.0; pool = pool.0; flags = flags.0; this = this.0; parent = parent.0; interfaces = interfaces.0; flags_at = pool.1; fields_at = interfaces.1 } ≡ layout = cc in
    let formed = and_parts (is_u2 (length pool.0.entries)) (are_slots true pool.0.entries) (pool_has_form bytes below major.1 (Ok pool) e5) in
    let indexes = (reads_counted bytes is_u2 u2 (number_at w16 bytes) (reads_u2 bytes)).takes below parent.1 interfaces e9 in
    subst LayoutFacts is
    (record {
      few_entries = formed.0;
      short = short_slots true pool.0.entries formed.1;
      few_interfaces = (and_parts (is_u2 (length interfaces.0)) (list_all is_u2 interfaces.0) indexes.0).0;
    })
    ) r12) r11) r10) r9) r8) r7) r6) r5) r4) r3) r2) r1) r0) e

-- ---- names of classes

record NamesFacts (entries : List Entry) (layout : Layout) : Type 0 where
  this : is_class_index entries layout.this ≡ true
  parent : is_parent entries layout.flags layout.this layout.parent ≡ true
  interfaces : list_all (is_class_index entries) layout.interfaces ≡ true

interfaces_are : (entries : List Entry) (at : ℕ) (indexes : List ℕ) {u : Unit {0}} → each_checked u2 (interface_checked entries) at indexes ≡ Ok u → list_all (is_class_index entries) indexes ≡ true
unfolding each_checked
interfaces_are entries at [] e = refl
interfaces_are entries at (index ∷ indexes) e =
    opened (interface_checked entries at index) _ (λ u one more.
    and_from (is_class_index entries index) (list_all (is_class_index entries) indexes)
    (demanded-true (is_class_index entries index) (fault.Index at index) one)
    (interfaces_are entries (at + length (u2 index)) indexes more)) e

names_facts : (entries : List Entry) (layout : Layout) {u : Unit {0}} → names_checked entries layout ≡ Ok u → NamesFacts entries layout
unfolding names_checked
names_facts entries layout e =
    opened (demanded (is_class_index entries layout.this) (fault.Index (layout.flags_at + 2) layout.this)) _ (λ u is_class more.
    opened (demanded (is_parent entries layout.flags layout.this layout.parent) (fault.Index (layout.flags_at + 4) layout.parent)) _ (λ v has_parent last.
    record {
      this = demanded-true (is_class_index entries layout.this) (fault.Index (layout.flags_at + 2) layout.this) is_class;
      parent = demanded-true (is_parent entries layout.flags layout.this layout.parent) (fault.Index (layout.flags_at + 4) layout.parent) has_parent;
      interfaces = interfaces_are entries (layout.flags_at + 8) layout.interfaces last;
    }) more) e

-- ---- the members

-- what a loop reads behind what it has
record More {A : Type 0} (form : A → Bool) (before : List A) (count : ℕ) (all : List A) : Type 0 where
  more : List A
  is : all ≡ before ++ more
  size : length more ≡ count
  formed : list_all form more ≡ true

module _ {A : Type 0} (form : A → Bool) (read : List A → ℕ → Result (A × ℕ) FileFault) (one : (before : List A) (at : ℕ) (x : A × ℕ) → read before at ≡ Ok x → form x.0 ≡ true) where
  many_formed : (count : ℕ) (before : List A) (at : ℕ) (x : List A × ℕ) → many_after read count before at ≡ Ok x → More form before count x.0
  unfolding many_after
  many_formed zero before at x e =
      let is : (before, at) ≡ x = cc in
      record { more = []; is = sym (ap (λ (p : List A × ℕ). p.0) is) ∙ sym (append-nil before); size = refl; formed = refl }
  many_formed (suc n) before at x e =
      opened (read before at) _ (λ y ey rest.
      let adds = many_formed n (before ++ y.0 ∷ []) y.1 x rest in
      record {
        more = y.0 ∷ adds.more;
        is = adds.is ∙ append_assoc before (y.0 ∷ []) adds.more;
        size = ap suc adds.size;
        formed = and_from (form y.0) (list_all form adds.more) (one before at y ey) adds.formed;
      }) e

  pub counted_formed : (bytes : List ℕ) → IsBytes bytes → (at : ℕ) (x : List A × ℕ) → counted_after read bytes at ≡ Ok x → (is_u2 (length x.0) ≡ true) × (list_all form x.0 ≡ true)
  unfolding counted_after
  counted_formed bytes below at x e =
      opened (number_at w16 bytes at) _ (λ count counts rest.
      let adds = many_formed count.0 [] count.1 x rest in
      let number = (reads_u2 bytes).takes below at count counts in
      subst (λ xs. (is_u2 (length xs) ≡ true) × (list_all form xs ≡ true)) (sym adds.is) (ap is_u2 adds.size ∙ number.0, adds.formed)) e

text_there : (entries : List Entry) (at index : ℕ) {u : Unit {0}} → tagged entries 1 at index ≡ Ok u → is_some (text_at entries index) ≡ true
text_there entries at index e =
    let text = text_tagged entries index (demanded-true (tag_at entries index == 1) (fault.Index at index) e) in
    ap is_some text.1

text_passes : (entries : List Entry) (test : List ℕ → Bool) (at index : ℕ) {u : Unit {0}} → text_checked entries test at index ≡ Ok u → passes test (text_at entries index) ≡ true
unfolding text_checked
text_passes entries test at index e =
    opened (tagged entries 1 at index) _ (λ u is_text last.
    let tag = demanded-true (tag_at entries index == 1) (fault.Index at index) is_text in
    sym (sorted entries index test tag) ∙ demanded-true (holds_of test (text_at entries index)) (fault.Descriptor at) last) e

field_sound : (entries : List Entry) (bytes : List ℕ) (before : List RawMember) (at : ℕ) (x : RawMember × ℕ) → field_at entries bytes before at ≡ Ok x → is_sound_field entries x.0 ≡ true
unfolding field_at
field_sound entries bytes before at x e =
    opened (number_at w16 bytes at) _ (λ flags e0 r0.
    opened (number_at w16 bytes flags.1) _ (λ name e1 r1.
    opened (number_at w16 bytes name.1) _ (λ descr e2 r2.
    opened (demanded (is_new entries before name.0 descr.0) (fault.Repeat at)) _ (λ u e3 r3.
    opened (tagged entries 1 flags.1 name.0) _ (λ v has_name r4.
    opened (text_checked entries is_field_descriptor name.1 descr.0) _ (λ w has_type r5.
    opened (counted_at (attribute_at entries owner.Field bytes) bytes descr.1) _ (λ attributes e6 last.
    let is : (record { flags = flags.0; name = name.0; descr = descr.0; attributes = attributes.0 }, attributes.1) ≡ x = cc in
    subst (λ (y : RawMember × ℕ). is_sound_field entries y.0 ≡ true) is
    (and_from (is_some (text_at entries name.0)) (passes is_field_descriptor (text_at entries descr.0)) (text_there entries flags.1 name.0 has_name) (text_passes entries is_field_descriptor name.1 descr.0 has_type))
    ) r5) r4) r3) r2) r1) r0) e

-- a text that is a method's descriptor, with few enough arguments, is a method's descriptor
type_is_descriptor : (flags : ℕ) (o : Option (List ℕ)) → passes (is_type_of flags) o ≡ true → passes is_method_descriptor o ≡ true
type_is_descriptor flags None h = absurd (cc)
type_is_descriptor flags (Some text) h = (and_parts (is_method_descriptor text) (nat_le (argument_words flags (Some text)) 255) h).0

type_passes : (entries : List Entry) (flags at index words : ℕ) → words_at entries flags at index ≡ Ok words → passes is_method_descriptor (text_at entries index) ≡ true
unfolding words_at
type_passes entries flags at index words e =
    opened (text_checked entries (is_type_of flags) at index) _ (λ u has_type last.
    type_is_descriptor flags (text_at entries index) (text_passes entries (is_type_of flags) at index has_type)) e

method_sound : (entries : List Entry) (bytes : List ℕ) (before : List RawMember) (at : ℕ) (x : RawMember × ℕ) → method_at entries bytes before at ≡ Ok x → is_sound_method entries x.0 ≡ true
unfolding method_at
method_sound entries bytes before at x e =
    opened (number_at w16 bytes at) _ (λ flags e0 r0.
    opened (number_at w16 bytes flags.1) _ (λ name e1 r1.
    opened (number_at w16 bytes name.1) _ (λ descr e2 r2.
    opened (demanded (is_new entries before name.0 descr.0) (fault.Repeat at)) _ (λ u e3 r3.
    opened (tagged entries 1 flags.1 name.0) _ (λ v has_name r4.
    opened (words_at entries flags.0 name.1 descr.0) _ (λ words has_type r5.
    opened (counted_at (name_at entries bytes) bytes descr.1) _ (λ names e6 r6.
    opened (demanded (code_count entries names.0 == wanted_codes flags.0) (fault.CodeCount (length before))) _ (λ w e7 r7.
    opened (counted_at (attribute_at entries (owner.Method words) bytes) bytes descr.1) _ (λ attributes e8 last.
    let is : (record { flags = flags.0; name = name.0; descr = descr.0; attributes = attributes.0 }, attributes.1) ≡ x = cc in
    subst (λ (y : RawMember × ℕ). is_sound_method entries y.0 ≡ true) is
    (and_from (is_some (text_at entries name.0)) (passes is_method_descriptor (text_at entries descr.0)) (text_there entries flags.1 name.0 has_name) (type_passes entries flags.0 name.1 descr.0 words has_type))
    ) r7) r6) r5) r4) r3) r2) r1) r0) e

-- ---- the file

pub record Facts (raw : Raw) : Type 0 where
  pub checked : IsCheckedPool raw.pool.entries
  pub this : is_class_index raw.pool.entries raw.this ≡ true
  pub parent : is_parent raw.pool.entries raw.flags raw.this raw.parent ≡ true
  pub interfaces : IsTrue (list_all (is_class_index raw.pool.entries) raw.interfaces)
  pub fields : IsTrue (list_all (is_sound_field raw.pool.entries) raw.fields)
  pub methods : IsTrue (list_all (is_sound_method raw.pool.entries) raw.methods)
  pub few_entries : IsTrue (is_u2 (length raw.pool.entries))
  pub few_interfaces : IsTrue (is_u2 (length raw.interfaces))
  pub few_fields : IsTrue (is_u2 (length raw.fields))
  pub few_methods : IsTrue (is_u2 (length raw.methods))

parts_facts : (bytes : List ℕ) → IsBytes bytes → (layout : Layout) (raw : Raw) → layout_of bytes ≡ Ok layout → entries_checked layout.pool.entries entries_start layout.pool.entries ≡ Ok tt → names_checked layout.pool.entries layout ≡ Ok tt → parts_of bytes layout ≡ Ok raw → Facts raw
unfolding parts_of
parts_facts bytes below layout raw e0 referred named e =
    opened (counted_after (field_at layout.pool.entries bytes) bytes layout.fields_at) _ (λ fields e3 r3.
    opened (counted_after (method_at layout.pool.entries bytes) bytes fields.1) _ (λ methods e4 r4.
    opened (counted_after (class_attribute_at layout.pool.entries bytes) bytes methods.1) _ (λ attributes e5 r5.
    opened (each_checked spelled_entry (boot_number_checked (boots_of attributes.0)) entries_start layout.pool.entries) _ (λ w e6 last.
    let is : record { minor = layout.minor; major = layout.major; pool = layout.pool; flags = layout.flags; this = layout.this; parent = layout.parent; interfaces = layout.interfaces; fields = fields.0; methods = methods.0; attributes = attributes.0 } ≡ raw = cc in
    let laid = layout_facts bytes below layout e0 in
    let names = names_facts layout.pool.entries layout named in
    let sound = counted_formed (is_sound_field layout.pool.entries) (field_at layout.pool.entries bytes) (field_sound layout.pool.entries bytes) bytes below layout.fields_at fields e3 in
    let typed = counted_formed (is_sound_method layout.pool.entries) (method_at layout.pool.entries bytes) (method_sound layout.pool.entries bytes) bytes below fields.1 methods e4 in
    subst Facts is
    (record {
      checked = record { at = entries_start; referred = referred; short = laid.short };
      this = names.this;
      parent = names.parent;
      interfaces = names.interfaces;
      fields = sound.1;
      methods = typed.1;
      few_entries = laid.few_entries;
      few_interfaces = laid.few_interfaces;
      few_fields = sound.0;
      few_methods = typed.0;
    })
    ) r5) r4) r3) e

read_facts : (bytes : List ℕ) → IsBytes bytes → (raw : Raw) → class_of bytes ≡ Ok raw → Facts raw
unfolding class_of
read_facts bytes below raw e =
    opened (layout_of bytes) _ (λ layout e0 r0.
    opened (entries_checked layout.pool.entries entries_start layout.pool.entries) _ (λ u referred r1.
    opened (names_checked layout.pool.entries layout) _ (λ v named rest. parts_facts bytes below layout raw e0 referred named rest) r1) r0) e

pub facts_of : (raw : Raw) → IsWellFormed raw → Facts raw
facts_of raw formed = read_facts (spelled raw) (record { below = formed.bytes }) raw formed.read
