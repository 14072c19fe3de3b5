-- Constant pools and bootstrap methods without a fault (JVMS SE 21 sections 4.4 and 4.7.23).
use Rattle.std.specs.Prelude.{◌≡◌, ℕ, ◌+◌, ◌<◌, ◌==◌, ◌&&◌, ◌||◌, Bool, true, nat_lt, List, [], ◌∷◌, length, slice_get, is_some, Ok, IsTrue}
use Rattle.std.specs.List.{list_all}
use Rattle.fp_model.specs.declared.raw.attribute.BootRow.{BootRow}
use Rattle.fp_model.specs.declared.raw.attribute.RawIns.{RawIns}
use Rattle.fp_model.specs.declared.raw.pool.Entry.{Entry}
use Rattle.fp_model.specs.declared.raw.pool.Entry.TheVariants as entry
use Rattle.fp_model.specs.Decoding.{constant_words}
use Rattle.fp_model.specs.Descriptor.{is_array_like, is_class_text, is_field_descriptor, is_method_descriptor}
use Rattle.fp_model.specs.Instructions.{entry_instr}
use Rattle.fp_model.specs.NamedInstructions.{is_array_text, is_entry_text, member_at}
use Rattle.fp_model.specs.Entries.{tag_at, class_name_at, passes}
use Rattle.fp_model.specs.References.{entries_checked}
use Rattle.fp_model.specs.Spelling.{spelled_ins}
use Rattle.fp_ops.specs.CallSites.{is_sound_site_at}
use Rattle.fp_ops.specs.Forms.{is_sound_ins}

-- a text whose length has two bytes (section 4.4.7)
abbrev pub is_short_entry : Entry → Bool
is_short_entry (entry.Utf8 text) = nat_lt (length text) 65536
is_short_entry _ = true

-- each entry refers to what it has to, and its text is short
pub record IsCheckedPool (entries : List Entry) : Type 0 where
  pub at : ℕ
  pub referred : entries_checked entries at entries ≡ Ok tt
  pub short : IsTrue (list_all is_short_entry entries)

-- a constant that a bootstrap method computes has a row
abbrev pub has_row : List BootRow → Entry → Bool
has_row boots (entry.Dynamic boot pair) = nat_lt boot (length boots)
has_row boots (entry.InvokeDynamic boot pair) = nat_lt boot (length boots)
has_row boots _ = true

-- each row has a method handle, and each constant has a row
pub record AreCheckedBoots (entries : List Entry) (boots : List BootRow) : Type 0 where
  pub handles : IsTrue (list_all (λ row. tag_at entries row.method == 15) boots)
  pub rows : IsTrue (list_all (has_row boots) entries)

-- what instructions ask of such a pool, by the tags and words of the constants that they name (chapter 6)
pub record GivesForms (entries : List Entry) (boots : List BootRow) : Type 0 where
  pub field : (index : ℕ) → tag_at entries index ≡ 9 → passes (λ texts. is_entry_text is_field_descriptor texts.descr) (member_at entries index) ≡ true
  pub method : (index : ℕ) → ((tag_at entries index == 10) || (tag_at entries index == 11)) ≡ true → passes (λ texts. is_entry_text is_method_descriptor texts.descr) (member_at entries index) ≡ true
  pub class : (index : ℕ) → tag_at entries index ≡ 7 → passes (is_entry_text is_class_text) (class_name_at entries index) ≡ true
  pub array : (index : ℕ) → tag_at entries index ≡ 7 → passes is_array_like (class_name_at entries index) ≡ true → passes (is_entry_text is_array_text) (class_name_at entries index) ≡ true
  pub site : (index : ℕ) → tag_at entries index ≡ 18 → is_sound_site_at entries boots index ≡ true
  pub constant : (index : ℕ) → 0 < constant_words entries (slice_get entries index) → is_some (entry_instr entries (slice_get entries index)) ≡ true

-- the instructions of a code ask for what is there, the first of which begins at pc
unfoldable pub are_sound_from : List Entry → List BootRow → (pc : ℕ) → List RawIns → Bool
are_sound_from entries boots pc [] = true
are_sound_from entries boots pc (ins ∷ code) = is_sound_ins entries boots pc ins && are_sound_from entries boots (pc + length (spelled_ins ins)) code
