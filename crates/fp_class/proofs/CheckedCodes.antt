-- What is looked at where the code of a method is read, of each method of a well-formed class file.
use Rattle.std.proofs.Common.{◌≡◌, ℕ, ◌+◌, ◌-◌, ◌<◌, ◌≤◌, ◌^◌, Bool, true, ◌&&◌, ◌||◌, ◌==◌, List, [], ◌∷◌, Ok, length, take, drop, refl, sym, ap, subst, arith}
use Rattle.std.specs.Prelude.{nat_le, nat_lt, All, IfSome}
use Rattle.std.specs.List.{flat_map, list_all}
use Rattle.std.specs.Int.{w16, w32}
use Rattle.std.proofs.lemmas.Bool.{and_parts, and_from, ltb-true, lt-ltb}
use Rattle.std.proofs.lemmas.List.{length-drop, length-take, length-take-le}
use Rattle.fp_model.specs.declared.fault.FileFault.TheVariants as fault
use Rattle.fp_model.specs.declared.raw.pool.Entry.{Entry}
use Rattle.fp_model.specs.declared.raw.attribute.CatchRow.{CatchRow}
use Rattle.fp_model.specs.declared.raw.attribute.RawAttr.{RawAttr}
use Rattle.fp_model.specs.declared.raw.attribute.RawBody.{RawBody}
use Rattle.fp_model.specs.declared.raw.attribute.RawBody.TheVariants as body
use Rattle.fp_model.specs.declared.raw.attribute.RawBody.TheViews.{out-roll-RawCode}
use Rattle.fp_model.specs.declared.raw.attribute.RawCode.{RawCode, out-RawCode, roll-RawCode}
use Rattle.fp_model.specs.declared.raw.attribute.RawIns.{RawIns}
use Rattle.fp_model.specs.declared.raw.RawMember.{RawMember}
use Rattle.fp_model.specs.declared.raw.Raw.{Raw}
use Rattle.fp_model.specs.Branches.{leads_to, starts_at, targets_checked}
use Rattle.fp_model.specs.Decoding.{decoded}
use Rattle.fp_model.specs.Entries.{text_at}
use Rattle.fp_model.specs.Reading.{behind, counted_at, demanded, number_at}
use Rattle.fp_model.specs.References.{each_checked, entries_checked, tagged, text_checked}
use Rattle.fp_model.specs.Spelling.{spelled, spelled_entry, spelled_ins, spelled_plain, spelled_row}
use Rattle.fp_model.proofs.Readers.{opened, demanded-true, IsBytes}
use Rattle.fp_attr.specs.Attributes.{attribute_at}
use Rattle.fp_attr.specs.Codes.{code_at, cut_at, inner_at, is_range, name_checked, row_at, row_checked}
use Rattle.fp_attr.specs.declared.cut.Cut.{Cut}
use Rattle.fp_attr.specs.declared.owner.Owner.TheVariants as owner
use Rattle.fp_attr.proofs.Spelled.{behind_found}
use Rattle.fp_ops.proofs.Spelled.{decoded_spelled, ok_is}
use Rattle.fp_class.specs.declared.layout.Layout.{Layout}
use Rattle.fp_class.specs.ClassFile.{boot_number_checked, boots_of, class_attribute_at, class_of, entries_start, names_checked, parts_of, IsWellFormed}
use Rattle.fp_class.specs.Layout.{layout_of}
use Rattle.fp_class.specs.Members.{argument_words, code_count, counted_after, field_at, is_new, is_type_of, method_at, name_at, wanted_codes, words_at}
use Rattle.fp_class.specs.Methods.{code_of}
use Rattle.fp_class.proofs.CheckedLocals.{decoded_locals, has_locals}
use Rattle.fp_class.proofs.Facts.{counted_formed}
use Rattle.fp_class.proofs.SoundCodes.{attribute_passes, bodies_pass, code_passes, codes_pass, counted_pass, method_body_passes}

-- ---- a code

-- each instruction, the first of which stands at pc, leads to places that pass the test
abbrev pub lead_from : (ℕ → Bool) → ℕ → List RawIns → Bool
lead_from test pc [] = true
lead_from test pc (ins ∷ code) = leads_to test pc ins && lead_from test (pc + length (spelled_ins ins)) code

-- a handler begins at an instruction
abbrev pub has_handler : List RawIns → CatchRow → Bool
has_handler code row = starts_at 0 code row.handler

-- the code of a method whose arguments take so many words
abbrev pub is_checked : (words max_locals : ℕ) → List RawIns → List CatchRow → Bool
is_checked words max_locals code rows =
    nat_lt 0 (length code) && (nat_le words max_locals && (list_all (has_locals max_locals) code
    && (lead_from (starts_at 0 code) 0 code && list_all (has_handler code) rows)))

pub record IsChecked (words max_locals : ℕ) (code : List RawIns) (rows : List CatchRow) : Type 0 where
  pub some : nat_lt 0 (length code) ≡ true
  pub room : nat_le words max_locals ≡ true
  pub locals : list_all (has_locals max_locals) code ≡ true
  pub leads : lead_from (starts_at 0 code) 0 code ≡ true
  pub handlers : list_all (has_handler code) rows ≡ true

is_checked-from : (words max_locals : ℕ) (code : List RawIns) (rows : List CatchRow) → IsChecked words max_locals code rows → is_checked words max_locals code rows ≡ true
is_checked-from words max_locals code rows is =
    and_from (nat_lt 0 (length code)) _ is.some
    (and_from (nat_le words max_locals) _ is.room
    (and_from (list_all (has_locals max_locals) code) _ is.locals
    (and_from (lead_from (starts_at 0 code) 0 code) (list_all (has_handler code) rows) is.leads is.handlers)))

pub checked_parts : (words max_locals : ℕ) (code : List RawIns) (rows : List CatchRow) → is_checked words max_locals code rows ≡ true → IsChecked words max_locals code rows
checked_parts words max_locals code rows is =
    let a = and_parts (nat_lt 0 (length code)) _ is in
    let b = and_parts (nat_le words max_locals) _ a.1 in
    let c = and_parts (list_all (has_locals max_locals) code) _ b.1 in
    let d = and_parts (lead_from (starts_at 0 code) 0 code) (list_all (has_handler code) rows) c.1 in
    record { some = a.0; room = b.0; locals = c.0; leads = d.0; handlers = d.1 }

-- ---- its parts, as they are looked at

cut_lies : (window : List ℕ) (at : ℕ) (cut : Cut) → cut_at window at ≡ Ok cut → cut.start + cut.len ≤ length window
unfolding cut_at
cut_lies window at cut e =
    opened (number_at w16 window at) _ (λ stack e0 r0.
    opened (number_at w16 window stack.1) _ (λ locals e1 r1.
    opened (number_at w32 window locals.1) _ (λ len e2 r2.
    opened (behind len.0 window len.1) _ (λ end ends r3.
    opened (counted_at (row_at window) window end) _ (λ rows e4 r4.
    opened (counted_at (inner_at window) window rows.1) _ (λ attributes e5 r5.
    opened (demanded (attributes.1 == length window) (fault.Trailing attributes.1)) _ (λ u e6 last.
    let made : Cut = record { max_stack = stack.0; max_locals = locals.0; start = len.1; len = len.0; rows = rows.0; rows_at = end + 2; attributes = attributes.0; attributes_at = rows.1 + 2 } in
    subst (λ (c : Cut). c.start + c.len ≤ length window) (ok_is made cut last) (behind_found window len.0 len.1 end ends).0
    ) r5) r4) r3) r2) r1) r0) e

-- an empty code has no bytes
some_code : (code : List RawIns) → 0 < length (flat_map spelled_ins code) → nat_lt 0 (length code) ≡ true
some_code [] some = absurd (omega arith)
some_code (ins ∷ code) some = lt-ltb 0 (length (ins ∷ code)) (omega arith)

module _ (test : ℕ → Bool) (start : ℕ) where
  checked_lead : (code : List RawIns) (at pc : ℕ) {u : Unit {0}} → at ≡ start + pc → each_checked spelled_ins (λ place ins. demanded (leads_to test (place - start) ins) (fault.Bounds place)) at code ≡ Ok u → lead_from test pc code ≡ true
  unfolding each_checked
  checked_lead [] at pc here checked = refl
  checked_lead (ins ∷ code) at pc here checked =
      opened (demanded (leads_to test (at - start) ins) (fault.Bounds at)) _ (λ u leads more.
      let there : at - start ≡ pc = omega (arith, here) in
      let first : leads_to test pc ins ≡ true = subst (λ n. leads_to test n ins ≡ true) there (demanded-true (leads_to test (at - start) ins) _ leads) in
      let next : at + length (spelled_ins ins) ≡ start + (pc + length (spelled_ins ins)) = omega (arith, here) in
      and_from (leads_to test pc ins) (lead_from test (pc + length (spelled_ins ins)) code) first (checked_lead code (at + length (spelled_ins ins)) (pc + length (spelled_ins ins)) next more)) checked

row_handler : (code : List RawIns) (len : ℕ) (row : CatchRow) → is_range code len row ≡ true → has_handler code row ≡ true
row_handler code len row is =
    let a = and_parts (nat_lt row.start row.end) _ is in
    let b = and_parts (nat_le row.end len) _ a.1 in
    let c = and_parts (starts_at 0 code row.start) _ b.1 in
    (and_parts (starts_at 0 code row.handler) ((row.end == len) || starts_at 0 code row.end) c.1).0

rows_handlers : (entries : List Entry) (code : List RawIns) (len at : ℕ) (rows : List CatchRow) {u : Unit {0}} → each_checked spelled_row (row_checked entries code len) at rows ≡ Ok u → list_all (has_handler code) rows ≡ true
unfolding each_checked row_checked
rows_handlers entries code len at [] checked = refl
rows_handlers entries code len at (row ∷ rows) checked =
    opened (row_checked entries code len at row) _ (λ u one more.
    opened (demanded (is_range code len row) (fault.Bounds at)) _ (λ v ranges class.
    and_from (has_handler code row) (list_all (has_handler code) rows)
    (row_handler code len row (demanded-true (is_range code len row) (fault.Bounds at) ranges))
    (rows_handlers entries code len (at + length (spelled_row row)) rows more)) one) checked

-- ---- the code of a method

-- a code passes whose parts do
abbrev pub is_checked_code : (words : ℕ) → RawCode → Bool
is_checked_code words raw = is_checked words (out-RawCode raw).max_locals (out-RawCode raw).code (out-RawCode raw).rows

made_checked : (words max_stack max_locals : ℕ) (code : List RawIns) (rows : List CatchRow) (attributes : List RawAttr) → IsChecked words max_locals code rows → code_passes (is_checked_code words) (body.Code (roll-RawCode (record { max_stack = max_stack; max_locals = max_locals; code = code; rows = rows; attributes = attributes }))) ≡ true
made_checked words max_stack max_locals code rows attributes is =
    rw (out-roll-RawCode (record { max_stack = max_stack; max_locals = max_locals; code = code; rows = rows; attributes = attributes }))
    (is_checked-from words max_locals code rows is)

module _ (entries : List Entry) where
  code_checked : (words : ℕ) (window : List ℕ) → length window < 2 ^ 32 → (at : ℕ) (held : RawBody) → code_at entries words window at ≡ Ok held → code_passes (is_checked_code words) held ≡ true
  unfolding code_at
  code_checked words window small at held e =
      opened (cut_at window at) _ (λ cut cuts r0.
      opened (demanded (nat_le words cut.max_locals) (fault.Bounds (at + 2))) _ (λ u has_room r1.
      opened (demanded (nat_lt 0 cut.len && nat_lt cut.len 65536) (fault.Bounds (at + 4))) _ (λ v has_size r2.
      opened (decoded entries cut.max_locals cut.len window cut.start) _ (λ code decodes r3.
      opened (targets_checked code cut.start) _ (λ w leads r4.
      opened (each_checked spelled_row (row_checked entries code cut.len) cut.rows_at cut.rows) _ (λ x caught r5.
      opened (each_checked spelled_plain (name_checked entries) cut.attributes_at cut.attributes) _ (λ y e6 last.
      let sizes = and_parts (nat_lt 0 cut.len) (nat_lt cut.len 65536) (demanded-true (nat_lt 0 cut.len && nat_lt cut.len 65536) (fault.Bounds (at + 4)) has_size) in
      let spells = decoded_spelled entries cut.max_locals cut.len window cut.start code decodes in
      let lies = cut_lies window at cut cuts in
      let run : length (take cut.len (drop cut.start window)) ≡ cut.len = length-take-le cut.len (drop cut.start window) (omega (arith, lies, length-drop cut.start window)) in
      let bytes : 0 < length (flat_map spelled_ins code) = omega (arith, ap length spells, run, ltb-true 0 cut.len sizes.0) in
      let made : RawBody = body.Code (roll-RawCode (record { max_stack = cut.max_stack; max_locals = cut.max_locals; code = code; rows = cut.rows; attributes = cut.attributes })) in
      subst (λ h. code_passes (is_checked_code words) h ≡ true) (ok_is made held last)
      (made_checked words cut.max_stack cut.max_locals code cut.rows cut.attributes (record {
        some = some_code code bytes;
        room = demanded-true (nat_le words cut.max_locals) (fault.Bounds (at + 2)) has_room;
        locals = decoded_locals entries cut.max_locals cut.len window cut.start code small decodes;
        leads = checked_lead (starts_at 0 code) cut.start code cut.start 0 (omega arith) leads;
        handlers = rows_handlers entries code cut.len cut.rows_at cut.rows caught;
      }))) r5) r4) r3) r2) r1) r0) e

  attribute_checked : (words : ℕ) (bytes : List ℕ) → length bytes < 2 ^ 32 → (at : ℕ) (x : RawAttr × ℕ) → attribute_at entries (owner.Method words) bytes at ≡ Ok x → code_passes (is_checked_code words) x.0.body ≡ true
  attribute_checked words bytes small =
      attribute_passes entries (owner.Method words) bytes (code_passes (is_checked_code words)) (λ name len_at end at held h.
      let window : length (take end bytes) < 2 ^ 32 = omega (arith, length-take end bytes, small) in
      method_body_passes entries (is_checked_code words) words name len_at (take end bytes) at held (code_checked words (take end bytes) window at held) h)

  words_are : (flags at descr words : ℕ) → words_at entries flags at descr ≡ Ok words → argument_words flags (text_at entries descr) ≡ words
  unfolding words_at
  words_are flags at descr words e =
      opened (text_checked entries (is_type_of flags) at descr) _ (λ u has_type last. ok_is (argument_words flags (text_at entries descr)) words last) e

  -- ---- the methods

  -- the code of a method, by the words that its arguments take
  abbrev pub is_checked_of : RawMember → RawCode → Bool
  is_checked_of method = is_checked_code (argument_words method.flags (text_at entries method.descr))

  method_checked : (bytes : List ℕ) → length bytes < 2 ^ 32 → (before : List RawMember) (at : ℕ) (x : RawMember × ℕ) → method_at entries bytes before at ≡ Ok x → bodies_pass is_checked_of x.0 ≡ true
  unfolding method_at
  method_checked bytes small before at x e =
      opened (number_at w16 bytes at) _ (λ flags e0 r0.
      opened (number_at w16 bytes flags.1) _ (λ name e1 r1.
      opened (number_at w16 bytes name.1) _ (λ descr e2 r2.
      opened (demanded (is_new entries before name.0 descr.0) (fault.Repeat at)) _ (λ u e3 r3.
      opened (tagged entries 1 flags.1 name.0) _ (λ v e4 r4.
      opened (words_at entries flags.0 name.1 descr.0) _ (λ words counts r5.
      opened (counted_at (name_at entries bytes) bytes descr.1) _ (λ names e6 r6.
      opened (demanded (code_count entries names.0 == wanted_codes flags.0) (fault.CodeCount (length before))) _ (λ w e7 r7.
      opened (counted_at (attribute_at entries (owner.Method words) bytes) bytes descr.1) _ (λ attributes e8 last.
      let made : RawMember = record { flags = flags.0; name = name.0; descr = descr.0; attributes = attributes.0 } in
      let is : (made, attributes.1) ≡ x = cc in
      let passed = counted_pass (λ attr. code_passes (is_checked_code words) attr.body) (attribute_at entries (owner.Method words) bytes) (attribute_checked words bytes small) bytes descr.1 attributes e8 in
      subst (λ (y : RawMember × ℕ). bodies_pass is_checked_of y.0 ≡ true) is
      (subst (λ n. list_all (λ attr. code_passes (is_checked_code n) attr.body) attributes.0 ≡ true) (sym (words_are flags.0 name.1 descr.0 words counts)) passed)
      ) r7) r6) r5) r4) r3) r2) r1) r0) e

-- ---- the file

abbrev pub HaveCheckedCodes : Raw → Type 0
HaveCheckedCodes raw = All (λ method. IfSome (code_of method.attributes) (λ code. is_checked_of raw.pool.entries method code ≡ true)) raw.methods

parts_checked : (bytes : List ℕ) → IsBytes bytes → length bytes < 2 ^ 32 → (layout : Layout) (raw : Raw) → parts_of bytes layout ≡ Ok raw → HaveCheckedCodes raw
unfolding parts_of
parts_checked bytes below small layout raw e =
    opened (counted_after (field_at layout.pool.entries bytes) bytes layout.fields_at) _ (λ fields e0 r0.
    opened (counted_after (method_at layout.pool.entries bytes) bytes fields.1) _ (λ methods e1 r1.
    opened (counted_after (class_attribute_at layout.pool.entries bytes) bytes methods.1) _ (λ attributes e2 r2.
    opened (each_checked spelled_entry (boot_number_checked (boots_of attributes.0)) entries_start layout.pool.entries) _ (λ u e3 last.
    let is : record { minor = layout.minor; major = layout.major; pool = layout.pool; flags = layout.flags; this = layout.this; parent = layout.parent; interfaces = layout.interfaces; fields = fields.0; methods = methods.0; attributes = attributes.0 } ≡ raw = cc in
    let entries = layout.pool.entries in
    let passed = counted_formed (bodies_pass (is_checked_of entries)) (method_at entries bytes) (method_checked entries bytes small) bytes below fields.1 methods e1 in
    subst HaveCheckedCodes is (codes_pass (is_checked_of entries) methods.0 passed.1)
    ) r2) r1) r0) e

file_checked : (bytes : List ℕ) → IsBytes bytes → length bytes < 2 ^ 32 → (raw : Raw) → class_of bytes ≡ Ok raw → HaveCheckedCodes raw
unfolding class_of
file_checked bytes below small raw e =
    opened (layout_of bytes) _ (λ layout e0 r0.
    opened (entries_checked layout.pool.entries entries_start layout.pool.entries) _ (λ u e1 r1.
    opened (names_checked layout.pool.entries layout) _ (λ v e2 rest. parts_checked bytes below small layout raw rest) r1) r0) e

pub checked_codes : (raw : Raw) → IsWellFormed raw → HaveCheckedCodes raw
checked_codes raw formed = file_checked (spelled raw) (record { below = formed.bytes }) formed.short raw formed.read
