-- The code of each method of a well-formed class file asks for what is there.
use Rattle.std.proofs.Common.{◌≡◌, ℕ, zero, suc, ◌+◌, ◌<◌, ◌^◌, Bool, true, false, ◌&&◌, cond, ◌-◌, List, [], ◌∷◌, ◌++◌, Option, Result, Ok, length, take, drop, ◌==◌, codes, refl, sym, ap, ◌∙◌, subst, arith}
use Rattle.std.specs.Prelude.{nat_le, nat_lt, All, IfSome}
use Rattle.std.specs.List.{flat_map, list_all, list_any}
use Rattle.std.specs.Int.{w16, w32}
use Rattle.std.proofs.lemmas.Bool.{and_parts, and_from, ltb-true, lt-ltb}
use Rattle.std.proofs.lemmas.List.{length-take}
use Rattle.std.proofs.lemmas.List.Elements.{All-cons, All-nil}
use Rattle.std.proofs.lemmas.List.Folds.{list_all-append}
use Rattle.fp_model.specs.declared.fault.FileFault.{FileFault}
use Rattle.fp_model.specs.declared.fault.FileFault.TheVariants as fault
use Rattle.fp_model.specs.declared.raw.pool.Entry.{Entry}
use Rattle.fp_model.specs.declared.raw.pool.Entry.TheVariants as entry
use Rattle.fp_model.specs.declared.raw.attribute.BootRow.{BootRow}
use Rattle.fp_model.specs.declared.raw.attribute.CatchRow.{CatchRow}
use Rattle.fp_model.specs.declared.raw.attribute.RawAttr.{RawAttr}
use Rattle.fp_model.specs.declared.raw.attribute.RawBody.{RawBody}
use Rattle.fp_model.specs.declared.raw.attribute.RawBody.TheVariants as body
use Rattle.fp_model.specs.declared.raw.attribute.RawBody.TheViews.{out-roll-RawCode}
use Rattle.fp_model.specs.declared.raw.attribute.RawCode.{RawCode, roll-RawCode}
use Rattle.fp_model.specs.declared.raw.attribute.RawIns.{RawIns}
use Rattle.fp_model.specs.declared.raw.RawMember.{RawMember}
use Rattle.fp_model.specs.declared.raw.Raw.{Raw}
use Rattle.fp_model.specs.Branches.{targets_checked}
use Rattle.fp_model.specs.Decoding.{decoded}
use Rattle.fp_model.specs.Entries.{tag_at, text_at}
use Rattle.fp_model.specs.Reading.{behind, bytes_at, counted_at, demanded, many_at, number_at}
use Rattle.fp_model.specs.References.{each_checked, entries_checked, tagged}
use Rattle.fp_model.specs.Spelling.{spelled, spelled_boot, spelled_entry, spelled_ins, spelled_plain, spelled_row}
use Rattle.fp_model.proofs.Readers.{opened, demanded-true, IsBytes}
use Rattle.fp_attr.specs.Attributes.{attribute_at, body_at, boot_at, boot_checked, boots_at, is_called, unread_at}
use Rattle.fp_attr.specs.Codes.{code_at, cut_at, name_checked, row_checked}
use Rattle.fp_attr.specs.declared.owner.Owner.{Owner}
use Rattle.fp_attr.specs.declared.owner.Owner.TheVariants as owner
use Rattle.fp_ops.specs.Checked.{are_sound_from, has_row, AreCheckedBoots, IsCheckedPool}
use Rattle.fp_ops.proofs.DecodedCode.{decoded_sound}
use Rattle.fp_ops.proofs.Spelled.{decoded_spelled, ok_is}
use Rattle.fp_class.specs.declared.layout.Layout.{Layout}
use Rattle.fp_class.specs.ClassFile.{are_boots, boot_number_checked, boots_of, class_attribute_at, class_of, entries_start, names_checked, parts_of, rows_or, IsWellFormed}
use Rattle.fp_class.specs.Layout.{layout_of}
use Rattle.fp_class.specs.Members.{code_count, counted_after, field_at, is_new, method_at, name_at, wanted_codes, words_at}
use Rattle.fp_class.specs.MethodCode.{is_sound_code}
use Rattle.fp_class.specs.Methods.{code_of, code_or}
use Rattle.fp_class.specs.Naming.{HasSoundCode}
use Rattle.fp_class.proofs.Facts.{counted_formed, layout_facts}

-- ---- what an attribute holds, by a test of it

-- the rows that it holds have method handles
abbrev has_handles : List Entry → RawBody → Bool
has_handles entries (body.Boot rows) = list_all (λ row. tag_at entries row.method == 15) rows
has_handles entries _ = true

-- the code that it holds passes a test
abbrev pub code_passes : (RawCode → Bool) → RawBody → Bool
code_passes test (body.Code code) = test code
code_passes test _ = true

either_passes : (test : RawBody → Bool) (b : Bool) (x y : Result RawBody FileFault) (held : RawBody) → (x ≡ Ok held → test held ≡ true) → (y ≡ Ok held → test held ≡ true) → cond b x y ≡ Ok held → test held ≡ true
either_passes test true x y held f g e = f e
either_passes test false x y held f g e = g e

unread_passes : (test : RawBody → Bool) → ((run : List ℕ) → test (body.Bytes run) ≡ true) → (window : List ℕ) (at : ℕ) (held : RawBody) → unread_at window at ≡ Ok held → test held ≡ true
unfolding unread_at
unread_passes test plain window at held e =
    opened (bytes_at (length window - at) window at) _ (λ run runs last.
    subst (λ h. test h ≡ true) (ok_is (body.Bytes run.0) held last) (plain run.0)) e

-- an attribute passes where what it holds does
pub attribute_passes : (entries : List Entry) (o : Owner) (bytes : List ℕ) (test : RawBody → Bool) → ((name : Option (List ℕ)) (len_at end at : ℕ) (held : RawBody) → body_at entries o name len_at (take end bytes) at ≡ Ok held → test held ≡ true) → (at : ℕ) (x : RawAttr × ℕ) → attribute_at entries o bytes at ≡ Ok x → test x.0.body ≡ true
unfolding attribute_at
attribute_passes entries o bytes test passes at x e =
    opened (number_at w16 bytes at) _ (λ name e0 r0.
    opened (number_at w32 bytes name.1) _ (λ len e1 r1.
    opened (behind len.0 bytes len.1) _ (λ end e2 r2.
    opened (tagged entries 1 at name.0) _ (λ u e3 r3.
    opened (body_at entries o (text_at entries name.0) name.1 (take end bytes) len.1) _ (λ held holds last.
    let attr : RawAttr = record { name = name.0; body = held } in
    subst (λ (p : RawAttr × ℕ). test p.0.body ≡ true) (ok_is (attr, end) x last)
    (passes (text_at entries name.0) name.1 end len.1 held holds)) r3) r2) r1) r0) e

-- each of so many of one kind passes the test
module _ {A : Type 0} (test : A → Bool) (read : ℕ → Result (A × ℕ) FileFault) (each : (at : ℕ) (x : A × ℕ) → read at ≡ Ok x → test x.0 ≡ true) where
  many_pass : (count : ℕ) (before : List A) (at : ℕ) (x : List A × ℕ) → list_all test before ≡ true → many_at read count before at ≡ Ok x → list_all test x.0 ≡ true
  unfolding many_at
  many_pass zero before at x passed e =
      let is : (before, at) ≡ x = cc in
      ap (λ (p : List A × ℕ). list_all test p.0) (sym is) ∙ passed
  many_pass (suc n) before at x passed e =
      opened (read at) _ (λ y reads rest.
      let one : list_all test (y.0 ∷ []) ≡ true = and_from (test y.0) true (each at y reads) refl in
      let longer : list_all test (before ++ y.0 ∷ []) ≡ true = list_all-append test before (y.0 ∷ []) ∙ and_from (list_all test before) (list_all test (y.0 ∷ [])) passed one in
      many_pass n (before ++ y.0 ∷ []) y.1 x longer rest) e

  pub counted_pass : (bytes : List ℕ) (at : ℕ) (x : List A × ℕ) → counted_at read bytes at ≡ Ok x → list_all test x.0 ≡ true
  unfolding counted_at
  counted_pass bytes at x e =
      opened (number_at w16 bytes at) _ (λ count counts rest. many_pass count.0 [] count.1 x refl rest) e

-- ---- the bootstrap methods

handles_checked : (entries : List Entry) (at : ℕ) (rows : List BootRow) {u : Unit {0}} → each_checked spelled_boot (boot_checked entries) at rows ≡ Ok u → list_all (λ row. tag_at entries row.method == 15) rows ≡ true
unfolding each_checked boot_checked
handles_checked entries at [] e = refl
handles_checked entries at (row ∷ rows) e =
    opened (boot_checked entries at row) _ (λ u one more.
    opened (tagged entries 15 at row.method) _ (λ v is_handle others.
    and_from (tag_at entries row.method == 15) (list_all (λ r. tag_at entries r.method == 15) rows)
    (demanded-true (tag_at entries row.method == 15) (fault.Index at row.method) is_handle)
    (handles_checked entries (at + length (spelled_boot row)) rows more)) one) e

boots_handles : (entries : List Entry) (window : List ℕ) (at : ℕ) (held : RawBody) → boots_at entries window at ≡ Ok held → has_handles entries held ≡ true
unfolding boots_at
boots_handles entries window at held e =
    opened (counted_at (boot_at window) window at) _ (λ rows e0 r0.
    opened (demanded (rows.1 == length window) (fault.Trailing rows.1)) _ (λ u e1 r1.
    opened (each_checked spelled_boot (boot_checked entries) (at + 2) rows.0) _ (λ v referred last.
    subst (λ h. has_handles entries h ≡ true) (ok_is (body.Boot rows.0) held last) (handles_checked entries (at + 2) rows.0 referred)) r1) r0) e

class_body_handles : (entries : List Entry) (name : Option (List ℕ)) (len_at : ℕ) (window : List ℕ) (at : ℕ) (held : RawBody) → body_at entries owner.Class name len_at window at ≡ Ok held → has_handles entries held ≡ true
unfolding body_at
class_body_handles entries name len_at window at held e =
    either_passes (has_handles entries) (is_called name (codes "BootstrapMethods")) _ _ held (boots_handles entries window at held) (unread_passes (has_handles entries) (λ run. refl) window at held) e

code_body_handles : (entries : List Entry) (name : Option (List ℕ)) (len_at : ℕ) (window : List ℕ) (at : ℕ) (held : RawBody) → body_at entries owner.Code name len_at window at ≡ Ok held → has_handles entries held ≡ true
unfolding body_at
code_body_handles entries name len_at window at held e = unread_passes (has_handles entries) (λ run. refl) window at held e

-- the owner is one of two, whatever stands before
owned_handles : (entries : List Entry) (bytes : List ℕ) (has_boots : Bool) (at : ℕ) (x : RawAttr × ℕ) → attribute_at entries (cond has_boots owner.Code owner.Class) bytes at ≡ Ok x → has_handles entries x.0.body ≡ true
owned_handles entries bytes true at x e =
    attribute_passes entries owner.Code bytes (has_handles entries) (λ name len_at end place held h. code_body_handles entries name len_at (take end bytes) place held h) at x e
owned_handles entries bytes false at x e =
    attribute_passes entries owner.Class bytes (has_handles entries) (λ name len_at end place held h. class_body_handles entries name len_at (take end bytes) place held h) at x e

or_handles : (entries : List Entry) (held : RawBody) (others : List BootRow) → has_handles entries held ≡ true → list_all (λ row. tag_at entries row.method == 15) others ≡ true → list_all (λ row. tag_at entries row.method == 15) (rows_or held others) ≡ true
or_handles entries (body.Boot rows) others one more = one
or_handles entries held others one more = more

rows_handles : (entries : List Entry) (attributes : List RawAttr) → list_all (λ attr. has_handles entries attr.body) attributes ≡ true → list_all (λ row. tag_at entries row.method == 15) (boots_of attributes) ≡ true
rows_handles entries [] e = refl
rows_handles entries (attr ∷ attributes) e =
    let parts = and_parts (has_handles entries attr.body) (list_all (λ a. has_handles entries a.body) attributes) e in
    or_handles entries attr.body (boots_of attributes) parts.0 (rows_handles entries attributes parts.1)

number_has_row : (rows : List BootRow) (at : ℕ) (e : Entry) {u : Unit {0}} → boot_number_checked rows at e ≡ Ok u → has_row rows e ≡ true
unfolding boot_number_checked
number_has_row rows at (entry.Dynamic boot pair) h = demanded-true (nat_lt boot (length rows)) (fault.Index (at + 1) boot) h
number_has_row rows at (entry.InvokeDynamic boot pair) h = demanded-true (nat_lt boot (length rows)) (fault.Index (at + 1) boot) h
number_has_row rows at e h = refl

numbers_have_rows : (rows : List BootRow) (at : ℕ) (entries : List Entry) {u : Unit {0}} → each_checked spelled_entry (boot_number_checked rows) at entries ≡ Ok u → list_all (has_row rows) entries ≡ true
unfolding each_checked
numbers_have_rows rows at [] h = refl
numbers_have_rows rows at (e ∷ entries) h =
    opened (boot_number_checked rows at e) _ (λ u one more.
    and_from (has_row rows e) (list_all (has_row rows) entries) (number_has_row rows at e one)
    (numbers_have_rows rows (at + length (spelled_entry e)) entries more)) h

-- ---- the code of a method

-- what a method's attribute holds passes where its code does
pub method_body_passes : (entries : List Entry) (test : RawCode → Bool) (words : ℕ) (name : Option (List ℕ)) (len_at : ℕ) (window : List ℕ) (at : ℕ) (held : RawBody) → (code_at entries words window at ≡ Ok held → code_passes test held ≡ true) → body_at entries (owner.Method words) name len_at window at ≡ Ok held → code_passes test held ≡ true
unfolding body_at
method_body_passes entries test words name len_at window at held passes e =
    either_passes (code_passes test) (is_called name (codes "Code")) _ _ held passes (unread_passes (code_passes test) (λ run. refl) window at held) e

or_passes : (test : RawCode → Bool) (held : RawBody) (others : Option RawCode) → code_passes test held ≡ true → IfSome others (λ code. test code ≡ true) → IfSome (code_or held others) (λ code. test code ≡ true)
or_passes test (body.Code code) others one more = one
or_passes test held others one more = more

code_of_passes : (test : RawCode → Bool) (attributes : List RawAttr) → list_all (λ attr. code_passes test attr.body) attributes ≡ true → IfSome (code_of attributes) (λ code. test code ≡ true)
code_of_passes test [] e = tt
code_of_passes test (attr ∷ attributes) e =
    let parts = and_parts (code_passes test attr.body) (list_all (λ a. code_passes test a.body) attributes) e in
    or_passes test attr.body (code_of attributes) parts.0 (code_of_passes test attributes parts.1)

-- each code of a method passes a test, by that of all that its attributes hold
module _ (test : RawMember → RawCode → Bool) where
  abbrev pub bodies_pass : RawMember → Bool
  bodies_pass method = list_all (λ attr. code_passes (test method) attr.body) method.attributes

  abbrev HasPassing : RawMember → Type 0
  HasPassing method = IfSome (code_of method.attributes) (λ code. test method code ≡ true)

  pub codes_pass : (methods : List RawMember) → list_all bodies_pass methods ≡ true → All HasPassing methods
  codes_pass [] e = All-nil HasPassing
  codes_pass (method ∷ methods) e =
      let parts = and_parts (bodies_pass method) (list_all bodies_pass methods) e in
      All-cons HasPassing method methods (code_of_passes (test method) method.attributes parts.0) (codes_pass methods parts.1)

module _ (entries : List Entry) (boots : List BootRow) (checked : IsCheckedPool entries) (computed : AreCheckedBoots entries boots) where
  made_sound : (max_stack max_locals : ℕ) (code : List RawIns) (rows : List CatchRow) (attributes : List RawAttr) → are_sound_from entries boots 0 code ≡ true → nat_lt (length (flat_map spelled_ins code)) 65536 ≡ true → code_passes (is_sound_code entries boots) (body.Code (roll-RawCode (record { max_stack = max_stack; max_locals = max_locals; code = code; rows = rows; attributes = attributes }))) ≡ true
  made_sound max_stack max_locals code rows attributes sound short =
      rw (out-roll-RawCode (record { max_stack = max_stack; max_locals = max_locals; code = code; rows = rows; attributes = attributes }))
      (and_from (are_sound_from entries boots 0 code) (nat_lt (length (flat_map spelled_ins code)) 65536) sound short)

  code_sound : (words : ℕ) (window : List ℕ) → length window < 2 ^ 32 → (at : ℕ) (held : RawBody) → code_at entries words window at ≡ Ok held → code_passes (is_sound_code entries boots) held ≡ true
  unfolding code_at
  code_sound words window small at held e =
      opened (cut_at window at) _ (λ cut e0 r0.
      opened (demanded (nat_le words cut.max_locals) (fault.Bounds (at + 2))) _ (λ u e1 r1.
      opened (demanded (nat_lt 0 cut.len && nat_lt cut.len 65536) (fault.Bounds (at + 4))) _ (λ v has_size r2.
      opened (decoded entries cut.max_locals cut.len window cut.start) _ (λ code decodes r3.
      opened (targets_checked code cut.start) _ (λ w leads r4.
      opened (each_checked spelled_row (row_checked entries code cut.len) cut.rows_at cut.rows) _ (λ x e5 r5.
      opened (each_checked spelled_plain (name_checked entries) cut.attributes_at cut.attributes) _ (λ y e6 last.
      let sizes = and_parts (nat_lt 0 cut.len) (nat_lt cut.len 65536) (demanded-true (nat_lt 0 cut.len && nat_lt cut.len 65536) (fault.Bounds (at + 4)) has_size) in
      let below : cut.len < 65536 = ltb-true cut.len 65536 sizes.1 in
      let sound = decoded_sound entries boots cut.max_locals cut.len window cut.start code checked computed small below decodes leads in
      let spells = decoded_spelled entries cut.max_locals cut.len window cut.start code decodes in
      let short : length (flat_map spelled_ins code) < 65536 = omega (arith, ap length spells, length-take cut.len (drop cut.start window), below) in
      let made : RawBody = body.Code (roll-RawCode (record { max_stack = cut.max_stack; max_locals = cut.max_locals; code = code; rows = cut.rows; attributes = cut.attributes })) in
      subst (λ h. code_passes (is_sound_code entries boots) h ≡ true) (ok_is made held last)
      (made_sound cut.max_stack cut.max_locals code cut.rows cut.attributes sound (lt-ltb (length (flat_map spelled_ins code)) 65536 short))
      ) r5) r4) r3) r2) r1) r0) e

  attribute_sound : (words : ℕ) (bytes : List ℕ) → length bytes < 2 ^ 32 → (at : ℕ) (x : RawAttr × ℕ) → attribute_at entries (owner.Method words) bytes at ≡ Ok x → code_passes (is_sound_code entries boots) x.0.body ≡ true
  attribute_sound words bytes small =
      attribute_passes entries (owner.Method words) bytes (code_passes (is_sound_code entries boots)) (λ name len_at end at held h.
      let window : length (take end bytes) < 2 ^ 32 = omega (arith, length-take end bytes, small) in
      method_body_passes entries (is_sound_code entries boots) words name len_at (take end bytes) at held (code_sound words (take end bytes) window at held) h)

  -- ---- the methods

  abbrev are_sound : RawMember → Bool
  are_sound = bodies_pass (λ method. is_sound_code entries boots)

  method_sound : (bytes : List ℕ) → length bytes < 2 ^ 32 → (before : List RawMember) (at : ℕ) (x : RawMember × ℕ) → method_at entries bytes before at ≡ Ok x → are_sound x.0 ≡ true
  unfolding method_at
  method_sound bytes small before at x e =
      opened (number_at w16 bytes at) _ (λ flags e0 r0.
      opened (number_at w16 bytes flags.1) _ (λ name e1 r1.
      opened (number_at w16 bytes name.1) _ (λ descr e2 r2.
      opened (demanded (is_new entries before name.0 descr.0) (fault.Repeat at)) _ (λ u e3 r3.
      opened (tagged entries 1 flags.1 name.0) _ (λ v e4 r4.
      opened (words_at entries flags.0 name.1 descr.0) _ (λ words e5 r5.
      opened (counted_at (name_at entries bytes) bytes descr.1) _ (λ names e6 r6.
      opened (demanded (code_count entries names.0 == wanted_codes flags.0) (fault.CodeCount (length before))) _ (λ w e7 r7.
      opened (counted_at (attribute_at entries (owner.Method words) bytes) bytes descr.1) _ (λ attributes e8 last.
      let made : RawMember = record { flags = flags.0; name = name.0; descr = descr.0; attributes = attributes.0 } in
      let is : (made, attributes.1) ≡ x = cc in
      subst (λ (y : RawMember × ℕ). are_sound y.0 ≡ true) is
      (counted_pass (λ attr. code_passes (is_sound_code entries boots) attr.body) (attribute_at entries (owner.Method words) bytes) (attribute_sound words bytes small) bytes descr.1 attributes e8)
      ) r7) r6) r5) r4) r3) r2) r1) r0) e

-- ---- the file

abbrev HaveSoundCodes : Raw → Type 0
HaveSoundCodes raw = All (HasSoundCode raw.pool.entries (boots_of raw.attributes)) raw.methods

parts_sound : (bytes : List ℕ) → IsBytes bytes → length bytes < 2 ^ 32 → (layout : Layout) (raw : Raw) → IsCheckedPool layout.pool.entries → parts_of bytes layout ≡ Ok raw → HaveSoundCodes raw
unfolding parts_of
parts_sound bytes below small layout raw checked e =
    opened (counted_after (field_at layout.pool.entries bytes) bytes layout.fields_at) _ (λ fields e0 r0.
    opened (counted_after (method_at layout.pool.entries bytes) bytes fields.1) _ (λ methods e1 r1.
    opened (counted_after (class_attribute_at layout.pool.entries bytes) bytes methods.1) _ (λ attributes e2 r2.
    opened (each_checked spelled_entry (boot_number_checked (boots_of attributes.0)) entries_start layout.pool.entries) _ (λ u e3 last.
    let is : record { minor = layout.minor; major = layout.major; pool = layout.pool; flags = layout.flags; this = layout.this; parent = layout.parent; interfaces = layout.interfaces; fields = fields.0; methods = methods.0; attributes = attributes.0 } ≡ raw = cc in
    let entries = layout.pool.entries in
    let boots = boots_of attributes.0 in
    let held = counted_formed (λ attr. has_handles entries attr.body) (class_attribute_at entries bytes) (λ before at x h. owned_handles entries bytes (list_any are_boots before) at x h) bytes below methods.1 attributes e2 in
    let computed : AreCheckedBoots entries boots = record {
      handles = rows_handles entries attributes.0 held.1;
      rows = numbers_have_rows boots entries_start entries e3;
    } in
    let sound = counted_formed (are_sound entries boots checked computed) (method_at entries bytes) (method_sound entries boots checked computed bytes small) bytes below fields.1 methods e1 in
    subst HaveSoundCodes is (codes_pass (λ method. is_sound_code entries boots) methods.0 sound.1)
    ) r2) r1) r0) e

file_sound : (bytes : List ℕ) → IsBytes bytes → length bytes < 2 ^ 32 → (raw : Raw) → class_of bytes ≡ Ok raw → HaveSoundCodes raw
unfolding class_of
file_sound bytes below small raw e =
    opened (layout_of bytes) _ (λ layout e0 r0.
    opened (entries_checked layout.pool.entries entries_start layout.pool.entries) _ (λ u referred r1.
    opened (names_checked layout.pool.entries layout) _ (λ v named rest.
    let checked : IsCheckedPool layout.pool.entries = record { at = entries_start; referred = referred; short = (layout_facts bytes below layout e0).short } in
    parts_sound bytes below small layout raw checked rest) r1) r0) e

pub sound_codes : (raw : Raw) → IsWellFormed raw → HaveSoundCodes raw
sound_codes raw formed = file_sound (spelled raw) (record { below = formed.bytes }) formed.short raw formed.read
