-- What is read of an attribute is spelled there.
use Rattle.std.proofs.Common.{◌≡◌, inl, inr, ℕ, ◌+◌, ◌-◌, ◌≤◌, Bool, true, false, ◌&&◌, ◌==◌, cond, List, ◌++◌, length, take, drop, Result, Ok, Err, Option, IfOk, codes, refl, sym, ap, ◌∙◌, subst, arith}
use Rattle.std.specs.Prelude.{nat_le, nat_lt}
use Rattle.std.specs.List.{flat_map}
use Rattle.std.specs.Int.{w16, w32}
use Rattle.std.proofs.lemmas.Bool.{cases_lt, eqb-true}
use Rattle.std.proofs.lemmas.Bool.Decides.{nat_tests}
use Rattle.std.proofs.lemmas.List.{append_assoc, drop-append-le, get_or-take, get_or_past, length-take-le, take-append-drop}
use Rattle.fp_model.specs.declared.fault.FileFault.{FileFault}
use Rattle.fp_model.specs.declared.fault.FileFault.TheVariants as fault
use Rattle.fp_model.specs.declared.raw.pool.Entry.{Entry}
use Rattle.fp_model.specs.declared.raw.attribute.BootRow.{BootRow}
use Rattle.fp_model.specs.declared.raw.attribute.CatchRow.{CatchRow}
use Rattle.fp_model.specs.declared.raw.attribute.RawAttr.{RawAttr}
use Rattle.fp_model.specs.declared.raw.attribute.RawBody.{RawBody}
use Rattle.fp_model.specs.declared.raw.attribute.RawBody.TheVariants as body
use Rattle.fp_model.specs.declared.raw.attribute.RawBody.TheViews.{out-roll-RawCode}
use Rattle.fp_model.specs.declared.raw.attribute.RawCode.{roll-RawCode}
use Rattle.fp_model.specs.declared.raw.attribute.RawIns.{RawIns}
use Rattle.fp_model.specs.Branches.{targets_checked}
use Rattle.fp_model.specs.Decoding.{decoded}
use Rattle.fp_model.specs.Entries.{tag_at, text_at}
use Rattle.fp_model.specs.Reading.{behind, bytes_at, counted_at, demanded, number_at, Gives}
use Rattle.fp_model.specs.References.{each_checked, tagged}
use Rattle.fp_model.specs.Spelling.{body_bytes, counted, spelled_attr, spelled_boot, spelled_ins, spelled_plain, spelled_row, u2, u4}
use Rattle.fp_model.proofs.Takes.{Takes, Takes-run, Takes-then}
use Rattle.fp_model.proofs.Readers.{bytes_takes, demanded-true, opened, reads_counted, reads_u2, stepped, u4_takes, IsBytes}
use Rattle.fp_ops.proofs.Spelled.{decoded_spelled}
use Rattle.fp_attr.specs.declared.cut.Cut.{Cut}
use Rattle.fp_attr.specs.declared.owner.Owner.{Owner}
use Rattle.fp_attr.specs.declared.owner.Owner.TheVariants as owner
use Rattle.fp_attr.specs.Attributes.{attribute_at, attribute_skipped, body_at, boot_at, boot_checked, boots_at, constant_at, is_called, is_value_tag, unread_at}
use Rattle.fp_attr.specs.Codes.{code_at, cut_at, inner_at, name_checked, row_at, row_checked}
use Rattle.fp_attr.proofs.Checking.{ok_is}
use Rattle.fp_attr.proofs.Readings.{is_boot, is_plain, is_row, reads_boot, reads_inner, reads_row}

-- ---- windows

pub behind_found : (bytes : List ℕ) (count at end : ℕ) → behind count bytes at ≡ Ok end → (at + count ≤ length bytes) × (end ≡ at + count)
unfolding behind
behind_found bytes count at end e = grind (arith, nat_tests)

-- what stands in the bytes up to an end, stands in the bytes
widened : (bytes : List ℕ) (end at next : ℕ) (text : List ℕ) → end ≤ length bytes → next ≤ end → Takes (take end bytes) at text next → Takes bytes at text next
widened bytes end at next text fits inside p =
    let window = take end bytes in
    let size : length window ≡ end = length-take-le end bytes fits in
    let all : bytes ≡ window ++ drop end bytes = sym (take-append-drop end bytes) in
    let first : drop at bytes ≡ drop at window ++ drop end bytes = ap (drop at) all ∙ drop-append-le at window (drop end bytes) (omega (arith, size, p.after)) in
    let rest : drop next bytes ≡ drop next window ++ drop end bytes = ap (drop next) all ∙ drop-append-le next window (drop end bytes) (omega (arith, size)) in
    record {
      parts = first ∙ ap (λ t. t ++ drop end bytes) p.parts ∙ append_assoc text (drop next window) (drop end bytes) ∙ ap (λ t. text ++ t) (sym rest);
      after = p.after;
    }

window_bytes : (bytes : List ℕ) (end : ℕ) → IsBytes bytes → end ≤ length bytes → IsBytes (take end bytes)
window_bytes bytes end below fits =
    let size : length (take end bytes) ≡ end = length-take-le end bytes fits in
    record {
      below = λ i. elim (cases_lt i end) [
        | inl lt ↦ rw get_or-take (below.below i)
        | inr ge ↦ rw (get_or_past (take end bytes) i 0 (omega (arith, size))) (omega arith)
      ];
    }

-- ---- lists that are read

pub counted_room : {A : Type 0} (read : ℕ → Result (A × ℕ) FileFault) (bytes : List ℕ) (at : ℕ) (x : List A × ℕ) → counted_at read bytes at ≡ Ok x → at + 2 ≤ length bytes
unfolding counted_at number_at
counted_room read bytes at x e = opened (number_at w16 bytes at) _ (λ count counts more. grind (arith, nat_tests)) e

module _ (window : List ℕ) (below : IsBytes window) where
  rows_take : (at : ℕ) (x : List CatchRow × ℕ) → counted_at (row_at window) window at ≡ Ok x → Takes window at (counted spelled_row x.0) x.1
  rows_take at x e = ((reads_counted window is_row spelled_row (row_at window) (reads_row window)).takes below at x e).1

  inners_take : (at : ℕ) (x : List RawAttr × ℕ) → counted_at (inner_at window) window at ≡ Ok x → Takes window at (counted spelled_plain x.0) x.1
  inners_take at x e = ((reads_counted window is_plain spelled_plain (inner_at window) (reads_inner window)).takes below at x e).1

  pub boots_take : (at : ℕ) (x : List BootRow × ℕ) → counted_at (boot_at window) window at ≡ Ok x → Takes window at (counted spelled_boot x.0) x.1
  boots_take at x e = ((reads_counted window is_boot spelled_boot (boot_at window) (reads_boot window)).takes below at x e).1

  -- ---- what an attribute holds

  unread_take : (at : ℕ) (held : RawBody) → at ≤ length window → unread_at window at ≡ Ok held → Takes window at (body_bytes held) (length window)
  unfolding unread_at
  unread_take at held inside e =
      opened (bytes_at (length window - at) window at) _ (λ run runs last.
      let found = bytes_takes window (length window - at) at run runs in
      let end : run.1 ≡ length window = omega (arith, found.0, found.1.after) in
      subst (λ h. Takes window at (body_bytes h) (length window)) (ok_is (body.Bytes run.0) held last)
      (subst (Takes window at run.0) end found.1)) e

  constant_take : (entries : List Entry) (len_at at : ℕ) (held : RawBody) → constant_at entries len_at window at ≡ Ok held → Takes window at (body_bytes held) (length window)
  unfolding constant_at
  constant_take entries len_at at held e =
      opened (demanded (length window == at + 2) (fault.Bounds len_at)) _ (λ u short more.
      opened (number_at w16 window at) _ (λ index indexes rest.
      opened (demanded (is_value_tag (tag_at entries index.0)) (fault.Index at index.0)) _ (λ v value last.
      let size : length window ≡ at + 2 = eqb-true (length window) (at + 2) (demanded-true (length window == at + 2) (fault.Bounds len_at) short) in
      let found = ((reads_u2 window).takes below at index indexes).1 in
      let end : index.1 ≡ length window = omega (arith, size, found.after) in
      subst (λ h. Takes window at (body_bytes h) (length window)) (ok_is (body.Constant index.0) held last)
      (subst (Takes window at (u2 index.0)) end found)) rest) more) e

  boots_body_take : (entries : List Entry) (at : ℕ) (held : RawBody) → boots_at entries window at ≡ Ok held → Takes window at (body_bytes held) (length window)
  unfolding boots_at
  boots_body_take entries at held e =
      opened (counted_at (boot_at window) window at) _ (λ rows read more.
      opened (demanded (rows.1 == length window) (fault.Trailing rows.1)) _ (λ u whole rest.
      opened (each_checked spelled_boot (boot_checked entries) (at + 2) rows.0) _ (λ v referred last.
      let end : rows.1 ≡ length window = eqb-true rows.1 (length window) (demanded-true (rows.1 == length window) (fault.Trailing rows.1) whole) in
      subst (λ h. Takes window at (body_bytes h) (length window)) (ok_is (body.Boot rows.0) held last)
      (subst (Takes window at (counted spelled_boot rows.0)) end (boots_take at rows read))) rest) more) e

  -- ---- code

  -- where the parts of a code lie
  pub record IsCut (at : ℕ) (cut : Cut) : Type 0 where
    pub room : at + 8 ≤ length window
    pub lies : cut.start + cut.len ≤ length window
    pub front : Takes window at (u2 cut.max_stack ++ (u2 cut.max_locals ++ u4 cut.len)) cut.start
    pub rest : Takes window (cut.start + cut.len) (counted spelled_row cut.rows ++ counted spelled_plain cut.attributes) (length window)
    pub rows : cut.rows_at + length (flat_map spelled_row cut.rows) ≤ length window
    pub attributes : cut.attributes_at + length (flat_map spelled_plain cut.attributes) ≤ length window

  pub cut_take : (at : ℕ) (cut : Cut) → cut_at window at ≡ Ok cut → IsCut at cut
  unfolding cut_at
  cut_take at cut e =
      opened (number_at w16 window at) _ (λ stack stacks e1.
      opened (number_at w16 window stack.1) _ (λ locals localss e2.
      opened (number_at w32 window locals.1) _ (λ len lens e3.
      opened (behind len.0 window len.1) _ (λ end ends e4.
      opened (counted_at (row_at window) window end) _ (λ rows reads e5.
      opened (counted_at (inner_at window) window rows.1) _ (λ attributes inners e6.
      opened (demanded (attributes.1 == length window) (fault.Trailing attributes.1)) _ (λ u whole last.
      let a = ((reads_u2 window).takes below at stack stacks).1 in
      let b = ((reads_u2 window).takes below stack.1 locals localss).1 in
      let c = u4_takes window below locals.1 len lens in
      let run = behind_found window len.0 len.1 end ends in
      let table = rows_take end rows reads in
      let others = inners_take rows.1 attributes inners in
      let done : attributes.1 ≡ length window = eqb-true attributes.1 (length window) (demanded-true (attributes.1 == length window) (fault.Trailing attributes.1) whole) in
      let made : Cut = record { max_stack = stack.0; max_locals = locals.0; start = len.1; len = len.0; rows = rows.0; rows_at = end + 2; attributes = attributes.0; attributes_at = rows.1 + 2 } in
      let both = Takes-then table others in
      subst (IsCut at) (ok_is made cut last) (record {
        room = omega (arith, a.after, b.after, c.after, run.0);
        lies = run.0;
        front = Takes-then a (Takes-then b c);
        rest = subst (λ n. Takes window n (counted spelled_row rows.0 ++ counted spelled_plain attributes.0) (length window)) run.1 (subst (Takes window end (counted spelled_row rows.0 ++ counted spelled_plain attributes.0)) done both);
        rows = omega (arith, table.after, others.after, done);
        attributes = omega (arith, others.after, done);
      })) e6) e5) e4) e3) e2) e1) e

  made_bytes : (max_stack max_locals : ℕ) (code : List RawIns) (rows : List CatchRow) (attributes : List RawAttr) → body_bytes (body.Code (roll-RawCode (record { max_stack = max_stack; max_locals = max_locals; code = code; rows = rows; attributes = attributes }))) ≡ u2 max_stack ++ (u2 max_locals ++ (u4 (length (flat_map spelled_ins code)) ++ (flat_map spelled_ins code ++ (counted spelled_row rows ++ counted spelled_plain attributes))))
  made_bytes max_stack max_locals code rows attributes = rw (out-roll-RawCode (record { max_stack = max_stack; max_locals = max_locals; code = code; rows = rows; attributes = attributes })) refl

  -- the instructions between the front and the rest
  parts_take : (at : ℕ) (cut : Cut) (code : List RawIns) → IsCut at cut → flat_map spelled_ins code ≡ take cut.len (drop cut.start window) → Takes window at (u2 cut.max_stack ++ (u2 cut.max_locals ++ (u4 (length (flat_map spelled_ins code)) ++ (flat_map spelled_ins code ++ (counted spelled_row cut.rows ++ counted spelled_plain cut.attributes))))) (length window)
  parts_take at cut code parts spells =
      let text = flat_map spelled_ins code in
      let run : Takes window cut.start text (cut.start + cut.len) = subst (λ t. Takes window cut.start t (cut.start + cut.len)) (sym spells) (Takes-run window cut.start cut.len parts.lies) in
      let size : cut.len ≡ length text = omega (arith, run.after) in
      let front = subst (λ n. Takes window at (u2 cut.max_stack ++ (u2 cut.max_locals ++ u4 n)) cut.start) size parts.front in
      Takes-then front (Takes-then run parts.rest)

  code_take : (entries : List Entry) (words at : ℕ) (held : RawBody) → code_at entries words window at ≡ Ok held → Takes window at (body_bytes held) (length window)
  unfolding code_at
  code_take entries words at held e =
      opened (cut_at window at) _ (λ cut cuts e1.
      opened (demanded (nat_le words cut.max_locals) (fault.Bounds (at + 2))) _ (λ u has_room e2.
      opened (demanded (nat_lt 0 cut.len && nat_lt cut.len 65536) (fault.Bounds (at + 4))) _ (λ v has_size e3.
      opened (decoded entries cut.max_locals cut.len window cut.start) _ (λ code codes e4.
      opened (targets_checked code cut.start) _ (λ w leads e5.
      opened (each_checked spelled_row (row_checked entries code cut.len) cut.rows_at cut.rows) _ (λ x caught e6.
      opened (each_checked spelled_plain (name_checked entries) cut.attributes_at cut.attributes) _ (λ y named last.
      let spells = decoded_spelled entries cut.max_locals cut.len window cut.start code codes in
      let made : RawBody = body.Code (roll-RawCode (record { max_stack = cut.max_stack; max_locals = cut.max_locals; code = code; rows = cut.rows; attributes = cut.attributes })) in
      subst (λ h. Takes window at (body_bytes h) (length window)) (ok_is made held last)
      (subst (λ t. Takes window at t (length window)) (sym (made_bytes cut.max_stack cut.max_locals code cut.rows cut.attributes))
      (parts_take at cut code (cut_take at cut cuts) spells))) e6) e5) e4) e3) e2) e1) e

  -- ---- by the owner and the name

  either_take : (b : Bool) (x y : Result RawBody FileFault) (at : ℕ) (held : RawBody) → (x ≡ Ok held → Takes window at (body_bytes held) (length window)) → (y ≡ Ok held → Takes window at (body_bytes held) (length window)) → cond b x y ≡ Ok held → Takes window at (body_bytes held) (length window)
  either_take true x y at held f g e = f e
  either_take false x y at held f g e = g e

  body_take : (entries : List Entry) (o : Owner) (name : Option (List ℕ)) (len_at at : ℕ) (held : RawBody) → at ≤ length window → body_at entries o name len_at window at ≡ Ok held → Takes window at (body_bytes held) (length window)
  unfolding body_at
  body_take entries owner.Field name len_at at held inside e = either_take (is_called name (codes "ConstantValue")) _ _ at held (constant_take entries len_at at held) (unread_take at held inside) e
  body_take entries (owner.Method words) name len_at at held inside e = either_take (is_called name (codes "Code")) _ _ at held (code_take entries words at held) (unread_take at held inside) e
  body_take entries owner.Class name len_at at held inside e = either_take (is_called name (codes "BootstrapMethods")) _ _ at held (boots_body_take entries at held) (unread_take at held inside) e
  body_take entries owner.Code name len_at at held inside e = unread_take at held inside e

-- ---- attributes

attribute_takes : (entries : List Entry) (o : Owner) (bytes : List ℕ) → IsBytes bytes → (at : ℕ) (x : RawAttr × ℕ) → attribute_at entries o bytes at ≡ Ok x → Takes bytes at (spelled_attr x.0) x.1
unfolding attribute_at
attribute_takes entries o bytes below at x e =
    opened (number_at w16 bytes at) _ (λ name names more.
    opened (number_at w32 bytes name.1) _ (λ len lens others.
    opened (behind len.0 bytes len.1) _ (λ end ends rest.
    opened (tagged entries 1 at name.0) _ (λ u is last.
    opened (body_at entries o (text_at entries name.0) name.1 (take end bytes) len.1) _ (λ held holds done.
    let run = behind_found bytes len.0 len.1 end ends in
    let fits : end ≤ length bytes = omega (arith, run.0, run.1) in
    let size : length (take end bytes) ≡ end = length-take-le end bytes fits in
    let inside : len.1 ≤ length (take end bytes) = omega (arith, size, run.1) in
    let found = body_take (take end bytes) (window_bytes bytes end below fits) entries o (text_at entries name.0) name.1 len.1 held inside holds in
    let text = widened bytes end len.1 end (body_bytes held) fits (omega arith) (subst (Takes (take end bytes) len.1 (body_bytes held)) size found) in
    let count : len.0 ≡ length (body_bytes held) = omega (arith, text.after, run.1) in
    let first = ((reads_u2 bytes).takes below at name names).1 in
    let second = subst (λ n. Takes bytes name.1 (u4 n) len.1) count (u4_takes bytes below name.1 len lens) in
    let attr : RawAttr = record { name = name.0; body = held } in
    subst (λ (p : RawAttr × ℕ). Takes bytes at (spelled_attr p.0) p.1) (ok_is (attr, end) x done)
    (Takes-then first (Takes-then second text))) last) rest) others) more) e

-- a call that answers what the format says
pub found_spelled : (entries : List Entry) (o : Owner) (bytes : List ℕ) → IsBytes bytes → (at : ℕ) (result : Result (RawAttr × ℕ) FileFault) → Gives result (attribute_at entries o bytes at) → IfOk result (λ x. Takes bytes at (spelled_attr x.0) x.1)
found_spelled entries o bytes below at (Ok x) g = attribute_takes entries o bytes below at x g
found_spelled entries o bytes below at (Err f) g = tt

-- an attribute that is read ends where it is skipped to
pub skipped_so : (entries : List Entry) (o : Owner) (bytes : List ℕ) (at : ℕ) (attr : RawAttr) (next : ℕ) → attribute_at entries o bytes at ≡ Ok (attr, next) → attribute_skipped bytes at ≡ Ok next
unfolding attribute_at attribute_skipped
skipped_so entries o bytes at attr next e =
    opened (number_at w16 bytes at) _ (λ name names more.
    opened (number_at w32 bytes name.1) _ (λ len lens others.
    opened (behind len.0 bytes len.1) _ (λ end ends rest.
    opened (tagged entries 1 at name.0) _ (λ u is last.
    opened (body_at entries o (text_at entries name.0) name.1 (take end bytes) len.1) _ (λ held holds made.
    let attribute : RawAttr = record { name = name.0; body = held } in
    let same : end ≡ next = ap (λ (p : RawAttr × ℕ). p.1) (ok_is (attribute, end) (attr, next) made) in
    stepped (number_at w16 bytes at) _ name names (stepped (number_at w32 bytes name.1) _ len lens (ends ∙ ap (λ n. Ok n) same))) last) rest) others) more) e
