-- What the operands of a decoded instruction name, by its form.
use Rattle.std.proofs.Common.{◌≡◌, inl, inr, ℕ, ◌+◌, ◌-◌, ◌<◌, ◌≤◌, ◌^◌, Bool, true, false, ◌&&◌, ◌||◌, ◌==◌, List, [], Result, Ok, Err, eqb, length, take, drop, min, refl, sym, ap, ◌∙◌, subst, arith}
use Rattle.std.specs.Prelude.{if◌then◌else◌, slice_get, nat_le, nat_lt, Option, Some, None}
use Rattle.std.specs.Int.{Width, w8, w16, byte_len, from_be_bytes}
use Rattle.std.proofs.lemmas.Bool.{and_parts, and_from, cases_Bool, cond-true, cond-false, lt-ltb, ltb-true, leb-true}
use Rattle.std.proofs.lemmas.List.{take-append-le}
use Rattle.fp_model.specs.declared.fault.FileFault.{FileFault}
use Rattle.fp_model.specs.declared.form.Form.{Form}
use Rattle.fp_model.specs.declared.form.Form.TheVariants as form
use Rattle.fp_model.specs.declared.raw.pool.Entry.{Entry}
use Rattle.fp_model.specs.declared.raw.attribute.RawIns.{RawIns}
use Rattle.fp_model.specs.Decoding.{constant_end, constant_words, has_dimensions, increment_end, ins_at, invoke_dynamic_end, invoke_interface_end, loadable, local_end, multi_new_array_end, new_array_end, new_end, operands_end, padding_len, plain_at, refers, refers_end, short_constant_end, wide_end, wide_increment_end, wide_local_end, widened_at, within}
use Rattle.fp_model.specs.Descriptor.{dimensions, is_array_like}
use Rattle.fp_model.specs.Entries.{class_name_at, is_class_index, passes, tag_at}
use Rattle.fp_model.specs.Form.{form_of}
use Rattle.fp_model.specs.Instructions.{found}
use Rattle.fp_model.specs.Reading.{bytes_at, demanded, number_at}
use Rattle.fp_model.specs.References.{holds_of}
use Rattle.fp_model.proofs.Readers.{bytes_takes, demanded-true, number_found, number_given, opened}
use Rattle.fp_model.proofs.Takes.{Takes}
use Rattle.fp_ops.proofs.Spelled.{ok_is}

-- the width of the local that operands name
abbrev pub local_width : Bool → Width
local_width wide = if wide then w16 else w8

-- what the operands name is what the form asks for
abbrev pub asked : List Entry → (wide : Bool) → Form → List ℕ → Bool
asked entries wide form.Subroutine args = false
asked entries wide form.Plain args = true
asked entries wide (form.Push size) args = true
asked entries wide (form.Local words) args = passes (λ local. true) (found (number_at (local_width wide) args 0))
asked entries wide (form.Near local words) args = true
asked entries wide form.Increment args = passes (λ local. true) (found (number_at (local_width wide) args 0))
asked entries wide (form.Branch size) args = true
asked entries wide form.TableSwitch args = true
asked entries wide form.LookupSwitch args = true
asked entries wide form.ShortConstant args = passes (λ index. constant_words entries (slice_get entries index) == 1) (found (number_at w8 args 0))
asked entries wide (form.Constant words) args = passes (λ index. constant_words entries (slice_get entries index) == words) (found (number_at w16 args 0))
asked entries wide (form.Refers tag or_tag) args = passes (λ index. (tag_at entries index == tag) || (tag_at entries index == or_tag)) (found (number_at w16 args 0))
asked entries wide form.InvokeInterface args = passes (λ index. (tag_at entries index == 11) || (tag_at entries index == 11)) (found (number_at w16 args 0))
asked entries wide form.InvokeDynamic args = passes (λ index. (tag_at entries index == 18) || (tag_at entries index == 18)) (found (number_at w16 args 0))
asked entries wide form.New args = passes (is_class_index entries) (found (number_at w16 args 0))
asked entries wide form.NewArray args = passes (λ code. nat_le 4 code && nat_le code 11) (found (number_at w8 args 0))
asked entries wide form.MultiNewArray args = passes (λ index. ((tag_at entries index == 7) || (tag_at entries index == 7)) && holds_of is_array_like (class_name_at entries index)) (found (number_at w16 args 0))
asked entries wide form.Unknown args = false

number_end : (w : Width) (bytes : List ℕ) (at : ℕ) (x : ℕ × ℕ) → number_at w bytes at ≡ Ok x → x.1 ≡ at + byte_len w
number_end w bytes at x e = ap (λ (p : ℕ × ℕ). p.1) (number_found w bytes at x e).1

-- the operands take the bytes up to where they end, so what was read there is read of them
module _ (entries : List Entry) (bytes args : List ℕ) (at next : ℕ) (takes : Takes bytes at args next) where
  first_number : (w : Width) (test : ℕ → Bool) (x : ℕ × ℕ) → number_at w bytes at ≡ Ok x → x.1 ≤ at + length args → test x.0 ≡ true → passes test (found (number_at w args 0)) ≡ true
  first_number w test x e fits passed =
      let there = number_found w bytes at x e in
      let end = number_end w bytes at x e in
      let room : byte_len w ≤ length args = omega (arith, end, fits) in
      let run : take (byte_len w) (drop at bytes) ≡ take (byte_len w) args = ap (take (byte_len w)) takes.parts ∙ take-append-le (byte_len w) args (drop next bytes) room in
      let value : from_be_bytes w (take (byte_len w) args) ≡ x.0 = ap (from_be_bytes w) (sym run) ∙ sym (ap (λ (p : ℕ × ℕ). p.0) there.1) in
      let fits_there : 0 + byte_len w ≤ length args = omega (arith, room) in
      ap (λ r. passes test (found r)) (number_given w args 0 x.0 fits_there value) ∙ passed

  local_asked : (max_locals op_at words end : ℕ) → local_end max_locals op_at words bytes at ≡ Ok end → end ≤ at + length args → passes (λ local. true) (found (number_at w8 args 0)) ≡ true
  unfolding local_end
  local_asked max_locals op_at words end e fits =
      opened (number_at w8 bytes at) _ (λ local read more.
      opened (within max_locals op_at local.0 words) _ (λ u in_frame last.
      let is = ok_is local.1 end last in
      first_number w8 (λ n. true) local read (omega (arith, is, fits)) refl) more) e

  increment_asked : (max_locals op_at end : ℕ) → increment_end max_locals op_at bytes at ≡ Ok end → end ≤ at + length args → passes (λ local. true) (found (number_at w8 args 0)) ≡ true
  unfolding increment_end
  increment_asked max_locals op_at end e fits =
      opened (number_at w8 bytes at) _ (λ local read more.
      opened (number_at w8 bytes local.1) _ (λ by reads rest.
      opened (within max_locals op_at local.0 1) _ (λ u in_frame last.
      let is = ok_is by.1 end last in
      let after = number_end w8 bytes local.1 by reads in
      first_number w8 (λ n. true) local read (omega (arith, is, after, fits)) refl) rest) more) e

  short_constant_asked : (end : ℕ) → short_constant_end entries bytes at ≡ Ok end → end ≤ at + length args → passes (λ index. constant_words entries (slice_get entries index) == 1) (found (number_at w8 args 0)) ≡ true
  unfolding short_constant_end
  short_constant_asked end e fits =
      opened (number_at w8 bytes at) _ (λ index read more.
      opened (loadable entries at index.0 1) _ (λ u loads last.
      let is = ok_is index.1 end last in
      first_number w8 (λ n. constant_words entries (slice_get entries n) == 1) index read (omega (arith, is, fits)) (demanded-true (constant_words entries (slice_get entries index.0) == 1) _ loads)) more) e

  constant_asked : (words end : ℕ) → constant_end entries words bytes at ≡ Ok end → end ≤ at + length args → passes (λ index. constant_words entries (slice_get entries index) == words) (found (number_at w16 args 0)) ≡ true
  unfolding constant_end
  constant_asked words end e fits =
      opened (number_at w16 bytes at) _ (λ index read more.
      opened (loadable entries at index.0 words) _ (λ u loads last.
      let is = ok_is index.1 end last in
      first_number w16 (λ n. constant_words entries (slice_get entries n) == words) index read (omega (arith, is, fits)) (demanded-true (constant_words entries (slice_get entries index.0) == words) _ loads)) more) e

  -- an index that was read at the beginning has one of two tags
  tagged_asked : (tag or_tag : ℕ) (index : ℕ × ℕ) → number_at w16 bytes at ≡ Ok index → index.1 ≤ at + length args → refers entries at index.0 tag or_tag ≡ Ok tt → passes (λ n. (tag_at entries n == tag) || (tag_at entries n == or_tag)) (found (number_at w16 args 0)) ≡ true
  tagged_asked tag or_tag index read fits refer =
      first_number w16 (λ n. (tag_at entries n == tag) || (tag_at entries n == or_tag)) index read fits (demanded-true ((tag_at entries index.0 == tag) || (tag_at entries index.0 == or_tag)) _ refer)

  refers_asked : (tag or_tag end : ℕ) → refers_end entries tag or_tag bytes at ≡ Ok end → end ≤ at + length args → passes (λ n. (tag_at entries n == tag) || (tag_at entries n == or_tag)) (found (number_at w16 args 0)) ≡ true
  unfolding refers_end
  refers_asked tag or_tag end e fits =
      opened (number_at w16 bytes at) _ (λ index read more.
      opened (refers entries at index.0 tag or_tag) _ (λ u refer last.
      let is = ok_is index.1 end last in
      tagged_asked tag or_tag index read (omega (arith, is, fits)) refer) more) e

  interface_asked : (op_at end : ℕ) → invoke_interface_end entries op_at bytes at ≡ Ok end → end ≤ at + length args → passes (λ n. (tag_at entries n == 11) || (tag_at entries n == 11)) (found (number_at w16 args 0)) ≡ true
  unfolding invoke_interface_end
  interface_asked op_at end e fits =
      opened (number_at w16 bytes at) _ (λ index read a.
      opened (number_at w8 bytes index.1) _ (λ count read_count b.
      opened (number_at w8 bytes count.1) _ (λ zeros read_zeros c.
      opened (demanded (zeros.0 == 0) _) _ (λ u is_zero d.
      opened (refers entries at index.0 11 11) _ (λ v refer last.
      let is = ok_is zeros.1 end last in
      let one = number_end w8 bytes index.1 count read_count in
      let two = number_end w8 bytes count.1 zeros read_zeros in
      tagged_asked 11 11 index read (omega (arith, is, one, two, fits)) refer) d) c) b) a) e

  dynamic_asked : (op_at end : ℕ) → invoke_dynamic_end entries op_at bytes at ≡ Ok end → end ≤ at + length args → passes (λ n. (tag_at entries n == 18) || (tag_at entries n == 18)) (found (number_at w16 args 0)) ≡ true
  unfolding invoke_dynamic_end
  dynamic_asked op_at end e fits =
      opened (number_at w16 bytes at) _ (λ index read a.
      opened (number_at w8 bytes index.1) _ (λ third read_third b.
      opened (number_at w8 bytes third.1) _ (λ zeros read_zeros c.
      opened (demanded ((third.0 == 0) && (zeros.0 == 0)) _) _ (λ u are_zero d.
      opened (refers entries at index.0 18 18) _ (λ v refer last.
      let is = ok_is zeros.1 end last in
      let one = number_end w8 bytes index.1 third read_third in
      let two = number_end w8 bytes third.1 zeros read_zeros in
      tagged_asked 18 18 index read (omega (arith, is, one, two, fits)) refer) d) c) b) a) e

  new_asked : (end : ℕ) → new_end entries bytes at ≡ Ok end → end ≤ at + length args → passes (is_class_index entries) (found (number_at w16 args 0)) ≡ true
  unfolding new_end
  new_asked end e fits =
      opened (number_at w16 bytes at) _ (λ index read more.
      opened (demanded (is_class_index entries index.0) _) _ (λ u is_class last.
      let is = ok_is index.1 end last in
      first_number w16 (is_class_index entries) index read (omega (arith, is, fits)) (demanded-true (is_class_index entries index.0) _ is_class)) more) e

  new_array_asked : (op_at end : ℕ) → new_array_end op_at bytes at ≡ Ok end → end ≤ at + length args → passes (λ code. nat_le 4 code && nat_le code 11) (found (number_at w8 args 0)) ≡ true
  unfolding new_array_end
  new_array_asked op_at end e fits =
      opened (number_at w8 bytes at) _ (λ code read more.
      opened (demanded (nat_le 4 code.0 && nat_le code.0 11) _) _ (λ u is_type last.
      let is = ok_is code.1 end last in
      first_number w8 (λ n. nat_le 4 n && nat_le n 11) code read (omega (arith, is, fits)) (demanded-true (nat_le 4 code.0 && nat_le code.0 11) _ is_type)) more) e

  some_dimensions : (dims : ℕ) (name : Option (List ℕ)) → nat_lt 0 dims ≡ true → has_dimensions dims name ≡ true → holds_of is_array_like name ≡ true
  some_dimensions dims None some has = refl
  some_dimensions dims (Some name) some has = lt-ltb 0 (dimensions name) (omega (arith, ltb-true 0 dims some, leb-true dims (dimensions name) has))

  multi_asked : (op_at end : ℕ) → multi_new_array_end entries op_at bytes at ≡ Ok end → end ≤ at + length args → asked entries false form.MultiNewArray args ≡ true
  unfolding multi_new_array_end
  multi_asked op_at end e fits =
      opened (number_at w16 bytes at) _ (λ index read a.
      opened (number_at w8 bytes index.1) _ (λ dims read_dims b.
      opened (demanded (nat_lt 0 dims.0 && has_dimensions dims.0 (class_name_at entries index.0)) _) _ (λ u some c.
      opened (refers entries at index.0 7 7) _ (λ v refer last.
      let is = ok_is dims.1 end last in
      let after = number_end w8 bytes index.1 dims read_dims in
      let parts = and_parts (nat_lt 0 dims.0) (has_dimensions dims.0 (class_name_at entries index.0)) (demanded-true (nat_lt 0 dims.0 && has_dimensions dims.0 (class_name_at entries index.0)) _ some) in
      let tags = demanded-true ((tag_at entries index.0 == 7) || (tag_at entries index.0 == 7)) _ refer in
      let like = some_dimensions dims.0 (class_name_at entries index.0) parts.0 parts.1 in
      first_number w16 (λ n. ((tag_at entries n == 7) || (tag_at entries n == 7)) && holds_of is_array_like (class_name_at entries n)) index read (omega (arith, is, after, fits))
      (and_from ((tag_at entries index.0 == 7) || (tag_at entries index.0 == 7)) (holds_of is_array_like (class_name_at entries index.0)) tags like)) c) b) a) e

  -- ---- by the form

  operands_asked : (max_locals op_at op : ℕ) (f : Form) (end : ℕ) → operands_end entries max_locals op_at op f bytes at ≡ Ok end → end ≤ at + length args → asked entries false f args ≡ true
  unfolding operands_end
  operands_asked max_locals op_at op form.Subroutine end e fits = absurd (cc)
  operands_asked max_locals op_at op form.Plain end e fits = refl
  operands_asked max_locals op_at op (form.Push size) end e fits = refl
  operands_asked max_locals op_at op (form.Local words) end e fits = local_asked max_locals op_at words end e fits
  operands_asked max_locals op_at op (form.Near local words) end e fits = refl
  operands_asked max_locals op_at op form.Increment end e fits = increment_asked max_locals op_at end e fits
  operands_asked max_locals op_at op (form.Branch size) end e fits = refl
  operands_asked max_locals op_at op form.TableSwitch end e fits = refl
  operands_asked max_locals op_at op form.LookupSwitch end e fits = refl
  operands_asked max_locals op_at op form.ShortConstant end e fits = short_constant_asked end e fits
  operands_asked max_locals op_at op (form.Constant words) end e fits = constant_asked words end e fits
  operands_asked max_locals op_at op (form.Refers tag or_tag) end e fits = refers_asked tag or_tag end e fits
  operands_asked max_locals op_at op form.InvokeInterface end e fits = interface_asked op_at end e fits
  operands_asked max_locals op_at op form.InvokeDynamic end e fits = dynamic_asked op_at end e fits
  operands_asked max_locals op_at op form.New end e fits = new_asked end e fits
  operands_asked max_locals op_at op form.NewArray end e fits = new_array_asked op_at end e fits
  operands_asked max_locals op_at op form.MultiNewArray end e fits = multi_asked op_at end e fits
  operands_asked max_locals op_at op form.Unknown end e fits = absurd (cc)

  wide_local_asked : (max_locals wide_at words end : ℕ) → wide_local_end max_locals wide_at words bytes at ≡ Ok end → end ≤ at + length args → passes (λ local. true) (found (number_at w16 args 0)) ≡ true
  unfolding wide_local_end
  wide_local_asked max_locals wide_at words end e fits =
      opened (number_at w16 bytes at) _ (λ local read more.
      opened (within max_locals wide_at local.0 words) _ (λ u in_frame last.
      let is = ok_is local.1 end last in
      first_number w16 (λ n. true) local read (omega (arith, is, fits)) refl) more) e

  wide_increment_asked : (max_locals wide_at end : ℕ) → wide_increment_end max_locals wide_at bytes at ≡ Ok end → end ≤ at + length args → passes (λ local. true) (found (number_at w16 args 0)) ≡ true
  unfolding wide_increment_end
  wide_increment_asked max_locals wide_at end e fits =
      opened (number_at w16 bytes at) _ (λ local read more.
      opened (number_at w16 bytes local.1) _ (λ by reads rest.
      opened (within max_locals wide_at local.0 1) _ (λ u in_frame last.
      let is = ok_is by.1 end last in
      let after = number_end w16 bytes local.1 by reads in
      first_number w16 (λ n. true) local read (omega (arith, is, after, fits)) refl) rest) more) e

  no_wide : (b : Bool) (f g : FileFault) (end : ℕ) {P : Type 0} → (let given : Result ℕ FileFault = (if b then Err f else Err g) in given) ≡ Ok end → P
  no_wide true f g end e = absurd (cc)
  no_wide false f g end e = absurd (cc)

  wide_asked : (max_locals wide_at op_at op : ℕ) (f : Form) (end : ℕ) → wide_end max_locals wide_at op_at op f bytes at ≡ Ok end → end ≤ at + length args → asked entries true f args ≡ true
  unfolding wide_end
  wide_asked max_locals wide_at op_at op (form.Local words) end e fits = wide_local_asked max_locals wide_at words end e fits
  wide_asked max_locals wide_at op_at op form.Increment end e fits = wide_increment_asked max_locals wide_at end e fits
  wide_asked max_locals wide_at op_at op _ end e fits = no_wide (op == 169) _ _ end e

-- ---- instructions

-- the instruction's operands are what its opcode asks for
abbrev pub is_asked : List Entry → RawIns → Bool
is_asked entries ins = asked entries ins.wide (form_of ins.op) ins.args

-- where an offset is one of 32 bits, the operands of what is no switch follow the opcode
no_padding : (at : ℕ) → at < 2 ^ 32 → at + 0 ≡ min (at + 0) 0xFFFFFFFF
no_padding at small = omega (arith, small)

plain_asked : (entries : List Entry) (max_locals start op_at op : ℕ) (f : Form) (bytes : List ℕ) (at end : ℕ) (args : List ℕ) (next : ℕ) → at < 2 ^ 32 → operands_end entries max_locals op_at op f bytes (min (at + padding_len start op_at f) 0xFFFFFFFF) ≡ Ok end → Takes bytes (at + padding_len start op_at f) args next → end ≤ at + padding_len start op_at f + length args → asked entries false f args ≡ true
plain_asked entries max_locals start op_at op form.TableSwitch bytes at end args next small ends takes fits = refl
plain_asked entries max_locals start op_at op form.LookupSwitch bytes at end args next small ends takes fits = refl
plain_asked entries max_locals start op_at op f bytes at end args next small ends takes fits =
    operands_asked entries bytes args (at + 0) next takes max_locals op_at op f end (ap (operands_end entries max_locals op_at op f bytes) (no_padding at small) ∙ ends) fits

plain_at_asked : (entries : List Entry) (max_locals start op_at op : ℕ) (bytes : List ℕ) (at : ℕ) (x : RawIns × ℕ) → at < 2 ^ 32 → plain_at entries max_locals start op_at op (form_of op) bytes at ≡ Ok x → is_asked entries x.0 ≡ true
unfolding plain_at
plain_at_asked entries max_locals start op_at op bytes at x small e =
    let pad = padding_len start op_at (form_of op) in
    opened (operands_end entries max_locals op_at op (form_of op) bytes (min (at + pad) 0xFFFFFFFF)) _ (λ end ends more.
    opened (bytes_at pad bytes at) _ (λ padding cut rest.
    opened (bytes_at (end - padding.1) bytes padding.1) _ (λ args cuts last.
    let before = bytes_takes bytes pad at padding cut in
    let there : padding.1 ≡ at + pad = omega (arith, before.0, before.1.after) in
    let run = bytes_takes bytes (end - padding.1) padding.1 args cuts in
    let takes = subst (λ n. Takes bytes n args.0 args.1) there run.1 in
    let fits : end ≤ at + pad + length args.0 = omega (arith, run.0, there) in
    let ins : RawIns = record { op = op; wide = false; padding = padding.0; args = args.0 } in
    subst (λ (p : RawIns × ℕ). is_asked entries p.0 ≡ true) (ok_is (ins, args.1) x last) (plain_asked entries max_locals start op_at op (form_of op) bytes at end args.0 args.1 small ends takes fits)) rest) more) e

widened_asked : (entries : List Entry) (max_locals wide_at : ℕ) (bytes : List ℕ) (at : ℕ) (x : RawIns × ℕ) → widened_at max_locals wide_at bytes at ≡ Ok x → is_asked entries x.0 ≡ true
unfolding widened_at
widened_asked entries max_locals wide_at bytes at x e =
    opened (number_at w8 bytes at) _ (λ op read more.
    opened (wide_end max_locals wide_at at op.0 (form_of op.0) bytes op.1) _ (λ end ends rest.
    opened (bytes_at (end - op.1) bytes op.1) _ (λ args cuts last.
    let run = bytes_takes bytes (end - op.1) op.1 args cuts in
    let fits : end ≤ op.1 + length args.0 = omega (arith, run.0) in
    let ins : RawIns = record { op = op.0; wide = true; padding = []; args = args.0 } in
    subst (λ (p : RawIns × ℕ). is_asked entries p.0 ≡ true) (ok_is (ins, args.1) x last) (wide_asked entries bytes args.0 op.1 args.1 run.1 max_locals wide_at at op.0 (form_of op.0) end ends fits)) rest) more) e

pub ins_asked : (entries : List Entry) (max_locals start : ℕ) (bytes : List ℕ) (at : ℕ) (x : RawIns × ℕ) → length bytes < 2 ^ 32 → ins_at entries max_locals start bytes at ≡ Ok x → is_asked entries x.0 ≡ true
unfolding ins_at
ins_asked entries max_locals start bytes at x small e =
    opened (number_at w8 bytes at) _ (λ op read more.
    let there = number_found w8 bytes at op read in
    let end = number_end w8 bytes at op read in
    elim (cases_Bool (eqb op.0 196)) [
      | inl is ↦ widened_asked entries max_locals at bytes op.1 x (sym (cond-true _ _ _ is) ∙ more)
      | inr not_wide ↦ plain_at_asked entries max_locals start at op.0 bytes op.1 x (omega (arith, there.0, end, small)) (sym (cond-false _ _ _ not_wide) ∙ more)
    ]) e
