-- The locals that a decoded instruction names lie in the frame.
use Rattle.std.proofs.Common.{◌≡◌, inl, inr, ℕ, zero, suc, ◌+◌, ◌-◌, ◌<◌, ◌≤◌, ◌^◌, Bool, true, false, List, [], ◌∷◌, ◌++◌, Result, Ok, eqb, leb, length, take, drop, min, refl, sym, ap, ◌∙◌, subst, arith}
use Rattle.std.specs.Prelude.{if◌then◌else◌, nat_le, ◌==◌, Err, Option}
use Rattle.std.specs.Int.{Width, w8, w16, byte_len, from_be_bytes}
use Rattle.std.specs.List.{list_all}
use Rattle.std.proofs.lemmas.Bool.{and_from, cases_Bool, cond-true, cond-false}
use Rattle.std.proofs.lemmas.List.{length-take, take-append-le}
use Rattle.std.proofs.lemmas.List.Folds.{list_all-append}
use Rattle.fp_model.specs.declared.fault.FileFault.{FileFault}
use Rattle.fp_model.specs.declared.form.Form.{Form}
use Rattle.fp_model.specs.declared.form.Form.TheVariants as form
use Rattle.fp_model.specs.declared.raw.pool.Entry.{Entry}
use Rattle.fp_model.specs.declared.raw.attribute.RawIns.{RawIns}
use Rattle.fp_model.specs.Decoding.{all_at, decoded, increment_end, ins_at, local_end, operands_end, padding_len, plain_at, wide_end, wide_increment_end, wide_local_end, widened_at, within}
use Rattle.fp_model.specs.Entries.{passes}
use Rattle.fp_model.specs.Form.{form_of}
use Rattle.fp_model.specs.Instructions.{found}
use Rattle.fp_model.specs.Reading.{bytes_at, number_at}
use Rattle.fp_model.proofs.Readers.{bytes_takes, demanded-true, number_found, number_given, opened}
use Rattle.fp_model.proofs.Takes.{Takes}
use Rattle.fp_ops.proofs.Spelled.{ok_is}

-- a local and its words lie in the frame
abbrev pub is_in_frame : (max_locals words local : ℕ) → Bool
is_in_frame max_locals words local = nat_le (local + words) max_locals

-- the local that operands name
abbrev pub named_local : Bool → List ℕ → Option ℕ
named_local wide args = found (number_at (if wide then w16 else w8) args 0)

-- the local that a form or its operands name lies in the frame
abbrev pub fits_frame : (max_locals : ℕ) → Bool → Form → List ℕ → Bool
fits_frame max_locals wide (form.Local words) args = passes (is_in_frame max_locals words) (named_local wide args)
fits_frame max_locals wide (form.Near local words) args = is_in_frame max_locals words local
fits_frame max_locals wide form.Increment args = passes (is_in_frame max_locals 1) (named_local wide args)
fits_frame max_locals wide _ args = true

-- the same of an instruction
abbrev pub has_locals : (max_locals : ℕ) → RawIns → Bool
has_locals max_locals ins = fits_frame max_locals ins.wide (form_of ins.op) ins.args

number_end : (w : Width) (bytes : List ℕ) (at : ℕ) (x : ℕ × ℕ) → number_at w bytes at ≡ Ok x → x.1 ≡ at + byte_len w
number_end w bytes at x e = ap (λ (p : ℕ × ℕ). p.1) (number_found w bytes at x e).1

-- the operands take the bytes up to where they end, so what was read there is read of them
module _ (bytes args : List ℕ) (at next : ℕ) (takes : Takes bytes at args next) (max_locals : ℕ) where
  first_number : (w : Width) (test : ℕ → Bool) (x : ℕ × ℕ) → number_at w bytes at ≡ Ok x → x.1 ≤ at + length args → test x.0 ≡ true → passes test (found (number_at w args 0)) ≡ true
  first_number w test x e fits passed =
      let there = number_found w bytes at x e in
      let end = number_end w bytes at x e in
      let room : byte_len w ≤ length args = omega (arith, end, fits) in
      let run : take (byte_len w) (drop at bytes) ≡ take (byte_len w) args = ap (take (byte_len w)) takes.parts ∙ take-append-le (byte_len w) args (drop next bytes) room in
      let value : from_be_bytes w (take (byte_len w) args) ≡ x.0 = ap (from_be_bytes w) (sym run) ∙ sym (ap (λ (p : ℕ × ℕ). p.0) there.1) in
      let fits_there : 0 + byte_len w ≤ length args = omega (arith, room) in
      ap (λ r. passes test (found r)) (number_given w args 0 x.0 fits_there value) ∙ passed

  local_fits : (op_at words end : ℕ) → local_end max_locals op_at words bytes at ≡ Ok end → end ≤ at + length args → fits_frame max_locals false (form.Local words) args ≡ true
  unfolding local_end
  local_fits op_at words end e fits =
      opened (number_at w8 bytes at) _ (λ local read more.
      opened (within max_locals op_at local.0 words) _ (λ u in_frame last.
      let is = ok_is local.1 end last in
      first_number w8 (is_in_frame max_locals words) local read (omega (arith, is, fits)) (demanded-true (is_in_frame max_locals words local.0) _ in_frame)) more) e

  increment_fits : (op_at end : ℕ) → increment_end max_locals op_at bytes at ≡ Ok end → end ≤ at + length args → fits_frame max_locals false form.Increment args ≡ true
  unfolding increment_end
  increment_fits op_at end e fits =
      opened (number_at w8 bytes at) _ (λ local read more.
      opened (number_at w8 bytes local.1) _ (λ by reads rest.
      opened (within max_locals op_at local.0 1) _ (λ u in_frame last.
      let is = ok_is by.1 end last in
      let after = number_end w8 bytes local.1 by reads in
      first_number w8 (is_in_frame max_locals 1) local read (omega (arith, is, after, fits)) (demanded-true (is_in_frame max_locals 1 local.0) _ in_frame)) rest) more) e

  operands_fit : (entries : List Entry) (op_at op : ℕ) (f : Form) (end : ℕ) → operands_end entries max_locals op_at op f bytes at ≡ Ok end → end ≤ at + length args → fits_frame max_locals false f args ≡ true
  unfolding operands_end
  operands_fit entries op_at op (form.Local words) end e fits = local_fits op_at words end e fits
  operands_fit entries op_at op (form.Near local words) end e fits =
      opened (within max_locals op_at local words) _ (λ u in_frame last. demanded-true (is_in_frame max_locals words local) _ in_frame) e
  operands_fit entries op_at op form.Increment end e fits = increment_fits op_at end e fits
  operands_fit entries op_at op _ end e fits = refl

  wide_local_fits : (wide_at words end : ℕ) → wide_local_end max_locals wide_at words bytes at ≡ Ok end → end ≤ at + length args → fits_frame max_locals true (form.Local words) args ≡ true
  unfolding wide_local_end
  wide_local_fits wide_at words end e fits =
      opened (number_at w16 bytes at) _ (λ local read more.
      opened (within max_locals wide_at local.0 words) _ (λ u in_frame last.
      let is = ok_is local.1 end last in
      first_number w16 (is_in_frame max_locals words) local read (omega (arith, is, fits)) (demanded-true (is_in_frame max_locals words local.0) _ in_frame)) more) e

  wide_increment_fits : (wide_at end : ℕ) → wide_increment_end max_locals wide_at bytes at ≡ Ok end → end ≤ at + length args → fits_frame max_locals true form.Increment args ≡ true
  unfolding wide_increment_end
  wide_increment_fits wide_at end e fits =
      opened (number_at w16 bytes at) _ (λ local read more.
      opened (number_at w16 bytes local.1) _ (λ by reads rest.
      opened (within max_locals wide_at local.0 1) _ (λ u in_frame last.
      let is = ok_is by.1 end last in
      let after = number_end w16 bytes local.1 by reads in
      first_number w16 (is_in_frame max_locals 1) local read (omega (arith, is, after, fits)) (demanded-true (is_in_frame max_locals 1 local.0) _ in_frame)) rest) more) e

  no_wide : (b : Bool) (f g : FileFault) (end : ℕ) {P : Type 0} → (let given : Result ℕ FileFault = (if b then Err f else Err g) in given) ≡ Ok end → P
  no_wide true f g end e = absurd (cc)
  no_wide false f g end e = absurd (cc)

  wide_fits : (wide_at op_at op : ℕ) (f : Form) (end : ℕ) → wide_end max_locals wide_at op_at op f bytes at ≡ Ok end → end ≤ at + length args → fits_frame max_locals true f args ≡ true
  unfolding wide_end
  wide_fits wide_at op_at op (form.Local words) end e fits = wide_local_fits wide_at words end e fits
  wide_fits wide_at op_at op form.Increment end e fits = wide_increment_fits wide_at end e fits
  wide_fits wide_at op_at op _ end e fits = no_wide (op == 169) _ _ end e

-- ---- instructions

-- where an offset is one of 32 bits, the operands of what is no switch follow the opcode
no_padding : (at : ℕ) → at < 2 ^ 32 → at + 0 ≡ min (at + 0) 0xFFFFFFFF
no_padding at small = omega (arith, small)

plain_fits : (entries : List Entry) (max_locals start op_at op : ℕ) (f : Form) (bytes : List ℕ) (at end : ℕ) (args : List ℕ) (next : ℕ) → at < 2 ^ 32 → operands_end entries max_locals op_at op f bytes (min (at + padding_len start op_at f) 0xFFFFFFFF) ≡ Ok end → Takes bytes (at + padding_len start op_at f) args next → end ≤ at + padding_len start op_at f + length args → fits_frame max_locals false f args ≡ true
plain_fits entries max_locals start op_at op form.TableSwitch bytes at end args next small ends takes fits = refl
plain_fits entries max_locals start op_at op form.LookupSwitch bytes at end args next small ends takes fits = refl
plain_fits entries max_locals start op_at op f bytes at end args next small ends takes fits =
    operands_fit bytes args (at + 0) next takes max_locals entries op_at op f end (ap (operands_end entries max_locals op_at op f bytes) (no_padding at small) ∙ ends) fits

plain_at_fits : (entries : List Entry) (max_locals start op_at op : ℕ) (bytes : List ℕ) (at : ℕ) (x : RawIns × ℕ) → at < 2 ^ 32 → plain_at entries max_locals start op_at op (form_of op) bytes at ≡ Ok x → has_locals max_locals x.0 ≡ true
unfolding plain_at
plain_at_fits entries max_locals start op_at op bytes at x small e =
    let pad = padding_len start op_at (form_of op) in
    opened (operands_end entries max_locals op_at op (form_of op) bytes (min (at + pad) 0xFFFFFFFF)) _ (λ end ends more.
    opened (bytes_at pad bytes at) _ (λ padding cut rest.
    opened (bytes_at (end - padding.1) bytes padding.1) _ (λ args cuts last.
    let before = bytes_takes bytes pad at padding cut in
    let there : padding.1 ≡ at + pad = omega (arith, before.0, before.1.after) in
    let run = bytes_takes bytes (end - padding.1) padding.1 args cuts in
    let takes = subst (λ n. Takes bytes n args.0 args.1) there run.1 in
    let fits : end ≤ at + pad + length args.0 = omega (arith, run.0, there) in
    let ins : RawIns = record { op = op; wide = false; padding = padding.0; args = args.0 } in
    subst (λ (p : RawIns × ℕ). has_locals max_locals p.0 ≡ true) (ok_is (ins, args.1) x last) (plain_fits entries max_locals start op_at op (form_of op) bytes at end args.0 args.1 small ends takes fits)) rest) more) e

widened_fits : (max_locals wide_at : ℕ) (bytes : List ℕ) (at : ℕ) (x : RawIns × ℕ) → widened_at max_locals wide_at bytes at ≡ Ok x → has_locals max_locals x.0 ≡ true
unfolding widened_at
widened_fits max_locals wide_at bytes at x e =
    opened (number_at w8 bytes at) _ (λ op read more.
    opened (wide_end max_locals wide_at at op.0 (form_of op.0) bytes op.1) _ (λ end ends rest.
    opened (bytes_at (end - op.1) bytes op.1) _ (λ args cuts last.
    let run = bytes_takes bytes (end - op.1) op.1 args cuts in
    let fits : end ≤ op.1 + length args.0 = omega (arith, run.0) in
    let ins : RawIns = record { op = op.0; wide = true; padding = []; args = args.0 } in
    subst (λ (p : RawIns × ℕ). has_locals max_locals p.0 ≡ true) (ok_is (ins, args.1) x last) (wide_fits bytes args.0 op.1 args.1 run.1 max_locals wide_at at op.0 (form_of op.0) end ends fits)) rest) more) e

ins_fits : (entries : List Entry) (max_locals start : ℕ) (bytes : List ℕ) (at : ℕ) (x : RawIns × ℕ) → length bytes < 2 ^ 32 → ins_at entries max_locals start bytes at ≡ Ok x → has_locals max_locals x.0 ≡ true
unfolding ins_at
ins_fits entries max_locals start bytes at x small e =
    opened (number_at w8 bytes at) _ (λ op read more.
    let there = number_found w8 bytes at op read in
    let end = number_end w8 bytes at op read in
    elim (cases_Bool (eqb op.0 196)) [
      | inl is ↦ widened_fits max_locals at bytes op.1 x (sym (cond-true _ _ _ is) ∙ more)
      | inr not_wide ↦ plain_at_fits entries max_locals start at op.0 bytes op.1 x (omega (arith, there.0, end, small)) (sym (cond-false _ _ _ not_wide) ∙ more)
    ]) e

-- ---- all of them

-- what each thing that is read passes, all of them pass
module _ {A : Type 0} (bytes : List ℕ) (test : A → Bool) (read : ℕ → Result (A × ℕ) FileFault) (each : (at : ℕ) (x : A × ℕ) → read at ≡ Ok x → test x.0 ≡ true) where
  all_pass : (left at : ℕ) (before xs : List A) → list_all test before ≡ true → all_at read bytes left before at ≡ Ok xs → list_all test xs ≡ true
  unfolding all_at
  all_pass zero at before xs passed e = ap (list_all test) (sym (ok_is before xs e)) ∙ passed
  all_pass (suc left) at before xs passed e = elim (cases_Bool (leb (length bytes) at)) [
    | inl past ↦ ap (list_all test) (sym (ok_is before xs (sym (cond-true _ _ _ past) ∙ e))) ∙ passed
    | inr inside ↦ opened (read at) _ (λ x ex more.
        let one : list_all test (x.0 ∷ []) ≡ true = and_from (test x.0) true (each at x ex) refl in
        let longer : list_all test (before ++ x.0 ∷ []) ≡ true = list_all-append test before (x.0 ∷ []) ∙ and_from (list_all test before) (list_all test (x.0 ∷ [])) passed one in
        all_pass left x.1 (before ++ x.0 ∷ []) xs longer more) (sym (cond-false _ _ _ inside) ∙ e)
  ]

pub decoded_locals : (entries : List Entry) (max_locals len : ℕ) (bytes : List ℕ) (at : ℕ) (code : List RawIns) → length bytes < 2 ^ 32 → decoded entries max_locals len bytes at ≡ Ok code → list_all (has_locals max_locals) code ≡ true
decoded_locals entries max_locals len bytes at code small e =
    let window = take (at + len) bytes in
    let short : length window < 2 ^ 32 = omega (arith, length-take (at + len) bytes, small) in
    all_pass window (has_locals max_locals) (ins_at entries max_locals at window) (λ place x is. ins_fits entries max_locals at window place x short is) len at [] code refl e
