-- A decoded code asks for what is there.
use Rattle.std.proofs.Common.{◌≡◌, inl, inr, ℕ, zero, suc, ◌+◌, ◌-◌, ◌<◌, ◌^◌, Bool, true, List, [], ◌∷◌, ◌++◌, Result, Ok, length, leb, take, drop, refl, sym, ap, ◌∙◌, subst, arith}
use Rattle.std.specs.List.{flat_map, list_all}
use Rattle.std.proofs.lemmas.Bool.{and_from, and_parts, cases_Bool, cond-false, cond-true, lt-ltb}
use Rattle.std.proofs.lemmas.List.{length-take}
use Rattle.std.proofs.lemmas.List.Folds.{list_all-append}
use Rattle.fp_model.specs.declared.fault.FileFault.{FileFault}
use Rattle.fp_model.specs.declared.fault.FileFault.TheVariants as fault
use Rattle.fp_model.specs.declared.raw.attribute.BootRow.{BootRow}
use Rattle.fp_model.specs.declared.raw.attribute.RawIns.{RawIns}
use Rattle.fp_model.specs.declared.raw.pool.Entry.{Entry}
use Rattle.fp_model.specs.Branches.{leads_to, starts_at, targets_checked, targets_of}
use Rattle.fp_model.specs.Decoding.{all_at, decoded, ins_at}
use Rattle.fp_model.specs.Form.{form_of}
use Rattle.fp_model.specs.Reading.{demanded}
use Rattle.fp_model.specs.References.{each_checked}
use Rattle.fp_model.specs.Spelling.{spelled_ins}
use Rattle.fp_model.proofs.Readers.{demanded-true, opened}
use Rattle.fp_ops.specs.Checked.{are_sound_from, AreCheckedBoots, GivesForms, IsCheckedPool}
use Rattle.fp_ops.specs.Forms.{is_sound_ins}
use Rattle.fp_ops.proofs.AskedOperands.{ins_asked, is_asked}
use Rattle.fp_ops.proofs.GivenForms.{form_sound}
use Rattle.fp_ops.proofs.Referred.{gives_forms}
use Rattle.fp_ops.proofs.ShortTargets.{all_weaker, is_short, starts_below}
use Rattle.fp_ops.proofs.Spelled.{decoded_spelled, ok_is}

-- what each thing that is read passes, all of them pass
module _ {A : Type 0} (bytes : List ℕ) (test : A → Bool) (read : ℕ → Result (A × ℕ) FileFault) (each : (at : ℕ) (x : A × ℕ) → read at ≡ Ok x → test x.0 ≡ true) where
  all_pass : (left at : ℕ) (before xs : List A) → list_all test before ≡ true → all_at read bytes left before at ≡ Ok xs → list_all test xs ≡ true
  unfolding all_at
  all_pass zero at before xs passed e = ap (list_all test) (sym (ok_is before xs e)) ∙ passed
  all_pass (suc left) at before xs passed e = elim (cases_Bool (leb (length bytes) at)) [
    | inl past ↦ ap (list_all test) (sym (ok_is before xs (sym (cond-true _ _ _ past) ∙ e))) ∙ passed
    | inr inside ↦ opened (read at) _ (λ x ex more.
        let one : list_all test (x.0 ∷ []) ≡ true = and_from (test x.0) true (each at x ex) refl in
        let longer : list_all test (before ++ x.0 ∷ []) ≡ true = list_all-append test before (x.0 ∷ []) ∙ and_from (list_all test before) (list_all test (x.0 ∷ [])) passed one in
        all_pass left x.1 (before ++ x.0 ∷ []) xs longer more) (sym (cond-false _ _ _ inside) ∙ e)
  ]

code_asked : (entries : List Entry) (max_locals len : ℕ) (bytes : List ℕ) (at : ℕ) (code : List RawIns) → length bytes < 2 ^ 32 → decoded entries max_locals len bytes at ≡ Ok code → list_all (is_asked entries) code ≡ true
code_asked entries max_locals len bytes at code small e =
    let window = take (at + len) bytes in
    let short : length window < 2 ^ 32 = omega (arith, length-take (at + len) bytes, small) in
    all_pass window (is_asked entries) (ins_at entries max_locals at window) (λ place x is. ins_asked entries max_locals at window place x short is) len at [] code refl e

-- ---- instruction by instruction

module _ (entries : List Entry) (boots : List BootRow) (given : GivesForms entries boots) (whole : List RawIns) (short : length (flat_map spelled_ins whole) < 2 ^ 16) (start : ℕ) where
  start_short : (place : ℕ) → starts_at 0 whole place ≡ true → is_short place ≡ true
  start_short place is = lt-ltb place 65536 (omega (arith, short, starts_below 0 whole place is))

  one_sound : (at pc : ℕ) (ins : RawIns) → at ≡ start + pc → is_asked entries ins ≡ true → leads_to (starts_at 0 whole) (at - start) ins ≡ true → is_sound_ins entries boots pc ins ≡ true
  one_sound at pc ins here names leads =
      let there : at - start ≡ pc = omega (arith, here) in
      let leads_there = subst (λ n. leads_to (starts_at 0 whole) n ins ≡ true) there leads in
      form_sound entries boots given pc ins names (all_weaker (starts_at 0 whole) is_short start_short (targets_of pc (form_of ins.op) ins.args) leads_there)

  all_sound : (code : List RawIns) (at pc : ℕ) → at ≡ start + pc → list_all (is_asked entries) code ≡ true → each_checked spelled_ins (λ place ins. demanded (leads_to (starts_at 0 whole) (place - start) ins) (fault.Bounds place)) at code ≡ Ok tt → are_sound_from entries boots pc code ≡ true
  unfolding each_checked are_sound_from
  all_sound [] at pc here names checked = refl
  all_sound (ins ∷ code) at pc here names checked =
      opened (demanded (leads_to (starts_at 0 whole) (at - start) ins) (fault.Bounds at)) _ (λ u leads more.
      let parts = and_parts (is_asked entries ins) (list_all (is_asked entries) code) names in
      let first = one_sound at pc ins here parts.0 (demanded-true (leads_to (starts_at 0 whole) (at - start) ins) _ leads) in
      let next : at + length (spelled_ins ins) ≡ start + (pc + length (spelled_ins ins)) = omega (arith, here) in
      let rest = all_sound code (at + length (spelled_ins ins)) (pc + length (spelled_ins ins)) next parts.1 more in
      and_from (is_sound_ins entries boots pc ins) (are_sound_from entries boots (pc + length (spelled_ins ins)) code) first rest) checked

-- A law for files of offsets of 32 bits: beyond these, `plain_at` looks for the operands at the greatest such offset, and
-- not behind the opcode.
pub decoded_sound : (entries : List Entry) (boots : List BootRow) (max_locals len : ℕ) (bytes : List ℕ) (at : ℕ) (code : List RawIns) → IsCheckedPool entries → AreCheckedBoots entries boots → length bytes < 2 ^ 32 → len < 2 ^ 16 → decoded entries max_locals len bytes at ≡ Ok code → targets_checked code at ≡ Ok tt → are_sound_from entries boots 0 code ≡ true
decoded_sound entries boots max_locals len bytes at code checked rows small short e led =
    let spelled = decoded_spelled entries max_locals len bytes at code e in
    let size : length (flat_map spelled_ins code) < 2 ^ 16 = omega (arith, ap length spelled, length-take len (drop at bytes), short) in
    all_sound entries boots (gives_forms entries boots checked rows) code size at code at 0 (omega arith) (code_asked entries max_locals len bytes at code small e) led
