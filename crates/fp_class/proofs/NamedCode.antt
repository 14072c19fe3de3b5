-- The code of a method, instruction by instruction, and the rows of its exception table.
use Rattle.std.proofs.Common.{◌≡◌, ℕ, ◌+◌, ◌<◌, true, List, [], ◌∷◌, ◌++◌, length, get_or, take, drop, refl, sym, ap, ◌∙◌, subst, arith}
use Rattle.std.specs.List.{flat_map, AllZip}
use Rattle.std.proofs.lemmas.Bool.{and_parts}
use Rattle.std.proofs.lemmas.Grind.{flat_map-append}
use Rattle.std.proofs.lemmas.List.{append-nil, length-append, drop_more, take_more}
use Rattle.fp_model.specs.declared.class.Guard.{Guard}
use Rattle.fp_model.specs.declared.class.instr.Instr.{Instr}
use Rattle.fp_model.specs.declared.raw.attribute.BootRow.{BootRow}
use Rattle.fp_model.specs.declared.raw.attribute.CatchRow.{CatchRow}
use Rattle.fp_model.specs.declared.raw.attribute.RawCode.{RawCode, out-RawCode}
use Rattle.fp_model.specs.declared.raw.attribute.RawIns.{RawIns}
use Rattle.fp_model.specs.declared.raw.pool.Entry.{Entry}
use Rattle.fp_model.specs.Spelling.{spelled_ins}
use Rattle.fp_model.proofs.LongerTables.{Keeps}
use Rattle.fp_ops.specs.Checked.{are_sound_from}
use Rattle.fp_ops.specs.Forms.{is_sound_ins, IsInstrOf}
use Rattle.fp_class.specs.MethodCode.{AreInstrsFrom, IsCodeOf, IsGuardOf}
use Rattle.fp_class.proofs.LongerInstrs.{AreInstrsFrom-kept}
use Rattle.fp_class.proofs.NamedParts.{IsParentName-kept}

-- ---- instructions

-- the next instruction asks for what is there, and so do those behind it
pub sound_next : (entries : List Entry) (boots : List BootRow) (pc : ℕ) (code : List RawIns) (i : ℕ) (ins : RawIns) → i < length code → ins ≡ get_or code i ins → are_sound_from entries boots pc (drop i code) ≡ true
    → (is_sound_ins entries boots pc ins ≡ true) × (are_sound_from entries boots (pc + length (spelled_ins ins)) (drop (i + 1) code) ≡ true)
unfolding are_sound_from
sound_next entries boots pc code i ins lt is sound =
    let rest : drop i code ≡ ins ∷ drop (i + 1) code = drop_more code i ins lt ∙ ap (λ y. y ∷ drop (i + 1) code) (sym is) in
    and_parts (is_sound_ins entries boots pc ins) (are_sound_from entries boots (pc + length (spelled_ins ins)) (drop (i + 1) code)) (ap (are_sound_from entries boots pc) (sym rest) ∙ sound)

-- how many bytes those up to one take, and it itself
pub size_more : (code : List RawIns) (i : ℕ) (ins : RawIns) → i < length code → ins ≡ get_or code i ins → length (flat_map spelled_ins (take (i + 1) code)) ≡ length (flat_map spelled_ins (take i code)) + length (spelled_ins ins)
size_more code i ins lt is =
    ap (λ l. length (flat_map spelled_ins l)) (take_more code i ins lt ∙ ap (λ y. take i code ++ y ∷ []) (sym is))
    ∙ ap length (flat_map-append spelled_ins (take i code) (ins ∷ []) ∙ ap (λ l. flat_map spelled_ins (take i code) ++ l) (append-nil (spelled_ins ins)))
    ∙ length-append (flat_map spelled_ins (take i code)) (spelled_ins ins)

-- one more instruction, behind the others
pub AreInstrsFrom-more : (names : List (List ℕ)) (entries : List Entry) (boots : List BootRow) (pc at : ℕ) (instrs : List (ℕ × Instr)) (code : List RawIns) (i : Instr) (ins : RawIns) → AreInstrsFrom names entries boots pc instrs code → at ≡ pc + length (flat_map spelled_ins code) → IsInstrOf names entries boots at ins i
    → AreInstrsFrom names entries boots pc (instrs ++ (at, i) ∷ []) (code ++ ins ∷ [])
AreInstrsFrom-more names entries boots pc at [] [] i ins all is one =
    let here : at ≡ pc = omega (arith, is) in
    (here, subst (λ p. IsInstrOf names entries boots p ins i) here one, tt)
AreInstrsFrom-more names entries boots pc at [] (first ∷ code) i ins all is one = absurd all
AreInstrsFrom-more names entries boots pc at (x ∷ instrs) [] i ins all is one = absurd all
AreInstrsFrom-more names entries boots pc at (x ∷ instrs) (first ∷ code) i ins all is one =
    let behind : at ≡ pc + length (spelled_ins first) + length (flat_map spelled_ins code) = omega (arith, is, length-append (spelled_ins first) (flat_map spelled_ins code)) in
    (all.0, all.1, AreInstrsFrom-more names entries boots (pc + length (spelled_ins first)) at instrs code i ins all.2 behind one)

-- ---- rows

pub IsGuardOf-kept : (names longer : List (List ℕ)) (entries : List Entry) (g : Guard) (row : CatchRow) → Keeps names longer → IsGuardOf names entries g row → IsGuardOf longer entries g row
IsGuardOf-kept names longer entries g row kept is = record {
  start = is.start;
  end = is.end;
  handler = is.handler;
  class = IsParentName-kept names longer entries g.class row.class kept is.class;
}

-- ---- the code

pub code_made : (mid new : List (List ℕ)) (entries others : List Entry) (boots : List BootRow) (raw : RawCode) (instrs : List (ℕ × Instr)) (code : List RawIns) (guards : List Guard) (rows : List CatchRow)
    → code ≡ (out-RawCode raw).code → others ≡ entries → rows ≡ (out-RawCode raw).rows → Keeps mid new → AreInstrsFrom mid entries boots 0 instrs code → AllZip (IsGuardOf new others) guards rows
    → IsCodeOf new entries boots (record { instrs = instrs; rows = guards; max_stack = (out-RawCode raw).max_stack; max_locals = (out-RawCode raw).max_locals }) raw
code_made mid new entries others boots raw instrs code guards rows code_is entries_is rows_is kept all named = record {
  max_stack = refl;
  max_locals = refl;
  instrs = subst (AreInstrsFrom new entries boots 0 instrs) code_is (AreInstrsFrom-kept mid new kept entries boots 0 instrs code all);
  rows = subst (λ e. AllZip (IsGuardOf new e) guards (out-RawCode raw).rows) entries_is
      (subst (AllZip (IsGuardOf new others) guards) rows_is named);
}
