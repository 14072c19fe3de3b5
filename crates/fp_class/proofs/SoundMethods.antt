-- The methods of the class of a well-formed file are sound.
use Rattle.std.proofs.Common.{◌≡◌, inl, inr, ℕ, ◌+◌, ◌<◌, ◌≤◌, Bool, true, ◌&&◌, ◌||◌, ◌==◌, List, [], ◌∷◌, Option, Some, None, length, get_or, map, refl, sym, ap, ap₂, ◌∙◌, subst, arith}
use Rattle.std.specs.Prelude.{if◌then◌else◌, nat_le, nat_lt, slice_get, unwrap_or, All, IfSome}
use Rattle.std.specs.List.{list_all, list_any, AllZip}
use Rattle.std.proofs.lemmas.Bool.{and_from, and_parts, cases_eq, eq-eqb, leb-true, lt-ltb, ne_eqb}
use Rattle.std.proofs.lemmas.List.Elements.{All-cons, All-head, All-nil, All-tail}
use Rattle.std.proofs.lemmas.Option.{slice_get-get_or}
use Rattle.fp_model.specs.declared.class.Class.{Class}
use Rattle.fp_model.specs.declared.class.Code.{Code}
use Rattle.fp_model.specs.declared.class.Guard.{Guard}
use Rattle.fp_model.specs.declared.class.Method.{Method}
use Rattle.fp_model.specs.declared.class.instr.Instr.{Instr}
use Rattle.fp_model.specs.declared.raw.Raw.{Raw}
use Rattle.fp_model.specs.declared.raw.RawMember.{RawMember}
use Rattle.fp_model.specs.declared.raw.attribute.BootRow.{BootRow}
use Rattle.fp_model.specs.declared.raw.attribute.CatchRow.{CatchRow}
use Rattle.fp_model.specs.declared.raw.attribute.RawCode.{RawCode, out-RawCode}
use Rattle.fp_model.specs.declared.raw.attribute.RawIns.{RawIns}
use Rattle.fp_model.specs.declared.raw.pool.Entry.{Entry}
use Rattle.fp_model.specs.Branches.{leads_to, starts_at, targets_of}
use Rattle.fp_model.specs.ClassSet.{IsMethodOver}
use Rattle.fp_model.specs.Descriptor.{text_of}
use Rattle.fp_model.specs.Entries.{text_at}
use Rattle.fp_model.specs.Flags.{is_static}
use Rattle.fp_model.specs.Form.{form_of}
use Rattle.fp_model.specs.SoundCode.{ascend_above, ascend_from_0, branches_to, is_of_form, is_pc, kind_words_all, locals_asked, method_words, IsSoundCode, IsSoundMethod}
use Rattle.fp_model.specs.Spelling.{spelled_ins}
use Rattle.fp_ops.proofs.Walking.{agree_on, some_size}
use Rattle.fp_class.specs.ClassFile.{boots_of, IsWellFormed}
use Rattle.fp_class.specs.Classes.{IsClassOf, IsCodeAmong, IsMethodOf}
use Rattle.fp_class.specs.Members.{argument_words}
use Rattle.fp_class.specs.MethodCode.{AreInstrsFrom, IsCodeOf, IsGuardOf}
use Rattle.fp_class.specs.Methods.{code_of}
use Rattle.fp_class.proofs.ArgumentWords.{descr_words}
use Rattle.fp_class.proofs.CheckedCodes.{checked_codes, checked_parts, has_handler, is_checked_code, is_checked_of, lead_from}
use Rattle.fp_class.proofs.CheckedLocals.{has_locals}
use Rattle.fp_class.proofs.SoundInstrs.{instr_suits, Suits}

-- ---- instructions

same_either_way : (a b : ℕ) → (a == b) ≡ (b == a)
same_either_way a b = elim (cases_eq a b) [
  | inl same ↦ eq-eqb a b same ∙ sym (eq-eqb b a (sym same))
  | inr other ↦ ne_eqb a b other ∙ sym (ne_eqb b a (λ same. other (sym same)))
]

-- they lead to the same places by tests that agree
lead_agree : (f g : ℕ → Bool) → ((k : ℕ) → f k ≡ g k) → (pc : ℕ) (code : List RawIns) → lead_from f pc code ≡ lead_from g pc code
lead_agree f g same pc [] = refl
lead_agree f g same pc (ins ∷ code) =
    ap₂ (λ a b. a && b) (agree_on f g same (targets_of pc (form_of ins.op) ins.args)) (lead_agree f g same (pc + length (spelled_ins ins)) code)

-- what holds of each of them
record AllSuit (test : ℕ → Bool) (max_locals : ℕ) (instrs : List (ℕ × Instr)) : Type 0 where
  branches : list_all (λ i. list_all test (branches_to i.1)) instrs ≡ true
  locals : list_all (λ i. nat_le (locals_asked i.1) max_locals) instrs ≡ true
  forms : list_all (λ i. is_of_form i.1) instrs ≡ true

one_more : (test : ℕ → Bool) (max_locals : ℕ) (x : ℕ × Instr) (instrs : List (ℕ × Instr)) → Suits test max_locals x.1 → AllSuit test max_locals instrs → AllSuit test max_locals (x ∷ instrs)
one_more test max_locals x instrs one more = record {
  branches = and_from (list_all test (branches_to x.1)) _ one.branches more.branches;
  locals = and_from (nat_le (locals_asked x.1) max_locals) _ one.locals more.locals;
  forms = and_from (is_of_form x.1) _ one.form more.forms;
}

module _ (names : List (List ℕ)) (entries : List Entry) (boots : List BootRow) where
  -- they stand where those of the file begin
  same_places : (pc : ℕ) (instrs : List (ℕ × Instr)) (code : List RawIns) (place : ℕ) → AreInstrsFrom names entries boots pc instrs code → list_any (λ other. other == place) (map (λ i. i.0) instrs) ≡ starts_at pc code place
  unfolding starts_at
  same_places pc [] [] place all = refl
  same_places pc [] (ins ∷ code) place all = absurd all
  same_places pc (x ∷ instrs) [] place all = absurd all
  same_places pc (x ∷ instrs) (ins ∷ code) place all =
      ap₂ (λ a b. a || b) (ap (λ n. n == place) all.0 ∙ same_either_way pc place) (same_places (pc + length (spelled_ins ins)) instrs code place all.2)

  ascends : (before pc : ℕ) (instrs : List (ℕ × Instr)) (code : List RawIns) → before < pc → AreInstrsFrom names entries boots pc instrs code → ascend_above before (map (λ i. i.0) instrs) ≡ true
  unfolding ascend_above
  ascends before pc [] [] lt all = refl
  ascends before pc [] (ins ∷ code) lt all = absurd all
  ascends before pc (x ∷ instrs) [] lt all = absurd all
  ascends before pc (x ∷ instrs) (ins ∷ code) lt all =
      let here : x.0 ≡ pc = all.0 in
      let later : x.0 < pc + length (spelled_ins ins) = omega (arith, here, some_size ins) in
      and_from (nat_lt before x.0) (ascend_above x.0 (map (λ i. i.0) instrs)) (lt-ltb before x.0 (omega (arith, here, lt)))
      (ascends x.0 (pc + length (spelled_ins ins)) instrs code later all.2)

  ascends_from_0 : (instrs : List (ℕ × Instr)) (code : List RawIns) → nat_lt 0 (length code) ≡ true → AreInstrsFrom names entries boots 0 instrs code → ascend_from_0 (map (λ i. i.0) instrs) ≡ true
  ascends_from_0 [] [] some all = absurd cc
  ascends_from_0 [] (ins ∷ code) some all = absurd all
  ascends_from_0 (x ∷ instrs) [] some all = absurd all
  ascends_from_0 (x ∷ instrs) (ins ∷ code) some all =
      let here : x.0 ≡ 0 = all.0 in
      let later : x.0 < 0 + length (spelled_ins ins) = omega (arith, here, some_size ins) in
      and_from (x.0 == 0) (ascend_above x.0 (map (λ i. i.0) instrs)) (eq-eqb x.0 0 here) (ascends x.0 (0 + length (spelled_ins ins)) instrs code later all.2)

  all_suit : (test : ℕ → Bool) (max_locals pc : ℕ) (instrs : List (ℕ × Instr)) (code : List RawIns) → AreInstrsFrom names entries boots pc instrs code → list_all (has_locals max_locals) code ≡ true → lead_from test pc code ≡ true → AllSuit test max_locals instrs
  all_suit test max_locals pc [] [] all fits leads = record { branches = refl; locals = refl; forms = refl }
  all_suit test max_locals pc [] (ins ∷ code) all fits leads = absurd all
  all_suit test max_locals pc (x ∷ instrs) [] all fits leads = absurd all
  all_suit test max_locals pc (x ∷ instrs) (ins ∷ code) all fits leads =
      let fit = and_parts (has_locals max_locals ins) (list_all (has_locals max_locals) code) fits in
      let lead = and_parts (leads_to test pc ins) (lead_from test (pc + length (spelled_ins ins)) code) leads in
      one_more test max_locals x instrs
      (instr_suits test max_locals names entries boots pc ins x.1 fit.0 lead.0 all.1)
      (all_suit test max_locals (pc + length (spelled_ins ins)) instrs code all.2 fit.1 lead.1)

  -- ---- a code

  handlers_there : (test : ℕ → Bool) (code : List RawIns) (guards : List Guard) (rows : List CatchRow) → ((k : ℕ) → test k ≡ starts_at 0 code k) → AllZip (IsGuardOf names entries) guards rows → list_all (has_handler code) rows ≡ true → list_all (λ g. test g.handler) guards ≡ true
  handlers_there test code [] [] same all there = refl
  handlers_there test code [] (row ∷ rows) same all there = absurd all
  handlers_there test code (g ∷ guards) [] same all there = absurd all
  handlers_there test code (g ∷ guards) (row ∷ rows) same all there =
      let parts = and_parts (has_handler code row) (list_all (has_handler code) rows) there in
      let first : test g.handler ≡ true = same g.handler ∙ ap (starts_at 0 code) all.0.handler ∙ parts.0 in
      and_from (test g.handler) (list_all (λ g. test g.handler) guards) first (handlers_there test code guards rows same all.1 parts.1)

  code_sound : (words : ℕ) (code : Code) (raw : RawCode) → is_checked_code words raw ≡ true → IsCodeOf names entries boots code raw → IsSoundCode code × (words ≤ code.max_locals)
  code_sound words code raw passed is =
      let body = out-RawCode raw in
      let checked = checked_parts words body.max_locals body.code body.rows passed in
      let same : (k : ℕ) → is_pc code k ≡ starts_at 0 body.code k = λ k. same_places 0 code.instrs body.code k is.instrs in
      let leads : lead_from (is_pc code) 0 body.code ≡ true = lead_agree (is_pc code) (starts_at 0 body.code) same 0 body.code ∙ checked.leads in
      let suits : AllSuit (is_pc code) code.max_locals code.instrs =
      subst (λ n. AllSuit (is_pc code) n code.instrs) (sym is.max_locals) (all_suit (is_pc code) body.max_locals 0 code.instrs body.code is.instrs checked.locals leads) in (
        record {
          pcs = ascends_from_0 code.instrs body.code checked.some is.instrs;
          branches = suits.branches;
          handlers = handlers_there (is_pc code) body.code code.rows body.rows same is.rows checked.handlers;
          locals = suits.locals;
          forms = suits.forms;
        },
        subst (λ n. words ≤ n) (sym is.max_locals) (leb-true words body.max_locals checked.room),
      )

  -- ---- a method

  among_sound : (words : ℕ) (o : Option Code) (r : Option RawCode) → IsCodeAmong names entries boots o r → IfSome r (λ raw. is_checked_code words raw ≡ true) → IfSome o IsSoundCode × IfSome o (λ code. words ≤ code.max_locals)
  among_sound words None None is passed = (tt, tt)
  among_sound words None (Some raw) is passed = absurd is
  among_sound words (Some code) None is passed = absurd is
  among_sound words (Some code) (Some raw) is passed = code_sound words code raw passed is

  words_same : (m : Method) (method : RawMember) → IsMethodOver names m → IsMethodOf names entries boots m method → argument_words method.flags (text_at entries method.descr) ≡ method_words m
  words_same m method over is =
      let text = get_or names m.descr [] in
      let stands : slice_get names m.descr ≡ Some text = slice_get-get_or names m.descr [] over.descr in
      let there : text_at entries method.descr ≡ Some (text_of names m.descr) = sym is.descr ∙ stands ∙ ap (λ o. Some (unwrap_or o [])) (sym stands) in
      ap (argument_words method.flags) there
      ∙ ap (λ o. unwrap_or o 0 + (if is_static method.flags then 0 else 1)) (descr_words names (text_of names m.descr) m.kinds over.kinds)
      ∙ ap (λ flags. kind_words_all m.kinds.args + (if is_static flags then 0 else 1)) (sym is.flags)

  method_sound : (m : Method) (method : RawMember) → IsMethodOver names m → IsMethodOf names entries boots m method → IfSome (code_of method.attributes) (λ code. is_checked_of entries method code ≡ true) → IsSoundMethod m
  method_sound m method over is passed =
      let words = argument_words method.flags (text_at entries method.descr) in
      let sound = among_sound words m.code (code_of method.attributes) is.code passed in
      record {
        code = sound.0;
        arguments = subst (λ n. IfSome m.code (λ code. n ≤ code.max_locals)) (words_same m method over is) sound.1;
      }

  abbrev HasChecked : RawMember → Type 0
  HasChecked method = IfSome (code_of method.attributes) (λ code. is_checked_of entries method code ≡ true)

  all_sound : (methods : List Method) (members : List RawMember) → All (IsMethodOver names) methods → AllZip (IsMethodOf names entries boots) methods members → All HasChecked members → All IsSoundMethod methods
  all_sound [] [] over all checked = All-nil IsSoundMethod
  all_sound [] (method ∷ members) over all checked = absurd all
  all_sound (m ∷ methods) [] over all checked = absurd all
  all_sound (m ∷ methods) (method ∷ members) over all checked =
      All-cons IsSoundMethod m methods
      (method_sound m method (All-head (IsMethodOver names) m methods over) all.0 (All-head HasChecked method members checked))
      (all_sound methods members (All-tail (IsMethodOver names) m methods over) all.1 (All-tail HasChecked method members checked))

pub sound_methods : (names : List (List ℕ)) (c : Class) (raw : Raw) → IsWellFormed raw → IsClassOf names c raw → All IsSoundMethod c.methods
sound_methods names c raw formed is =
    all_sound names raw.pool.entries (boots_of raw.attributes) c.methods raw.methods is.over.methods is.methods (checked_codes raw formed)
