-- The code of a method of a class file is over the table that has its names.
use Rattle.std.proofs.Common.{◌≡◌, inl, inr, ℕ, ◌+◌, Bool, true, false, ◌==◌, List, [], ◌∷◌, Option, Some, None, length, sym, ap, refl, subst, arith}
use Rattle.std.specs.Prelude.{slice_get, unwrap_or, All, IfSome}
use Rattle.std.specs.List.{AllZip}
use Rattle.std.proofs.lemmas.Bool.{cases_Bool, eqb-true, or_cases}
use Rattle.std.proofs.lemmas.List.Elements.{All-cons, All-nil}
use Rattle.fp_model.specs.declared.class.Code.{Code}
use Rattle.fp_model.specs.declared.class.instr.BootArg.{BootArg}
use Rattle.fp_model.specs.declared.class.instr.BootArg.TheVariants as arg
use Rattle.fp_model.specs.declared.class.instr.BootRef.{BootRef}
use Rattle.fp_model.specs.declared.class.instr.Instr.{Instr}
use Rattle.fp_model.specs.declared.class.instr.Instr.TheVariants as instr
use Rattle.fp_model.specs.declared.kind.Descr.{Descr}
use Rattle.fp_model.specs.declared.kind.Kind.{Kind}
use Rattle.fp_model.specs.declared.kind.Kind.TheVariants as kind
use Rattle.fp_model.specs.declared.raw.attribute.BootRow.{BootRow}
use Rattle.fp_model.specs.declared.raw.attribute.RawCode.{RawCode, out-RawCode}
use Rattle.fp_model.specs.declared.raw.attribute.RawIns.{RawIns}
use Rattle.fp_model.specs.declared.raw.pool.Entry.{Entry}
use Rattle.fp_model.specs.declared.raw.pool.Entry.TheVariants as entry
use Rattle.fp_model.specs.CodeOver.{IsBootArgOver, IsCodeOver, IsElementOver, IsFieldRefOver, IsGuardOver, IsInstrOver, IsMemberOver, IsMethodRefOver, SaysDescr}
use Rattle.fp_model.specs.Descriptor.{is_array_like, is_kind, IsDescrOf, IsKindOf}
use Rattle.fp_model.specs.Entries.{class_name_at, text_at}
use Rattle.fp_model.specs.NamedInstructions.{is_call_op, is_class_op, is_field_op, member_at, IsArrayInstr, IsCallInstr, IsClassInstr, IsClassKindBy, IsFieldInstr, IsMember, IsMultiArrayInstr, IsNamedInstr, IsOf, MemberTexts}
use Rattle.fp_model.specs.Spelling.{spelled_ins}
use Rattle.fp_model.proofs.ElementTexts.{class_within}
use Rattle.fp_ops.specs.CallSites.{handle_with, site_at, HandleTexts, IsArgAt, IsArgOf, IsBootRef, IsHandleArg, IsSiteInstr, IsTypeArg, SiteTexts}
use Rattle.fp_ops.specs.Forms.{dims_in, index_in, is_named_op, is_site_op, takes_names, IsInstrOf}
use Rattle.fp_class.specs.Classes.{IsCodeAmong}
use Rattle.fp_class.specs.MethodCode.{AreInstrsFrom, IsCodeOf, IsGuardOf}
use Rattle.fp_class.proofs.NamedParts.{parent_over, within, AllZip-All}
use Rattle.fp_class.proofs.PlainOver.{plain_over}

module _ (names : List (List ℕ)) where
  -- ---- members

  member_over : (texts : MemberTexts) (class name descr : ℕ) → IsMember names texts class name descr → IsMemberOver names class name descr
  member_over texts class name descr is = record {
    class_within = within names class texts.class is.class_is;
    name_within = within names name texts.name is.name_is;
    descr_within = within names descr texts.descr is.descr_is;
  }

  access_over : (op wanted : ℕ) (texts : MemberTexts) (class name descr : ℕ) (k : Kind) → (op ≡ wanted) × IsMember names texts class name descr × IsKindOf names texts.descr k → IsFieldRefOver names class name descr k
  access_over op wanted texts class name descr k is = record {
    member = member_over texts class name descr is.1;
    says = subst (λ text. IsKindOf names text k) (sym (ap (λ o. unwrap_or o []) is.1.descr_is)) is.2;
  }

  field_over : (op : ℕ) (texts : MemberTexts) (i : Instr) → IsFieldInstr names op texts i → IsInstrOver names i
  field_over op texts (instr.GetStatic class name descr k) is = access_over op 178 texts class name descr k is
  field_over op texts (instr.PutStatic class name descr k) is = access_over op 179 texts class name descr k is
  field_over op texts (instr.GetField class name descr k) is = access_over op 180 texts class name descr k is
  field_over op texts (instr.PutField class name descr k) is = access_over op 181 texts class name descr k is
  field_over op texts _ is = absurd is

  invocation_over : (op wanted : ℕ) (texts : MemberTexts) (class name descr : ℕ) (kinds : Descr) → (op ≡ wanted) × IsMember names texts class name descr × IsDescrOf names texts.descr kinds → IsMethodRefOver names class name descr kinds
  invocation_over op wanted texts class name descr kinds is = record {
    member = member_over texts class name descr is.1;
    says = subst (λ text. IsDescrOf names text kinds) (sym (ap (λ o. unwrap_or o []) is.1.descr_is)) is.2;
  }

  call_over : (op : ℕ) (texts : MemberTexts) (i : Instr) → IsCallInstr names op texts i → IsInstrOver names i
  call_over op texts (instr.InvokeVirtual class name descr kinds) is = invocation_over op 182 texts class name descr kinds is
  call_over op texts (instr.InvokeSpecial class name descr kinds) is = invocation_over op 183 texts class name descr kinds is
  call_over op texts (instr.InvokeStatic class name descr kinds) is = invocation_over op 184 texts class name descr kinds is
  call_over op texts (instr.InvokeInterface class name descr kinds) is = invocation_over op 185 texts class name descr kinds is
  call_over op texts _ is = absurd is

  -- ---- classes

  class_over : (op : ℕ) (text : List ℕ) (i : Instr) → IsClassInstr names op text i → IsInstrOver names i
  class_over op text (instr.New class) is = within names class text is.1
  class_over op text (instr.CheckCast class) is = within names class text is.1
  class_over op text (instr.InstanceOf class) is = within names class text is.1
  class_over op text _ is = absurd is

  element_over : (dims : ℕ) (element : Kind) → is_kind names element ≡ true → IsElementOver names dims element
  element_over dims (kind.Class name) is = (class_within names name is, λ more. is)
  element_over dims element is = is

  -- of one dimension
  element_by : (is_array : Bool) (text : List ℕ) (dims : ℕ) (element : Kind) → dims ≡ 1 → IsClassKindBy is_array names text element → IsElementOver names dims element
  element_by true text dims element one is = element_over dims element is.kind
  element_by false text dims (kind.Class name) one is = (within names name text is, λ more. absurd (omega (arith, one, more)))
  element_by false text dims _ one is = absurd is

  array_over : (text : List ℕ) (i : Instr) → IsArrayInstr names text i → IsInstrOver names i
  array_over text (instr.NewArray dims element) is = element_by (is_array_like text) text dims element is.0 is.1
  array_over text _ is = absurd is

  multi_array_over : (wanted : ℕ) (text : List ℕ) (i : Instr) → IsMultiArrayInstr names wanted text i → IsInstrOver names i
  multi_array_over wanted text (instr.NewArray dims element) is = element_over dims element is.1.kind
  multi_array_over wanted text _ is = absurd is

  -- ---- what is there

  of_over : {A : Type 0} (P : A → Type 0) (Q : Type 0) (o : Option A) → ((x : A) → P x → Q) → IsOf P o → Q
  of_over P Q None f is = absurd is
  of_over P Q (Some x) f is = f x is

  named_over : (entries : List Entry) (op index dims : ℕ) (i : Instr) → is_named_op op ≡ true → IsNamedInstr names entries op index dims i → IsInstrOver names i
  named_over entries op index dims i named is =
      let Q = IsInstrOver names i in
      elim (or_cases (is_field_op op) _ named) [
        | inl field ↦ of_over (λ texts. IsFieldInstr names op texts i) Q (member_at entries index) (λ texts h. field_over op texts i h) (is.field field)
        | inr more ↦ elim (or_cases (is_class_op op) _ more) [
          | inl class ↦ of_over (λ text. IsClassInstr names op text i) Q (class_name_at entries index) (λ text h. class_over op text i h) (is.class class)
          | inr rest ↦ elim (or_cases (op == 189) (op == 197) rest) [
            | inl array ↦ of_over (λ text. IsArrayInstr names text i) Q (class_name_at entries index) (λ text h. array_over text i h) (is.array (eqb-true op 189 array))
            | inr multi ↦ of_over (λ text. IsMultiArrayInstr names dims text i) Q (class_name_at entries index) (λ text h. multi_array_over dims text i h) (is.multi_array (eqb-true op 197 multi))
          ]
        ]
      ]

  -- ---- call sites

  said_over : (text : List ℕ) (kinds : Descr) → IsDescrOf names text kinds → SaysDescr names kinds
  said_over text kinds is = record { written = refl; args = is.args; result = is.result }

  type_arg_over : (text : List ℕ) (a : BootArg) → IsTypeArg names text a → IsBootArgOver names a
  type_arg_over text (arg.Sig kinds) is = said_over text kinds is
  type_arg_over text _ is = absurd is

  reference_over : (handle : HandleTexts) (r : BootRef) → IsBootRef names handle r → IsMemberOver names r.class r.name r.descr
  reference_over handle r is = member_over handle.member r.class r.name r.descr is.member_is

  handle_arg_over : (handle : HandleTexts) (a : BootArg) → IsHandleArg names handle a → IsBootArgOver names a
  handle_arg_over handle (arg.Ref r) is = reference_over handle r is
  handle_arg_over handle _ is = absurd is

  argument_over : (entries : List Entry) (e : Option Entry) (a : BootArg) → IsArgOf names entries e a → IsBootArgOver names a
  argument_over entries (Some (entry.MethodType descr)) a is = of_over (λ text. IsTypeArg names text a) (IsBootArgOver names a) (text_at entries descr) (λ text h. type_arg_over text a h) is
  argument_over entries (Some (entry.Handle kind index)) a is = of_over (λ handle. IsHandleArg names handle a) (IsBootArgOver names a) (handle_with kind (member_at entries index)) (λ handle h. handle_arg_over handle a h) is
  argument_over entries _ a is = subst (IsBootArgOver names) (sym is) tt

  arguments_over : (entries : List Entry) (indexes : List ℕ) (args : List BootArg) → AllZip (IsArgAt names entries) indexes args → All (IsBootArgOver names) args
  arguments_over entries [] [] all = All-nil (IsBootArgOver names)
  arguments_over entries [] (a ∷ args) all = absurd all
  arguments_over entries (index ∷ indexes) [] all = absurd all
  arguments_over entries (index ∷ indexes) (a ∷ args) all =
      All-cons (IsBootArgOver names) a args (argument_over entries (slice_get entries index) a all.0) (arguments_over entries indexes args all.1)

  site_over : (entries : List Entry) (site : SiteTexts) (i : Instr) → IsSiteInstr names entries site i → IsInstrOver names i
  site_over entries site (instr.InvokeDynamic name descr boot args) is = record {
    name_within = within names name site.name is.0;
    says = said_over site.descr descr is.1;
    method = reference_over site.method boot is.2;
    arguments = arguments_over entries site.args args is.3;
  }
  site_over entries site _ is = absurd is

  -- ---- a code

  instr_over : (entries : List Entry) (boots : List BootRow) (pc : ℕ) (ins : RawIns) (i : Instr) → IsInstrOf names entries boots pc ins i → IsInstrOver names i
  instr_over entries boots pc ins i is =
      let Q = IsInstrOver names i in
      elim (cases_Bool (takes_names ins.op)) [
        | inr plain ↦ plain_over names entries pc ins i (is.plain plain)
        | inl taking ↦ elim (or_cases (is_named_op ins.op) _ taking) [
          | inl named ↦ of_over (λ index. IsNamedInstr names entries ins.op index (dims_in ins) i) Q (index_in ins) (λ index h. named_over entries ins.op index (dims_in ins) i named h) (is.named named)
          | inr more ↦ elim (or_cases (is_call_op ins.op) (is_site_op ins.op) more) [
            | inl call ↦ of_over (λ index. IsOf (λ texts. IsCallInstr names ins.op texts i) (member_at entries index)) Q (index_in ins) (λ index h. of_over (λ texts. IsCallInstr names ins.op texts i) Q (member_at entries index) (λ texts h. call_over ins.op texts i h) h) (is.call call)
            | inr computed ↦ of_over (λ index. IsOf (λ site. IsSiteInstr names entries site i) (site_at entries boots index)) Q (index_in ins) (λ index h. of_over (λ site. IsSiteInstr names entries site i) Q (site_at entries boots index) (λ site h. site_over entries site i h) h) (is.site computed)
          ]
        ]
      ]

  instrs_over : (entries : List Entry) (boots : List BootRow) (pc : ℕ) (instrs : List (ℕ × Instr)) (code : List RawIns) → AreInstrsFrom names entries boots pc instrs code → All (λ i. IsInstrOver names i.1) instrs
  instrs_over entries boots pc [] [] all = All-nil (λ i. IsInstrOver names i.1)
  instrs_over entries boots pc [] (ins ∷ code) all = absurd all
  instrs_over entries boots pc (x ∷ instrs) [] all = absurd all
  instrs_over entries boots pc (x ∷ instrs) (ins ∷ code) all =
      All-cons (λ i. IsInstrOver names i.1) x instrs (instr_over entries boots pc ins x.1 all.1) (instrs_over entries boots (pc + length (spelled_ins ins)) instrs code all.2)

  code_over : (entries : List Entry) (boots : List BootRow) (code : Code) (raw : RawCode) → IsCodeOf names entries boots code raw → IsCodeOver names code
  code_over entries boots code raw is = record {
    instrs = instrs_over entries boots 0 code.instrs (out-RawCode raw).code is.instrs;
    rows = AllZip-All (IsGuardOf names entries) (IsGuardOver names) code.rows (out-RawCode raw).rows (λ g row one. parent_over names entries g.class row.class one.class) is.rows;
  }

  -- that of a method, where it has one
  pub any_code_over : (entries : List Entry) (boots : List BootRow) (code : Option Code) (raw : Option RawCode) → IsCodeAmong names entries boots code raw → IfSome code (IsCodeOver names)
  any_code_over entries boots None None is = tt
  any_code_over entries boots None (Some raw) is = absurd is
  any_code_over entries boots (Some code) None is = absurd is
  any_code_over entries boots (Some code) (Some raw) is = code_over entries boots code raw is
