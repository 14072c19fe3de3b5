-- The instructions of a code, and the code, are determined over a table of distinct names.
use Rattle.std.proofs.Common.{◌≡◌, ℕ, ◌+◌, Bool, true, false, ◌||◌, List, [], ◌∷◌, Option, Some, None, length, drop, map, refl, sym, ap, ap₂, ◌∙◌}
use Rattle.std.specs.Prelude.{◌==◌, slice_get, unwrap_or, option_and_then, option_map}
use Rattle.std.specs.List.{AllZip}
use Rattle.std.proofs.lemmas.Bool.{cond_both, eqb-true}
use Rattle.std.proofs.lemmas.Slice.Zip.{AllZip-map}
use Rattle.fp_base.specs.Names.{number_of, AreDistinct}
use Rattle.fp_base.proofs.NameLemmas.{number_of-at}
use Rattle.fp_model.specs.declared.class.Code.{Code}
use Rattle.fp_model.specs.declared.class.Guard.{Guard}
use Rattle.fp_model.specs.declared.class.instr.BootArg.{BootArg}
use Rattle.fp_model.specs.declared.class.instr.BootArg.TheVariants as arg
use Rattle.fp_model.specs.declared.class.instr.BootRef.{BootRef}
use Rattle.fp_model.specs.declared.class.instr.Instr.{Instr}
use Rattle.fp_model.specs.declared.class.instr.Instr.TheVariants as instr
use Rattle.fp_model.specs.declared.kind.Descr.{Descr}
use Rattle.fp_model.specs.declared.kind.Kind.{Kind}
use Rattle.fp_model.specs.declared.kind.Kind.TheVariants as kind
use Rattle.fp_model.specs.declared.raw.attribute.BootRow.{BootRow}
use Rattle.fp_model.specs.declared.raw.attribute.CatchRow.{CatchRow}
use Rattle.fp_model.specs.declared.raw.attribute.RawCode.{RawCode, out-RawCode}
use Rattle.fp_model.specs.declared.raw.attribute.RawIns.{RawIns}
use Rattle.fp_model.specs.declared.raw.pool.Entry.{Entry}
use Rattle.fp_model.specs.declared.raw.pool.Entry.TheVariants as entry
use Rattle.fp_model.specs.Descriptor.{is_array_like, IsDescrOf, IsKindOf}
use Rattle.fp_model.specs.Entries.{class_name_at, text_at}
use Rattle.fp_model.specs.Kinds.{kind_in}
use Rattle.fp_model.specs.NamedInstructions.{is_call_op, is_class_op, is_field_op, member_at, IsArrayInstr, IsCallAt, IsCallInstr, IsClassInstr, IsClassKindBy, IsFieldInstr, IsMember, IsMultiArrayInstr, IsNamedInstr, IsOf, MemberTexts}
use Rattle.fp_model.specs.Spelling.{spelled_ins}
use Rattle.fp_ops.specs.CallSites.{handle_with, site_at, HandleTexts, IsArgAt, IsArgOf, IsBootRef, IsHandleArg, IsSiteAt, IsSiteInstr, IsTypeArg, SiteTexts}
use Rattle.fp_ops.specs.Forms.{dims_in, index_in, is_named_op, is_site_op, IsInstrOf}
use Rattle.fp_class.specs.CodeNumbers.{boot_arg_in, boot_arg_of, boot_ref_in, call_instr_in, class_instr_in, class_kind_in, code_in, descr_in, field_instr_in, guard_in, instr_in, instr_there, instrs_from, named_instr_in, site_instr_in}
use Rattle.fp_class.specs.Interning.{IsParentName}
use Rattle.fp_class.specs.MethodCode.{AreInstrsFrom, IsCodeOf, IsGuardOf}
use Rattle.fp_class.proofs.NamedParts.{AllZip-to}
use Rattle.fp_class.proofs.OneDescr.{descr_said, kind_said}

-- ---- what is there

there : {A B : Type 0} (P : A → Type 0) (f : A → B) (b : B) (o : Option A) → ((x : A) → P x → b ≡ f x) → IsOf P o → option_map f o ≡ Some b
there P f b None said is = absurd is
there P f b (Some x) said is = ap Some (sym (said x is))

behind : {A B : Type 0} (P : A → Type 0) (f : A → Option B) (b : B) (o : Option A) → ((x : A) → P x → f x ≡ Some b) → IsOf P o → option_and_then f o ≡ Some b
behind P f b None said is = absurd is
behind P f b (Some x) said is = said x is

given : {A B : Type 0} (P : A → Type 0) (f : A → B) (b other : B) (o : Option A) → ((x : A) → P x → b ≡ f x) → IsOf P o → b ≡ unwrap_or (option_map f o) other
given P f b other None said is = absurd is
given P f b other (Some x) said is = said x is

-- ---- the last of four, and none of three

last_of : (a b c d : Bool) → (a || (b || (c || d))) ≡ true → a ≡ false → b ≡ false → c ≡ false → d ≡ true
last_of a b c d some not_a not_b not_c = sym (rw (not_a, not_b, not_c) refl) ∙ some

none_of : (a b c : Bool) → a ≡ false → b ≡ false → c ≡ false → (a || (b || c)) ≡ false
none_of a b c not_a not_b not_c = rw (not_a, not_b) not_c

module _ (names : List (List ℕ)) (distinct : AreDistinct names) where
  number_at : (n : ℕ) (text : List ℕ) → slice_get names n ≡ Some text → n ≡ number_of names text
  number_at n text at = sym (number_of-at names n text distinct at)

  -- ---- members

  -- what is made of a member's numbers and of what its descriptor says
  member_said : {X : Type 0} (make : ℕ → ℕ → ℕ → X → Instr) (texts : MemberTexts) (class name descr : ℕ) (x y : X) → IsMember names texts class name descr → x ≡ y → make class name descr x ≡ make (number_of names texts.class) (number_of names texts.name) (number_of names texts.descr) y
  member_said make texts class name descr x y is same =
      ap (λ n. make n name descr x) (number_at class texts.class is.class_is)
      ∙ ap (λ n. make (number_of names texts.class) n descr x) (number_at name texts.name is.name_is)
      ∙ ap (λ n. make (number_of names texts.class) (number_of names texts.name) n x) (number_at descr texts.descr is.descr_is)
      ∙ ap (make (number_of names texts.class) (number_of names texts.name) (number_of names texts.descr)) same

  access_made : (make : ℕ → ℕ → ℕ → Kind → Instr) (texts : MemberTexts) (class name descr : ℕ) (k : Kind) → IsMember names texts class name descr → IsKindOf names texts.descr k → make class name descr k ≡ make (number_of names texts.class) (number_of names texts.name) (number_of names texts.descr) (kind_in names texts.descr)
  access_made make texts class name descr k is kind_is = member_said make texts class name descr k (kind_in names texts.descr) is (kind_said names texts.descr k distinct kind_is)

  access_said : (op : ℕ) (texts : MemberTexts) (i : Instr) → IsFieldInstr names op texts i → i ≡ field_instr_in names op texts
  access_said op texts (instr.GetStatic class name descr k) is = access_made instr.GetStatic texts class name descr k is.1 is.2 ∙ ap (λ op. field_instr_in names op texts) (sym is.0)
  access_said op texts (instr.PutStatic class name descr k) is = access_made instr.PutStatic texts class name descr k is.1 is.2 ∙ ap (λ op. field_instr_in names op texts) (sym is.0)
  access_said op texts (instr.GetField class name descr k) is = access_made instr.GetField texts class name descr k is.1 is.2 ∙ ap (λ op. field_instr_in names op texts) (sym is.0)
  access_said op texts (instr.PutField class name descr k) is = access_made instr.PutField texts class name descr k is.1 is.2 ∙ ap (λ op. field_instr_in names op texts) (sym is.0)
  access_said op texts _ is = absurd is

  call_made : (make : ℕ → ℕ → ℕ → Descr → Instr) (texts : MemberTexts) (class name descr : ℕ) (kinds : Descr) → IsMember names texts class name descr → IsDescrOf names texts.descr kinds → make class name descr kinds ≡ make (number_of names texts.class) (number_of names texts.name) (number_of names texts.descr) (descr_in names texts.descr)
  call_made make texts class name descr kinds is kinds_are = member_said make texts class name descr kinds (descr_in names texts.descr) is (descr_said names texts.descr kinds distinct kinds_are)

  call_said : (op : ℕ) (texts : MemberTexts) (i : Instr) → IsCallInstr names op texts i → i ≡ call_instr_in names op texts
  call_said op texts (instr.InvokeVirtual class name descr kinds) is = call_made instr.InvokeVirtual texts class name descr kinds is.1 is.2 ∙ ap (λ op. call_instr_in names op texts) (sym is.0)
  call_said op texts (instr.InvokeSpecial class name descr kinds) is = call_made instr.InvokeSpecial texts class name descr kinds is.1 is.2 ∙ ap (λ op. call_instr_in names op texts) (sym is.0)
  call_said op texts (instr.InvokeStatic class name descr kinds) is = call_made instr.InvokeStatic texts class name descr kinds is.1 is.2 ∙ ap (λ op. call_instr_in names op texts) (sym is.0)
  call_said op texts (instr.InvokeInterface class name descr kinds) is = call_made instr.InvokeInterface texts class name descr kinds is.1 is.2 ∙ ap (λ op. call_instr_in names op texts) (sym is.0)
  call_said op texts _ is = absurd is

  -- ---- classes

  class_said : (op : ℕ) (text : List ℕ) (i : Instr) → IsClassInstr names op text i → i ≡ class_instr_in names op text
  class_said op text (instr.New class) is = ap instr.New (number_at class text is.1) ∙ ap (λ op. class_instr_in names op text) (sym is.0)
  class_said op text (instr.CheckCast class) is = ap instr.CheckCast (number_at class text is.1) ∙ ap (λ op. class_instr_in names op text) (sym is.0)
  class_said op text (instr.InstanceOf class) is = ap instr.InstanceOf (number_at class text is.1) ∙ ap (λ op. class_instr_in names op text) (sym is.0)
  class_said op text _ is = absurd is

  element_said : (text : List ℕ) (k : Kind) (is_array : Bool) → is_array_like text ≡ is_array → IsClassKindBy is_array names text k → k ≡ class_kind_in names text
  element_said text k true array is = kind_said names text k distinct is ∙ sym (rw array refl)
  element_said text (kind.Class name) false array is = ap kind.Class (number_at name text is) ∙ sym (rw array refl)
  element_said text _ false array is = absurd is

  array_said : (text : List ℕ) (i : Instr) → IsArrayInstr names text i → i ≡ instr.NewArray 1 (class_kind_in names text)
  array_said text (instr.NewArray dims element) is = ap₂ instr.NewArray is.0 (element_said text element (is_array_like text) refl is.1)
  array_said text _ is = absurd is

  multi_array_said : (wanted : ℕ) (text : List ℕ) (i : Instr) → IsMultiArrayInstr names wanted text i → i ≡ instr.NewArray wanted (kind_in names (drop 1 text))
  multi_array_said wanted text (instr.NewArray dims element) is = ap₂ instr.NewArray is.0 (kind_said names (drop 1 text) element distinct is.1)
  multi_array_said wanted text _ is = absurd is

  -- ---- instructions that take names, but for calls

  module _ (entries : List Entry) (op index dims : ℕ) (i : Instr) (is : IsNamedInstr names entries op index dims i) where
    access_there : is_field_op op ≡ true → option_map (field_instr_in names op) (member_at entries index) ≡ Some i
    access_there e = there (λ texts. IsFieldInstr names op texts i) (field_instr_in names op) i (member_at entries index) (λ texts is. access_said op texts i is) (is.field e)

    class_there : is_class_op op ≡ true → option_map (class_instr_in names op) (class_name_at entries index) ≡ Some i
    class_there e = there (λ text. IsClassInstr names op text i) (class_instr_in names op) i (class_name_at entries index) (λ text is. class_said op text i is) (is.class e)

    array_there : op ≡ 189 → option_map (λ text. instr.NewArray 1 (class_kind_in names text)) (class_name_at entries index) ≡ Some i
    array_there e = there (λ text. IsArrayInstr names text i) (λ text. instr.NewArray 1 (class_kind_in names text)) i (class_name_at entries index) (λ text is. array_said text i is) (is.array e)

    multi_array_there : op ≡ 197 → option_map (λ text. instr.NewArray dims (kind_in names (drop 1 text))) (class_name_at entries index) ≡ Some i
    multi_array_there e = there (λ text. IsMultiArrayInstr names dims text i) (λ text. instr.NewArray dims (kind_in names (drop 1 text))) i (class_name_at entries index) (λ text is. multi_array_said dims text i is) (is.multi_array e)

    named_said : is_named_op op ≡ true → named_instr_in names entries op index dims ≡ Some i
    named_said named =
        cond_both (is_field_op op) _ _ (λ o. o ≡ Some i) access_there
        (λ no_field. cond_both (is_class_op op) _ _ (λ o. o ≡ Some i) class_there
        (λ no_class. cond_both (op == 189) _ _ (λ o. o ≡ Some i) (λ e. array_there (eqb-true op 189 e))
        (λ no_array. multi_array_there (eqb-true op 197 (last_of (is_field_op op) (is_class_op op) (op == 189) (op == 197) named no_field no_class no_array)))))

  -- ---- call sites

  reference_by_parts : (r : BootRef) (kind class name descr : ℕ) → r.kind ≡ kind → r.class ≡ class → r.name ≡ name → r.descr ≡ descr → r ≡ record { kind = kind; class = class; name = name; descr = descr }
  reference_by_parts r kind class name descr k c n d =
      ap (λ k. record { kind = k; class = r.class; name = r.name; descr = r.descr }) k
      ∙ ap (λ c. record { kind = kind; class = c; name = r.name; descr = r.descr }) c
      ∙ ap (λ n. record { kind = kind; class = class; name = n; descr = r.descr }) n
      ∙ ap (λ d. record { kind = kind; class = class; name = name; descr = d }) d

  reference_said : (handle : HandleTexts) (r : BootRef) → IsBootRef names handle r → r ≡ boot_ref_in names handle
  reference_said handle r is =
      reference_by_parts r handle.kind (number_of names handle.member.class) (number_of names handle.member.name) (number_of names handle.member.descr)
      is.kind_is
      (number_at r.class handle.member.class is.member_is.class_is)
      (number_at r.name handle.member.name is.member_is.name_is)
      (number_at r.descr handle.member.descr is.member_is.descr_is)

  type_arg_said : (a : BootArg) (text : List ℕ) → IsTypeArg names text a → a ≡ arg.Sig (descr_in names text)
  type_arg_said (arg.Sig kinds) text is = ap arg.Sig (descr_said names text kinds distinct is)
  type_arg_said _ text is = absurd is

  handle_arg_said : (a : BootArg) (handle : HandleTexts) → IsHandleArg names handle a → a ≡ arg.Ref (boot_ref_in names handle)
  handle_arg_said (arg.Ref r) handle is = ap arg.Ref (reference_said handle r is)
  handle_arg_said _ handle is = absurd is

  arg_said : (entries : List Entry) (e : Option Entry) (a : BootArg) → IsArgOf names entries e a → a ≡ boot_arg_of names entries e
  arg_said entries (Some (entry.MethodType descr)) a is = given (λ text. IsTypeArg names text a) (λ text. arg.Sig (descr_in names text)) a arg.Other (text_at entries descr) (λ text is. type_arg_said a text is) is
  arg_said entries (Some (entry.Handle kind index)) a is = given (λ handle. IsHandleArg names handle a) (λ handle. arg.Ref (boot_ref_in names handle)) a arg.Other (handle_with kind (member_at entries index)) (λ handle is. handle_arg_said a handle is) is
  arg_said entries _ a is = is

  args_said : (entries : List Entry) (indexes : List ℕ) (args : List BootArg) → AllZip (IsArgAt names entries) indexes args → args ≡ map (boot_arg_in names entries) indexes
  args_said entries indexes args all =
      AllZip-map (boot_arg_in names entries) indexes args
      (AllZip-to (IsArgAt names entries) (λ index a. a ≡ boot_arg_in names entries index) indexes args (λ index a is. arg_said entries (slice_get entries index) a is) all)

  site_said : (entries : List Entry) (site : SiteTexts) (i : Instr) → IsSiteInstr names entries site i → i ≡ site_instr_in names entries site
  site_said entries site (instr.InvokeDynamic name descr boot args) is =
      ap (λ n. instr.InvokeDynamic n descr boot args) (number_at name site.name is.0)
      ∙ ap (λ d. instr.InvokeDynamic (number_of names site.name) d boot args) (descr_said names site.descr descr distinct is.1)
      ∙ ap (λ b. instr.InvokeDynamic (number_of names site.name) (descr_in names site.descr) b args) (reference_said site.method boot is.2)
      ∙ ap (instr.InvokeDynamic (number_of names site.name) (descr_in names site.descr) (boot_ref_in names site.method)) (args_said entries site.args args is.3)
  site_said entries site _ is = absurd is

  -- ---- any instruction

  module _ (entries : List Entry) (boots : List BootRow) (pc : ℕ) (ins : RawIns) (i : Instr) (is : IsInstrOf names entries boots pc ins i) where
    named_there : is_named_op ins.op ≡ true → option_and_then (λ index. named_instr_in names entries ins.op index (dims_in ins)) (index_in ins) ≡ Some i
    named_there e =
        behind (λ index. IsNamedInstr names entries ins.op index (dims_in ins) i) (λ index. named_instr_in names entries ins.op index (dims_in ins)) i (index_in ins)
        (λ index is. named_said entries ins.op index (dims_in ins) i is e)
        (is.named e)

    call_there : is_call_op ins.op ≡ true → option_and_then (λ index. option_map (call_instr_in names ins.op) (member_at entries index)) (index_in ins) ≡ Some i
    call_there e =
        behind (λ index. IsCallAt names entries ins.op index i) (λ index. option_map (call_instr_in names ins.op) (member_at entries index)) i (index_in ins)
        (λ index is. there (λ texts. IsCallInstr names ins.op texts i) (call_instr_in names ins.op) i (member_at entries index) (λ texts is. call_said ins.op texts i is) is)
        (is.call e)

    site_there : is_site_op ins.op ≡ true → option_and_then (λ index. option_map (site_instr_in names entries) (site_at entries boots index)) (index_in ins) ≡ Some i
    site_there e =
        behind (λ index. IsSiteAt names entries boots index i) (λ index. option_map (site_instr_in names entries) (site_at entries boots index)) i (index_in ins)
        (λ index is. there (λ site. IsSiteInstr names entries site i) (site_instr_in names entries) i (site_at entries boots index) (λ site is. site_said entries site i is) is)
        (is.site e)

    any_there : instr_there names entries boots pc ins ≡ Some i
    any_there =
        cond_both (is_named_op ins.op) _ _ (λ o. o ≡ Some i) named_there
        (λ no_name. cond_both (is_call_op ins.op) _ _ (λ o. o ≡ Some i) call_there
        (λ no_call. cond_both (is_site_op ins.op) _ _ (λ o. o ≡ Some i) site_there
        (λ no_site. is.plain (none_of (is_named_op ins.op) (is_call_op ins.op) (is_site_op ins.op) no_name no_call no_site))))

    instr_said : i ≡ instr_in names entries boots pc ins
    instr_said = ap (λ o. unwrap_or o instr.Nop) (sym any_there)

  instrs_said : (entries : List Entry) (boots : List BootRow) (pc : ℕ) (instrs : List (ℕ × Instr)) (code : List RawIns) → AreInstrsFrom names entries boots pc instrs code → instrs ≡ instrs_from names entries boots pc code
  unfolding instrs_from
  instrs_said entries boots pc [] [] all = refl
  instrs_said entries boots pc [] (ins ∷ code) all = absurd all
  instrs_said entries boots pc (x ∷ instrs) [] all = absurd all
  instrs_said entries boots pc (x ∷ instrs) (ins ∷ code) all =
      ap₂ (λ y ys. y ∷ ys)
      (ap₂ (λ p i. (p, i)) all.0 (instr_said entries boots pc ins x.1 all.1))
      (instrs_said entries boots (pc + length (spelled_ins ins)) instrs code all.2)

  -- ---- rows

  caught_said : (entries : List Entry) (class : Option ℕ) (index : ℕ) → IsParentName names entries class index → class ≡ option_map (number_of names) (class_name_at entries index)
  caught_said entries None index is = ap (option_map (number_of names)) (sym is)
  caught_said entries (Some n) index is = ap Some (number_at n is.text is.number) ∙ ap (option_map (number_of names)) (sym is.name)

  guard_by_parts : (g : Guard) (start end handler : ℕ) (class : Option ℕ) → g.start ≡ start → g.end ≡ end → g.handler ≡ handler → g.class ≡ class → g ≡ record { start = start; end = end; handler = handler; class = class }
  guard_by_parts g start end handler class s e h c =
      ap (λ s. record { start = s; end = g.end; handler = g.handler; class = g.class }) s
      ∙ ap (λ e. record { start = start; end = e; handler = g.handler; class = g.class }) e
      ∙ ap (λ h. record { start = start; end = end; handler = h; class = g.class }) h
      ∙ ap (λ c. record { start = start; end = end; handler = handler; class = c }) c

  guard_said : (entries : List Entry) (g : Guard) (row : CatchRow) → IsGuardOf names entries g row → g ≡ guard_in names entries row
  guard_said entries g row is =
      guard_by_parts g row.start row.end row.handler (option_map (number_of names) (class_name_at entries row.class)) is.start is.end is.handler (caught_said entries g.class row.class is.class)

  guards_said : (entries : List Entry) (guards : List Guard) (rows : List CatchRow) → AllZip (IsGuardOf names entries) guards rows → guards ≡ map (guard_in names entries) rows
  guards_said entries [] [] all = refl
  guards_said entries [] (row ∷ rows) all = absurd all
  guards_said entries (g ∷ guards) [] all = absurd all
  guards_said entries (g ∷ guards) (row ∷ rows) all = ap₂ (λ x xs. x ∷ xs) (guard_said entries g row all.0) (guards_said entries guards rows all.1)

  -- ---- the code

  code_by_parts : (c : Code) (instrs : List (ℕ × Instr)) (rows : List Guard) (max_stack max_locals : ℕ) → c.instrs ≡ instrs → c.rows ≡ rows → c.max_stack ≡ max_stack → c.max_locals ≡ max_locals → c ≡ record { instrs = instrs; rows = rows; max_stack = max_stack; max_locals = max_locals }
  code_by_parts c instrs rows max_stack max_locals i r s l =
      ap (λ i. record { instrs = i; rows = c.rows; max_stack = c.max_stack; max_locals = c.max_locals }) i
      ∙ ap (λ r. record { instrs = instrs; rows = r; max_stack = c.max_stack; max_locals = c.max_locals }) r
      ∙ ap (λ s. record { instrs = instrs; rows = rows; max_stack = s; max_locals = c.max_locals }) s
      ∙ ap (λ l. record { instrs = instrs; rows = rows; max_stack = max_stack; max_locals = l }) l

  pub code_said : (entries : List Entry) (boots : List BootRow) (c : Code) (raw : RawCode) → IsCodeOf names entries boots c raw → c ≡ code_in names entries boots raw
  code_said entries boots c raw is =
      code_by_parts c (instrs_from names entries boots 0 (out-RawCode raw).code) (map (guard_in names entries) (out-RawCode raw).rows) (out-RawCode raw).max_stack (out-RawCode raw).max_locals
      (instrs_said entries boots 0 c.instrs (out-RawCode raw).code is.instrs)
      (guards_said entries c.rows (out-RawCode raw).rows is.rows)
      is.max_stack
      is.max_locals
