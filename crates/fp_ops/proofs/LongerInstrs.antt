-- Instructions over a table of names that grows.
use Rattle.std.proofs.Common.{◌≡◌, ℕ, Bool, true, false, List, Option, Some, None, drop}
use Rattle.std.specs.Prelude.{slice_get}
use Rattle.fp_model.specs.declared.class.instr.Instr.{Instr}
use Rattle.fp_model.specs.declared.class.instr.Instr.TheVariants as instr
use Rattle.fp_model.specs.declared.class.instr.BootArg.{BootArg}
use Rattle.fp_model.specs.declared.class.instr.BootArg.TheVariants as arg
use Rattle.fp_model.specs.declared.class.instr.BootRef.{BootRef}
use Rattle.fp_model.specs.declared.kind.Kind.{Kind}
use Rattle.fp_model.specs.declared.kind.Kind.TheVariants as kind
use Rattle.fp_model.specs.declared.kind.Descr.{Descr}
use Rattle.fp_model.specs.declared.raw.attribute.BootRow.{BootRow}
use Rattle.fp_model.specs.declared.raw.attribute.RawIns.{RawIns}
use Rattle.fp_model.specs.declared.raw.pool.Entry.{Entry}
use Rattle.fp_model.specs.declared.raw.pool.Entry.TheVariants as entry
use Rattle.fp_model.specs.Descriptor.{is_array_like, IsDescrOf, IsKindOf}
use Rattle.fp_model.specs.Entries.{class_name_at, text_at}
use Rattle.fp_model.specs.NamedInstructions.{member_at, IsArrayInstr, IsCallAt, IsCallInstr, IsClassInstr, IsClassKindBy, IsFieldInstr, IsMember, IsMultiArrayInstr, IsNamedInstr, IsOf, MemberTexts}
use Rattle.fp_model.proofs.LongerTables.{descr_kept, IsKindOf-kept, Keeps}
use Rattle.fp_ops.specs.CallSites.{handle_with, site_at, HandleTexts, IsArgAt, IsArgOf, IsBootRef, IsHandleArg, IsSiteAt, IsSiteInstr, IsTypeArg, SiteTexts}
use Rattle.fp_ops.specs.Forms.{dims_in, index_in, IsInstrOf}
use Rattle.fp_ops.proofs.NamedParts.{AllZip-to}

-- what is there, with another property
IsOf-to : {A : Type 0} (P Q : A → Type 0) (o : Option A) → ((x : A) → P x → Q x) → IsOf P o → IsOf Q o
IsOf-to P Q None f is = is
IsOf-to P Q (Some x) f is = f x is

module _ (names longer : List (List ℕ)) (kept : Keeps names longer) where
  -- ---- members

  pub member_kept : (texts : MemberTexts) (class name descr : ℕ) → IsMember names texts class name descr → IsMember longer texts class name descr
  member_kept texts class name descr is = record {
    class_is = kept.stands class texts.class is.class_is;
    name_is = kept.stands name texts.name is.name_is;
    descr_is = kept.stands descr texts.descr is.descr_is;
  }

  access_kept : (op wanted : ℕ) (texts : MemberTexts) (class name descr : ℕ) (k : Kind) → (op ≡ wanted) × IsMember names texts class name descr × IsKindOf names texts.descr k → (op ≡ wanted) × IsMember longer texts class name descr × IsKindOf longer texts.descr k
  access_kept op wanted texts class name descr k is = (is.0, member_kept texts class name descr is.1, IsKindOf-kept names longer kept texts.descr k is.2)

  field_kept : (op : ℕ) (texts : MemberTexts) (i : Instr) → IsFieldInstr names op texts i → IsFieldInstr longer op texts i
  field_kept op texts (instr.GetStatic class name descr k) is = access_kept op 178 texts class name descr k is
  field_kept op texts (instr.PutStatic class name descr k) is = access_kept op 179 texts class name descr k is
  field_kept op texts (instr.GetField class name descr k) is = access_kept op 180 texts class name descr k is
  field_kept op texts (instr.PutField class name descr k) is = access_kept op 181 texts class name descr k is
  field_kept op texts _ is = absurd is

  invocation_kept : (op wanted : ℕ) (texts : MemberTexts) (class name descr : ℕ) (kinds : Descr) → (op ≡ wanted) × IsMember names texts class name descr × IsDescrOf names texts.descr kinds → (op ≡ wanted) × IsMember longer texts class name descr × IsDescrOf longer texts.descr kinds
  invocation_kept op wanted texts class name descr kinds is = (is.0, member_kept texts class name descr is.1, descr_kept names longer kept texts.descr kinds is.2)

  call_kept : (op : ℕ) (texts : MemberTexts) (i : Instr) → IsCallInstr names op texts i → IsCallInstr longer op texts i
  call_kept op texts (instr.InvokeVirtual class name descr kinds) is = invocation_kept op 182 texts class name descr kinds is
  call_kept op texts (instr.InvokeSpecial class name descr kinds) is = invocation_kept op 183 texts class name descr kinds is
  call_kept op texts (instr.InvokeStatic class name descr kinds) is = invocation_kept op 184 texts class name descr kinds is
  call_kept op texts (instr.InvokeInterface class name descr kinds) is = invocation_kept op 185 texts class name descr kinds is
  call_kept op texts _ is = absurd is

  -- ---- classes

  class_kept : (op : ℕ) (text : List ℕ) (i : Instr) → IsClassInstr names op text i → IsClassInstr longer op text i
  class_kept op text (instr.New class) is = (is.0, kept.stands class text is.1)
  class_kept op text (instr.CheckCast class) is = (is.0, kept.stands class text is.1)
  class_kept op text (instr.InstanceOf class) is = (is.0, kept.stands class text is.1)
  class_kept op text _ is = absurd is

  kind_by_kept : (is_array : Bool) (text : List ℕ) (k : Kind) → IsClassKindBy is_array names text k → IsClassKindBy is_array longer text k
  kind_by_kept true text k is = IsKindOf-kept names longer kept text k is
  kind_by_kept false text (kind.Class name) is = kept.stands name text is
  kind_by_kept false text _ is = absurd is

  array_kept : (text : List ℕ) (i : Instr) → IsArrayInstr names text i → IsArrayInstr longer text i
  array_kept text (instr.NewArray dims element) is = (is.0, kind_by_kept (is_array_like text) text element is.1)
  array_kept text _ is = absurd is

  multi_array_kept : (dims : ℕ) (text : List ℕ) (i : Instr) → IsMultiArrayInstr names dims text i → IsMultiArrayInstr longer dims text i
  multi_array_kept dims text (instr.NewArray made element) is = (is.0, IsKindOf-kept names longer kept (drop 1 text) element is.1)
  multi_array_kept dims text _ is = absurd is

  named_kept : (entries : List Entry) (op index dims : ℕ) (i : Instr) → IsNamedInstr names entries op index dims i → IsNamedInstr longer entries op index dims i
  named_kept entries op index dims i is = record {
    field = λ e. IsOf-to (λ texts. IsFieldInstr names op texts i) (λ texts. IsFieldInstr longer op texts i) (member_at entries index) (λ texts is. field_kept op texts i is) (is.field e);
    class = λ e. IsOf-to (λ text. IsClassInstr names op text i) (λ text. IsClassInstr longer op text i) (class_name_at entries index) (λ text is. class_kept op text i is) (is.class e);
    array = λ e. IsOf-to (λ text. IsArrayInstr names text i) (λ text. IsArrayInstr longer text i) (class_name_at entries index) (λ text is. array_kept text i is) (is.array e);
    multi_array = λ e. IsOf-to (λ text. IsMultiArrayInstr names dims text i) (λ text. IsMultiArrayInstr longer dims text i) (class_name_at entries index) (λ text is. multi_array_kept dims text i is) (is.multi_array e);
  }

  -- ---- call sites

  pub reference_kept : (handle : HandleTexts) (r : BootRef) → IsBootRef names handle r → IsBootRef longer handle r
  reference_kept handle r is = record { kind_is = is.kind_is; member_is = member_kept handle.member r.class r.name r.descr is.member_is }

  type_arg_kept : (a : BootArg) (text : List ℕ) → IsTypeArg names text a → IsTypeArg longer text a
  type_arg_kept (arg.Sig kinds) text is = descr_kept names longer kept text kinds is
  type_arg_kept _ text is = absurd is

  handle_arg_kept : (a : BootArg) (handle : HandleTexts) → IsHandleArg names handle a → IsHandleArg longer handle a
  handle_arg_kept (arg.Ref r) handle is = reference_kept handle r is
  handle_arg_kept _ handle is = absurd is

  pub arg_kept : (entries : List Entry) (e : Option Entry) (a : BootArg) → IsArgOf names entries e a → IsArgOf longer entries e a
  arg_kept entries (Some (entry.MethodType descr)) a is = IsOf-to (λ text. IsTypeArg names text a) (λ text. IsTypeArg longer text a) (text_at entries descr) (λ text is. type_arg_kept a text is) is
  arg_kept entries (Some (entry.Handle kind index)) a is = IsOf-to (λ handle. IsHandleArg names handle a) (λ handle. IsHandleArg longer handle a) (handle_with kind (member_at entries index)) (λ handle is. handle_arg_kept a handle is) is
  arg_kept entries _ a is = is

  site_instr_kept : (entries : List Entry) (site : SiteTexts) (i : Instr) → IsSiteInstr names entries site i → IsSiteInstr longer entries site i
  site_instr_kept entries site (instr.InvokeDynamic name descr boot args) is = (
    kept.stands name site.name is.0,
    descr_kept names longer kept site.descr descr is.1,
    reference_kept site.method boot is.2,
    AllZip-to (IsArgAt names entries) (IsArgAt longer entries) site.args args (λ index a one. arg_kept entries (slice_get entries index) a one) is.3,
  )
  site_instr_kept entries site _ is = absurd is

  -- ---- any instruction

  pub IsInstrOf-kept : (entries : List Entry) (boots : List BootRow) (pc : ℕ) (ins : RawIns) (i : Instr) → IsInstrOf names entries boots pc ins i → IsInstrOf longer entries boots pc ins i
  IsInstrOf-kept entries boots pc ins i is = record {
    named = λ e. IsOf-to (λ index. IsNamedInstr names entries ins.op index (dims_in ins) i) (λ index. IsNamedInstr longer entries ins.op index (dims_in ins) i) (index_in ins) (λ index is. named_kept entries ins.op index (dims_in ins) i is) (is.named e);
    call = λ e. IsOf-to (λ index. IsCallAt names entries ins.op index i) (λ index. IsCallAt longer entries ins.op index i) (index_in ins) (λ index is. IsOf-to (λ texts. IsCallInstr names ins.op texts i) (λ texts. IsCallInstr longer ins.op texts i) (member_at entries index) (λ texts is. call_kept ins.op texts i is) is) (is.call e);
    site = λ e. IsOf-to (λ index. IsSiteAt names entries boots index i) (λ index. IsSiteAt longer entries boots index i) (index_in ins) (λ index is. IsOf-to (λ site. IsSiteInstr names entries site i) (λ site. IsSiteInstr longer entries site i) (site_at entries boots index) (λ site is. site_instr_kept entries site i is) is) (is.site e);
    plain = is.plain;
  }
