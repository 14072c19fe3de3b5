-- The class of a file, over a longer table of names.
use Rattle.std.proofs.Common.{◌≡◌, ℕ, ◌<◌, List, [], ◌∷◌, ◌++◌, Option, Some, None, length, map, sym, ap₂, ◌∙◌, subst, refl}
use Rattle.std.specs.Prelude.{slice_get, option_and_then, IfSome, All}
use Rattle.std.specs.List.{AllZip}
use Rattle.std.proofs.lemmas.List.Elements.{All-head, All-tail, All-weaker}
use Rattle.fp_model.specs.declared.class.Code.{Code}
use Rattle.fp_model.specs.declared.class.Class.{Class}
use Rattle.fp_model.specs.declared.class.Field.{Field}
use Rattle.fp_model.specs.declared.class.Method.{Method}
use Rattle.fp_model.specs.declared.raw.Raw.{Raw}
use Rattle.fp_model.specs.declared.raw.RawMember.{RawMember}
use Rattle.fp_model.specs.declared.raw.attribute.BootRow.{BootRow}
use Rattle.fp_model.specs.declared.raw.attribute.RawCode.{RawCode, out-RawCode}
use Rattle.fp_model.specs.declared.raw.pool.Entry.{Entry}
use Rattle.fp_model.specs.Descriptor.{text_of, IsDescrOf, IsKindOf}
use Rattle.fp_model.specs.ClassSet.{IsClassOver, IsFieldOver, IsMethodOver}
use Rattle.fp_model.proofs.LongerCodes.{any_code_kept}
use Rattle.fp_model.proofs.LongerTables.{descr_kept, same_at, text_same, within_kept, IsKindOf-kept, Keeps}
use Rattle.fp_class.specs.ClassFile.{boots_of}
use Rattle.fp_class.specs.Classes.{IsClassOf, IsCodeAmong, IsFieldOf, IsMethodOf}
use Rattle.fp_class.specs.MethodCode.{IsGuardOf}
use Rattle.fp_class.specs.Methods.{code_of}
use Rattle.fp_class.proofs.LongerInstrs.{AreInstrsFrom-kept}
use Rattle.fp_class.proofs.NamedCode.{IsGuardOf-kept}
use Rattle.fp_class.proofs.NamedParts.{AllZip-more, AllZip-to}

module _ (names longer : List (List ℕ)) (kept : Keeps names longer) where
  -- ---- numbers

  parent_over : (parent : Option ℕ) → IfSome parent (λ n. n < length names) → IfSome parent (λ n. n < length longer)
  parent_over None within = tt
  parent_over (Some n) within = within_kept names longer kept n within

  parent_same : (parent : Option ℕ) → IfSome parent (λ n. n < length names) → option_and_then (slice_get longer) parent ≡ option_and_then (slice_get names) parent
  parent_same None within = refl
  parent_same (Some n) within = same_at names longer kept n within

  all_same : (numbers : List ℕ) → All (λ n. n < length names) numbers → map (slice_get longer) numbers ≡ map (slice_get names) numbers
  all_same [] within = refl
  all_same (n ∷ numbers) within =
      ap₂ (λ x xs. x ∷ xs) (same_at names longer kept n (All-head (λ n. n < length names) n numbers within)) (all_same numbers (All-tail (λ n. n < length names) n numbers within))

  -- ---- fields

  field_over : (f : Field) → IsFieldOver names f → IsFieldOver longer f
  field_over f over = record {
    name = within_kept names longer kept f.name over.name;
    descr = within_kept names longer kept f.descr over.descr;
    kind = subst (λ t. IsKindOf longer t f.kind) (sym (text_same names longer kept f.descr over.descr)) (IsKindOf-kept names longer kept (text_of names f.descr) f.kind over.kind);
  }

  fields_of : (entries : List Entry) (fields : List Field) (members : List RawMember) → All (IsFieldOver names) fields → AllZip (IsFieldOf names entries) fields members → AllZip (IsFieldOf longer entries) fields members
  fields_of entries [] [] over all = tt
  fields_of entries [] (m ∷ members) over all = absurd all
  fields_of entries (f ∷ fields) [] over all = absurd all
  fields_of entries (f ∷ fields) (m ∷ members) over all =
      let one = All-head (IsFieldOver names) f fields over in (
        record {
          flags = all.0.flags;
          name = same_at names longer kept f.name one.name ∙ all.0.name;
          descr = same_at names longer kept f.descr one.descr ∙ all.0.descr;
        },
        fields_of entries fields members (All-tail (IsFieldOver names) f fields over) all.1,
      )

  -- ---- methods

  method_over : (m : Method) → IsMethodOver names m → IsMethodOver longer m
  method_over m over = record {
    name = within_kept names longer kept m.name over.name;
    descr = within_kept names longer kept m.descr over.descr;
    kinds = subst (λ t. IsDescrOf longer t m.kinds) (sym (text_same names longer kept m.descr over.descr)) (descr_kept names longer kept (text_of names m.descr) m.kinds over.kinds);
    code = any_code_kept names longer kept m.code over.code;
  }

  code_kept : (entries : List Entry) (boots : List BootRow) (code : Option Code) (raw : Option RawCode) → IsCodeAmong names entries boots code raw → IsCodeAmong longer entries boots code raw
  code_kept entries boots None None is = tt
  code_kept entries boots None (Some raw) is = absurd is
  code_kept entries boots (Some code) None is = absurd is
  code_kept entries boots (Some code) (Some raw) is = record {
    max_stack = is.max_stack;
    max_locals = is.max_locals;
    instrs = AreInstrsFrom-kept names longer kept entries boots 0 code.instrs (out-RawCode raw).code is.instrs;
    rows = AllZip-to (IsGuardOf names entries) (IsGuardOf longer entries) code.rows (out-RawCode raw).rows (λ g row one. IsGuardOf-kept names longer entries g row kept one) is.rows;
  }

  methods_of : (entries : List Entry) (boots : List BootRow) (methods : List Method) (members : List RawMember) → All (IsMethodOver names) methods → AllZip (IsMethodOf names entries boots) methods members → AllZip (IsMethodOf longer entries boots) methods members
  methods_of entries boots [] [] over all = tt
  methods_of entries boots [] (m ∷ members) over all = absurd all
  methods_of entries boots (m ∷ methods) [] over all = absurd all
  methods_of entries boots (m ∷ methods) (member ∷ members) over all =
      let one = All-head (IsMethodOver names) m methods over in (
        record {
          flags = all.0.flags;
          name = same_at names longer kept m.name one.name ∙ all.0.name;
          descr = same_at names longer kept m.descr one.descr ∙ all.0.descr;
          code = code_kept entries boots m.code (code_of member.attributes) all.0.code;
        },
        methods_of entries boots methods members (All-tail (IsMethodOver names) m methods over) all.1,
      )

  -- ---- the class

  class_over : (c : Class) → IsClassOver names c → IsClassOver longer c
  class_over c over = record {
    name = within_kept names longer kept c.name over.name;
    parent = parent_over c.parent over.parent;
    interfaces = All-weaker (λ n. n < length names) (λ n. n < length longer) (λ n within. within_kept names longer kept n within) c.interfaces over.interfaces;
    fields = All-weaker (IsFieldOver names) (IsFieldOver longer) (λ f one. field_over f one) c.fields over.fields;
    methods = All-weaker (IsMethodOver names) (IsMethodOver longer) (λ m one. method_over m one) c.methods over.methods;
  }

  pub IsClassOf-kept : (c : Class) (raw : Raw) → IsClassOf names c raw → IsClassOf longer c raw
  IsClassOf-kept c raw is = record {
    over = class_over c is.over;
    flags = is.flags;
    name = same_at names longer kept c.name is.over.name ∙ is.name;
    parent = parent_same c.parent is.over.parent ∙ is.parent;
    interfaces = all_same c.interfaces is.over.interfaces ∙ is.interfaces;
    fields = fields_of raw.pool.entries c.fields raw.fields is.over.fields is.fields;
    methods = methods_of raw.pool.entries (boots_of raw.attributes) c.methods raw.methods is.over.methods is.methods;
  }

  -- ---- the classes of files

  pub classes_kept : (classes : List Class) (raws : List Raw) → AllZip (IsClassOf names) classes raws → AllZip (IsClassOf longer) classes raws
  classes_kept classes raws all = AllZip-to (IsClassOf names) (IsClassOf longer) classes raws (λ c raw is. IsClassOf-kept c raw is) all

  -- one more
  pub classes_more : (classes : List Class) (raws : List Raw) (c : Class) (raw : Raw) → AllZip (IsClassOf names) classes raws → IsClassOf longer c raw → AllZip (IsClassOf longer) (classes ++ c ∷ []) (raws ++ raw ∷ [])
  classes_more classes raws c raw all is = AllZip-more (IsClassOf longer) classes raws c raw (classes_kept classes raws all) is
