-- The methods of a class in numbers of a table of names.
use Rattle.std.proofs.Common.{◌≡◌, ℕ, true, List, [], Option, Some, None, refl, sym, ap, ◌∙◌, subst}
use Rattle.std.specs.List.{slice_get}
use Rattle.std.specs.Option.{unwrap_or}
use Rattle.fp_model.specs.declared.class.Code.{Code}
use Rattle.fp_model.specs.declared.class.Method.{Method}
use Rattle.fp_model.specs.declared.kind.Descr.{Descr}
use Rattle.fp_model.specs.declared.raw.attribute.BootRow.{BootRow}
use Rattle.fp_model.specs.declared.raw.attribute.RawAttr.{RawAttr}
use Rattle.fp_model.specs.declared.raw.attribute.RawCode.{RawCode, out-RawCode}
use Rattle.fp_model.specs.declared.raw.pool.Entry.{Entry}
use Rattle.fp_model.specs.declared.raw.RawMember.{RawMember}
use Rattle.fp_model.specs.ClassSet.{IsMethodOver}
use Rattle.fp_model.specs.Descriptor.{is_method_descriptor, IsDescrOf}
use Rattle.fp_model.specs.Entries.{text_at}
use Rattle.fp_model.proofs.LongerTables.{descr_kept, Keeps}
use Rattle.fp_model.proofs.Interned.{Keeps-then}
use Rattle.fp_class.specs.Classes.{IsCodeAmong, IsMethodOf}
use Rattle.fp_class.specs.MethodCode.{IsCodeOf, IsGuardOf}
use Rattle.fp_class.specs.Methods.{code_of}
use Rattle.fp_class.specs.Naming.{is_sound_method, IsNamedMethod}
use Rattle.fp_class.proofs.CodesOver.{any_code_over}
use Rattle.fp_class.proofs.LongerInstrs.{AreInstrsFrom-kept}
use Rattle.fp_class.proofs.NamedCode.{IsGuardOf-kept}
use Rattle.fp_class.proofs.NamedParts.{texts_of, within, AllZip-to}

-- ---- in a longer table

module _ (names longer : List (List ℕ)) (kept : Keeps names longer) (entries : List Entry) (boots : List BootRow) where
  IsCodeOf-kept : (code : Code) (raw : RawCode) → IsCodeOf names entries boots code raw → IsCodeOf longer entries boots code raw
  IsCodeOf-kept code raw is = record {
    max_stack = is.max_stack;
    max_locals = is.max_locals;
    instrs = AreInstrsFrom-kept names longer kept entries boots 0 code.instrs (out-RawCode raw).code is.instrs;
    rows = AllZip-to (IsGuardOf names entries) (IsGuardOf longer entries) code.rows (out-RawCode raw).rows (λ g row one. IsGuardOf-kept names longer entries g row kept one) is.rows;
  }

  IsCodeAmong-kept : (code : Option Code) (raw : Option RawCode) → IsCodeAmong names entries boots code raw → IsCodeAmong longer entries boots code raw
  IsCodeAmong-kept None None is = tt
  IsCodeAmong-kept None (Some raw) is = absurd is
  IsCodeAmong-kept (Some code) None is = absurd is
  IsCodeAmong-kept (Some code) (Some raw) is = IsCodeOf-kept code raw is

  pub IsNamedMethod-kept : (m : Method) (member : RawMember) → IsNamedMethod names entries boots m member → IsNamedMethod longer entries boots m member
  IsNamedMethod-kept m member is = record {
    flags = is.flags;
    name = is.name;
    name_number = kept.stands m.name is.name is.name_number;
    name_text = is.name_text;
    descr = is.descr;
    descr_number = kept.stands m.descr is.descr is.descr_number;
    descr_text = is.descr_text;
    kinds = descr_kept names longer kept is.descr m.kinds is.kinds;
    code = IsCodeAmong-kept m.code (code_of member.attributes) is.code;
  }

-- ---- the method

-- a method whose texts were numbered one after the other
pub method_named : (n1 n2 n3 n4 : List (List ℕ)) (entries slice : List Entry) (boots : List BootRow) (member : RawMember) (attributes : List RawAttr) (name descr : ℕ) (kinds : Descr) (code : Option Code) → slice ≡ entries → attributes ≡ member.attributes
    → is_sound_method entries member ≡ true → slice_get n1 name ≡ text_at slice member.name → Keeps n1 n2 → slice_get n2 descr ≡ text_at slice member.descr → Keeps n2 n3 → IsDescrOf n3 (unwrap_or (text_at slice member.descr) []) kinds → Keeps n3 n4 → IsCodeAmong n4 entries boots code (code_of attributes)
    → IsNamedMethod n4 entries boots (record { name = name; descr = descr; kinds = kinds; flags = member.flags; code = code }) member
method_named n1 n2 n3 n4 entries slice boots member attributes name descr kinds code is a_is sound first k12 second k23 says k34 coded =
    let texts = texts_of is_method_descriptor entries member sound in
    let k24 = Keeps-then n2 n3 n4 k23 k34 in
    record {
      flags = refl;
      name = texts.name;
      name_number = (Keeps-then n1 n2 n4 k12 k24).stands name texts.name (first ∙ ap (λ e. text_at e member.name) is ∙ texts.name_is);
      name_text = texts.name_is;
      descr = texts.descr;
      descr_number = k24.stands descr texts.descr (second ∙ ap (λ e. text_at e member.descr) is ∙ texts.descr_is);
      descr_text = texts.descr_is;
      kinds = descr_kept n3 n4 k34 texts.descr kinds (subst (λ o. IsDescrOf n3 (unwrap_or o []) kinds) (ap (λ e. text_at e member.descr) is ∙ texts.descr_is) says);
      code = subst (λ l. IsCodeAmong n4 entries boots code (code_of l)) a_is coded;
    }

pub method_over : (names : List (List ℕ)) (entries : List Entry) (boots : List BootRow) (m : Method) (member : RawMember) → IsNamedMethod names entries boots m member → IsMethodOver names m
method_over names entries boots m member is = record {
  name = within names m.name is.name is.name_number;
  descr = within names m.descr is.descr is.descr_number;
  kinds = subst (λ text. IsDescrOf names text m.kinds) (sym (ap (λ o. unwrap_or o []) is.descr_number)) is.kinds;
  code = any_code_over names entries boots m.code (code_of member.attributes) is.code;
}

pub method_of : (names : List (List ℕ)) (entries : List Entry) (boots : List BootRow) (m : Method) (member : RawMember) → IsNamedMethod names entries boots m member → IsMethodOf names entries boots m member
method_of names entries boots m member is = record {
  flags = is.flags;
  name = is.name_number ∙ sym is.name_text;
  descr = is.descr_number ∙ sym is.descr_text;
  code = is.code;
}
