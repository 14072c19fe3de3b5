-- The code of a method over a table of names that grows.
use Rattle.std.proofs.Common.{ℕ, ◌<◌, List, Option, Some, None, length, refl, sym, subst}
use Rattle.std.specs.Prelude.{IfSome}
use Rattle.std.proofs.lemmas.List.Elements.{All-weaker}
use Rattle.fp_model.specs.declared.class.Code.{Code}
use Rattle.fp_model.specs.declared.class.instr.BootArg.{BootArg}
use Rattle.fp_model.specs.declared.class.instr.BootArg.TheVariants as arg
use Rattle.fp_model.specs.declared.class.instr.BootRef.{BootRef}
use Rattle.fp_model.specs.declared.class.instr.Instr.{Instr}
use Rattle.fp_model.specs.declared.class.instr.Instr.TheVariants as instr
use Rattle.fp_model.specs.declared.kind.Descr.{Descr}
use Rattle.fp_model.specs.declared.kind.Kind.{Kind}
use Rattle.fp_model.specs.declared.kind.Kind.TheVariants as kind
use Rattle.fp_model.specs.CodeOver.{IsBootArgOver, IsCodeOver, IsElementOver, IsFieldRefOver, IsGuardOver, IsInstrOver, IsMemberOver, IsMethodRefOver, IsSiteOver, SaysDescr}
use Rattle.fp_model.specs.Descriptor.{descr_text, text_of, IsDescrOf, IsKindOf}
use Rattle.fp_model.proofs.LongerTables.{descr_kept, is_kind-kept, text_same, within_kept, IsKindOf-kept, Keeps}

module _ (names longer : List (List ℕ)) (kept : Keeps names longer) where
  within : (n : ℕ) → n < length names → n < length longer
  within n of_table = within_kept names longer kept n of_table

  -- ---- members

  member_kept : (class name descr : ℕ) → IsMemberOver names class name descr → IsMemberOver longer class name descr
  member_kept class name descr is = record {
    class_within = within class is.class_within;
    name_within = within name is.name_within;
    descr_within = within descr is.descr_within;
  }

  field_kept : (class name descr : ℕ) (k : Kind) → IsFieldRefOver names class name descr k → IsFieldRefOver longer class name descr k
  field_kept class name descr k is = record {
    member = member_kept class name descr is.member;
    says = subst (λ t. IsKindOf longer t k) (sym (text_same names longer kept descr is.member.descr_within)) (IsKindOf-kept names longer kept (text_of names descr) k is.says);
  }

  method_kept : (class name descr : ℕ) (kinds : Descr) → IsMethodRefOver names class name descr kinds → IsMethodRefOver longer class name descr kinds
  method_kept class name descr kinds is = record {
    member = member_kept class name descr is.member;
    says = subst (λ t. IsDescrOf longer t kinds) (sym (text_same names longer kept descr is.member.descr_within)) (descr_kept names longer kept (text_of names descr) kinds is.says);
  }

  -- ---- call sites

  said_kept : (kinds : Descr) → SaysDescr names kinds → SaysDescr longer kinds
  said_kept kinds is =
      let longer_is = descr_kept names longer kept (descr_text names kinds) kinds is in
      record { written = refl; args = longer_is.args; result = longer_is.result }

  argument_kept : (a : BootArg) → IsBootArgOver names a → IsBootArgOver longer a
  argument_kept (arg.Sig kinds) is = said_kept kinds is
  argument_kept (arg.Ref reference) is = member_kept reference.class reference.name reference.descr is
  argument_kept arg.Other is = tt

  site_kept : (name : ℕ) (descr : Descr) (boot : BootRef) (args : List BootArg) → IsSiteOver names name descr boot args → IsSiteOver longer name descr boot args
  site_kept name descr boot args is = record {
    name_within = within name is.name_within;
    says = said_kept descr is.says;
    method = member_kept boot.class boot.name boot.descr is.method;
    arguments = All-weaker (IsBootArgOver names) (IsBootArgOver longer) argument_kept args is.arguments;
  }

  -- ---- instructions

  element_kept : (dims : ℕ) (element : Kind) → IsElementOver names dims element → IsElementOver longer dims element
  element_kept dims (kind.Class name) is = (within name is.0, λ more. (is_kind-kept names longer kept (kind.Class name) (is.1 more)).1)
  element_kept dims element is = (is_kind-kept names longer kept element is).1

  instr_kept : (i : Instr) → IsInstrOver names i → IsInstrOver longer i
  instr_kept (instr.GetStatic class name descr k) is = field_kept class name descr k is
  instr_kept (instr.PutStatic class name descr k) is = field_kept class name descr k is
  instr_kept (instr.GetField class name descr k) is = field_kept class name descr k is
  instr_kept (instr.PutField class name descr k) is = field_kept class name descr k is
  instr_kept (instr.InvokeVirtual class name descr kinds) is = method_kept class name descr kinds is
  instr_kept (instr.InvokeSpecial class name descr kinds) is = method_kept class name descr kinds is
  instr_kept (instr.InvokeStatic class name descr kinds) is = method_kept class name descr kinds is
  instr_kept (instr.InvokeInterface class name descr kinds) is = method_kept class name descr kinds is
  instr_kept (instr.InvokeDynamic name descr boot args) is = site_kept name descr boot args is
  instr_kept (instr.New class) is = within class is
  instr_kept (instr.NewArray dims element) is = element_kept dims element is
  instr_kept (instr.CheckCast class) is = within class is
  instr_kept (instr.InstanceOf class) is = within class is
  instr_kept _ is = is

  -- ---- a code

  class_kept : (class : Option ℕ) → IfSome class (λ n. n < length names) → IfSome class (λ n. n < length longer)
  class_kept None is = tt
  class_kept (Some n) is = within n is

  pub IsCodeOver-kept : (code : Code) → IsCodeOver names code → IsCodeOver longer code
  IsCodeOver-kept code is = record {
    instrs = All-weaker (λ i. IsInstrOver names i.1) (λ i. IsInstrOver longer i.1) (λ i one. instr_kept i.1 one) code.instrs is.instrs;
    rows = All-weaker (IsGuardOver names) (IsGuardOver longer) (λ g one. class_kept g.class one) code.rows is.rows;
  }

  -- that of a method, where it has one
  pub any_code_kept : (code : Option Code) → IfSome code (IsCodeOver names) → IfSome code (IsCodeOver longer)
  any_code_kept None is = tt
  any_code_kept (Some code) is = IsCodeOver-kept code is
