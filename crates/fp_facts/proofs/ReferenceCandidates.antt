-- What a call can reach is what calls of its reference can.
use Rattle.std.proofs.Common.{◌≡◌, ℕ, refl, sym, ap, ◌∙◌}
use Rattle.std.specs.Prelude.{Option, Some, None, option_and_then, slice_get, unwrap_or}
use Rattle.std.specs.Option.{option_map_or}
use Rattle.fp_model.specs.declared.class.Class.{Class}
use Rattle.fp_model.specs.declared.class.instr.Instr.{Instr}
use Rattle.fp_model.specs.declared.class.instr.Instr.TheVariants as instr
use Rattle.fp_model.specs.ClassSet.{SetView}
use Rattle.fp_facts.specs.declared.reference.Reference.{Reference}
use Rattle.fp_facts.specs.References.{reference_candidates, reference_of}
use Rattle.fp_facts.specs.Resolution.{class_of_method}
use Rattle.fp_facts.specs.Selection.{Candidates, candidates_at, candidates_of, fixed, nothing, special_reached}

same-item : {X : Type 0} (x y : X) → Some x ≡ Some y → x ≡ y
same-item x y is = ap (λ o. unwrap_or o x) is

-- the calling class by its number
pub caller-known : (set : SetView) (caller class : ℕ) (c : Class) (i : Instr) → class_of_method set.classes caller ≡ Some class → slice_get set.classes class ≡ Some c → candidates_at set caller i ≡ candidates_of set c i
caller-known set caller class c i of_class there =
    ap (λ (o : Option ℕ). option_map_or (λ (d : Class). candidates_of set d i) (option_and_then (slice_get set.classes) o) (fixed nothing)) of_class
    ∙ ap (λ (o : Option Class). option_map_or (λ (d : Class). candidates_of set d i) o (fixed nothing)) there

pub reference-reaches : (set : SetView) (class : ℕ) (c : Class) (i : Instr) (r : Reference) → slice_get set.classes class ≡ Some c → reference_of class i ≡ Some r → reference_candidates set r ≡ candidates_of set c i
reference-reaches set class c (instr.InvokeStatic n m d kinds) r there is = sym (ap (reference_candidates set) (same-item _ r is))
reference-reaches set class c (instr.InvokeSpecial n m d kinds) r there is =
    sym (ap (reference_candidates set) (same-item _ r is))
    ∙ ap (λ (o : Option Class). option_map_or (λ (e : Class). fixed (special_reached set e n m d)) o (fixed nothing)) there
reference-reaches set class c (instr.InvokeVirtual n m d kinds) r there is = sym (ap (reference_candidates set) (same-item _ r is))
reference-reaches set class c (instr.InvokeInterface n m d kinds) r there is = sym (ap (reference_candidates set) (same-item _ r is))
reference-reaches set class c (instr.InvokeDynamic n d boot args) r there is = sym (ap (reference_candidates set) (same-item _ r is))
reference-reaches set class c _ r there is = cc

pub call-reaches : (set : SetView) (caller class : ℕ) (c : Class) (i : Instr) (r : Reference) → class_of_method set.classes caller ≡ Some class → slice_get set.classes class ≡ Some c → reference_of class i ≡ Some r → reference_candidates set r ≡ candidates_at set caller i
call-reaches set caller class c i r of_class there is = reference-reaches set class c i r there is ∙ sym (caller-known set caller class c i of_class there)

-- what has no reference is no call, and reaches nothing
pub uncalled-reaches : (set : SetView) (class : ℕ) (c : Class) (i : Instr) → reference_of class i ≡ None → candidates_of set c i ≡ fixed nothing
uncalled-reaches set class c (instr.InvokeStatic n m d kinds) is = cc
uncalled-reaches set class c (instr.InvokeSpecial n m d kinds) is = cc
uncalled-reaches set class c (instr.InvokeVirtual n m d kinds) is = cc
uncalled-reaches set class c (instr.InvokeInterface n m d kinds) is = cc
uncalled-reaches set class c (instr.InvokeDynamic n d boot args) is = cc
uncalled-reaches set class c _ is = refl
