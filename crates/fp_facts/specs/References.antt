-- The references of calls, and what calls of one can reach (JVMS SE 21 sections 5.4.3 and 6.5).
use Rattle.std.specs.Prelude.{ℕ, Bool, true, false, List, [], ◌∷◌, ◌++◌, Option, Some, None, slice_get, if◌then◌else◌}
use Rattle.std.specs.List.{list_any, position_or_len}
use Rattle.std.specs.Option.{option_map_or}
use Rattle.fp_model.specs.declared.class.instr.Instr.{Instr}
use Rattle.fp_model.specs.declared.class.instr.Instr.TheVariants as instr
use Rattle.fp_model.specs.ClassSet.{SetView}
use Rattle.fp_facts.specs.contracts.reference.ReferencePartialEq.TheImpl.{ghosts as equality}
use Rattle.fp_facts.specs.declared.reference.CallForm.{CallForm}
use Rattle.fp_facts.specs.declared.reference.CallForm.TheVariants as form
use Rattle.fp_facts.specs.declared.reference.Reference.{Reference}
use Rattle.fp_facts.specs.Resolution.{resolve_method}
use Rattle.fp_facts.specs.Selection.{Candidates, fixed, found_as, nothing, outside, special_reached, virtual_candidates}

-- that of an instruction of the class of a number, where it is a call
abbrev pub reference_of : (caller : ℕ) → Instr → Option Reference
reference_of caller (instr.InvokeStatic class name descr kinds) = Some (record { form = form.Static; class = class; name = name; descr = descr; caller = 0 })
reference_of caller (instr.InvokeSpecial class name descr kinds) = Some (record { form = form.Special; class = class; name = name; descr = descr; caller = caller })
reference_of caller (instr.InvokeVirtual class name descr kinds) = Some (record { form = form.Virtual; class = class; name = name; descr = descr; caller = 0 })
reference_of caller (instr.InvokeInterface class name descr kinds) = Some (record { form = form.Virtual; class = class; name = name; descr = descr; caller = 0 })
reference_of caller (instr.InvokeDynamic name descr boot args) = Some (record { form = form.Dynamic; class = boot.class; name = boot.name; descr = boot.descr; caller = 0 })
reference_of caller _ = None

-- what is reached, by the form of the call
abbrev pub candidates_by : SetView → CallForm → Reference → Candidates
candidates_by set form.Static r = fixed (found_as true set.classes (resolve_method set.classes r.class r.name r.descr))
candidates_by set form.Special r = option_map_or (λ c. fixed (special_reached set c r.class r.name r.descr)) (slice_get set.classes r.caller) (fixed nothing)
candidates_by set form.Virtual r = virtual_candidates set r.class r.name r.descr
candidates_by set form.Dynamic r = fixed outside

abbrev pub reference_candidates : SetView → Reference → Candidates
reference_candidates set r = candidates_by set r.form r

-- ---- tables of references, each of them once

abbrev pub same_reference : Reference → Reference → Bool
same_reference a b = equality.eq a b

abbrev pub has_reference : List Reference → Reference → Bool
has_reference table r = list_any (same_reference r) table

-- the number of a reference: its place, or the length of a table that lacks it
unfoldable pub number_in : List Reference → Reference → ℕ
number_in table r = position_or_len (same_reference r) table

-- the table after a reference was met: a new one stands at its end
unfoldable pub with_reference : List Reference → Reference → List Reference
with_reference table r = if has_reference table r then table else table ++ r ∷ []

-- the same for some, in their order
abbrev pub with_references : List Reference → List Reference → List Reference
with_references table [] = table
with_references table (r ∷ rs) = with_references (with_reference table r) rs
