-- What the code of a method does: its calls, objects, reads and writes, and what it returns and raises (JVMS SE 21 section 6.5).
use Rattle.std.specs.Prelude.{ℕ, ◌+◌, ◌-◌, ◌==◌, List, [], ◌∷◌, drop, length, slice_index_or, Option, Some, None, option_map, if◌then◌else◌}
use Rattle.std.specs.List.{flat_map}
use Rattle.std.specs.Option.{option_map_or, option_to_list}
use Rattle.fp_model.specs.declared.class.Class.{Class}
use Rattle.fp_model.specs.declared.class.instr.Instr.{Instr}
use Rattle.fp_model.specs.declared.class.instr.Instr.TheVariants as instr
use Rattle.fp_model.specs.declared.kind.Kind.{Kind}
use Rattle.fp_model.specs.ClassSet.{class_named}
use Rattle.fp_facts.specs.declared.facts.Access.{Access}
use Rattle.fp_facts.specs.declared.facts.AccessForm.{AccessForm}
use Rattle.fp_facts.specs.declared.facts.AccessForm.TheVariants as form
use Rattle.fp_facts.specs.declared.facts.CallSite.{CallSite}
use Rattle.fp_facts.specs.declared.origin.Origin.{Origin}
use Rattle.fp_facts.specs.declared.reference.Reference.{Reference}
use Rattle.fp_facts.specs.Effects.{element_sort}
use Rattle.fp_facts.specs.References.{number_in, reference_of}
use Rattle.fp_facts.specs.Resolution.{resolve_field}
use Rattle.fp_facts.specs.Sorts.{sort_of, words_of, words_of_kinds}
use Rattle.fp_facts.specs.Steps.{Step}
use Rattle.fp_facts.specs.Transfer.{at_depth, top_words}

-- ---- operands

-- the origins of the word at a depth of the stack, where 1 is its top
abbrev pub operand : List (List Origin) → (depth : ℕ) → List Origin
operand words depth = at_depth [] words depth

-- those of arguments of these types, by the first word of each, whose words stand first among some
abbrev pub argument_sets : List Kind → List (List Origin) → List (List Origin)
argument_sets [] words = []
argument_sets (k ∷ kinds) words = slice_index_or words 0 [] ∷ argument_sets kinds (drop (length (words_of (sort_of k))) words)

-- those of the arguments of a call without a receiver, and of one with a receiver, which comes first
abbrev pub arguments : List Kind → List (List Origin) → List (List Origin)
arguments kinds words = argument_sets kinds (top_words (length (words_of_kinds kinds)) words)

abbrev pub arguments_with_receiver : List Kind → List (List Origin) → List (List Origin)
arguments_with_receiver kinds words = operand words (length (words_of_kinds kinds) + 1) ∷ arguments kinds words

-- those of the arguments of an instruction; none but a call has any
abbrev pub call_arguments : Instr → List (List Origin) → List (List Origin)
call_arguments (instr.InvokeStatic class name descr kinds) words = arguments kinds.args words
call_arguments (instr.InvokeSpecial class name descr kinds) words = arguments_with_receiver kinds.args words
call_arguments (instr.InvokeVirtual class name descr kinds) words = arguments_with_receiver kinds.args words
call_arguments (instr.InvokeInterface class name descr kinds) words = arguments_with_receiver kinds.args words
call_arguments (instr.InvokeDynamic name descr boot args) words = arguments descr.args words
call_arguments _ words = []

-- ---- calls

-- the references of the calls of a class's method, in their order
abbrev pub references_of : (caller : ℕ) → List Step → List Reference
references_of caller steps = flat_map (λ s. option_to_list (reference_of caller s.instr)) steps

-- its calls, each with the number of its reference
abbrev pub site_of : List Reference → (caller : ℕ) → Step → List CallSite
site_of table caller s =
    option_map_or (λ r. record { pc = s.pc; call = number_in table r; args = call_arguments s.instr s.words } ∷ []) (reference_of caller s.instr) []

abbrev pub sites_of : List Reference → (caller : ℕ) → List Step → List CallSite
sites_of table caller steps = flat_map (site_of table caller) steps

-- ---- objects and arrays

-- the class of the set that an instruction makes an object of
abbrev pub made_class : List Class → Instr → Option ℕ
made_class classes (instr.New class) = class_named classes class
made_class classes _ = None

abbrev pub news_of : List Class → List Step → List ℕ
news_of classes steps = flat_map (λ s. option_to_list (made_class classes s.instr)) steps

-- the offsets of what makes an object or an array
abbrev pub alloc_of : ℕ → Instr → List ℕ
alloc_of pc (instr.New class) = pc ∷ []
alloc_of pc (instr.NewArray dims element) = pc ∷ []
alloc_of pc _ = []

abbrev pub allocs_of : List Step → List ℕ
allocs_of steps = flat_map (λ s. alloc_of s.pc s.instr) steps

-- ---- reads and writes

-- how many words the value of a type takes, and an element that `iastore` to `sastore` store
abbrev pub width_of : Kind → ℕ
width_of k = length (words_of (sort_of k))

abbrev pub stored_width : (op : ℕ) → ℕ
stored_width op = length (words_of (element_sort (op - 79)))

-- a read or write, with the depths on the stack of its object or array and of what it writes
pub record AccessShape : Type 0 where
  pub form : AccessForm
  pub field : Option ℕ
  pub object : Option ℕ
  pub value : Option ℕ

abbrev pub access_shape : List Class → Instr → Option AccessShape
access_shape classes (instr.GetStatic class name descr k) =
    Some (record { form = form.GetStatic; field = resolve_field classes class name descr; object = None; value = None })
access_shape classes (instr.PutStatic class name descr k) =
    Some (record { form = form.PutStatic; field = resolve_field classes class name descr; object = None; value = Some (width_of k) })
access_shape classes (instr.GetField class name descr k) =
    Some (record { form = form.GetField; field = resolve_field classes class name descr; object = Some 1; value = None })
access_shape classes (instr.PutField class name descr k) =
    Some (record { form = form.PutField; field = resolve_field classes class name descr; object = Some (width_of k + 1); value = Some (width_of k) })
access_shape classes (instr.ArrayLoad op) = Some (record { form = form.Load; field = None; object = Some 2; value = None })
access_shape classes (instr.ArrayStore op) = Some (record { form = form.Store; field = None; object = Some (stored_width op + 2); value = Some (stored_width op) })
access_shape classes _ = None

-- the origins at a depth, none where there is no depth
abbrev pub operand_at : List (List Origin) → Option ℕ → List Origin
operand_at words depth = option_map_or (operand words) depth []

abbrev pub access_with : (pc : ℕ) → List (List Origin) → AccessShape → Access
access_with pc words s = record { pc = pc; form = s.form; field = s.field; object = operand_at words s.object; value = operand_at words s.value }

abbrev pub accesses_of : List Class → List Step → List Access
accesses_of classes steps = flat_map (λ s. option_to_list (option_map (access_with s.pc s.words) (access_shape classes s.instr))) steps

-- ---- what leaves the method

-- the origins of what an `athrow` raises
abbrev pub raised_by : Instr → List (List Origin) → List (List Origin)
raised_by instr.Throw words = operand words 1 ∷ []
raised_by _ words = []

abbrev pub thrown_of : List Step → List (List Origin)
thrown_of steps = flat_map (λ s. raised_by s.instr s.words) steps

-- those of the reference that an `areturn` gives back
abbrev pub returned_by : Instr → List (List Origin) → List (List Origin)
returned_by (instr.Return op) words = if op == 176 then operand words 1 ∷ [] else []
returned_by _ words = []

abbrev pub returned_of : List Step → List (List Origin)
returned_of steps = flat_map (λ s. returned_by s.instr s.words) steps
