-- The origins of a method in ascending order, as they are read off its descriptor and its instructions.
use Rattle.std.specs.Prelude.{ℕ, ◌+◌, Bool, true, false, List, [], ◌∷◌, ◌++◌, map, filter, Option, Some, None, if◌then◌else◌}
use Rattle.fp_model.specs.declared.class.Method.{Method}
use Rattle.fp_model.specs.declared.class.instr.Instr.{Instr}
use Rattle.fp_model.specs.declared.class.instr.Instr.TheVariants as instr
use Rattle.fp_model.specs.declared.kind.Kind.{Kind}
use Rattle.fp_model.specs.declared.kind.Sort.TheVariants.{Ref}
use Rattle.fp_model.specs.Flags.{is_static}
use Rattle.fp_facts.specs.declared.origin.Origin.{Origin}
use Rattle.fp_facts.specs.declared.origin.Origin.TheVariants as origin
use Rattle.fp_facts.specs.Sorts.{same_sort, sort_of}

abbrev pub is_reference : Kind → Bool
is_reference k = same_sort (sort_of k) Ref

-- those of arguments from a number on
abbrev pub param_origins : (number : ℕ) → List Kind → List Origin
param_origins number [] = []
param_origins number (k ∷ kinds) = (if is_reference k then origin.Param number ∷ [] else []) ++ param_origins (number + 1) kinds

-- those of a method's arguments
abbrev pub method_origins : Method → List Origin
method_origins m = if is_static m.flags then param_origins 0 m.kinds.args else origin.Param 0 ∷ param_origins 1 m.kinds.args

-- the instruction makes an object or an array
abbrev pub allocates : Instr → Bool
allocates (instr.New class) = true
allocates (instr.NewArray dims element) = true
allocates _ = false

abbrev pub is_reference_result : Option Kind → Bool
is_reference_result None = false
is_reference_result (Some k) = is_reference k

-- the instruction calls a method whose result is a reference
abbrev pub returns_reference : Instr → Bool
returns_reference (instr.InvokeVirtual class name descr kinds) = is_reference_result kinds.result
returns_reference (instr.InvokeSpecial class name descr kinds) = is_reference_result kinds.result
returns_reference (instr.InvokeStatic class name descr kinds) = is_reference_result kinds.result
returns_reference (instr.InvokeInterface class name descr kinds) = is_reference_result kinds.result
returns_reference (instr.InvokeDynamic name descr boot args) = is_reference_result descr.result
returns_reference _ = false

-- the origins of the objects that instructions make, and of the results of their calls
abbrev pub allocation_origins : List (ℕ × Instr) → List Origin
allocation_origins instrs = map (λ i. origin.New i.0) (filter (λ i. allocates i.1) instrs)

abbrev pub result_origins : List (ℕ × Instr) → List Origin
result_origins instrs = map (λ i. origin.Result i.0) (filter (λ i. returns_reference i.1) instrs)
