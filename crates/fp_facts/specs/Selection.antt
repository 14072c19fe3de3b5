-- Which methods a call can reach (JVMS SE 21 sections 5.4.6 and 6.5), as far as the set tells.
use Rattle.std.specs.Prelude.{ℕ, ◌+◌, ◌==◌, nat_lt, Bool, true, false, not, ◌&&◌, ◌||◌, List, [], ◌∷◌, ◌++◌, length, map, filter, codes, Option, Some, None, option_and_then, slice_get, if◌then◌else◌}
use Rattle.std.specs.List.{flat_map, range_with_len}
use Rattle.std.specs.Option.{option_map_or}
use Rattle.std.specs.Str.{bytes_eq}
use Rattle.fp_model.specs.declared.class.Class.{Class}
use Rattle.fp_model.specs.declared.class.Method.{Method}
use Rattle.fp_model.specs.declared.class.instr.Instr.{Instr}
use Rattle.fp_model.specs.declared.class.instr.Instr.TheVariants as instr
use Rattle.fp_model.specs.ClassSet.{SetView}
use Rattle.fp_model.specs.Descriptor.{text_of}
use Rattle.fp_model.specs.Flags.{is_static}
use Rattle.fp_facts.specs.Hierarchy.{class_and_above, class_of_name, has_number, has_outside_ancestor, is_concrete, is_object, is_outside, may_fit, superclasses}
use Rattle.fp_facts.specs.Resolution.{class_of_method, first_of, has_code, interfaces_above, is_native, is_open, is_private, method_at, methods_among, resolve_method}

-- what a call can reach: methods of the set, and the outside
pub record Reached : Type 0 where
  pub methods : List ℕ
  pub outside : Bool

abbrev pub nothing : Reached
nothing = record { methods = []; outside = false }

abbrev pub outside : Reached
outside = record { methods = []; outside = true }

abbrev pub only : ℕ → Reached
only m = record { methods = m ∷ []; outside = false }

-- a method that was found: with code it is reached, a native one is the outside, and an abstract one is nothing
abbrev pub found : ℕ → Method → Reached
found id m = if has_code m then only id else if is_native m then outside else nothing

abbrev pub found_at : List Class → ℕ → Reached
found_at classes id = option_map_or (found id) (method_at classes id) nothing

-- ---- selection (section 5.4.6)

-- the first instance method of the signature that the class or one above it declares
abbrev pub instance_declaration : List Class → Class → (name descr : ℕ) → Option ℕ
instance_declaration classes c name descr = first_of (methods_among classes (λ m. not (is_static m.flags)) name descr (class_and_above classes c))

-- the methods of superinterfaces that may be selected where no class declares one
abbrev pub default_methods : List Class → Class → (name descr : ℕ) → List ℕ
default_methods classes c name descr = methods_among classes (λ m. is_open m && has_code m) name descr (interfaces_above classes c)

-- with the outside where there are none, or a superclass or superinterface may have one
abbrev pub with_defaults : SetView → Class → List ℕ → Reached
with_defaults set c methods = record { methods = methods; outside = (length methods == 0) || has_outside_ancestor set c }

-- what an object of a class makes of a call of a signature
abbrev pub selected : SetView → Class → (name descr : ℕ) → Reached
selected set c name descr =
    option_map_or (found_at set.classes) (instance_declaration set.classes c name descr)
    (with_defaults set c (default_methods set.classes c name descr))

-- the same by the number of the class
abbrev pub selected_at : SetView → (class name descr : ℕ) → Reached
selected_at set class name descr = option_map_or (λ c. selected set c name descr) (slice_get set.classes class) nothing

-- ---- calls, by their forms (section 6.5)

-- one method is looked for, of this staticness: where there is none it is outside, and one of another staticness is never reached
abbrev pub found_as : Bool → List Class → Option ℕ → Reached
found_as static classes None = outside
found_as static classes (Some id) =
    option_map_or (λ m. if static then (if is_static m.flags then found id m else nothing) else (if is_static m.flags then nothing else found id m)) (method_at classes id) nothing

-- the constructor of `java/lang/Object`, where that is outside, does nothing
abbrev pub is_empty_constructor : SetView → (class name descr : ℕ) → Bool
is_empty_constructor set class name descr =
    is_outside set.classes class
    && (is_object set.names class && (bytes_eq (text_of set.names name) (codes "<init>") && bytes_eq (text_of set.names descr) (codes "()V")))

-- a call of a superclass's method: no constructor, and the reference's class is above the calling one
abbrev pub is_super_call : SetView → (caller : Class) → (class name : ℕ) → Bool
is_super_call set caller class name = not (bytes_eq (text_of set.names name) (codes "<init>")) && has_number (superclasses set.classes caller) class

-- selection from the direct superclass
abbrev pub selected_above : SetView → (caller : Class) → (name descr : ℕ) → Reached
selected_above set caller name descr =
    option_map_or (λ c. selected set c name descr) (option_and_then (class_of_name set.classes) caller.parent) outside

abbrev pub special_reached : SetView → (caller : Class) → (class name descr : ℕ) → Reached
special_reached set caller class name descr =
    if is_empty_constructor set class name descr then nothing
    else if is_super_call set caller class name then selected_above set caller name descr
    else found_as false set.classes (resolve_method set.classes class name descr)

-- the call goes by the receiver's class: there is no private method that it means
abbrev pub goes_by_receiver : List Class → Option ℕ → Bool
goes_by_receiver classes resolved = not (option_map_or is_private (option_and_then (method_at classes) resolved) false)

-- the classes that a receiver of a reference to a class may be of, by their numbers
abbrev pub receivers : SetView → (class : ℕ) → List ℕ
receivers set class =
    filter (λ id. option_map_or (λ c. is_concrete c && may_fit set c class) (slice_get set.classes id) false) (range_with_len 0 (length set.classes))

-- ---- the targets of a call site

-- What a call can reach whatever classes are made, and what it reaches besides by the objects of each class.
pub record Candidates : Type 0 where
  pub always : Reached
  pub by_class : List (ℕ × Reached)

abbrev pub fixed : Reached → Candidates
fixed reached = record { always = reached; by_class = [] }

abbrev pub dispatched : SetView → (class name descr : ℕ) → Candidates
dispatched set class name descr = record {
  always = record { methods = []; outside = is_outside set.classes class };
  by_class = map (λ id. (id, selected_at set id name descr)) (receivers set class);
}

-- an `invokevirtual` or `invokeinterface`
abbrev pub virtual_candidates : SetView → (class name descr : ℕ) → Candidates
virtual_candidates set class name descr =
    let resolved = resolve_method set.classes class name descr in
    if goes_by_receiver set.classes resolved then dispatched set class name descr else fixed (found_as false set.classes resolved)

-- those of an instruction of a class's method; none but an invoke form has any
abbrev pub candidates_of : SetView → (caller : Class) → Instr → Candidates
candidates_of set caller (instr.InvokeStatic class name descr kinds) = fixed (found_as true set.classes (resolve_method set.classes class name descr))
candidates_of set caller (instr.InvokeSpecial class name descr kinds) = fixed (special_reached set caller class name descr)
candidates_of set caller (instr.InvokeVirtual class name descr kinds) = virtual_candidates set class name descr
candidates_of set caller (instr.InvokeInterface class name descr kinds) = virtual_candidates set class name descr
candidates_of set caller (instr.InvokeDynamic name descr boot args) = fixed outside
candidates_of set caller _ = fixed nothing

-- those of an instruction of the method of a number
abbrev pub candidates_at : SetView → (caller : ℕ) → Instr → Candidates
candidates_at set caller i =
    option_map_or (λ c. candidates_of set c i) (option_and_then (slice_get set.classes) (class_of_method set.classes caller)) (fixed nothing)

-- all methods of the set that it can reach, whatever is made
abbrev pub all_reached : Candidates → List ℕ
all_reached candidates = candidates.always.methods ++ flat_map (λ c. c.1.methods) candidates.by_class

-- those of a set's numbers that stand in a list, ascending and each once
abbrev pub ascending_among : (numbers : ℕ) → List ℕ → List ℕ
ascending_among numbers list = filter (has_number list) (range_with_len 0 numbers)

-- the target list of a set with so many methods: those that can be reached; a bit for each, and then that of the outside
abbrev pub target_list : (methods : ℕ) → Candidates → List ℕ
target_list methods candidates = ascending_among methods (all_reached candidates)

-- the bits of what is reached
abbrev pub bits_of : List ℕ → Reached → List ℕ
bits_of targets reached =
    filter (λ bit. option_map_or (has_number reached.methods) (slice_get targets bit) (reached.outside && (bit == length targets))) (range_with_len 0 (length targets + 1))

-- the bits that need no class, and each class with those of its bits that do
abbrev pub always_bits : List ℕ → Candidates → List ℕ
always_bits targets candidates = bits_of targets candidates.always

abbrev pub watched_bits : List ℕ → Candidates → List (ℕ × List ℕ)
watched_bits targets candidates =
    filter (λ w. nat_lt 0 (length w.1))
    (map (λ c. (c.0, filter (λ bit. not (has_number (always_bits targets candidates) bit)) (bits_of targets c.1))) candidates.by_class)
