-- Which declaration a reference means (JVMS SE 21 sections 5.4.3.2 to 5.4.3.4), by a name and a descriptor.
use Rattle.std.specs.Prelude.{ℕ, ◌+◌, ◌==◌, nat_lt, Bool, false, not, ◌&&◌, List, [], ◌∷◌, filter, length, position, is_some, slice_get, Option, None, option_map, option_and_then}
use Rattle.std.specs.List.{flat_map, range_with_len}
use Rattle.std.specs.Option.{option_map_or, option_or, option_to_list}
use Rattle.fp_model.specs.declared.class.Class.{Class}
use Rattle.fp_model.specs.declared.class.Method.{Method}
use Rattle.fp_model.specs.ClassSet.{first_field_of, first_method_of, methods_of}
use Rattle.fp_model.specs.Flags as access
use Rattle.fp_model.specs.Flags.{is_static}
use Rattle.fp_facts.specs.Hierarchy.{ancestors, class_and_above, class_of_name, classes_among, is_interface, superinterfaces_at}

-- ---- declarations

-- ACC_PRIVATE and ACC_NATIVE (table 4.6-A)
abbrev pub is_private : Method → Bool
is_private m = access.is_private m.flags

abbrev pub is_native : Method → Bool
is_native m = access.is_native m.flags

abbrev pub has_code : Method → Bool
has_code m = is_some m.code

-- neither private nor static
abbrev pub is_open : Method → Bool
is_open m = not (is_private m) && not (is_static m.flags)

-- the class that declares the field of a number, or the method
abbrev pub class_of_field : List Class → ℕ → Option ℕ
class_of_field classes id = position (λ class. nat_lt id (first_field_of classes (class + 1))) (range_with_len 0 (length classes))

abbrev pub class_of_method : List Class → ℕ → Option ℕ
class_of_method classes id = position (λ class. nat_lt id (first_method_of classes (class + 1))) (range_with_len 0 (length classes))

-- the method of a number
abbrev pub method_at : List Class → ℕ → Option Method
method_at classes id = slice_get (methods_of classes) id

-- the first method of a name and a descriptor that the class of a number declares, by its number
abbrev pub declared_method : List Class → (name descr : ℕ) → (class : ℕ) → Option ℕ
declared_method classes name descr class =
    option_map (λ i. first_method_of classes class + i)
    (option_and_then (λ c. position (λ m. (m.name == name) && (m.descr == descr)) c.methods) (slice_get classes class))

abbrev pub declared_field : List Class → (name descr : ℕ) → (class : ℕ) → Option ℕ
declared_field classes name descr class =
    option_map (λ i. first_field_of classes class + i)
    (option_and_then (λ c. position (λ f. (f.name == name) && (f.descr == descr)) c.fields) (slice_get classes class))

-- what the first of the classes gives that gives something
abbrev pub first_given : (ℕ → Option ℕ) → List ℕ → Option ℕ
first_given give [] = None
first_given give (class ∷ classes) = option_or (give class) (first_given give classes)

-- ---- the classes that are looked at

-- the interfaces of the set among a class's ancestors
abbrev pub interfaces_above : List Class → Class → List ℕ
interfaces_above classes c = filter (λ id. option_map_or is_interface (slice_get classes id) false) (classes_among classes (ancestors classes c))

-- a class and its superinterfaces in the set
abbrev pub class_and_superinterfaces : List Class → ℕ → List ℕ
class_and_superinterfaces classes id = id ∷ classes_among classes (superinterfaces_at classes id)

-- ---- resolution

-- the methods of these classes that have the name and the descriptor and pass the test, in order
abbrev pub methods_among : List Class → (Method → Bool) → (name descr : ℕ) → List ℕ → List ℕ
methods_among classes test name descr ids =
    filter (λ m. option_map_or test (method_at classes m) false) (flat_map (λ id. option_to_list (declared_method classes name descr id)) ids)

-- the first of some numbers
abbrev pub first_of : List ℕ → Option ℕ
first_of numbers = slice_get numbers 0

-- the method that a reference to a class of the set means: a declaration of the class or above it, else one of an interface that
-- is neither private nor static, and has code where one has
abbrev pub resolved_method : List Class → Class → (name descr : ℕ) → Option ℕ
resolved_method classes c name descr =
    option_or (first_given (declared_method classes name descr) (class_and_above classes c))
    (option_or (first_of (methods_among classes (λ m. is_open m && has_code m) name descr (interfaces_above classes c)))
    (first_of (methods_among classes is_open name descr (interfaces_above classes c))))

-- the same by the name of the class; a class outside the set has none
abbrev pub resolve_method : List Class → (class name descr : ℕ) → Option ℕ
resolve_method classes class name descr = option_and_then (λ c. resolved_method classes c name descr) (class_of_name classes class)

-- the field that a reference to a class of the set means: of the class, its superinterfaces, its superclass and so on up
abbrev pub resolved_field : List Class → Class → (name descr : ℕ) → Option ℕ
resolved_field classes c name descr =
    first_given (λ id. first_given (declared_field classes name descr) (class_and_superinterfaces classes id)) (class_and_above classes c)

abbrev pub resolve_field : List Class → (class name descr : ℕ) → Option ℕ
resolve_field classes class name descr = option_and_then (λ c. resolved_field classes c name descr) (class_of_name classes class)
