-- What classes give for a name and a descriptor, class by class.
use Rattle.std.specs.Prelude.{ℕ, Bool, false, not, ◌&&◌, List, slice_get, Option, None, option_and_then, Some, if◌then◌else◌}
use Rattle.std.specs.Option.{option_map_or}
use Rattle.fp_model.specs.declared.class.Class.{Class}
use Rattle.fp_model.specs.declared.class.Method.{Method}
use Rattle.fp_model.specs.Flags.{is_static}
use Rattle.fp_facts.specs.Hierarchy.{is_interface}
use Rattle.fp_facts.specs.Resolution.{declared_method, has_code, is_open, method_at}

-- the method that the class of a number declares, where it passes a test
abbrev pub given_by : List Class → (Method → Bool) → (name descr : ℕ) → (class : ℕ) → Option ℕ
given_by classes test name descr class =
    option_and_then (λ m. if option_map_or test (method_at classes m) false then Some m else None) (declared_method classes name descr class)

-- the same, where the class is an interface
abbrev pub given_by_interface : List Class → (Method → Bool) → (name descr : ℕ) → (class : ℕ) → Option ℕ
given_by_interface classes test name descr class =
    if option_map_or is_interface (slice_get classes class) false then given_by classes test name descr class else None

-- no static method
abbrev pub is_instance : Method → Bool
is_instance m = not (is_static m.flags)

-- neither private nor static, and with code
abbrev pub is_open_with_code : Method → Bool
is_open_with_code m = is_open m && has_code m
