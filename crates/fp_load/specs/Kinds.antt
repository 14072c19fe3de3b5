-- The classes of class files whose frames are too large, or whose words have no kinds.
use Rattle.std.specs.Prelude.{ℕ, zero, suc, ◌+◌, nat_lt, Bool, false, List, [], ◌∷◌, length, slice_get, Option, Some, None, option_map, option_and_then, if◌then◌else◌}
use Rattle.std.specs.List.{flat_map, list_any}
use Rattle.std.specs.Option.{option_map_or}
use Rattle.fp_model.specs.declared.class.Class.{Class}
use Rattle.fp_model.specs.declared.class.Code.{Code}
use Rattle.fp_model.specs.declared.class.Method.{Method}
use Rattle.fp_facts.specs.Kinded.{frame_words}
use Rattle.fp_facts.specs.Transfer.{fails}
use Rattle.fp_kinds.specs.Kinds.{most_frame_words}
use Rattle.fp_load.specs.declared.fault.FileRefusal.{FileRefusal}
use Rattle.fp_load.specs.declared.fault.FileRefusal.TheVariants as refusal

-- the code of a method has more frame words than are looked at; some method of a class has such a code
abbrev pub is_large : Method → Bool
is_large m = option_map_or (λ code. nat_lt most_frame_words (frame_words code)) m.code false

abbrev pub has_large : Class → Bool
has_large c = list_any is_large c.methods

-- the first number that passes a test, of so many from one on
abbrev pub first_passing : (ℕ → Bool) → (from count : ℕ) → Option ℕ
first_passing test from zero = None
first_passing test from (suc count) = if test from then Some from else first_passing test (from + 1) count

-- the offset of the first instruction of a method's code that fails
abbrev pub failing_in : Method → Code → Option ℕ
failing_in m code =
    option_and_then (λ number. option_map (λ i. i.0) (slice_get code.instrs number)) (first_passing (fails m code) 0 (length code.instrs))

abbrev pub failing_of : Method → Option ℕ
failing_of m = option_and_then (failing_in m) m.code

-- the first of two methods that fails, the first of which has the number
abbrev pub failing_or : Option ℕ → (number : ℕ) → Option (ℕ × ℕ) → Option (ℕ × ℕ)
failing_or None number rest = rest
failing_or (Some pc) number rest = Some (number, pc)

-- the first method of a row that is not kinded, by its place, and where it fails; the first of the row has the number
abbrev pub first_failing : (number : ℕ) → List Method → Option (ℕ × ℕ)
first_failing number [] = None
first_failing number (m ∷ methods) = failing_or (failing_of m) number (first_failing (number + 1) methods)

-- the refusal of a class's file at a path, none where each method of the class is kinded
abbrev pub refusal_at : List ℕ → Option (ℕ × ℕ) → List (List ℕ × FileRefusal)
refusal_at path None = []
refusal_at path (Some failing) = (path, refusal.Kinds failing.0 failing.1) ∷ []

-- a class, and the path of its file
abbrev pub Placed : Type 0
Placed = List ℕ × Class

abbrev pub refusals_of : List Placed → List (List ℕ × FileRefusal)
refusals_of classes = flat_map (λ c. refusal_at c.0 (first_failing 0 c.1.methods)) classes
