-- What the class files below a directory give: a set of classes, or why there is none.
use Rattle.std.specs.Prelude.{ℕ, ◌+◌, nat_lt, List, [], ◌∷◌, length, map, unwrap_or, Option, Some, None, Result, Ok, Err, if◌then◌else◌}
use Rattle.std.specs.List.{flat_map, list_any}
use Rattle.fp_base.specs.Files.{File, bytes_at, class_paths}
use Rattle.fp_base.specs.Names.{with_names}
use Rattle.fp_base.specs.Order.{in_text_order}
use Rattle.fp_model.specs.declared.fault.FileFault.{FileFault}
use Rattle.fp_model.specs.declared.limit.LimitName.{LimitName}
use Rattle.fp_model.specs.declared.limit.LimitName.TheVariants.{Files, FileBytes, AllBytes, Names, FrameWords, Methods}
use Rattle.fp_model.specs.declared.class.Class.{Class}
use Rattle.fp_model.specs.declared.raw.Raw.{Raw}
use Rattle.fp_model.specs.ClassSet.{SetView, SetRefusal, methods_of, refusal_of}
use Rattle.fp_class.specs.ClassFile.{class_of, is_module}
use Rattle.fp_class.specs.Classes.{class_in}
use Rattle.fp_class.specs.Naming.{taken_names}
use Rattle.fp_kinds.specs.Kinds.{most_frame_words}
use Rattle.fp_load.specs.Kinds.{Placed, has_large, refusals_of}
use Rattle.fp_load.specs.declared.fault.FileRefusal.{FileRefusal}
use Rattle.fp_load.specs.declared.fault.FileRefusal.TheVariants as refusal

-- why there is no set: a limit and how much it lets, the files that are no class files or have a method that is not kinded, each
-- with its first fault, or that the classes are no sound set
pub data LoadRefusal : Type 0 where
  Passed : (limit : LimitName) (most : ℕ) → LoadRefusal
  Faulty : (faults : List (List ℕ × FileRefusal)) → LoadRefusal
  Unsound : (why : SetRefusal) → LoadRefusal

-- ---- limits

abbrev pub most_files : ℕ
most_files = 20000

abbrev pub most_file_bytes : ℕ
most_file_bytes = 4194304

abbrev pub most_bytes : ℕ
most_bytes = 268435456

abbrev pub most_names : ℕ
most_names = 16777216

abbrev pub most_methods : ℕ
most_methods = 262144

-- ---- the files

-- the class files below a directory, in the order of their paths
abbrev pub files_below : List File → List ℕ → List File
files_below files dir = map (λ path. record { path = path; bytes = unwrap_or (bytes_at files path) [] }) (in_text_order (class_paths files dir))

-- The first limit that is passed where the files are read one after the other, so many bytes having been read before:
-- a file's own comes before that of all.
unfoldable pub passed_from : (before : ℕ) → List File → Option LoadRefusal
passed_from before [] = None
passed_from before (file ∷ files) =
    if nat_lt most_file_bytes (length file.bytes) then Some (Passed FileBytes most_file_bytes)
    else if nat_lt most_bytes (before + length file.bytes) then Some (Passed AllBytes most_bytes)
    else passed_from (before + length file.bytes) files

-- ---- class files

-- a file's fault, if it has one, and its class file
abbrev pub fault_in : List ℕ → Result Raw FileFault → List (List ℕ × FileRefusal)
fault_in path (Ok raw) = []
fault_in path (Err fault) = (path, refusal.File fault) ∷ []

abbrev pub raw_in : Result Raw FileFault → List Raw
raw_in (Ok raw) = raw ∷ []
raw_in (Err fault) = []

-- the files that are no class files, each with its first fault
abbrev pub faults_of : List File → List (List ℕ × FileRefusal)
faults_of files = flat_map (λ file. fault_in file.path (class_of file.bytes)) files

-- the class files
abbrev pub raws_of : List File → List Raw
raws_of files = flat_map (λ file. raw_in (class_of file.bytes)) files

-- ---- classes

-- the table of their texts
abbrev pub names_of : List Raw → List (List ℕ)
names_of raws = with_names [] (flat_map taken_names raws)

-- the class of a file; a module has none
abbrev pub classes_of : List (List ℕ) → Raw → List Class
classes_of names raw = if is_module raw.flags then [] else class_in names raw ∷ []

-- those of files, each with the path of its file
abbrev pub placed_in : List (List ℕ) → File → List Placed
placed_in names file = map (λ c. (file.path, c)) (flat_map (classes_of names) (raw_in (class_of file.bytes)))

abbrev pub placed_classes : List (List ℕ) → List File → List Placed
placed_classes names files = flat_map (placed_in names) files

abbrev pub set_of : List Raw → SetView
set_of raws = record { classes = flat_map (classes_of (names_of raws)) raws; names = names_of raws }

-- ---- the outcome, from the set outwards

abbrev pub loaded_of_sound : SetView → Result SetView LoadRefusal
loaded_of_sound set = if nat_lt most_methods (length (methods_of set.classes)) then Err (Passed Methods most_methods) else Ok set

abbrev pub loaded_of_set : SetView → Option SetRefusal → Result SetView LoadRefusal
loaded_of_set set (Some why) = Err (Unsound why)
loaded_of_set set None = loaded_of_sound set

-- after the methods whose words have no kinds
abbrev pub loaded_of_kinds : SetView → List (List ℕ × FileRefusal) → Result SetView LoadRefusal
loaded_of_kinds set [] = loaded_of_set set (refusal_of set)
loaded_of_kinds set (fault ∷ faults) = Err (Faulty (fault ∷ faults))

-- some frames may be too large; modules are not looked at
abbrev pub loaded_of_classes : SetView → List Placed → Result SetView LoadRefusal
loaded_of_classes set classes =
    if list_any (λ c. has_large c.1) classes then Err (Passed FrameWords most_frame_words) else loaded_of_kinds set (refusals_of classes)

abbrev pub loaded_of_raws : List File → List Raw → Result SetView LoadRefusal
loaded_of_raws files raws =
    if nat_lt most_names (length (names_of raws)) then Err (Passed Names most_names)
    else loaded_of_classes (set_of raws) (placed_classes (names_of raws) files)

abbrev pub loaded_of_faults : List File → List (List ℕ × FileRefusal) → Result SetView LoadRefusal
loaded_of_faults files [] = loaded_of_raws files (raws_of files)
loaded_of_faults files (fault ∷ faults) = Err (Faulty (fault ∷ faults))

abbrev pub loaded_of_bytes : List File → Option LoadRefusal → Result SetView LoadRefusal
loaded_of_bytes files (Some passed) = Err passed
loaded_of_bytes files None = loaded_of_faults files (faults_of files)

-- the set of the class files below a directory, or the first refusal
abbrev pub loaded_of : List File → List ℕ → Result SetView LoadRefusal
loaded_of files dir =
    if nat_lt most_files (length (class_paths files dir)) then Err (Passed Files most_files)
    else loaded_of_bytes (files_below files dir) (passed_from 0 (files_below files dir))
