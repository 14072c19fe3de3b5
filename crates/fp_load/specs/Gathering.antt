-- What is gathered of the files that were read.
use Rattle.std.specs.Prelude.{◌≡◌, ℕ, ◌<◌, ◌++◌, Bool, true, false, not, List, [], ◌∷◌, length, map, filter, All, IsTrue, if◌then◌else◌}
use Rattle.std.specs.List.{flat_map, AllZip}
use Rattle.fp_base.specs.Files.{File, texts}
use Rattle.fp_model.specs.declared.class.Class.{Class}
use Rattle.fp_model.specs.declared.raw.Raw.{Raw}
use Rattle.fp_class.specs.ClassFile.{class_of, is_module, IsWellFormed}
use Rattle.fp_class.specs.Classes.{IsClassOf}
use Rattle.fp_load.specs.Faults.{refusal_told}
use Rattle.fp_load.specs.Load.{faults_of, most_names, names_of, passed_from, raw_in, raws_of}
use Rattle.fp_load.specs.Steps.{file_at}
use Rattle.fp_load.specs.declared.gathering.Gathered.{Gathered}

-- the class files that are no modules
abbrev pub with_class : List Raw → List Raw
with_class raws = filter (λ raw. not (is_module raw.flags)) raws

-- the table has the texts of class files, and the classes are theirs
pub record IsNamed (raws : List Raw) (names : List (List ℕ)) (classes : List Class) : Type 0 where
  pub names_are : names ≡ names_of raws
  pub classes_are : AllZip (IsClassOf names) classes (with_class raws)

-- the same, or that they have too many texts
pub record AreNumbered (raws : List Raw) (names : List (List ℕ)) (classes : List Class) (full : Bool) : Type 0 where
  pub formed : All IsWellFormed raws
  pub named : full ≡ false → IsNamed raws names classes
  pub crowded : full ≡ true → most_names < length (names_of raws)

-- the path of a file that has a class
abbrev pub path_of : List ℕ → Raw → List (List ℕ)
path_of path raw = if is_module raw.flags then [] else path ∷ []

abbrev pub path_in : File → List (List ℕ)
path_in file = flat_map (path_of file.path) (raw_in (class_of file.bytes))

-- the paths of the files that have one
abbrev pub class_paths_of : List File → List (List ℕ)
class_paths_of files = flat_map path_in files

-- what is gathered is of these files
pub record IsGathered (files : List File) (g : Gathered) : Type 0 where
  pub faults_are : map refusal_told g.faults ≡ faults_of files
  pub paths_are : g.full ≡ false → texts g.paths.items ≡ class_paths_of files
  pub numbered : AreNumbered (raws_of files) g.names g.classes.items g.full

-- The files at these paths were read and gathered, and have so many bytes; where files are told, these are the told ones. What
-- they pass is what those behind them pass.
pub record HasRead (tells : Bool) (files : List File) (paths : List (List ℕ)) (sum : ℕ) (g : Gathered) : Type 0 where
  pub read : List File
  pub count : length read ≡ length paths
  pub told : IsTrue tells → read ≡ map (file_at files) paths
  pub gathered : IsGathered read g
  pub passed : (rest : List File) → passed_from 0 (read ++ rest) ≡ passed_from sum rest
