-- Files that a directory tells, as paths with their bytes.
use Rattle.std.specs.Prelude.{ℕ, Bool, true, ◌&&◌, ◌==◌, if◌then◌else◌, is_none, nat_eq, List, [], ◌∷◌, length, take, filter, map, slice_index, String, string_bytes, Vec, Option, Some, None, codes}
use Rattle.std.specs.List.{starts_with, ends_with}
use Rattle.std.specs.Str.{bytes_eq}
use Rattle.std.specs.declared.alloc.Global.{Global}

-- a file: its path, and its contents
pub record File : Type 0 where
  pub path : List ℕ
  pub bytes : List ℕ

-- the contents of the file at a path
abbrev pub bytes_at : List File → List ℕ → Option (List ℕ)
bytes_at [] path = None
bytes_at (file ∷ files) path = if bytes_eq file.path path then Some file.bytes else bytes_at files path

-- the paths of files
abbrev pub paths_of : List File → List (List ℕ)
paths_of files = map (λ file. file.path) files

-- no two files have one path
abbrev pub distinct_paths : List File → Bool
distinct_paths [] = true
distinct_paths (file ∷ files) = is_none (bytes_at files file.path) && distinct_paths files

-- a path below a directory that ends in `.class`
abbrev pub is_class_file : List ℕ → List ℕ → Bool
is_class_file dir path = starts_with nat_eq path dir && (slice_index path (length dir) == 47) && ends_with nat_eq path (codes ".class")

-- the paths of the class files below a directory
abbrev pub class_paths : List File → List ℕ → List (List ℕ)
class_paths files dir = filter (is_class_file dir) (paths_of files)

-- the bytes of texts
abbrev pub texts : List (String Global) → List (List ℕ)
texts strings = map string_bytes strings

-- what a read gives of a file: it is cut at 4,194,305 bytes, one more than a class file may have
unfoldable pub first_bytes : List ℕ → List ℕ
first_bytes bytes = take 4194305 bytes

-- the file of a path and its contents
abbrev pub file_of : String Global × Vec ℕ Global → File
file_of pair = record { path = string_bytes pair.0; bytes = pair.1.items }

-- the files of paths and their contents
abbrev pub files_of : List (String Global × Vec ℕ Global) → List File
files_of pairs = map file_of pairs
