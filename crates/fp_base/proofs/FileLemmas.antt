-- Paths below a directory that end as class files do.
use Rattle.std.proofs.Common.{◌≡◌, ℕ, Bool, true, List, [], ◌∷◌, ◌++◌, String, Global, string_bytes, ap, ◌∙◌}
use Rattle.std.proofs.lemmas.List.{map-append}
use Rattle.std.proofs.lemmas.List.Elements.{All-push, filter_passes}
use Rattle.std.specs.List.{AllPass}
use Rattle.fp_base.specs.Files.{File, class_paths, is_class_file, paths_of, texts}

-- each of the paths that told files have below a directory passes
pub class_paths-pass : (files : List File) (dir : List ℕ) (paths : List (List ℕ)) → paths ≡ class_paths files dir → AllPass (is_class_file dir) paths
class_paths-pass files dir paths is = rw is (filter_passes (is_class_file dir) (paths_of files))

-- with one more text that passes, all pass
pub texts-pass : (test : List ℕ → Bool) (strings new : List (String Global)) (string : String Global) → new ≡ strings ++ string ∷ [] → AllPass test (texts strings) → test (string_bytes string) ≡ true → AllPass test (texts new)
texts-pass test strings new string is before here =
    rw (ap texts is ∙ map-append string_bytes strings (string ∷ [])) (All-push (λ text. test text ≡ true) (texts strings) (string_bytes string) before here)
