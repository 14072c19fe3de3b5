-- What a map of files by their paths says of the told files.
use Rattle.std.proofs.Common.{◌≡◌, ℕ, Bool, true, false, cond, ◌&&◌, List, [], ◌∷◌, Option, None, Some, String, Global, Vec, is_none, string_bytes, refl, ap, ◌∙◌}
use Rattle.std.proofs.lemmas.Map.Keys.{IsDistinct-head, IsDistinct-tail}
use Rattle.std.specs.Cmp.Lexicographic.{nat_list_eq_equiv}
use Rattle.std.specs.List.{AllByRecursion, IsDistinct}
use Rattle.std.specs.Map.{keys_of, lookup}
use Rattle.std.specs.Option.{option_map}
use Rattle.std.specs.Str.{bytes_eq}
use Rattle.std.specs.String.{string_eq}
use Rattle.fp_base.specs.Files.{bytes_at, distinct_paths, files_of}

-- a file that is told first, or what is told behind it
told_first : (b : Bool) (bytes : Vec ℕ Global) (found : Option (Vec ℕ Global)) (told : Option (List ℕ)) → option_map (λ bytes. bytes.items) found ≡ told → option_map (λ bytes. bytes.items) (cond b (Some bytes) found) ≡ cond b (Some bytes.items) told
told_first true bytes found told rest = refl
told_first false bytes found told rest = rest

-- what a look-up by the bytes of a path finds are the contents of the file that is told there
pub lookup-told : (es : List (String Global × Vec ℕ Global)) (path : List ℕ) → option_map (λ bytes. bytes.items) (lookup (λ k. bytes_eq path (string_bytes k)) es) ≡ bytes_at (files_of es) path
lookup-told [] path = refl
lookup-told (e ∷ es) path =
    rw (nat_list_eq_equiv.symm path (string_bytes e.0))
    (told_first (bytes_eq (string_bytes e.0) path) e.1 (lookup (λ k. bytes_eq path (string_bytes k)) es) (bytes_at (files_of es) path) (lookup-told es path))

-- no file is told at a path that no key has
none-told : (path : List ℕ) (es : List (String Global × Vec ℕ Global)) → AllByRecursion (λ k. bytes_eq path (string_bytes k) ≡ false) (keys_of es) → bytes_at (files_of es) path ≡ None
none-told path [] apart = refl
none-told path (e ∷ es) apart =
    ap (λ b. cond b (Some e.1.items) (bytes_at (files_of es) path)) (nat_list_eq_equiv.symm (string_bytes e.0) path ∙ apart.0) ∙ none-told path es apart.1

-- a map tells no two files of one path
pub distinct-told : (es : List (String Global × Vec ℕ Global)) → IsDistinct string_eq (keys_of es) → distinct_paths (files_of es) ≡ true
distinct-told [] apart = refl
distinct-told (e ∷ es) apart =
    ap (λ found. is_none found && distinct_paths (files_of es)) (none-told (string_bytes e.0) es (IsDistinct-head string_eq e.0 (keys_of es) apart))
    ∙ distinct-told es (IsDistinct-tail string_eq e.0 (keys_of es) apart)
