-- Which limit the files pass that are read one after the other.
use Rattle.std.proofs.Common.{◌≡◌, ℕ, ◌+◌, ◌<◌, ◌≤◌, nat_lt, List, [], ◌∷◌, length, Option, Some, None, if◌then◌else◌, refl, sym, ap, ◌∙◌, arith}
use Rattle.std.specs.Prelude.{unwrap_or}
use Rattle.std.specs.Option.{option_map}
use Rattle.std.proofs.lemmas.Bool.{cond-true, cond-false, lt-ltb, le-ltb}
use Rattle.fp_base.specs.Files.{File, first_bytes}
use Rattle.fp_base.proofs.ReadLemmas.{first_bytes-short, first_bytes-long}
use Rattle.fp_model.specs.declared.limit.LimitName.TheVariants.{FileBytes, AllBytes}
use Rattle.fp_load.specs.Load.{passed_from, most_bytes, most_file_bytes}
use Rattle.fp_load.specs.Load.LoadRefusal.{Passed}

-- ---- what was read of a file

-- a file of which few bytes were read is whole
pub whole_file : (file : Option (List ℕ)) (bytes : List ℕ) → option_map first_bytes file ≡ Some bytes → length bytes ≤ 4194304 → file ≡ Some bytes
whole_file None bytes is short = absurd cc
whole_file (Some whole) bytes is short =
    let same : first_bytes whole ≡ bytes = cc in
    ap Some (sym (first_bytes-short whole (omega (arith, ap length same))) ∙ same)

-- one of which more were read has more
pub long_file : (file : Option (List ℕ)) (bytes : List ℕ) → option_map first_bytes file ≡ Some bytes → 4194304 < length bytes → 4194304 < length (unwrap_or file [])
long_file None bytes is long = absurd cc
long_file (Some whole) bytes is long =
    let same : first_bytes whole ≡ bytes = cc in
    first_bytes-long whole (omega (arith, ap length same))

-- ---- the next file

after_own : (before : ℕ) (file : File) (rest : List File) → length file.bytes ≤ most_file_bytes → passed_from before (file ∷ rest) ≡ (if nat_lt most_bytes (before + length file.bytes) then Some (Passed AllBytes most_bytes) else passed_from (before + length file.bytes) rest)
unfolding passed_from
after_own before file rest short =
    cond-false (nat_lt most_file_bytes (length file.bytes)) (Some (Passed FileBytes most_file_bytes)) _ (le-ltb most_file_bytes (length file.bytes) short)

pub own_passed : (before : ℕ) (file : File) (rest : List File) → most_file_bytes < length file.bytes → passed_from before (file ∷ rest) ≡ Some (Passed FileBytes most_file_bytes)
unfolding passed_from
own_passed before file rest long = cond-true (nat_lt most_file_bytes (length file.bytes)) (Some (Passed FileBytes most_file_bytes)) _ (lt-ltb most_file_bytes (length file.bytes) long)

pub all_passed : (before : ℕ) (file : File) (rest : List File) → length file.bytes ≤ most_file_bytes → most_bytes < before + length file.bytes → passed_from before (file ∷ rest) ≡ Some (Passed AllBytes most_bytes)
all_passed before file rest short much =
    after_own before file rest short
    ∙ cond-true (nat_lt most_bytes (before + length file.bytes)) (Some (Passed AllBytes most_bytes)) (passed_from (before + length file.bytes) rest) (lt-ltb most_bytes (before + length file.bytes) much)

pub none_passed : (before : ℕ) (file : File) (rest : List File) → length file.bytes ≤ most_file_bytes → before + length file.bytes ≤ most_bytes → passed_from before (file ∷ rest) ≡ passed_from (before + length file.bytes) rest
none_passed before file rest short room =
    after_own before file rest short
    ∙ cond-false (nat_lt most_bytes (before + length file.bytes)) (Some (Passed AllBytes most_bytes)) (passed_from (before + length file.bytes) rest) (le-ltb most_bytes (before + length file.bytes) room)

pub passed_at_end : (before : ℕ) → passed_from before [] ≡ None
unfolding passed_from
passed_at_end before = refl
