-- What the first bytes of a file tell of its bytes.
use Rattle.std.proofs.Common.{◌≡◌, ℕ, ◌+◌, ◌≤◌, ◌<◌, List, length, take, arith}
use Rattle.std.proofs.lemmas.List.{take_all, length-take}
use Rattle.fp_base.specs.Files.{first_bytes}

-- a prefix that is not cut is the whole
take-uncut : (most : ℕ) (bytes : List ℕ) → length (take (most + 1) bytes) ≤ most → take (most + 1) bytes ≡ bytes
take-uncut most bytes short = take_all (most + 1) bytes (omega (arith, length-take (most + 1) bytes))

-- a prefix is no longer than the whole
take-cut : (most count : ℕ) (bytes : List ℕ) → count < length (take most bytes) → count < length bytes
take-cut most count bytes long = omega (arith, length-take most bytes)

-- where they are no more than a class file may have, they are all
pub first_bytes-short : (bytes : List ℕ) → length (first_bytes bytes) ≤ 4194304 → first_bytes bytes ≡ bytes
unfolding first_bytes
first_bytes-short bytes short = take-uncut 4194304 bytes short

-- where they are more than that, so are all
pub first_bytes-long : (bytes : List ℕ) → 4194304 < length (first_bytes bytes) → 4194304 < length bytes
unfolding first_bytes
first_bytes-long bytes long = take-cut 4194305 4194304 bytes long
