-- Reading by offset: what stands there, with the offset after it, or a fault. An offset may lie past the end.
use Rattle.std.specs.Prelude.{◌≡◌, ℕ, zero, suc, ◌+◌, ◌==◌, nat_le, Bool, List, [], ◌∷◌, ◌++◌, length, take, drop, Result, Ok, Err, if◌then◌else◌}
use Rattle.std.specs.Int.{Width, w16, byte_len, from_be_bytes}
use Rattle.fp_model.specs.declared.fault.FileFault.{FileFault}
use Rattle.fp_model.specs.declared.fault.FileFault.TheVariants as fault

infixl 10 ◌>>=◌
-- what a step gives goes to the next one, and the first fault is the answer
abbrev pub ◌>>=◌ : {A B : Type 0} → Result A FileFault → (A → Result B FileFault) → Result B FileFault
(Ok x) >>= next = next x
(Err e) >>= next = Err e

-- a test that is passed, or a fault
abbrev pub demanded : Bool → FileFault → Result (Unit {0}) FileFault
demanded passed f = if passed then Ok tt else Err f

-- a call answers a fault of reading, or that memory ran out
abbrev pub Fails : {X : Type 0} → FileFault → Result X FileFault → Type 0
Fails fault.Memory read = Unit {0}
Fails e read = read ≡ Err e

-- a call answers what reading gives, or that memory ran out
abbrev pub Gives : {X : Type 0} → Result X FileFault → Result X FileFault → Type 0
Gives (Ok x) read = read ≡ Ok x
Gives (Err e) read = Fails e read

-- so many bytes
unfoldable pub bytes_at : ℕ → List ℕ → ℕ → Result (List ℕ × ℕ) FileFault
bytes_at count bytes at = if nat_le (at + count) (length bytes) then Ok (take count (drop at bytes), at + count) else Err (fault.Truncated at)

-- the offset behind so many bytes
unfoldable pub behind : ℕ → List ℕ → ℕ → Result ℕ FileFault
behind count bytes at = if nat_le (at + count) (length bytes) then Ok (at + count) else Err (fault.Truncated at)

-- a number, the high byte first
unfoldable pub number_at : Width → List ℕ → ℕ → Result (ℕ × ℕ) FileFault
number_at w bytes at =
    if nat_le (at + byte_len w) (length bytes)
    then Ok (from_be_bytes w (take (byte_len w) (drop at bytes)), at + byte_len w)
    else Err (fault.Truncated at)

-- the text stands at an offset, and what comes next behind it
pub record Takes (bytes : List ℕ) (at : ℕ) (text : List ℕ) (next : ℕ) : Type 0 where
  pub parts : drop at bytes ≡ text ++ drop next bytes
  pub after : next ≡ at + length text

-- so many of one kind, one after the other
unfoldable pub many_at : {A : Type 0} → (ℕ → Result (A × ℕ) FileFault) → ℕ → List A → ℕ → Result (List A × ℕ) FileFault
many_at read zero before at = Ok (before, at)
many_at read (suc n) before at = do
  x ← read at
  many_at read n (before ++ x.0 ∷ []) x.1

-- how many, and so many of one kind
unfoldable pub counted_at : {A : Type 0} → (ℕ → Result (A × ℕ) FileFault) → List ℕ → ℕ → Result (List A × ℕ) FileFault
counted_at read bytes at = do
  count ← number_at w16 bytes at
  many_at read count.0 [] count.1
