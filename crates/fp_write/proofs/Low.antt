-- The low bytes of a number are those of what is left of it.
use Rattle.std.proofs.Common.{◌≡◌, ℕ, ◌%◌, ◌^◌, List, ◌++◌, length, ap, ◌∙◌, append_assoc, arith}
use Rattle.fp_model.specs.Spelling.{u2, u4}

pub u2_low : (n : ℕ) → u2 (n % 65536) ≡ u2 n
u2_low n = grind arith

pub u4_low : (n : ℕ) → u4 (n % 2 ^ 32) ≡ u4 n
u4_low n = grind arith

-- what is held is put behind its length, of which the low bytes are known
pub behind_length : (old measured new held : List ℕ) (size : ℕ) → size ≡ length held % 2 ^ 32 → measured ≡ old ++ u4 size → new ≡ measured ++ held → new ≡ old ++ (u4 (length held) ++ held)
behind_length old measured new held size low front all =
    all
    ∙ ap (λ bytes. bytes ++ held) (front ∙ ap (λ n. old ++ u4 n) low ∙ ap (λ bytes. old ++ bytes) (u4_low (length held)))
    ∙ append_assoc old (u4 (length held)) held
