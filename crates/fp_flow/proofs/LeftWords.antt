-- Whether a join leaves words as they are, by those from a place on.
use Rattle.std.proofs.Common.{◌≡◌, ℕ, List, drop}
use Rattle.fp_facts.specs.Frames.{join_words}

-- all words are left exactly where those from the place on are
pub record AreLeft {W : Type 0} (j : W → W → W) (xs ys : List W) (at : ℕ) : Type 0 where
  pub down : join_words j xs ys ≡ xs → join_words j (drop at xs) (drop at ys) ≡ drop at xs
  pub up : join_words j (drop at xs) (drop at ys) ≡ drop at xs → join_words j xs ys ≡ xs
