-- Lists of words that are related place by place, and their parts.
use Rattle.std.proofs.Common.{◌≡◌, ◌-◌, ◌==◌, ℕ, List, [], ◌∷◌, ◌++◌, length, map, take, drop, replicate, slice_index_or, cond, true, false, Bool, refl, ap, zero, suc}
use Rattle.fp_facts.specs.Moves.{written_at, Zipped}
use Rattle.fp_facts.specs.Moves.Zipped.{no_words, more_words}

module _ {W V : Type 0} (R : W → V → Type 0) where
  pub zipped-length : {l : List W} {m : List V} → Zipped R l m → length l ≡ length m
  zipped-length no_words = refl
  zipped-length (more_words related rest) = ap suc (zipped-length rest)

  pub zipped-append : {l s : List W} {m t : List V} → Zipped R l m → Zipped R s t → Zipped R (l ++ s) (m ++ t)
  zipped-append no_words k = k
  zipped-append (more_words related rest) k = more_words related (zipped-append rest k)

  pub zipped-take : (n : ℕ) {l : List W} {m : List V} → Zipped R l m → Zipped R (take n l) (take n m)
  zipped-take zero h = no_words
  zipped-take (suc n) no_words = no_words
  zipped-take (suc n) (more_words related rest) = more_words related (zipped-take n rest)

  pub zipped-drop : (n : ℕ) {l : List W} {m : List V} → Zipped R l m → Zipped R (drop n l) (drop n m)
  zipped-drop zero h = h
  zipped-drop (suc n) no_words = no_words
  zipped-drop (suc n) (more_words related rest) = zipped-drop n rest

  pub zipped-word : (none : W) (nothing : V) → R none nothing → {l : List W} {m : List V} → Zipped R l m → (at : ℕ) →
      R (slice_index_or l at none) (slice_index_or m at nothing)
  zipped-word none nothing absent no_words at = absent
  zipped-word none nothing absent (more_words related rest) zero = related
  zipped-word none nothing absent (more_words related rest) (suc at) = zipped-word none nothing absent rest at

  -- the same function of each number
  pub zipped-map : (f : ℕ → W) (g : ℕ → V) → ((n : ℕ) → R (f n) (g n)) → (ns : List ℕ) → Zipped R (map f ns) (map g ns)
  zipped-map f g each [] = no_words
  zipped-map f g each (n ∷ ns) = more_words (each n) (zipped-map f g each ns)

  pub zipped-replicate : (x : W) (y : V) → R x y → (n : ℕ) → Zipped R (replicate n x) (replicate n y)
  zipped-replicate x y related zero = no_words
  zipped-replicate x y related (suc n) = more_words related (zipped-replicate x y related n)

  zipped-if : (t : Bool) {l s : List W} {m u : List V} → Zipped R l m → Zipped R s u → Zipped R (cond t l s) (cond t m u)
  zipped-if true h k = h
  zipped-if false h k = k

  pub zipped-written : (at : ℕ) {words l : List W} {others m : List V} → Zipped R words others → Zipped R l m → Zipped R (written_at at words l) (written_at at others m)
  zipped-written at words no_words = no_words
  zipped-written at no_words (more_words related rest) = more_words related rest
  zipped-written at (more_words word words) (more_words related rest) =
      zipped-if (at == 0) (more_words word (zipped-written 0 words rest)) (more_words related (zipped-written (at - 1) (more_words word words) rest))
