use Rattle.std.proofs.Common.{◌≡◌, ◌<◌, ◌==◌, ◌++◌, ◌∷◌, [], ℕ, cond, length, take}
use Rattle.std.specs.List.{flat_map}
use Rattle.fp_rta.specs.Listed.{places_at}
use Rattle.fp_rta.proofs.candidates.add_to_bits.Given as goal

abbrev pub invariant-loop-bit : goal.invariant-loop-bit
invariant-loop-bit l = record {
  long : length l.lists.items ≡ length l.initial.lists.items;
  lists : (b : ℕ) → b < length l.initial.lists.items → places_at l.lists.items b ≡ places_at l.initial.lists.items b ++ flat_map (λ (x : ℕ). cond (x == b) (l.place ∷ []) []) (take l.bit-index l.bits);
}
