-- What the lists of targets that are handed in tell.
use Rattle.std.specs.Prelude.{◌≡◌, ℕ, ◌==◌, nat_lt, Bool, not, List, length, filter, map, position, Option}
use Rattle.std.specs.List.Sorted.{IsStrictlyIncreasing}
use Rattle.fp_facts.specs.Hierarchy.{has_number}
use Rattle.fp_facts.specs.Selection.{Candidates, Reached, all_reached, always_bits, bits_of, watched_bits}
use Rattle.fp_facts.specs.declared.call_targets.CallTargets.{CallTargets}
use Rattle.fp_hier.specs.declared.targets.Targets.{Targets}

-- what is reached
abbrev pub as_reached : Targets → Reached
as_reached t = record { methods = t.methods; outside = t.outside }

abbrev pub as_candidates : Targets → List (ℕ × Targets) → Candidates
as_candidates always told = record { always = as_reached always; by_class = map (λ t. (t.0, as_reached t.1)) told }

-- the place of the first number that is this one
abbrev pub place_in : List ℕ → ℕ → Option ℕ
place_in numbers number = position (λ n. n == number) numbers

-- the bits of what is reached, without some
abbrev pub bits_without : (targets without : List ℕ) → Reached → List ℕ
bits_without targets without reached = filter (λ bit. not (has_number without bit)) (bits_of targets reached)

-- a class has bits
abbrev pub has_bits : ℕ × List ℕ → Bool
has_bits w = nat_lt 0 (length w.1)

-- the targets of a call, for any lists of methods: all that are reached, ascending and each once, and the bits among them
pub record AreToldTargets (c : Candidates) (t : CallTargets) : Type 0 where
  pub rising : IsStrictlyIncreasing t.targets
  pub members : (m : ℕ) → has_number t.targets m ≡ has_number (all_reached c) m
  pub always_told : t.always ≡ always_bits t.targets c
  pub watch_told : t.watch ≡ watched_bits t.targets c
