-- A system of one analysis, for tests.
use Rattle.std.specs.Prelude.{ℕ, nat_lt, refl}
use Rattle.std.proofs.Common.{arith}
use Rattle.std.proofs.lemmas.Bool.{ltb-true}
use Rattle.fp_eqs.specs.Equations.{AllLawful, Equations, IsMonotone, Tasks}

-- each place starts with nothing, and is shown
abbrev pub alone : (places : ℕ) → Tasks → Equations
alone places x = record {
  places = places;
  tasks = x.count;
  task = x.task;
  fixed = λ p. 0;
  shown = λ p. nat_lt p places;
}

pub alone-monotone : (places : ℕ) (x : Tasks) → AllLawful places x → IsMonotone (alone places x)
alone-monotone places x lawful = record {
  lawful = lawful;
  fixed_fits = λ p. omega arith;
  fixed_places = λ p _. refl;
  shown_places = λ p h. ltb-true p places h;
}
