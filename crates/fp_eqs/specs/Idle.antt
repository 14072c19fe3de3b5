-- A system with a lazy task that nothing demands, for tests.
use Rattle.std.specs.Prelude.{◌==◌, ◌<◌, ℕ, if◌then◌else◌, refl}
use Rattle.std.proofs.Common.{arith}
use Rattle.std.proofs.lemmas.Bool.{cond_both, eqb-true}
use Rattle.fp_eqs.specs.declared.start.Start.TheVariants.{Lazy}
use Rattle.fp_eqs.specs.Equations.{Task, Tasks, Equations, IsLawful, AllLawful, IsMonotone}
use Rattle.fp_eqs.specs.Demos.{constant_task, copy_task, constant_task-lawful, copy_task-lawful}

abbrev pub idle_task : ℕ → Task
idle_task t = if t == 0 then constant_task 0 else copy_task Lazy 0 1

-- place 0 is shown and made, and place 1 would copy it
abbrev pub idle : Equations
idle = record {
  places = 2;
  tasks = 2;
  task = idle_task;
  fixed = λ p. 0;
  shown = λ p. p == 0;
}

idle_task-lawful : (t : ℕ) → t < 2 → IsLawful 2 (idle_task t)
idle_task-lawful t lt =
    cond_both (t == 0) (constant_task 0) (copy_task Lazy 0 1) (IsLawful 2)
    (λ _. constant_task-lawful 2 0 (omega arith))
    (λ _. copy_task-lawful Lazy 2 0 1 (λ q h. cc) (omega arith) (omega arith))

pub idle-laws : IsMonotone idle
idle-laws = record {
  lawful = idle_task-lawful;
  fixed_fits = λ p. omega arith;
  fixed_places = λ p _. refl;
  shown_places = λ p h. let e = eqb-true p 0 h in omega arith;
}

-- one task, which gives 1 to place 0
abbrev pub one_task : Tasks
one_task = record { count = 1; task = λ t. constant_task 0 }

pub one_task-laws : AllLawful 1 one_task
one_task-laws t lt = constant_task-lawful 1 0 (omega arith)
