use Rattle.std.proofs.Common.{◌≡◌, ◌≤◌, ◌+◌, ◌-◌}
use Rattle.fp_eqs.specs.Bounds.{evaluation_bound}
use Rattle.fp_solo.specs.Working.{IsSolvingBy, IsWork}
use Rattle.fp_solo.proofs.solve.solve_one.Given as goal

abbrev pub invariant-loop-work : goal.invariant-loop-work
invariant-loop-work g l =
    let e = g.S.System.equations l.fn.system.system in
    record {
      system : l.system.system ≡ l.fn.system.system;
      work : IsWork e l.work;
      later : l.fn.system.evals ≤ l.system.evals;
      solving : IsSolvingBy e l.work (l.system.evals - l.fn.system.evals);
    }

abbrev pub decreases-loop-work : goal.decreases-loop-work
decreases-loop-work g l = l.fn.system.evals + evaluation_bound (g.S.System.equations l.fn.system.system) - l.system.evals
