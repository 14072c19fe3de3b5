use Rattle.std.proofs.Common.{◌≡◌, ◌<◌, ℕ, false, IsTrue}
use Rattle.fp_eqs.specs.Makers.{is_lazy}
use Rattle.fp_eqs.specs.Needs.{AreLater, AreNeeds}
use Rattle.fp_eqs.specs.Solved.{flag_at}
use Rattle.fp_eqs.proofs.plain.wanted.start_eager.Given as goal

abbrev pub invariant-loop-task : goal.invariant-loop-task
invariant-loop-task g l = record {
  needs : AreNeeds (g.S.System.equations l.system) l.needs;
  later : AreLater l.initial.needs l.needs;
  started : (t : ℕ) → t < l.task → is_lazy ((g.S.System.equations l.system).task t).start ≡ false → IsTrue (flag_at l.needs.started.items t);
}
