use Rattle.std.proofs.Common.{◌<◌, ℕ, IsTrue}
use Rattle.fp_eqs.specs.Needs.{AreNeeds}
use Rattle.fp_eqs.specs.Solved.{flag_at}
use Rattle.fp_eqs.proofs.plain.wanted.want_shown.Given as goal

abbrev pub invariant-loop-place : goal.invariant-loop-place
invariant-loop-place g l = record {
  needs : AreNeeds (g.S.System.equations l.system) l.needs;
  shown : (p : ℕ) → p < l.place → IsTrue ((g.S.System.equations l.system).shown p) → IsTrue (flag_at l.needs.wanted.items p);
}
