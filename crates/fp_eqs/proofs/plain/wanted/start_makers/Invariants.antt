use Rattle.std.proofs.Common.{◌<◌, ℕ, IsTrue}
use Rattle.fp_eqs.specs.Makers.{is_maker, rank}
use Rattle.fp_eqs.specs.Needs.{AreLater, AreNeeds}
use Rattle.fp_eqs.specs.Solved.{flag_at}
use Rattle.fp_eqs.proofs.plain.wanted.start_makers.Given as goal

abbrev pub invariant-loop-k : goal.invariant-loop-k
invariant-loop-k g l =
    let e = g.S.System.equations l.system in
    record {
      needs : AreNeeds e l.needs;
      later : AreLater l.initial.needs l.needs;
      started : (t : ℕ) → t < e.tasks → IsTrue (is_maker l.place (e.task t)) → rank e.task l.place t < l.k → IsTrue (flag_at l.needs.started.items t);
    }
