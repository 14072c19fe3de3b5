use Rattle.std.proofs.Common.{◌≡◌, ◌<◌, ℕ, false, IsTrue, length, slice_index}
use Rattle.fp_eqs.specs.Equations.{IsIn}
use Rattle.fp_eqs.specs.Makers.{is_lazy, is_maker}
use Rattle.fp_eqs.specs.Needs.{AreNeeds}
use Rattle.fp_eqs.specs.Solved.{flag_at}
use Rattle.fp_eqs.proofs.plain.wanted.wanted_places.Given as goal

abbrev pub invariant-loop-at : goal.invariant-loop-at
invariant-loop-at g l =
    let e = g.S.System.equations l.system in
    record {
      needs : AreNeeds e l.needs;
      shown : IsIn e.shown (flag_at l.needs.wanted.items);
      eager : (t : ℕ) → t < e.tasks → is_lazy (e.task t).start ≡ false → IsTrue (flag_at l.needs.started.items t);
      makers : (i t : ℕ) → i < l.at → i < length l.needs.found.items → t < e.tasks → IsTrue (is_maker (slice_index l.needs.found.items i) (e.task t)) → IsTrue (flag_at l.needs.started.items t);
    }
