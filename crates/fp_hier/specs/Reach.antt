-- What a call reaches, as it is kept until its bits are told.
use Rattle.std.specs.Prelude.{ℕ}
use Rattle.fp_facts.specs.Selection.{Candidates}
use Rattle.fp_hier.specs.declared.calls.CallReach.{CallReach}
use Rattle.fp_hier.specs.Targets.{AreTargets, AreTargetsByClass}

-- among so many methods
pub record IsReach (methods : ℕ) (c : Candidates) (r : CallReach) : Type 0 where
  pub always_told : AreTargets methods c.always r.always
  pub by_class_told : AreTargetsByClass methods c.by_class r.by_class.items
