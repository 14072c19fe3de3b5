-- The table of what calls can reach.
use Rattle.std.specs.Prelude.{◌≡◌, IsTrue, map}
use Rattle.fp_model.specs.ClassSet.{SetView}
use Rattle.fp_extract.specs.declared.calls.CallTable.{CallTable}
use Rattle.fp_extract.specs.Rooms.{call_cost, fits, targets_of}

-- it has what calls of each reference cost, and, as long as no bound is passed, what they can reach
pub record IsCallTable (set : SetView) (t : CallTable) : Type 0 where
  pub costs : t.costs.items ≡ map (call_cost set) t.references
  pub targets : IsTrue (fits t.left) → t.targets.items ≡ map (targets_of set) t.references
