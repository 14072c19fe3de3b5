-- What a hierarchy is of.
use Rattle.fp_model.specs.ClassSet.{SetView}
use Rattle.fp_hier.specs.Members.{IsDeclaredOf}
use Rattle.fp_hier.specs.Receivers.{AreReceiversOf}
use Rattle.fp_hier.specs.Lists.{AreListsOf}
use Rattle.fp_hier.specs.declared.hier.Hier.{Hier}

-- what was computed is of this set
pub record IsHierOf (set : SetView) (h : Hier) : Type 0 where
  pub lists : AreListsOf set.classes h.superinterfaces
  pub members : IsDeclaredOf set h.declared
  pub rows : AreReceiversOf set h.receivers
