-- What a constant pool without a fault gives instructions.
use Rattle.std.proofs.Common.{List}
use Rattle.fp_model.specs.declared.raw.pool.Entry.{Entry}
use Rattle.fp_model.specs.declared.raw.attribute.BootRow.{BootRow}
use Rattle.fp_ops.specs.Checked.{AreCheckedBoots, GivesForms, IsCheckedPool}
use Rattle.fp_ops.proofs.PoolConstants.{constant_there}
use Rattle.fp_ops.proofs.PoolMembers.{field_there, method_there}
use Rattle.fp_ops.proofs.PoolSites.{site_there}
use Rattle.fp_ops.proofs.PoolTexts.{array_there, class_text_there}

pub gives_forms : (entries : List Entry) (boots : List BootRow) → IsCheckedPool entries → AreCheckedBoots entries boots → GivesForms entries boots
gives_forms entries boots checked rows = record {
  field = field_there entries checked;
  method = method_there entries checked;
  class = class_text_there entries checked;
  array = array_there entries checked;
  site = site_there entries checked boots rows;
  constant = constant_there entries checked;
}
