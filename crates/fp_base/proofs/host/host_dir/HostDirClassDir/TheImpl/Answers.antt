-- The directory tells no files, so what is said of told files says nothing of it.
use Rattle.std.proofs.Common.{refl}
use Rattle.fp_base.proofs.ResultLemmas.{IfOk-never}
use Rattle.fp_base.proofs.host.host_dir.HostDirClassDir.TheImpl.Goals as goal

pub list-tells : goal.list-tells
list-tells g c =
    record {
      tells = refl;
      files = refl;
      below = c.ensures.below;
      told = IfOk-never c.result _;
      listed = c.ensures.listed;
      kept = c.ensures.kept;
      present = c.ensures.present;
      cause = c.ensures.cause;
      readings = c.ensures.readings;
    }

pub read-tells : goal.read-tells
read-tells g c =
    record {
      tells = refl;
      files = refl;
      listed = c.ensures.listed;
      told = IfOk-never c.result _;
      absent = λ is. absurd (c.ensures.present is);
      absent_is_no_fault = λ is. absurd (c.ensures.present is);
      cause = c.ensures.cause;
      readings = c.ensures.readings;
    }
