-- The sink tells nothing, before a put and after it.
use Rattle.std.proofs.Common.{refl}
use Rattle.fp_base.proofs.ResultLemmas.{OnOk-always}
use Rattle.fp_base.proofs.host.host_sink.HostSinkSink.TheImpl.Goals as goal

pub put-tells : goal.put-tells
put-tells g c =
    record {
      whole = OnOk-always c.result refl;
      prefix = c.ensures.prefix;
      memory = λ _. refl;
      cause = c.ensures.cause;
    }
