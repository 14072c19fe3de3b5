use Rattle.std.proofs.lemmas.Result.{IfOk-weaker}
use Rattle.fp_base.specs.Files.{texts}
use Rattle.fp_system.proofs.RootLemmas.{roots_same}
use Rattle.fp_system.proofs.words.roots.find_roots.Goals as goal

pub returns : goal.returns
returns c =
    IfOk-weaker c.find_methods.result _ _
    (λ found noted. roots_same c.args.set.now c.in_ok-wanted.wanted.texts found (texts c.args.roots.now) c.in_ok-wanted.ensures noted)
    c.find_methods.ensures
