use Rattle.std.proofs.Common.{ℕ, arith}
use Rattle.std.specs.Option.{option_to_list}
use Rattle.fp_model.specs.ClassSet.{class_named}
use Rattle.fp_extract.specs.Begun.{is_flagged}
use Rattle.fp_extract.proofs.BegunLists.{passed-next}
use Rattle.fp_extract.proofs.begun.push_named.Goals as goal

pub loop-name-preserved : goal.loop-name-preserved
loop-name-preserved c =
    passed-next (is_flagged c.args.initialisers.now) (λ (name : ℕ). option_to_list (class_named c.args.set.now.classes name)) c.args.names.now c.loop-name.name-index 0
    c.args.begun.now.items c.loop-name.begun.items c.push_class_named.new.begun.items (omega (arith, c.loop-name-test.true)) c.loop-name.invariant c.in_ok-push_class_named.ensures
