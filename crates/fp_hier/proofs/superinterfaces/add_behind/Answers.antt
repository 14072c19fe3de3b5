use Rattle.fp_hier.proofs.SharedNames.{all-behind, none-behind, one-behind}
use Rattle.fp_hier.proofs.superinterfaces.add_behind.Goals as goal

pub loop-index-init : goal.loop-index-init
loop-index-init c = none-behind c.args.list.now c.args.names.now.items c.args.but

pub loop-index-preserved : goal.loop-index-preserved
loop-index-preserved c =
    one-behind c.args.list.now c.args.names.now.items c.loop-index.names.items c.push.new.self.items c.args.but c.loop-index.index c.loop-index.auto.index c.loop-index-test.true c.loop-index.invariant c.in_ok-push.ensures.items

pub returns : goal.returns
returns c = all-behind c.args.list.now c.args.names.now.items c.loop-index.names.items c.args.but c.loop-index.index c.loop-index-test.false c.loop-index.invariant
