use Rattle.std.proofs.Common.{◌∙◌, ap, length}
use Rattle.std.proofs.lemmas.Result.{IfOk-weaker}
use Rattle.fp_base.specs.Files.{texts}
use Rattle.fp_base.specs.Names.{has_name}
use Rattle.fp_system.proofs.BuildLemmas.{firsts_are, flags_are}
use Rattle.fp_system.proofs.ShowLemmas.{java_entities, length-flags}
use Rattle.fp_system.proofs.words.shown.show_cells.Goals as goal

pub find_shown-requires : goal.find_shown-requires
find_shown-requires c = java_entities c.args.set.now c.args.cells.now c.requires

pub returns-clause-flags : goal.returns-clause-flags
returns-clause-flags c =
    let items = c.in_ok-items.items.items.texts in
    IfOk-weaker c.find_shown.result _ _
    (λ s made. flags_are c.args.set.now (texts c.args.show.now) c.args.cells.now (has_name items) s.flags.items c.requires c.in_ok-items.ensures made)
    c.find_shown.ensures.flags

pub returns-clause-cells : goal.returns-clause-cells
returns-clause-cells c =
    let items = c.in_ok-items.items.items.texts in
    IfOk-weaker c.find_shown.result _ _
    (λ s made. firsts_are c.args.set.now (texts c.args.show.now) c.args.cells.now (has_name items) s.cells.items c.requires c.in_ok-items.ensures made)
    c.find_shown.ensures.cells

pub returns-clause-long : goal.returns-clause-long
returns-clause-long c =
    let items = c.in_ok-items.items.items.texts in
    IfOk-weaker c.find_shown.result _ _
    (λ s made. ap length made ∙ length-flags c.args.set.now (has_name items) c.args.cells.now)
    c.find_shown.ensures.flags
