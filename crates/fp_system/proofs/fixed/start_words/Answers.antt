use Rattle.std.proofs.Common.{ap, sym, ◌∙◌}
use Rattle.fp_base.specs.Names.{has_name}
use Rattle.fp_system.proofs.StartLemmas.{start_words-step}
use Rattle.fp_system.proofs.fixed.start_words.Goals as goal

pub loop-i-preserved : goal.loop-i-preserved
loop-i-preserved c =
    start_words-step (has_name c.args.selected.now) c.args.cells.now c.loop-i.i c.unwrap-kind.result c.is_some-is_selected.result c.loop-i.words.items c.push_words.new.words.items
    (sym c.cell.ensures.cell ∙ c.unwrap-kind.ensures)
    (c.is_some-is_selected.ensures ∙ c.find.ensures.found ∙ ap (has_name c.args.selected.now) c.analysis_of.ensures)
    c.loop-i.invariant c.in_ok-push_words.ensures
