use Rattle.std.proofs.Common.{◌≡◌, ◌∙◌, ap, arith, length, sym}
use Rattle.fp_base.specs.Files.{texts}
use Rattle.fp_base.specs.Names.{has_name}
use Rattle.fp_cells.specs.Cells.{total_places}
use Rattle.fp_system.proofs.BuildLemmas.{fixed_are}
use Rattle.fp_system.proofs.StartLemmas.{length-start_words}
use Rattle.fp_system.proofs.start.start_analyses.Goals as goal

pub returns-clause-fixed : goal.returns-clause-fixed
returns-clause-fixed c = fixed_are c.args.set.now.classes (texts c.args.analyses.now) c.args.cells.now (has_name c.in_ok-selected.selected) c.in_ok-fixed.fixed.items c.requires c.in_ok-selected.ensures c.in_ok-fixed.ensures

pub returns-clause-long : goal.returns-clause-long
returns-clause-long c = ap length c.in_ok-fixed.ensures ∙ length-start_words (has_name c.in_ok-selected.selected) c.args.cells.now

pub returns-clause-places : goal.returns-clause-places
returns-clause-places c = c.in_ok-declared.ensures.places ∙ sym (ap length c.in_ok-fixed.ensures ∙ length-start_words (has_name c.in_ok-selected.selected) c.args.cells.now)

pub returns-clause-few : goal.returns-clause-few
returns-clause-few c =
    let long : length c.in_ok-fixed.fixed.items ≡ total_places c.args.cells.now = ap length c.in_ok-fixed.ensures ∙ length-start_words (has_name c.in_ok-selected.selected) c.args.cells.now in
    omega (arith, long, c.places-places.ensures.places, c.places-places.type_inv)
