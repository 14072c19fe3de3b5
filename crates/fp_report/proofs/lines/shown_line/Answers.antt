use Rattle.std.proofs.Common.{◌≡◌, ℕ, List, ◌∙◌, ap, length, slice_index, arith}
use Rattle.std.specs.Prelude.{Vec}
use Rattle.std.specs.declared.alloc.Global.{Global}
use Rattle.fp_report.proofs.CellLemmas.{begun-all, begun-room}
use Rattle.fp_report.proofs.LineLemmas.{length-texts}
use Rattle.fp_report.proofs.WordLemmas.{length-words}
use Rattle.fp_report.specs.Report.{IsCellOf}
use Rattle.fp_report.proofs.lines.shown_line.Goals as goal

pub target_texts-requires : goal.target_texts-requires
target_texts-requires c =
    rw c.cell_targets-methods.ensures
    (begun-all (IsCellOf c.args.set.now c.args.system.now.targets.now) c.args.system.now.cells.now c.args.place c.in-Some.kind c.in-Some.entity c.in-Some.bits c.requires.cells c.in-Some.ensures.cell).methods

pub words_at-words-requires : goal.words_at-words-requires
words_at-words-requires c =
    omega (arith, c.requires.values, c.count_places.ensures, begun-room c.args.system.now.cells.now c.args.place c.in-Some.kind c.in-Some.entity c.in-Some.bits c.in-Some.ensures.cell)

pub line_of-requires-clause-entity : goal.line_of-requires-clause-entity
line_of-requires-clause-entity c =
    (begun-all (IsCellOf c.args.set.now c.args.system.now.targets.now) c.args.system.now.cells.now c.args.place c.in-Some.kind c.in-Some.entity c.in-Some.bits c.requires.cells c.in-Some.ensures.cell).of_set

pub line_of-requires-clause-places : goal.line_of-requires-clause-places
line_of-requires-clause-places c =
    let cell = begun-all (IsCellOf c.args.set.now c.args.system.now.targets.now) c.args.system.now.cells.now c.args.place c.in-Some.kind c.in-Some.entity c.in-Some.bits c.requires.cells c.in-Some.ensures.cell in
    let words : length c.words_at-words.result.now ≡ c.count_places.result = length-words (slice_index c.args.values.now) c.args.place c.count_places.result c.words_at-words.result.now c.words_at-words.ensures in
    let texts : length c.deref.result.now ≡ length c.cell_targets-methods.result.now =
    ap (λ (l : List (Vec ℕ Global)). length l) c.deref.ensures.value ∙ length-texts c.args.set.now c.in_ok-targets.targets.items c.cell_targets-methods.result.now c.in_ok-targets.ensures in
    rw (words ∙ c.count_places.ensures, texts, c.cell_targets-methods.ensures) cell.places
