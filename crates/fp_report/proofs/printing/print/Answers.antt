use Rattle.std.proofs.Common.{◌∙◌, ap, subst, slice_index}
use Rattle.std.specs.Io.KnownBytes.{append_known}
use Rattle.fp_base.specs.Faults.{AppendsPart}
use Rattle.fp_eqs.specs.Solved.{flag_at}
use Rattle.fp_report.specs.Report.{report}
use Rattle.fp_report.proofs.LineLemmas.{joined-report}
use Rattle.fp_report.proofs.printing.print.Goals as goal

pub returns-in-Ok-put_lines-clause-whole : goal.returns-in-Ok-put_lines-clause-whole
returns-in-Ok-put_lines-clause-whole g c =
    let lines = report c.args.set.now c.args.system.now.cells.now c.args.system.now.targets.now c.args.system.now.shown.now (slice_index c.args.solved.now.values) (flag_at c.args.solved.now.wanted) in
    c.in-Ok-put_lines.ensures.whole ∙ ap (append_known (g.S.Sink.told c.args.sink.now)) (joined-report c.deref.result.now c.in-Ok.lines.items lines c.deref.ensures.value c.in-Ok.ensures)

pub returns-in-Err-Failed-clause-part : goal.returns-in-Err-Failed-clause-part
returns-in-Err-Failed-clause-part g c =
    let lines = report c.args.set.now c.args.system.now.cells.now c.args.system.now.targets.now c.args.system.now.shown.now (slice_index c.args.solved.now.values) (flag_at c.args.solved.now.wanted) in
    subst (AppendsPart (g.S.Sink.told c.args.sink.now) (g.S.Sink.told c.put_lines.new.sink)) (joined-report c.deref.result.now c.in-Ok.lines.items lines c.deref.ensures.value c.in-Ok.ensures) c.in-Err-Failed.ensures.part

pub returns-clause-part : goal.returns-clause-part
returns-clause-part g c =
    let lines = report c.args.set.now c.args.system.now.cells.now c.args.system.now.targets.now c.args.system.now.shown.now (slice_index c.args.solved.now.values) (flag_at c.args.solved.now.wanted) in
    subst (AppendsPart (g.S.Sink.told c.args.sink.now) (g.S.Sink.told c.put_lines.new.sink)) (joined-report c.deref.result.now c.in-Ok.lines.items lines c.deref.ensures.value c.in-Ok.ensures) c.in-Err-Memory.ensures.part
