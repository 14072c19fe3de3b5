use Rattle.std.proofs.Common.{◌≡◌, ◌∙◌, List, ℕ, ap, map, slice_index, subst}
use Rattle.std.specs.Prelude.{Vec}
use Rattle.std.specs.declared.alloc.Global.{Global}
use Rattle.fp_eqs.specs.Solved.{flag_at}
use Rattle.fp_report.specs.Report.{line_at, demanded_from}
use Rattle.fp_report.proofs.ReportLemmas.{bytes_of, report-made}
use Rattle.fp_report.proofs.lines.report_lines.Goals as goal

pub returns : goal.returns
returns c =
    let set = c.args.set.now in
    let cells = c.args.system.now.cells.now in
    let targets = c.args.system.now.targets.now in
    report-made set cells targets c.args.system.now.shown.now c.args.solved.now.values (flag_at c.args.solved.now.wanted)
    c.in_ok-lines.lines.items c.in_ok-sorted.sorted.items c.in_ok-ended.ended.items c.push.new.self.items c.into_bytes.result c.count_demanded-count.result
    (subst (λ (xs : List ℕ). bytes_of c.in_ok-lines.lines.items ≡ map (line_at set cells targets (slice_index xs)) c.args.system.now.shown.now) c.as_slice.ensures c.in_ok-lines.ensures)
    c.in_ok-sorted.ensures
    c.in_ok-ended.ensures
    (ap (λ (v : Vec ℕ Global). v.items) c.into_bytes.ensures.value ∙ c.in_ok-line.ensures.ok)
    (c.count_demanded-count.ensures ∙ ap (λ xs. demanded_from (flag_at xs) 0 cells) c.as_slice-2.ensures)
    c.in_ok-push.ensures.items
