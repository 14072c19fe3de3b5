use Rattle.std.proofs.Common.{suc, take, drop}
use Rattle.fp_base.proofs.SinkLemmas.{part-more}
use Rattle.fp_report.proofs.LineLemmas.{joined, joined-split}
use Rattle.fp_report.proofs.printing.put_lines.Goals as goal

pub returns-in-Err-clause-part : goal.returns-in-Err-clause-part
returns-in-Err-clause-part g c =
    let lines = c.args.lines.now in
    let i = c.loop-line.line-index in
    part-more (g.S.Sink.told c.args.sink.now) (g.S.Sink.told c.loop-line.sink) (g.S.Sink.told c.put.new.self)
    (joined (take i lines)) c.line-item.result.items (joined (drop (suc i) lines)) (joined lines)
    c.loop-line.invariant.told
    (joined-split lines i c.line-item.result c.loop-line-test.true c.line-item.is)
    (rw (← c.as_slice.ensures.value) c.in-Err.ensures.prefix)
