use Rattle.std.proofs.Common.{◌∙◌, sym, ap, refl}
use Rattle.fp_base.specs.Files.{texts}
use Rattle.std.specs.Io.KnownBytes.{append_known}
use Rattle.fp_base.proofs.SinkLemmas.{part-all}
use Rattle.fp_top.specs.Outcome.{outcome, memory_text, output, report_of, write_text}
use Rattle.fp_top.specs.Refusal.{text_of}
use Rattle.fp_top.specs.Words.{directory_of}
use Rattle.fp_top.proofs.TopLemmas.{no_read_fault, only_memory, IsText-refusal, fault_of, put-part, usage_of}
use Rattle.fp_top.proofs.analyse.analyse_one.Goals as goal

pub returns-in-Err-clause-no_fault : goal.returns-in-Err-clause-no_fault
returns-in-Err-clause-no_fault g c = λ same is.
    no_read_fault (directory_of (texts c.args.words.now)) (g.D.ClassDir.listed c.decide.new.dir) (g.D.ClassDir.failed c.args.dir.now) (g.D.ClassDir.failed c.decide.new.dir) c.in-Err.refusal c.in-Err.ensures.blames same (sym c.status_of.ensures ∙ is)

pub returns-in-Err-clause-complete : goal.returns-in-Err-clause-complete
returns-in-Err-clause-complete g c = λ tells done same _.
    rw c.status_of.ensures
    (only_memory (outcome (texts c.args.words.now) (g.D.ClassDir.files c.args.dir.now)) (directory_of (texts c.args.words.now)) (g.D.ClassDir.listed c.decide.new.dir) (g.D.ClassDir.failed c.args.dir.now) (g.D.ClassDir.failed c.decide.new.dir) c.in-Err.refusal (c.in-Err.ensures.refusal tells) c.in-Err.ensures.blames done same)

pub returns-in-Err-clause-message : goal.returns-in-Err-clause-message
returns-in-Err-clause-message g c = (
  text_of c.in-Err.refusal,
  rw c.status_of.ensures (IsText-refusal (g.D.ClassDir.tells c.args.dir.now) (texts c.args.words.now) (g.D.ClassDir.files c.args.dir.now) c.in-Err.refusal c.in-Err.ensures.refusal),
  c.tell.ensures,
)

pub returns-in-Err-clause-usage_exactly : goal.returns-in-Err-clause-usage_exactly
returns-in-Err-clause-usage_exactly g c = λ none.
    c.status_of.ensures ∙ usage_of (directory_of (texts c.args.words.now)) c.in-Err.refusal c.in-Err.ensures.worded none

pub returns-in-Err-clause-read_fault : goal.returns-in-Err-clause-read_fault
returns-in-Err-clause-read_fault g c = λ is.
    fault_of (texts c.args.words.now) (directory_of (texts c.args.words.now)) (g.D.ClassDir.listed c.decide.new.dir) (g.D.ClassDir.failed c.args.dir.now) (g.D.ClassDir.failed c.decide.new.dir)
    (g.S.Sink.told c.args.err.now) (g.S.Sink.told c.tell.new.sink) c.in-Err.refusal refl c.in-Err.ensures.blames (sym c.status_of.ensures ∙ is) c.tell.ensures

pub returns-in-Ok-put_report-clause-part : goal.returns-in-Ok-put_report-clause-part
returns-in-Ok-put_report-clause-part g c = λ tells.
    part-all (g.S.Sink.told c.args.out.now) (g.S.Sink.told c.put_report.new.out) (output (texts c.args.words.now) (g.D.ClassDir.files c.args.dir.now))
    (c.in-Ok-put_report.ensures.whole ∙ ap (append_known (g.S.Sink.told c.args.out.now)) (sym (ap report_of (c.in-Ok.ensures.report tells))))

pub returns-in-Err-Write-clause-message : goal.returns-in-Err-Write-clause-message
returns-in-Err-Write-clause-message g c = (write_text, refl, put-part (g.S.Sink.told c.args.err.now) (g.S.Sink.told c.put.new.self) write_text c.put.result c.put.ensures.whole c.put.ensures.prefix)

pub returns-in-Err-Memory-clause-message : goal.returns-in-Err-Memory-clause-message
returns-in-Err-Memory-clause-message g c = (memory_text, refl, put-part (g.S.Sink.told c.args.err.now) (g.S.Sink.told c.put-in-Err-Memory.new.self) memory_text c.put-in-Err-Memory.result c.put-in-Err-Memory.ensures.whole c.put-in-Err-Memory.ensures.prefix)
