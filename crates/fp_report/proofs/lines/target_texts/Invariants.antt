use Rattle.std.proofs.Common.{◌≡◌, take, map}
use Rattle.fp_report.specs.Report.{target_texts}
use Rattle.fp_report.proofs.lines.target_texts.Given as goal

-- the texts so far are those of the methods so far
abbrev pub invariant-loop-method : goal.invariant-loop-method
invariant-loop-method l = map (λ text. text.items) l.texts.items ≡ target_texts l.set (take l.method-index l.methods)
