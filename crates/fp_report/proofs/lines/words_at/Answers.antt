use Rattle.fp_report.proofs.WordLemmas.{words_between}
use Rattle.fp_report.proofs.lines.words_at.Goals as goal

pub returns : goal.returns
returns c = words_between c.args.values.now c.args.first c.args.count c.requires
