use Rattle.fp_solo.proofs.SolvingLemmas.{evals-bound}
use Rattle.fp_solo.proofs.laws.law_few.Goals as goal

pub returns : goal.returns
returns c = λ e laws s n h. evals-bound e laws s.values s.wanted s.started s.due s.reads n h
