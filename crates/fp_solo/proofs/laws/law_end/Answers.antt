use Rattle.fp_solo.proofs.SolvingLemmas.{wanted-end}
use Rattle.fp_solo.proofs.laws.law_end.Goals as goal

pub returns : goal.returns
returns c = λ e laws s n h done. wanted-end e laws s.values s.wanted s.started s.due s.reads n h done
