use Rattle.std.proofs.Common.{refl, not, ◌==◌, ◌&&◌, ◌||◌}
use Rattle.fp_solo.proofs.SolvingLemmas.{evaluated-by}
use Rattle.fp_solo.proofs.laws.law_evaluation.Goals as goal

pub returns : goal.returns
returns c = λ e laws old new task n fits fit h step.
    evaluated-by e laws old.values new.values old.wanted new.wanted old.started new.started old.due (λ t. (old.due t && not (task == t)) || (new.started t && not (old.started t))) new.due old.reads new.reads n task h
    step.was_due fits fit step.values step.wanted step.started step.started_tasks step.reads (λ t. refl) step.wakes
