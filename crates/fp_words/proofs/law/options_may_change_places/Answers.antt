use Rattle.fp_words.proofs.OrderLemmas.{options-swap}
use Rattle.fp_words.proofs.law.options_may_change_places.Goals as goal

pub returns : goal.returns
returns c = options-swap
