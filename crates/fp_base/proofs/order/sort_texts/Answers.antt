use Rattle.fp_base.proofs.OrderLemmas.{sorted_is_order}
use Rattle.fp_base.proofs.order.sort_texts.Goals as goal

pub returns : goal.returns
returns c = sorted_is_order (λ t. t.items) _ _ c.sort.ensures.permutation c.in_ok-sort.ensures.sorted
