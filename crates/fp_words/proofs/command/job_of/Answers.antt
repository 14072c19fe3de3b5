use Rattle.std.proofs.Common.{ap, ◌∙◌}
use Rattle.std.specs.Prelude.{unwrap_or}
use Rattle.fp_words.specs.Lists.{distinct_items, items_between}
use Rattle.fp_words.specs.Numbers.{workers_of}
use Rattle.fp_words.proofs.CommandLemmas.{same_run}
use Rattle.fp_words.proofs.command.job_of.Goals as goal

pub returns : goal.returns
returns c = same_run
    (c.in_ok-from_str.ensures.ok ∙ c.value_in.ensures)
    c.in_ok-roots_in.ensures
    (c.in_ok-list_items.ensures ∙ ap (λ word. distinct_items (items_between word)) c.value_in-2.ensures)
    (c.in_ok-list_items-2.ensures ∙ ap (λ word. distinct_items (items_between word)) c.value_in-3.ensures)
    (c.unwrap_or.ensures ∙ ap (λ n. unwrap_or n 1) c.workers_of.ensures ∙ ap (λ word. unwrap_or (workers_of word) 1) c.value_in-4.ensures)
