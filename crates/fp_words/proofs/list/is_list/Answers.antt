use Rattle.std.proofs.Common.{rules, ◌≡◌, lit<}
use Rattle.std.specs.List.{list_any}
use Rattle.std.proofs.lemmas.Iterator.Search.{any_from_yields_List}
use Rattle.std.proofs.lemmas.Iterator.Splits.{YieldsList-from_str_split}
use borrow.Author.Tests.{tests}
use Rattle.fp_words.specs.Lists.{is_empty, items_between, distinct_items}
use Rattle.fp_words.proofs.ListLemmas.{is_list-from}
use Rattle.fp_words.proofs.list.is_list.Goals as goal

pub returns : goal.returns
returns c =
    let any : c.any.result ≡ list_any is_empty (items_between c.args.word.now) =
    any_from_yields_List is_empty _ _ c.any.result c.any.ensures.ran
    (YieldsList-from_str_split 44 c.args.word.now (lit< tt) c.split.ensures.text c.split.ensures.has_more c.split.ensures.pattern)
    (λ x b q k. search (rules, tests)) in
    is_list-from (list_any is_empty (items_between c.args.word.now)) c.any.result (distinct_items (items_between c.args.word.now)) any
