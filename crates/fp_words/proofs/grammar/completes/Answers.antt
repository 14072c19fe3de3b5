use Rattle.std.proofs.Common.{◌≡◌, ◌∙◌, true, [], rules}
use Rattle.std.specs.List.{list_all}
use Rattle.fp_base.specs.Files.{texts}
use Rattle.fp_words.specs.Asked.{given_of}
use Rattle.fp_words.specs.Words.{is_plain}
use Rattle.fp_words.proofs.GrammarLemmas.{run-complete}
use Rattle.fp_words.proofs.grammar.completes.Goals as goal

pub returns : goal.returns
returns c =
    let plain : list_all is_plain (texts c.args.rest.now) ≡ true = search rules in
    let some : c.args.rest.now ≡ [] → ⊥ = search rules in
    c.has_each_value.ensures ∙ run-complete (given_of c.args.given) c.args.rest.now some plain
