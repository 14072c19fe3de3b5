use Rattle.std.proofs.Common.{ap, ◌∙◌, [], refl}
use Rattle.std.specs.Prelude.{unwrap_or}
use Rattle.clap.proofs.WalkLemmas.{first_value-rows}
use Rattle.clap.specs.Words.{found_of}
use Rattle.fp_words.proofs.CommandLemmas.{text_or_none}
use Rattle.fp_words.proofs.command.value_in.Goals as goal

pub returns : goal.returns
returns c =
    ap (λ text. text.now) c.unwrap_or.ensures
    ∙ text_or_none c.get_str.result _ refl
    ∙ ap (λ text. unwrap_or text []) (c.get_str.ensures ∙ first_value-rows (found_of c.args.matches.now) c.args.id.now)
