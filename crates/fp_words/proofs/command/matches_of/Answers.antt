use Rattle.std.proofs.Common.{◌≡◌, ◌≤◌, ◌∙◌, length, arith}
use Rattle.std.proofs.lemmas.List.{length-map}
use Rattle.std.specs.Prelude.{string_bytes}
use Rattle.clap.specs.Lexer.{usize_max}
use Rattle.fp_base.specs.Files.{texts}
use Rattle.fp_words.proofs.RunLemmas.{found_run, takes_run}
use Rattle.fp_words.proofs.command.matches_of.Goals as goal

pub returns-in-Ok-clause-run : goal.returns-in-Ok-clause-run
returns-in-Ok-clause-run c =
    let long : length (texts c.args.words.now) ≡ length c.args.words.now = length-map c.args.words.now string_bytes in
    let few : length (texts c.args.words.now) ≤ usize_max = omega arith in
    found_run _ (texts c.args.words.now) c.in-Ok.matches c.in_ok-command.ensures few c.requires c.in-Ok.ensures.matches

pub returns-in-Err-clause-memory : goal.returns-in-Err-clause-memory
returns-in-Err-clause-memory c =
    let long : length (texts c.args.words.now) ≡ length c.args.words.now = length-map c.args.words.now string_bytes in
    let few : length (texts c.args.words.now) ≤ usize_max = omega arith in
    c.fault_of.ensures (c.kind.ensures ∙ c.in-Err.ensures.passes (takes_run _ (texts c.args.words.now) c.in_ok-command.ensures few c.requires))
