use Rattle.std.proofs.Common.{◌≡◌, length, ap, sym, ◌∙◌, true, Some, None, arith, rules, option_map}
use Rattle.std.proofs.lemmas.List.{length-map}
use Rattle.std.specs.Prelude.{string_bytes}
use Rattle.fp_base.specs.Files.{texts}
use Rattle.fp_words.specs.Asked.{given_of, has_option, parts_of}
use Rattle.fp_words.specs.Words.{with_option}
use Rattle.fp_words.proofs.GrammarLemmas.{option-taken, option-refused, option-here, options-rest}
use Rattle.fp_words.proofs.grammar.read_options.Goals as goal

pub loop-given-preserved : goal.loop-given-preserved
loop-given-preserved c =
    let here : has_option (texts c.args.words.now) c.loop-given.at ≡ true = search rules in
    let within = (option-here (texts c.args.words.now) c.loop-given.at here).0 in
    let long : length (texts c.args.words.now) ≡ length c.args.words.now = length-map c.args.words.now string_bytes in
    let more : with_option (given_of c.loop-given.given) c.word_at.result.now c.word_at-in-loop-given.result.now ≡ Some (given_of c.in_ok-given.given) = sym c.with_option.ensures ∙ ap (option_map given_of) c.in_ok-given.was in
    (omega arith, sym (option-taken (given_of c.loop-given.given) (texts c.args.words.now) c.loop-given.at _ _ here c.word_at.ensures c.word_at-in-loop-given.ensures _ more) ∙ c.loop-given.invariant.1)

pub returns-in_err-given : goal.returns-in_err-given
returns-in_err-given c =
    let here : has_option (texts c.args.words.now) c.loop-given.at ≡ true = search rules in
    let none : with_option (given_of c.loop-given.given) c.word_at.result.now c.word_at-in-loop-given.result.now ≡ None = sym c.with_option.ensures ∙ ap (option_map given_of) c.in_err-given.was in
    ap (option_map parts_of) c.from_residual.ensures ∙ sym (option-refused (given_of c.loop-given.given) (texts c.args.words.now) c.loop-given.at _ _ here c.word_at.ensures c.word_at-in-loop-given.ensures none) ∙ c.loop-given.invariant.1

pub returns : goal.returns
returns c = options-rest (given_of c.loop-given.given) c.args.words.now c.loop-given.at _ c.loop-given.invariant.0 (search rules) c.loop-given.invariant.1
