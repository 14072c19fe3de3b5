use Rattle.std.proofs.Common.{rules, ◌≡◌, true}
use Rattle.fp_words.specs.Numbers.{is_numeral}
use Rattle.fp_words.proofs.NumberLemmas.{too_large}
use Rattle.fp_words.proofs.number.number_between.Goals as goal

pub returns-in-Err : goal.returns-in-Err
returns-in-Err c =
    let numeral : is_numeral c.args.word.now ≡ true = search rules in
    too_large c.args.least c.args.most c.args.word.now c.in-Err.field-0 (search rules) numeral c.in-Err.ensures.value.0
