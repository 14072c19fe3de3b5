use Rattle.std.proofs.Common.{◌+◌, ◌≤◌, ◌∙◌, ap, arith, get_or, drop, length}
use Rattle.fp_model.specs.Descriptor.{closes_behind, words_of_all}
use Rattle.fp_model.proofs.ArrayTypes.{from_place}
use Rattle.fp_model.proofs.MethodParts.{closes-there, parameters-open, parameters-next, words-next, words-end, words-few}
use Rattle.fp_model.proofs.descriptor.method.count_words.Goals as goal

pub loop-at-init : goal.loop-at-init
loop-at-init c = let open_ = parameters-open c.args.text.now c.requires.method in (open_.0, omega (arith, ap words_of_all open_.1), omega arith, open_.2)

pub bounds-text-at : goal.bounds-text-at
bounds-text-at c = closes-there c.args.text.now c.loop-at.at c.loop-at.invariant.0

pub bounds-text-at-in-loop-at : goal.bounds-text-at-in-loop-at
bounds-text-at-in-loop-at c = closes-there c.args.text.now c.loop-at.at c.loop-at.invariant.0

pub overflow_add-at : goal.overflow_add-at
overflow_add-at c =
    let next = parameters-next c.args.text.now c.loop-at.at _ (from_place c.args.text.now c.loop-at.at) c.loop-at-test.true c.loop-at.invariant.0 in
    let fits : c.loop-at.at + c.count_field-at.result ≤ length c.args.text.now = omega (arith, next.within, c.count_field-at.ensures) in
    omega (arith, fits, c.requires.short)

pub loop-at-smaller : goal.loop-at-smaller
loop-at-smaller c =
    let next = parameters-next c.args.text.now c.loop-at.at _ (from_place c.args.text.now c.loop-at.at) c.loop-at-test.true c.loop-at.invariant.0 in
    omega (arith, next.within, next.some, c.count_field-at.ensures)

pub loop-at-preserved : goal.loop-at-preserved
loop-at-preserved c =
    let next = parameters-next c.args.text.now c.loop-at.at _ (from_place c.args.text.now c.loop-at.at) c.loop-at-test.true c.loop-at.invariant.0 in (
      ap (λ n. closes_behind 0 (drop (c.loop-at.at + n) c.args.text.now)) c.count_field-at.ensures ∙ next.closes,
      words-next c.args.text.now c.loop-at.at c.loop-at.words c.loop-at.invariant.0 c.loop-at.invariant.1 _ c.count_field-at.result c.words_by_letter-words.result (from_place c.args.text.now c.loop-at.at) c.loop-at-test.true c.count_field-at.ensures c.words_by_letter-words.ensures,
      omega (arith, c.loop-at.invariant.2, next.some, c.count_field-at.ensures, c.words_by_letter-words.ensures, words-few (get_or c.args.text.now c.loop-at.at 0)),
      omega (arith, next.within, c.count_field-at.ensures),
    )

pub returns : goal.returns
returns c = words-end c.args.text.now c.loop-at.at c.loop-at.words c.loop-at.invariant.0 c.loop-at.invariant.1 c.loop-at-test.false
