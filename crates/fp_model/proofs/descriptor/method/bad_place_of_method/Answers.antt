use Rattle.std.proofs.Common.{◌∙◌, ◌+◌, sym, length, arith, length-drop, rules}
use Rattle.std.proofs.lemmas.Bool.{eqb-true}
use Rattle.fp_model.proofs.ArrayTypes.{from_place}
use Rattle.fp_model.proofs.MethodTypes.{method_empty, method_other, method_opens, method_goes, method_stops, method_ends, method_whole, method_result}
use Rattle.fp_model.proofs.descriptor.method.bad_place_of_method.Goals as goal

pub returns-then-is_empty-clause-some : goal.returns-then-is_empty-clause-some
returns-then-is_empty-clause-some c = method_empty c.args.text.now (eqb-true (length c.args.text.now) 0 (sym c.is_empty.ensures ∙ c.if-is_empty.true))

pub returns-then-text-ne40-clause-some : goal.returns-then-text-ne40-clause-some
returns-then-text-ne40-clause-some c = method_other c.args.text.now (search rules) c.if-text-ne40.true

pub loop-at-init : goal.loop-at-init
loop-at-init c = (omega arith, search rules, method_opens c.args.text.now (search rules) c.if-text-ne40.false)

pub loop-at-preserved : goal.loop-at-preserved
loop-at-preserved c =
    let len = c.in-Ok.ensures.len in (
      omega (arith, c.loop-at.invariant.0),
      omega (arith, len.1, c.loop-at.invariant.1, length-drop c.loop-at.at c.args.text.now),
      method_goes c.args.text.now _ c.loop-at.at (from_place c.args.text.now c.loop-at.at) c.loop-at.invariant.2 c.in-Ok.len len.0 len.2,
    )

pub returns-in-Err-clause-some : goal.returns-in-Err-clause-some
returns-in-Err-clause-some c =
    let place = c.in-Err.ensures.place in
    method_stops c.args.text.now _ c.loop-at.at (from_place c.args.text.now c.loop-at.at) c.loop-at.invariant.2 c.in-Err.place (search rules) (search rules) place.0 place.1

pub returns-clause-some : goal.returns-clause-some
returns-clause-some c = method_ends c.args.text.now _ c.loop-at.at (from_place c.args.text.now c.loop-at.at) c.loop-at.invariant.2 (omega (arith, c.loop-at.invariant.1))

pub returns-in-Some-clause-some : goal.returns-in-Some-clause-some
returns-in-Some-clause-some c =
    method_result c.args.text.now _ c.loop-at.at (from_place c.args.text.now c.loop-at.at) c.loop-at.invariant.2 _ (from_place c.args.text.now (c.loop-at.at + 1)) (search rules) (search rules) c.in-Some.place c.in-Some.ensures.some

pub returns-in-None-clause-none : goal.returns-in-None-clause-none
returns-in-None-clause-none c = method_whole c.args.text.now _ c.loop-at.at (from_place c.args.text.now c.loop-at.at) c.loop-at.invariant.2 _ (from_place c.args.text.now (c.loop-at.at + 1)) (search rules) (search rules) c.in-None.ensures.none
