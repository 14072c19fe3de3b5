use Rattle.std.proofs.Common.{◌≡◌, true, false, ◌∙◌, sym, ap, arith}
use Rattle.std.specs.List.{list_all}
use Rattle.fp_model.specs.Branches.{far_target}
use Rattle.fp_model.specs.Entries.{passes}
use Rattle.fp_ops.specs.Marks.{is_marked}
use Rattle.fp_ops.proofs.Walking.{far_targets-next, far_targets-end, and_true, and_false}
use Rattle.fp_ops.proofs.branches.all_starts.Goals as goal

pub returns-then-not-is_start : goal.returns-then-not-is_start
returns-then-not-is_start c =
    let fails : passes (is_marked c.args.marks.now) (far_target c.args.pc c.args.args.now c.loop-left.at) ≡ false = cc in
    sym (sym c.loop-left.invariant.rest
    ∙ ap (list_all (passes (is_marked c.args.marks.now))) (far_targets-next c.args.pc c.args.step c.args.args.now c.args.count c.loop-left._left c.loop-left.at c.loop-left-test.true)
    ∙ and_false _ _ fails)

pub loop-left-preserved : goal.loop-left-preserved
loop-left-preserved c =
    let passed : passes (is_marked c.args.marks.now) (far_target c.args.pc c.args.args.now c.loop-left.at) ≡ true = cc in
    record {
      at = grind arith;
      rest = sym (ap (list_all (passes (is_marked c.args.marks.now))) (far_targets-next c.args.pc c.args.step c.args.args.now c.args.count c.loop-left._left c.loop-left.at c.loop-left-test.true)
          ∙ and_true _ _ passed) ∙ c.loop-left.invariant.rest;
    }

pub returns : goal.returns
returns c = sym (sym c.loop-left.invariant.rest ∙ ap (list_all (passes (is_marked c.args.marks.now))) (far_targets-end c.args.pc c.args.step c.args.args.now c.args.count c.loop-left._left c.loop-left.at (omega arith)))
