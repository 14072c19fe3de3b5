use Rattle.std.proofs.Common.{◌≡◌, true, false, get_or, ap, sym, ◌∙◌, arith}
use Rattle.std.proofs.lemmas.List.{get_or_default}
use Rattle.fp_model.specs.declared.fault.FileFault.TheVariants as fault
use Rattle.fp_model.specs.Reading.{demanded}
use Rattle.fp_model.specs.Spelling.{u2}
use Rattle.fp_ops.proofs.Walking.{each_next, each_err, each_end}
use Rattle.fp_attr.specs.Attributes.{argument_checked, is_argument_tag}
use Rattle.fp_attr.proofs.Checking.{each_size}
use Rattle.fp_attr.proofs.boots.check_arguments.Goals as goal

pub returns-then-not-is_argument : goal.returns-then-not-is_argument
returns-then-not-is_argument c =
    let index = get_or c.args.args.now c.loop-index.index-index 0 in
    let is = get_or_default c.args.args.now c.loop-index.index-index 0 index c.loop-index-test.true in
    let refused : c.is_argument.result ≡ false = cc in
    sym c.loop-index.invariant.rest
    ∙ each_err u2 (argument_checked c.args.entries.now) c.loop-index.next c.args.args.now c.loop-index.index-index index (fault.Index c.loop-index.next index) c.loop-index-test.true is
    (ap (λ passed. demanded passed (fault.Index c.loop-index.next index)) (ap is_argument_tag (sym c.tag.ensures) ∙ sym c.is_argument.ensures ∙ refused))

pub loop-index-preserved : goal.loop-index-preserved
loop-index-preserved c =
    let index = get_or c.args.args.now c.loop-index.index-index 0 in
    let is = get_or_default c.args.args.now c.loop-index.index-index 0 index c.loop-index-test.true in
    let passed : c.is_argument.result ≡ true = cc in
    record {
      rest = sym (each_next u2 (argument_checked c.args.entries.now) c.loop-index.next c.args.args.now c.loop-index.index-index index c.loop-index-test.true is
          (ap (λ test. demanded test (fault.Index c.loop-index.next index)) (ap is_argument_tag (sym c.tag.ensures) ∙ sym c.is_argument.ensures ∙ passed))) ∙ c.loop-index.invariant.rest;
      at = omega (arith, c.loop-index.invariant.at, each_size u2 c.args.args.now c.loop-index.index-index index c.loop-index-test.true is);
    }

pub returns : goal.returns
returns c =
    sym c.loop-index.invariant.rest
    ∙ each_end u2 (argument_checked c.args.entries.now) c.loop-index.next c.args.args.now c.loop-index.index-index c.loop-index-test.false
