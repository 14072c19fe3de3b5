use Rattle.std.proofs.Common.{◌≡◌, true, false, ◌==◌, ap, sym, ◌∙◌, arith, eq-eqb, ne_eqb}
use Rattle.fp_model.specs.declared.fault.FileFault.TheVariants as fault
use Rattle.fp_model.specs.Entries.{tag_at}
use Rattle.fp_model.specs.Reading.{demanded}
use Rattle.fp_model.specs.Spelling.{spelled_plain}
use Rattle.fp_ops.proofs.Walking.{each_next, each_err, each_end}
use Rattle.fp_attr.specs.Codes.{name_checked}
use Rattle.fp_attr.proofs.Checking.{each_size}
use Rattle.fp_attr.proofs.code.check_names.Goals as goal

pub returns-then-tag-ne-UTF8 : goal.returns-then-tag-ne-UTF8
returns-then-tag-ne-UTF8 c =
    let attr = c.attribute-item.result in
    let refused : (tag_at c.args.entries.now attr.name == 1) ≡ false = ne_eqb _ 1 (λ e. c.if-tag-ne-UTF8.true (c.tag.ensures ∙ e)) in
    sym c.loop-attribute.invariant.rest
    ∙ each_err spelled_plain (name_checked c.args.entries.now) c.loop-attribute.next c.args.attributes.now c.loop-attribute.attribute-index attr (fault.Index c.loop-attribute.next attr.name) c.loop-attribute-test.true c.attribute-item.is
    (ap (λ passed. demanded passed (fault.Index c.loop-attribute.next attr.name)) refused)

pub loop-attribute-preserved : goal.loop-attribute-preserved
loop-attribute-preserved c =
    let attr = c.attribute-item.result in
    let passed : (tag_at c.args.entries.now attr.name == 1) ≡ true = eq-eqb _ 1 (omega (arith, c.tag.ensures, c.if-tag-ne-UTF8.false)) in
    record {
      rest = rw c.size-next.ensures (sym (each_next spelled_plain (name_checked c.args.entries.now) c.loop-attribute.next c.args.attributes.now c.loop-attribute.attribute-index attr c.loop-attribute-test.true c.attribute-item.is
          (ap (λ test. demanded test (fault.Index c.loop-attribute.next attr.name)) passed)) ∙ c.loop-attribute.invariant.rest);
      at = omega (arith, c.size-next.ensures, c.loop-attribute.invariant.at, each_size spelled_plain c.args.attributes.now c.loop-attribute.attribute-index attr c.loop-attribute-test.true c.attribute-item.is);
    }

pub returns : goal.returns
returns c =
    sym c.loop-attribute.invariant.rest
    ∙ each_end spelled_plain (name_checked c.args.entries.now) c.loop-attribute.next c.args.attributes.now c.loop-attribute.attribute-index c.loop-attribute-test.false
