use Rattle.std.proofs.Common.{◌+◌, drop, sym, ap, ◌∙◌}
use Rattle.fp_model.proofs.Checking.{next_item}
use Rattle.fp_class.specs.ClassFile.{boots_of, rows_or}
use Rattle.fp_class.proofs.file.boot_rows.Goals as goal

pub returns-in-Boot : goal.returns-in-Boot
returns-in-Boot c =
    let rest = boots_of (drop (c.loop-attribute.attribute-index + 1) c.args.attributes.now) in
    c.as_slice.ensures
    ∙ sym (ap (λ body. rows_or body rest) c.in-Boot.is)
    ∙ sym (ap boots_of (next_item c.args.attributes.now c.loop-attribute.attribute-index c.attribute-item.result c.loop-attribute-test.true c.attribute-item.is))
    ∙ c.loop-attribute.invariant
