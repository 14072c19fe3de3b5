use Rattle.std.proofs.Common.{◌+◌, drop, sym, ap, ◌∙◌}
use Rattle.fp_model.proofs.Checking.{next_item}
use Rattle.fp_class.specs.Methods.{code_of, code_or}
use Rattle.fp_class.proofs.methods.find_code.Goals as goal

pub returns-in-Code : goal.returns-in-Code
returns-in-Code c =
    let rest = code_of (drop (c.loop-attribute.attribute-index + 1) c.args.attributes.now) in
    sym (ap (λ body. code_or body rest) c.in-Code.is)
    ∙ sym (ap code_of (next_item c.args.attributes.now c.loop-attribute.attribute-index c.attribute-item.result c.loop-attribute-test.true c.attribute-item.is))
    ∙ c.loop-attribute.invariant
