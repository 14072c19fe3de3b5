use Rattle.std.proofs.Common.{◌≡◌, true, false, get_or, ap, sym, ◌∙◌, arith}
use Rattle.std.proofs.lemmas.List.{get_or_default}
use Rattle.fp_model.specs.declared.fault.FileFault.TheVariants as fault
use Rattle.fp_model.specs.Reading.{demanded}
use Rattle.fp_model.specs.Spelling.{u2}
use Rattle.fp_model.proofs.Checking.{each-next, each-end, each-fails, each-size}
use Rattle.fp_class.specs.ClassFile.{interface_checked}
use Rattle.fp_class.proofs.file.check_interfaces.Goals as goal

pub returns-then-not-is_class : goal.returns-then-not-is_class
returns-then-not-is_class c =
    let index = get_or c.args.interfaces.now c.loop-index.index-index 0 in
    let is = get_or_default c.args.interfaces.now c.loop-index.index-index 0 index c.loop-index-test.true in
    let refused : c.is_class.result ≡ false = cc in
    sym c.loop-index.invariant.rest
    ∙ each-fails u2 (interface_checked c.args.entries.now) c.args.interfaces.now c.loop-index.index-index c.loop-index.next index c.loop-index-test.true is (fault.Index c.loop-index.next index)
    (ap (λ passed. demanded passed (fault.Index c.loop-index.next index)) (sym c.is_class.ensures ∙ refused))

pub loop-index-preserved : goal.loop-index-preserved
loop-index-preserved c =
    let index = get_or c.args.interfaces.now c.loop-index.index-index 0 in
    let is = get_or_default c.args.interfaces.now c.loop-index.index-index 0 index c.loop-index-test.true in
    let passed : c.is_class.result ≡ true = cc in
    record {
      rest = sym (each-next u2 (interface_checked c.args.entries.now) c.args.interfaces.now c.loop-index.index-index c.loop-index.next index c.loop-index-test.true is
          (ap (λ test. demanded test (fault.Index c.loop-index.next index)) (sym c.is_class.ensures ∙ passed))) ∙ c.loop-index.invariant.rest;
      at = omega (arith, c.loop-index.invariant.at, each-size u2 (interface_checked c.args.entries.now) c.args.interfaces.now c.loop-index.index-index c.loop-index.next index c.loop-index-test.true is);
    }

pub returns : goal.returns
returns c =
    sym c.loop-index.invariant.rest
    ∙ each-end u2 (interface_checked c.args.entries.now) c.args.interfaces.now c.loop-index.index-index c.loop-index.next c.loop-index-test.false
