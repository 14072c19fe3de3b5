use Rattle.std.proofs.Common.{◌≡◌, ◌-◌, true, false, ◌∙◌, sym, ap, arith}
use Rattle.fp_model.specs.declared.fault.FileFault.TheVariants as fault
use Rattle.fp_model.specs.Form.{form_of}
use Rattle.fp_model.specs.Reading.{demanded}
use Rattle.fp_model.specs.Spelling.{spelled_ins}
use Rattle.fp_model.specs.Branches.{leads_to, starts_at, targets_of}
use Rattle.fp_ops.specs.Marks.{is_marked}
use Rattle.fp_ops.proofs.Walking.{left_size, agree_on, each_next, each_err, each_end}
use Rattle.fp_ops.proofs.branches.check_each.Goals as goal

pub returns-then-not-leads_to_starts : goal.returns-then-not-leads_to_starts
returns-then-not-leads_to_starts c =
    let same = agree_on (is_marked c.args.marks.now) (starts_at 0 c.args.code.now) c.requires.marks (targets_of (c.loop-ins.next - c.args.at) (form_of c.ins-item.result.op) c.ins-item.result.args) in
    let fails : leads_to (starts_at 0 c.args.code.now) (c.loop-ins.next - c.args.at) c.ins-item.result ≡ false = cc in
    sym c.loop-ins.invariant.rest
    ∙ each_err spelled_ins (λ at ins. demanded (leads_to (starts_at 0 c.args.code.now) (at - c.args.at) ins) (fault.Bounds at)) c.loop-ins.next c.args.code.now c.loop-ins.ins-index c.ins-item.result (fault.Bounds c.loop-ins.next) c.loop-ins-test.true c.ins-item.is
    (ap (λ passed. demanded passed (fault.Bounds c.loop-ins.next)) fails)

pub loop-ins-preserved : goal.loop-ins-preserved
loop-ins-preserved c =
    let same = agree_on (is_marked c.args.marks.now) (starts_at 0 c.args.code.now) c.requires.marks (targets_of (c.loop-ins.next - c.args.at) (form_of c.ins-item.result.op) c.ins-item.result.args) in
    let passed : leads_to (starts_at 0 c.args.code.now) (c.loop-ins.next - c.args.at) c.ins-item.result ≡ true = cc in
    record {
      within = omega arith;
      at = omega (arith, left_size c.args.code.now c.loop-ins.ins-index c.ins-item.result c.loop-ins-test.true c.ins-item.is);
      rest = rw c.size-next.ensures (sym (each_next spelled_ins (λ at ins. demanded (leads_to (starts_at 0 c.args.code.now) (at - c.args.at) ins) (fault.Bounds at)) c.loop-ins.next c.args.code.now c.loop-ins.ins-index c.ins-item.result c.loop-ins-test.true c.ins-item.is
          (ap (λ test. demanded test (fault.Bounds c.loop-ins.next)) passed)) ∙ c.loop-ins.invariant.rest);
    }

pub returns : goal.returns
returns c =
    sym c.loop-ins.invariant.rest
    ∙ each_end spelled_ins (λ at ins. demanded (leads_to (starts_at 0 c.args.code.now) (at - c.args.at) ins) (fault.Bounds at)) c.loop-ins.next c.args.code.now c.loop-ins.ins-index c.loop-ins-test.false
