use Rattle.std.proofs.Common.{◌≡◌, ◌+◌, ◌++◌, drop, sym, ap, ◌∙◌, arith}
use Rattle.fp_facts.specs.Behaviour.{references_of, sites_of}
use Rattle.fp_facts.specs.References.{with_references}
use Rattle.fp_facts.specs.Steps.{step_of, steps_of}
use Rattle.fp_extract.specs.Rooms.{left_after}
use Rattle.fp_extract.proofs.MetReferences.{left-next, sites-next, table-next}
use Rattle.fp_extract.proofs.NextSteps.{steps-next}
use Rattle.fp_extract.proofs.site.sites.Goals as goal

pub loop-at-preserved : goal.loop-at-preserved
loop-at-preserved c =
    let caller = c.args.caller in
    let instrs = c.args.instrs.now in
    let frames = c.args.frames.now in
    let at = c.loop-at.at in
    let before = c.loop-at.calls.references in
    let here = step_of c.index-instrs-at.result c.index-frames-at.result in
    let rest = steps_of (drop (at + 1) instrs) (drop (at + 1) frames) in
    let next = steps-next instrs frames at c.index-instrs-at.result c.index-frames-at.result (omega (arith, c.loop-at-test.true)) (omega (arith, c.loop-at-test.true, c.requires)) c.index-instrs-at.is c.index-frames-at.is in
    let final = with_references c.args.calls.now.references (references_of caller (steps_of instrs frames)) in
    let end : with_references before (references_of caller (here ++ rest)) ≡ final = ap (λ s. with_references before (references_of caller s)) (sym next) ∙ c.loop-at.invariant.table in
    let table = c.in_ok-push_site.ensures.table in
    record {
      told = c.in_ok-push_site.ensures.told;
      left =
          left-next c.args.set.now caller c.loop-at.calls.left c.push_site.new.calls.left here rest c.in_ok-push_site.ensures.left
          ∙ ap (λ s. left_after c.args.set.now c.loop-at.calls.left (references_of caller s)) (sym next)
          ∙ c.loop-at.invariant.left;
      table = table-next caller before c.push_site.new.calls.references here rest table ∙ end;
      sites = λ more.
          sites-next caller before c.push_site.new.calls.references final here rest c.loop-at.sites.items c.push_site.new.sites.items table end c.in_ok-push_site.ensures.sites more
          ∙ ap (λ s. c.loop-at.sites.items ++ sites_of (final ++ more) caller s) (sym next)
          ∙ c.loop-at.invariant.sites more;
    }
