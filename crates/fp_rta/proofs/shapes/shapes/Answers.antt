use Rattle.fp_rta.specs.declared.site.Shape.{Shape}
use Rattle.fp_rta.specs.CallGraph.{candidates}
use Rattle.fp_rta.specs.Meaning.{IsShapeShort}
use Rattle.fp_rta.proofs.RowLists.{each-push, mapped-more}
use Rattle.fp_rta.proofs.shapes.shapes.Goals as goal

pub loop-call-preserved : goal.loop-call-preserved
loop-call-preserved c =
    let i = c.loop-call.call-index in
    let s = c.in_ok-shape.field-0 in
    record {
      shapes = mapped-more (candidates c.args.cells.now) (λ (x : Shape). x.candidates) c.loop-call.shapes.items c.push.new.self.items c.args.calls.now i c.call-item.result s c.loop-call-test.true c.call-item.is c.in_ok-shape.ensures.candidates c.loop-call.invariant.shapes c.in_ok-push.ensures.items;
      short = each-push IsShapeShort c.loop-call.shapes.items c.push.new.self.items s c.loop-call.invariant.short c.in_ok-shape.ensures.short c.in_ok-push.ensures.items;
    }
