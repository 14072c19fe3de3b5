use Rattle.std.proofs.Common.{◌≡◌, map, take}
use Rattle.fp_rta.specs.declared.site.Shape.{Shape}
use Rattle.fp_rta.specs.CallGraph.{candidates}
use Rattle.fp_rta.specs.Meaning.{AreShapesShort}
use Rattle.fp_rta.proofs.shapes.shapes.Given as goal

abbrev pub invariant-loop-call : goal.invariant-loop-call
invariant-loop-call l = record {
  shapes : map (λ (s : Shape). s.candidates) l.shapes.items ≡ map (candidates l.cells) (take l.call-index l.calls);
  short : AreShapesShort l.shapes.items;
}
