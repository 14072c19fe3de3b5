use Rattle.fp_flow.proofs.EdgeLaws.{edges-ascending, edges-within}
use Rattle.fp_flow.proofs.control.laws.law_edges.Goals as goal

pub returns : goal.returns
returns c = record {
  ascending = λ code sound. edges-ascending code;
  within = λ code sound. edges-within code sound;
}
