use Rattle.fp_facts.proofs.ReachedMoves.{moved-reaches, reaches-moved}
use Rattle.fp_facts.proofs.laws.law_moves_reached.Goals as goal

pub returns : goal.returns
returns g c = record {
  labelled = λ w none caught code made arguments edges some within p reached. reaches-moved w none caught code made arguments edges some within p reached;
  reaches = λ w none caught code made arguments edges p h. moved-reaches w none caught code made arguments edges p h;
}
