use Rattle.fp_facts.proofs.ReachedKinds.{labelled-reaches, reaches-labelled}
use Rattle.fp_facts.proofs.laws.law_reached.Goals as goal

pub returns : goal.returns
returns c = record {
  labelled = λ code arguments results edges some within p reached. reaches-labelled code arguments results edges some within p reached;
  reaches = λ code arguments results edges p h. labelled-reaches code arguments results edges p h;
}
