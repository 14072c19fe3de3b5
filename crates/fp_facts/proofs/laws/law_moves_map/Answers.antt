use Rattle.fp_facts.proofs.MappedMoves.{moves-mapped}
use Rattle.fp_facts.proofs.laws.law_moves_map.Goals as goal

pub returns : goal.returns
returns g c = λ w v h none caught code made arguments edges keeps laws others p. moves-mapped w v h keeps none caught code made arguments edges laws others p
