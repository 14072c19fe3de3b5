use Rattle.fp_facts.proofs.LawfulMoves.{moves-lawful}
use Rattle.fp_facts.proofs.laws.law_moves.Goals as goal

pub returns : goal.returns
returns g c = λ w none caught code made arguments edges laws. moves-lawful w laws none caught code made arguments edges
