use Rattle.fp_facts.proofs.LawfulKinds.{kinds-lawful}
use Rattle.fp_facts.proofs.laws.law_kinds.Goals as goal

pub returns : goal.returns
returns c = λ code arguments results edges some room within. kinds-lawful code arguments results edges some room within
