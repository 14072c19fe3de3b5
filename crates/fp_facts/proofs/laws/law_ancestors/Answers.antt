use Rattle.fp_facts.proofs.ClosedAncestors.{ancestors-closed}
use Rattle.fp_facts.proofs.laws.law_ancestors.Goals as goal

pub returns : goal.returns
returns c classes id d sound there = ancestors-closed classes sound id d there
