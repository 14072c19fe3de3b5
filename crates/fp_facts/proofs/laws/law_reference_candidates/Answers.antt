use Rattle.fp_facts.proofs.ReferenceCandidates.{call-reaches}
use Rattle.fp_facts.proofs.laws.law_reference_candidates.Goals as goal

pub returns : goal.returns
returns c set caller class d i r of_class there is = call-reaches set caller class d i r of_class there is
