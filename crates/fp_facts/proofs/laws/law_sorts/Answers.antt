use Rattle.fp_facts.proofs.OrderedSorts.{sort-below, sorts-lattice}
use Rattle.fp_facts.proofs.laws.law_sorts.Goals as goal

pub returns : goal.returns
returns c = record { lattice = sorts-lattice; below = sort-below }
