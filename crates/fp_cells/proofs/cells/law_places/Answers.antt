use Rattle.fp_cells.proofs.NumberingLemmas.{numbering}
use Rattle.fp_cells.proofs.cells.law_places.Goals as goal

pub returns : goal.returns
returns c = numbering
