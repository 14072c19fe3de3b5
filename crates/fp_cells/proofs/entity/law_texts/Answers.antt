use Rattle.fp_cells.proofs.TextLemmas.{tells}
use Rattle.fp_cells.proofs.entity.law_texts.Goals as goal

pub returns : goal.returns
returns c = tells
