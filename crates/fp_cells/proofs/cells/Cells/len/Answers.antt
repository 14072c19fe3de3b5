use Rattle.std.proofs.Common.{◌≡◌, length, arith}
use Rattle.fp_cells.specs.Spots.{cells_of}
use Rattle.fp_cells.proofs.BeginLemmas.{length-cells}
use Rattle.fp_cells.proofs.ListLemmas.{length-mapped}
use Rattle.fp_cells.proofs.cells.Cells.len.Goals as goal

pub overflow_cast-result : goal.overflow_cast-result
overflow_cast-result c =
    let es = c.self.inside.spots.entries in
    let same : length (cells_of es) ≡ length es = length-mapped _ es in
    let all : c.len.result ≡ length es = c.len.ensures.len in
    omega (arith, same, all, length-cells (cells_of es), c.self.invariant.counted, c.self.invariant.few)
