-- So many words of the column are joined.
use Rattle.std.proofs.Common.{◌≡◌}
use Rattle.fp_hier.proofs.BitPlaces.{IsJoined}
use Rattle.fp_hier.proofs.bit_rows.BitRows.join.Given as goal

abbrev pub invariant-loop-index : goal.invariant-loop-index
invariant-loop-index l = record {
  joined : IsJoined l.fn.self.columns l.column l.from l.index l.fn.self.words.items l.self.words.items;
  rows : l.self.rows ≡ l.fn.self.rows;
  columns : l.self.columns ≡ l.fn.self.columns;
  height : l.self.height ≡ l.fn.self.height;
}
