use Rattle.std.proofs.Common.{◌≡◌, ◌+◌, ℕ, List, drop, length}
use Rattle.std.specs.List.{flat_map}
use Rattle.fp_model.specs.declared.raw.attribute.RawIns.{RawIns}
use Rattle.fp_model.specs.Branches.{starts_at}
use Rattle.fp_model.specs.References.{each_checked}
use Rattle.fp_model.specs.Spelling.{spelled_row}
use Rattle.fp_ops.specs.Marks.{is_marked}
use Rattle.fp_attr.specs.Codes.{row_checked}
use Rattle.fp_attr.proofs.rows.check_each.Given as goal

-- what is left to check leads where the whole does, and ends where it does
abbrev pub invariant-loop-row : goal.invariant-loop-row
invariant-loop-row l = record {
  rest : (code : List RawIns) → ((place : ℕ) → is_marked l.marks place ≡ starts_at 0 code place) → each_checked spelled_row (row_checked l.entries code l.len) l.next (drop l.row-index l.rows) ≡ each_checked spelled_row (row_checked l.entries code l.len) l.at l.rows;
  at : l.next + length (flat_map spelled_row (drop l.row-index l.rows)) ≡ l.at + length (flat_map spelled_row l.rows);
}
