use Rattle.std.proofs.Common.{◌≡◌, ◌+◌, ◌||◌, ℕ, length, drop, vec_len}
use Rattle.std.specs.List.{flat_map}
use Rattle.fp_model.specs.Spelling.{spelled_ins}
use Rattle.fp_model.specs.Branches.{starts_at}
use Rattle.fp_ops.specs.Marks.{is_marked}
use Rattle.fp_ops.proofs.branches.starts.Given as goal

-- marked are those so far; the others begin from here on
abbrev pub invariant-loop-ins : goal.invariant-loop-ins
invariant-loop-ins l = record {
  size : vec_len l.marks ≡ length (flat_map spelled_ins l.code);
  at : l.pc + length (flat_map spelled_ins (drop l.ins-index l.code)) ≡ length (flat_map spelled_ins l.code);
  marks : (place : ℕ) → (is_marked l.marks.items place || starts_at l.pc (drop l.ins-index l.code) place) ≡ starts_at 0 l.code place;
}
