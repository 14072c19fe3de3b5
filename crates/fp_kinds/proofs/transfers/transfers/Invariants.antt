use Rattle.std.proofs.Common.{◌≡◌, ◌++◌, drop}
use Rattle.fp_kinds.specs.Transfers.{transfers_behind, transfers_of}
use Rattle.fp_kinds.proofs.transfers.transfers.Given as goal

abbrev pub invariant-loop-number : goal.invariant-loop-number
invariant-loop-number l = transfers_of l.code l.results ≡ l.transfers.items ++ transfers_behind l.instrs l.results l.number (drop l.number l.code.instrs)
