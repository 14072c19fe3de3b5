use Rattle.std.proofs.Common.{◌≡◌, ◌++◌, drop}
use Rattle.fp_origin.specs.Numbering.{result_origins}
use Rattle.fp_origin.proofs.numbering.push_results.Given as goal

abbrev pub invariant-loop-pc : goal.invariant-loop-pc
invariant-loop-pc l = l.origins.items ++ result_origins (drop l.pc-index l.code.instrs) ≡ l.fn.origins.items ++ result_origins l.code.instrs
