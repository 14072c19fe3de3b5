use Rattle.std.proofs.Common.{◌≡◌, ◌++◌, drop}
use Rattle.fp_origin.specs.Numbering.{allocation_origins}
use Rattle.fp_origin.proofs.numbering.push_allocations.Given as goal

abbrev pub invariant-loop-pc : goal.invariant-loop-pc
invariant-loop-pc l = l.origins.items ++ allocation_origins (drop l.pc-index l.code.instrs) ≡ l.fn.origins.items ++ allocation_origins l.code.instrs
