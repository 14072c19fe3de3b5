use Rattle.std.proofs.Common.{◌≡◌, false, ◌++◌, map, take}
use Rattle.fp_facts.specs.Edges.{number_at}
use Rattle.fp_flow.proofs.control.push_branches.Given as goal

abbrev pub invariant-loop-pc : goal.invariant-loop-pc
invariant-loop-pc l = l.edges.items ≡ l.fn.edges.items ++ map (λ pc. (l.from, number_at l.pcs pc, false)) (take l.pc-index l.pc-items)
