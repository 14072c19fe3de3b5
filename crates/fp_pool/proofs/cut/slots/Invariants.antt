use Rattle.std.proofs.Common.{◌≡◌, ◌-◌, [], true}
use Rattle.fp_model.specs.Pool.{slots_at}
use Rattle.fp_pool.proofs.cut.slots.Given as goal

-- what is left to read leads where the whole does
abbrev pub invariant-loop-index : goal.invariant-loop-index
invariant-loop-index l = slots_at (l.count - 1) (l.count - l.index) l.entries.items l.empty l.bytes l.next ≡ slots_at (l.count - 1) l.count [] true l.bytes l.at
