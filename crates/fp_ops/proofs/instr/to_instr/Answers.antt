use Rattle.std.proofs.Common.{subst}
use Rattle.fp_ops.specs.Memos.{IsMemo}
use Rattle.fp_ops.proofs.instr.to_instr.Goals as goal

pub instr_with-requires-clause-memo : goal.instr_with-requires-clause-memo
instr_with-requires-clause-memo c = subst (λ e. IsMemo c.args.names.now e c.in-Ok.memo) c.as_slice.ensures (c.in-Ok.ensures c.args.names.now)
