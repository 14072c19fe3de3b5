use Rattle.std.proofs.Common.{subst}
use Rattle.fp_ops.specs.Memos.{IsMemo}
use Rattle.fp_class.proofs.code.to_code.Goals as goal

pub code_with-requires-clause-memo : goal.code_with-requires-clause-memo
code_with-requires-clause-memo c = subst (λ e. IsMemo c.args.names.now e c.in-Ok.memo) c.as_slice.ensures (c.in-Ok.ensures c.args.names.now)
