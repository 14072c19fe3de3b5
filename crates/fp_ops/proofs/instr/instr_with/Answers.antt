use Rattle.fp_ops.proofs.BootMemos.{boot_memo_after}
use Rattle.fp_ops.proofs.instr.instr_with.Goals as goal

pub returns-then-is_named-clause-rows : goal.returns-then-is_named-clause-rows
returns-then-is_named-clause-rows c = boot_memo_after _ _ _ _ c.args.pool.now.entries c.args.boots.now c.args.boot_memo.now c.named_instr.ensures.names c.requires.rows

pub returns-then-is_call-clause-rows : goal.returns-then-is_call-clause-rows
returns-then-is_call-clause-rows c = boot_memo_after _ _ _ _ c.args.pool.now.entries c.args.boots.now c.args.boot_memo.now c.call_instr.ensures.names c.requires.rows
