use Rattle.fp_ops.proofs.BootMemos.{no_rows_noted}
use Rattle.fp_ops.proofs.boot_memo.empty_boot_memo.Goals as goal

pub returns : goal.returns
returns c = λ names entries. no_rows_noted names entries c.args.boots.now (record { args = c.in_ok-args.args }) c.in_ok-args.ensures
