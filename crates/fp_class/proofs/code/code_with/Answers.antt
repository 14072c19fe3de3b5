use Rattle.std.proofs.Common.{sym}
use Rattle.std.specs.List.{flat_map}
use Rattle.std.proofs.lemmas.Result.{err_from_is_err_and}
use Rattle.fp_model.proofs.Taking.{kept_by, taken_first}
use Rattle.fp_ops.proofs.BootMemos.{boot_memo_kept}
use Rattle.fp_ops.specs.Forms.{instr_texts}
use Rattle.fp_class.specs.MethodCode.{row_texts}
use Rattle.fp_class.proofs.NamedCode.{code_made}
use Rattle.fp_class.proofs.code.code_with.Goals as goal

pub returns-in_err-instrs-clause-names : goal.returns-in_err-instrs-clause-names
returns-in_err-instrs-clause-names c =
    let p = err_from_is_err_and c.from_residual.result c.from_residual.ensures.1 in
    rw (p.1, p.2, sym c.as_slice.ensures)
    (taken_first c.in_err-instrs.field-0.0 c.args.names.now c.instructions.new.names (flat_map (instr_texts c.args.pool.now.entries c.args.boots.now) c.as_slice.result.now) (flat_map (row_texts c.args.pool.now.entries) _) c.in_err-instrs.ensures.names)

pub returns-clause-code : goal.returns-clause-code
returns-clause-code c =
    code_made c.instructions.new.names c.guards.new.names c.args.pool.now.entries c.as_slice-2.result.now c.args.boots.now c.args.code.now c.in_ok-instrs.instrs c.as_slice.result.now c.in_ok-rows.rows c.as_slice-3.result.now
    c.as_slice.ensures c.as_slice-2.ensures c.as_slice-3.ensures (kept_by _ _ _ _ c.in_ok-rows.ensures.names) c.in_ok-instrs.ensures.instrs c.in_ok-rows.ensures.guards

pub returns-clause-rows : goal.returns-clause-rows
returns-clause-rows c = boot_memo_kept _ _ _ _ c.args.pool.now.entries c.args.boots.now c.instructions.new.boot_memo c.in_ok-rows.ensures.names c.in_ok-instrs.ensures.rows
