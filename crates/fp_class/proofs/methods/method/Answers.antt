use Rattle.std.proofs.Common.{[], ◌∷◌, ◌++◌, sym}
use Rattle.std.proofs.lemmas.Bool.{and_parts}
use Rattle.std.proofs.lemmas.Result.{err_from_is_err_and}
use Rattle.std.specs.Option.{is_some, unwrap_or}
use Rattle.fp_model.specs.Descriptor.{descr_names, is_method_descriptor}
use Rattle.fp_model.specs.Entries.{passes, text_at}
use Rattle.fp_model.specs.NamedInstructions.{texts_by}
use Rattle.fp_model.proofs.Taking.{kept_by, taken_first, taken_stop}
use Rattle.fp_class.specs.MethodCode.{code_texts}
use Rattle.fp_class.specs.Methods.{code_of}
use Rattle.fp_class.proofs.NamedMethods.{method_named}
use Rattle.fp_class.proofs.NamedParts.{entry_passes}
use Rattle.fp_ops.proofs.BootMemos.{boot_memo_kept}
use Rattle.fp_ops.proofs.TakenTexts.{after_two, last_of_four, taken_of}
use Rattle.fp_class.proofs.methods.method.Goals as goal

pub returns-in_err-name-clause-names : goal.returns-in_err-name-clause-names
returns-in_err-name-clause-names c =
    let p = err_from_is_err_and c.from_residual.result c.from_residual.ensures.1 in
    let entries = c.as_slice-entries.result.now in
    let descr = unwrap_or (text_at entries c.args.member.now.descr) [] in
    rw (p.1, p.2, sym c.as_slice-entries.ensures)
    (taken_first c.in_err-name.field-0.0 c.args.names.now c.text.new.names (unwrap_or (text_at entries c.args.member.now.name) [] ∷ []) (descr ∷ (descr_names descr ++ texts_by (code_texts entries c.args.boots.now) (code_of c.args.member.now.attributes)))
    (taken_of _ _ _ _ c.in_err-name.ensures.names))

pub returns-in_err-descr-clause-names : goal.returns-in_err-descr-clause-names
returns-in_err-descr-clause-names c =
    let p = err_from_is_err_and c.from_residual-in_err-descr.result c.from_residual-in_err-descr.ensures.1 in
    let entries = c.as_slice-entries.result.now in
    let descr = unwrap_or (text_at entries c.args.member.now.descr) [] in
    rw (p.1, p.2, sym c.as_slice-entries.ensures)
    (taken_stop c.in_err-descr.field-0.0 c.args.names.now c.text.new.names c.text-2.new.names (unwrap_or (text_at entries c.args.member.now.name) [] ∷ []) (descr ∷ []) (descr_names descr ++ texts_by (code_texts entries c.args.boots.now) (code_of c.args.member.now.attributes))
    c.in_ok-name.ensures.names.names (taken_of _ _ _ _ c.in_err-descr.ensures.names))

pub returns-in_err-kinds-clause-names : goal.returns-in_err-kinds-clause-names
returns-in_err-kinds-clause-names c =
    let p = err_from_is_err_and c.from_residual-in_err-kinds.result c.from_residual-in_err-kinds.ensures.1 in
    let entries = c.as_slice-entries.result.now in
    let descr = unwrap_or (text_at entries c.args.member.now.descr) [] in
    rw (p.1, p.2, sym c.as_slice-entries.ensures)
    (after_two c.in_err-kinds.field-0.0 c.args.names.now c.text.new.names c.text-2.new.names c.kinds_at.new.names (unwrap_or (text_at entries c.args.member.now.name) [] ∷ []) (descr ∷ []) (descr_names descr) (texts_by (code_texts entries c.args.boots.now) (code_of c.args.member.now.attributes))
    c.in_ok-name.ensures.names.names c.in_ok-descr.ensures.names.names c.in_err-kinds.ensures.names)

pub returns-clause-method : goal.returns-clause-method
returns-clause-method c =
    method_named c.text.new.names c.text-2.new.names c.kinds_at.new.names c.code.new.names c.args.pool.now.entries c.as_slice-entries.result.now c.args.boots.now c.args.member.now c.as_slice.result.now
    c.in_ok-name.name c.in_ok-descr.descr c.in_ok-kinds.kinds c.in_ok-code.code c.as_slice-entries.ensures c.as_slice.ensures c.requires.sound
    c.in_ok-name.ensures.number (kept_by _ _ _ _ (taken_of _ _ _ _ c.in_ok-descr.ensures.names)) c.in_ok-descr.ensures.number (kept_by _ _ _ _ c.in_ok-kinds.ensures.names)
    c.in_ok-kinds.ensures.kinds (kept_by _ _ _ _ c.in_ok-code.ensures.names) c.in_ok-code.ensures.code

pub kinds_at-requires-clause-descr : goal.kinds_at-requires-clause-descr
kinds_at-requires-clause-descr c =
    let entries = c.args.pool.now.entries in
    rw c.as_slice-entries.ensures
    (entry_passes is_method_descriptor entries c.args.member.now.descr c.requires.pool
    (and_parts (is_some (text_at entries c.args.member.now.name)) (passes is_method_descriptor (text_at entries c.args.member.now.descr)) c.requires.sound).1)

pub returns-in_err-code-clause-names : goal.returns-in_err-code-clause-names
returns-in_err-code-clause-names c =
    let p = err_from_is_err_and c.from_residual-in_err-code.result c.from_residual-in_err-code.ensures.1 in
    let entries = c.args.pool.now.entries in
    let descr = unwrap_or (text_at entries c.args.member.now.descr) [] in
    rw (p.1, p.2)
    (last_of_four c.in_err-code.field-0.0 c.args.names.now c.text.new.names c.text-2.new.names c.kinds_at.new.names c.code.new.names (unwrap_or (text_at entries c.args.member.now.name) [] ∷ []) (descr ∷ []) (descr_names descr) (texts_by (code_texts entries c.args.boots.now) (code_of c.args.member.now.attributes))
    (rw c.as_slice-entries.ensures at c.in_ok-name.ensures.names.names) (rw c.as_slice-entries.ensures at c.in_ok-descr.ensures.names.names) (rw c.as_slice-entries.ensures at c.in_ok-kinds.ensures.names.names)
    (rw c.as_slice.ensures at c.in_err-code.ensures.names))

-- what is known of the rows is still true after the name and the descriptor are read
pub code-requires-clause-rows : goal.code-requires-clause-rows
code-requires-clause-rows c =
    boot_memo_kept _ _ _ _ c.args.pool.now.entries c.args.boots.now c.args.boot_memo.now c.in_ok-kinds.ensures.names
    (boot_memo_kept _ _ _ _ c.args.pool.now.entries c.args.boots.now c.args.boot_memo.now (taken_of _ _ _ _ c.in_ok-descr.ensures.names)
    (boot_memo_kept _ _ _ _ c.args.pool.now.entries c.args.boots.now c.args.boot_memo.now (taken_of _ _ _ _ c.in_ok-name.ensures.names) c.requires.rows))
