use Rattle.std.proofs.Common.{[], ◌∷◌, ◌++◌, sym, subst, ◌∙◌}
use Rattle.std.specs.List.{flat_map, AllZip}
use Rattle.std.specs.Option.{unwrap_or}
use Rattle.std.proofs.lemmas.Result.{err_from_is_err_and}
use Rattle.fp_model.specs.Descriptor.{descr_names}
use Rattle.fp_model.specs.Entries.{text_at}
use Rattle.fp_model.proofs.Interned.{Keeps-then}
use Rattle.fp_model.proofs.Taking.{kept_by, taken_first, taken_stop}
use Rattle.fp_ops.specs.CallSites.{arg_texts_at, handle_texts, row_args_at, IsArgAt}
use Rattle.fp_ops.specs.References.{handle_of}
use Rattle.fp_model.proofs.LongerTables.{descr_kept}
use Rattle.fp_ops.proofs.BootMemos.{boot_memo_kept}
use Rattle.fp_ops.proofs.LongerInstrs.{reference_kept}
use Rattle.fp_ops.proofs.Memos.{there}
use Rattle.fp_ops.proofs.TakenTexts.{after_two, last_of_four, taken_of}
use Rattle.fp_ops.proofs.sites.site_instr.Goals as goal

pub returns-clause-instr : goal.returns-clause-instr
returns-clause-instr c =
    let entries = c.args.entries.now in
    let second = kept_by _ _ _ _ c.in_ok-descr.ensures.names in
    let third = kept_by _ _ _ _ (taken_of _ _ _ _ c.in_ok-boot.ensures.names) in
    let fourth = kept_by _ _ _ _ c.in_ok-args.ensures.names in
    let last_two = Keeps-then c.kinds_at.new.names c.boot_ref.new.names c.shared_args.new.names third fourth in (
      (Keeps-then c.text.new.names c.kinds_at.new.names c.shared_args.new.names second last_two).stands c.in_ok-name.name _ (c.in_ok-name.ensures.number ∙ there (text_at entries c.args.site.name) c.requires.name),
      descr_kept c.kinds_at.new.names c.shared_args.new.names last_two _ c.in_ok-descr.descr c.in_ok-descr.ensures.kinds,
      reference_kept c.boot_ref.new.names c.shared_args.new.names fourth _ c.in_ok-boot.boot c.in_ok-boot.ensures.reference,
      subst (λ indexes. AllZip (IsArgAt c.shared_args.new.names entries) indexes c.in_ok-args.args) (sym c.requires.row) c.in_ok-args.ensures.args,
    )

pub returns-in_err-name-clause-names : goal.returns-in_err-name-clause-names
returns-in_err-name-clause-names c =
    let p = err_from_is_err_and c.from_residual.result c.from_residual.ensures.1 in
    let entries = c.args.entries.now in
    let site = c.args.site in
    let name = unwrap_or (text_at entries site.name) [] in
    let descr = unwrap_or (text_at entries site.descr) [] in
    let handle = handle_texts (handle_of entries site.method.kind site.method.member.class site.method.member.name site.method.member.descr) in
    let args = flat_map (arg_texts_at entries) site.args.now in
    rw (p.1, p.2)
    (taken_first c.in_err-name.field-0.0 c.args.names.now c.text.new.names (name ∷ []) (descr_names descr ++ (handle ++ args)) (taken_of _ _ _ _ c.in_err-name.ensures.names))

pub returns-in_err-descr-clause-names : goal.returns-in_err-descr-clause-names
returns-in_err-descr-clause-names c =
    let p = err_from_is_err_and c.from_residual-in_err-descr.result c.from_residual-in_err-descr.ensures.1 in
    let entries = c.args.entries.now in
    let site = c.args.site in
    let name = unwrap_or (text_at entries site.name) [] in
    let descr = unwrap_or (text_at entries site.descr) [] in
    let handle = handle_texts (handle_of entries site.method.kind site.method.member.class site.method.member.name site.method.member.descr) in
    let args = flat_map (arg_texts_at entries) site.args.now in
    rw (p.1, p.2)
    (taken_stop c.in_err-descr.field-0.0 c.args.names.now c.text.new.names c.kinds_at.new.names (name ∷ []) (descr_names descr) (handle ++ args) c.in_ok-name.ensures.names.names c.in_err-descr.ensures.names)

pub returns-in_err-boot-clause-names : goal.returns-in_err-boot-clause-names
returns-in_err-boot-clause-names c =
    let p = err_from_is_err_and c.from_residual-in_err-boot.result c.from_residual-in_err-boot.ensures.1 in
    let entries = c.args.entries.now in
    let site = c.args.site in
    let name = unwrap_or (text_at entries site.name) [] in
    let descr = unwrap_or (text_at entries site.descr) [] in
    let handle = handle_texts (handle_of entries site.method.kind site.method.member.class site.method.member.name site.method.member.descr) in
    let args = flat_map (arg_texts_at entries) site.args.now in
    rw (p.1, p.2)
    (after_two c.in_err-boot.field-0.0 c.args.names.now c.text.new.names c.kinds_at.new.names c.boot_ref.new.names (name ∷ []) (descr_names descr) handle args
    c.in_ok-name.ensures.names.names c.in_ok-descr.ensures.names.names (taken_of _ _ _ _ c.in_err-boot.ensures.names))

pub returns-in_err-args-clause-names : goal.returns-in_err-args-clause-names
returns-in_err-args-clause-names c =
    let p = err_from_is_err_and c.from_residual-in_err-args.result c.from_residual-in_err-args.ensures.1 in
    let entries = c.args.entries.now in
    let site = c.args.site in
    let name = unwrap_or (text_at entries site.name) [] in
    let descr = unwrap_or (text_at entries site.descr) [] in
    let handle = handle_texts (handle_of entries site.method.kind site.method.member.class site.method.member.name site.method.member.descr) in
    let args = flat_map (arg_texts_at entries) (row_args_at c.args.boots.now site.row) in
    rw (p.1, p.2, c.requires.row)
    (last_of_four c.in_err-args.field-0.0 c.args.names.now c.text.new.names c.kinds_at.new.names c.boot_ref.new.names c.shared_args.new.names (name ∷ []) (descr_names descr) handle args
    c.in_ok-name.ensures.names.names c.in_ok-descr.ensures.names.names c.in_ok-boot.ensures.names.names c.in_err-args.ensures.names)

-- what is known of the rows is still true after the name, the descriptor and the method are read
pub shared_args-requires-clause-rows : goal.shared_args-requires-clause-rows
shared_args-requires-clause-rows c =
    boot_memo_kept _ _ _ _ c.args.entries.now c.args.boots.now c.args.boot_memo.now (taken_of _ _ _ _ c.in_ok-boot.ensures.names)
    (boot_memo_kept _ _ _ _ c.args.entries.now c.args.boots.now c.args.boot_memo.now c.in_ok-descr.ensures.names
    (boot_memo_kept _ _ _ _ c.args.entries.now c.args.boots.now c.args.boot_memo.now (taken_of _ _ _ _ c.in_ok-name.ensures.names) c.requires.rows))
