use Rattle.std.proofs.Common.{◌≡◌, Ok, Some, set, sym, ap, subst, ◌∙◌}
use Rattle.std.specs.List.{flat_map, AllZip}
use Rattle.fp_model.specs.Taking.{Taken}
use Rattle.fp_ops.specs.CallSites.{arg_texts_at, IsArgAt}
use Rattle.fp_ops.proofs.BootMemos.{args_noted, args_taken, args_told, row_within}
use Rattle.fp_ops.proofs.sites.shared_args.Goals as goal

pub returns-in-Ok-clause-args : goal.returns-in-Ok-clause-args
returns-in-Ok-clause-args c = args_told c.args.names.now c.args.entries.now c.args.boots.now c.args.boot_memo.now c.args.row c.in-Ok.args c.requires.rows (sym c.in-Some.ensures ∙ ap Some (sym c.in-Ok.ensures))

pub returns-in-Ok-clause-names : goal.returns-in-Ok-clause-names
returns-in-Ok-clause-names c = args_taken c.args.names.now c.args.entries.now c.args.boots.now c.args.boot_memo.now c.args.row c.in-Ok.args c.requires.rows (sym c.in-Some.ensures ∙ ap Some (sym c.in-Ok.ensures))

pub keep_args-requires : goal.keep_args-requires
keep_args-requires c = row_within c.args.names.now c.args.entries.now c.args.boots.now c.args.boot_memo.now c.args.row c.requires.rows c.requires.there

pub returns-in-Ok-pair-clause-rows : goal.returns-in-Ok-pair-clause-rows
returns-in-Ok-pair-clause-rows c =
    let entries = c.args.entries.now in
    let args = c.in_ok-args.args in
    args_noted c.args.names.now c.boot_args.new.names entries c.args.boots.now c.args.boot_memo.now c.keep_args.new.memo c.args.row args c.requires.rows
    (subst (λ indexes. Taken (Ok args) c.args.names.now c.boot_args.new.names (flat_map (arg_texts_at entries) indexes)) c.row_args.ensures c.in_ok-args.ensures.names)
    (subst (λ indexes. AllZip (IsArgAt c.boot_args.new.names entries) indexes args) c.row_args.ensures c.in_ok-args.ensures.args)
    (subst (λ a. c.keep_args.new.memo.args.items ≡ set c.args.boot_memo.now.args.items c.args.row (Some a)) c.in-Ok-pair.ensures.0 c.keep_args.ensures)
