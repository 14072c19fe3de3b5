-- What is known of rows of bootstrap methods stays true while texts are taken into the table of names.
use Rattle.std.proofs.Common.{◌≡◌, ℕ, ◌<◌, true, List, ◌++◌, Result, Ok, Err, Some, None, length, replicate, set, sym, subst, arith}
use Rattle.std.specs.Prelude.{OnOk}
use Rattle.std.specs.List.{flat_map, list_all, slice_get, AllZip}
use Rattle.fp_base.specs.Names.{has_name}
use Rattle.fp_base.specs.declared.names.NameFault.{NameFault}
use Rattle.fp_model.specs.declared.class.instr.BootArg.{BootArg}
use Rattle.fp_model.specs.declared.raw.attribute.BootRow.{BootRow}
use Rattle.fp_model.specs.declared.raw.pool.Entry.{Entry}
use Rattle.fp_model.specs.Taking.{Taken}
use Rattle.fp_model.proofs.Taking.{taken_ok}
use Rattle.fp_ops.specs.declared.boot_memo.BootMemo.{BootMemo}
use Rattle.fp_ops.specs.BootMemos.{AreRowArgs, IsBootMemo}
use Rattle.fp_ops.specs.CallSites.{arg_texts_at, row_args_at, IsArgAt}
use Rattle.fp_ops.specs.Memos.{known_at}
use Rattle.fp_ops.proofs.LongerInstrs.{arg_kept}
use Rattle.fp_ops.proofs.Memos.{all_held, held_longer, keeps, known_to, none_known, one_noted, with_names_held}
use Rattle.fp_ops.proofs.NamedParts.{AllZip-to}

-- ---- in a longer table

module _ (names more longer : List (List ℕ)) (is : longer ≡ names ++ more) where
  args_longer : (entries : List Entry) (boots : List BootRow) (args : List BootArg) (number : ℕ) → AreRowArgs names entries boots args number → AreRowArgs longer entries boots args number
  args_longer entries boots args number known = record {
    each = AllZip-to (IsArgAt names entries) (IsArgAt longer entries) (row_args_at boots number) args (λ index a one. arg_kept names longer (keeps names more longer is) entries (slice_get entries index) a one) known.each;
    held = subst (λ t. list_all (has_name t) (flat_map (arg_texts_at entries) (row_args_at boots number)) ≡ true) (sym is) (held_longer names more (flat_map (arg_texts_at entries) (row_args_at boots number)) known.held);
  }

  pub boot_memo_longer : (entries : List Entry) (boots : List BootRow) (memo : BootMemo) → IsBootMemo names entries boots memo → IsBootMemo longer entries boots memo
  boot_memo_longer entries boots memo known = record {
    rows = known_to (AreRowArgs names entries boots) (AreRowArgs longer entries boots) (length boots) memo.args.items (args_longer entries boots) known.rows;
  }

-- behind a call that takes texts into the table
pub boot_memo_kept : {X : Type 0} (result : Result X NameFault) (old new texts : List (List ℕ)) (entries : List Entry) (boots : List BootRow) (memo : BootMemo) → Taken result old new texts → IsBootMemo old entries boots memo → IsBootMemo new entries boots memo
boot_memo_kept result old new texts entries boots memo taken known = boot_memo_longer old taken.grown.0 new taken.grown.1 entries boots memo known

pub boot_memo_after : {X : Type 0} (result : Result X NameFault) (old new texts : List (List ℕ)) (entries : List Entry) (boots : List BootRow) (memo : BootMemo) → Taken result old new texts → IsBootMemo old entries boots memo → OnOk result (IsBootMemo new entries boots memo)
boot_memo_after (Ok x) old new texts entries boots memo taken known = boot_memo_kept (Ok x) old new texts entries boots memo taken known
boot_memo_after (Err f) old new texts entries boots memo taken known = tt

-- ---- what the memo tells

-- each row has its place
pub row_within : (names : List (List ℕ)) (entries : List Entry) (boots : List BootRow) (memo : BootMemo) (number : ℕ) → IsBootMemo names entries boots memo → number < length boots → number < length memo.args.items
row_within names entries boots memo number known within = omega (arith, known.rows.size, within)

pub args_told : (names : List (List ℕ)) (entries : List Entry) (boots : List BootRow) (memo : BootMemo) (number : ℕ) (args : List BootArg) → IsBootMemo names entries boots memo → known_at memo.args.items number ≡ Some args → AllZip (IsArgAt names entries) (row_args_at boots number) args
args_told names entries boots memo number args known at = (known.rows.at number args at).each

pub args_taken : (names : List (List ℕ)) (entries : List Entry) (boots : List BootRow) (memo : BootMemo) (number : ℕ) (args : List BootArg) → IsBootMemo names entries boots memo → known_at memo.args.items number ≡ Some args → Taken (Ok args) names names (flat_map (arg_texts_at entries) (row_args_at boots number))
args_taken names entries boots memo number args known at =
    let texts = flat_map (arg_texts_at entries) (row_args_at boots number) in
    taken_ok args names names texts (sym (with_names_held names texts (known.rows.at number args at).held))

-- ---- what is put into it

pub no_rows_noted : (names : List (List ℕ)) (entries : List Entry) (boots : List BootRow) (memo : BootMemo) → memo.args.items ≡ replicate (length boots) None → IsBootMemo names entries boots memo
no_rows_noted names entries boots memo none = record { rows = none_known (AreRowArgs names entries boots) (length boots) memo.args.items none }

pub args_noted : (old new : List (List ℕ)) (entries : List Entry) (boots : List BootRow) (memo after : BootMemo) (number : ℕ) (args : List BootArg) → IsBootMemo old entries boots memo
    → Taken (Ok args) old new (flat_map (arg_texts_at entries) (row_args_at boots number)) → AllZip (IsArgAt new entries) (row_args_at boots number) args
    → after.args.items ≡ set memo.args.items number (Some args) → IsBootMemo new entries boots after
args_noted old new entries boots memo after number args known taken each is =
    let texts = flat_map (arg_texts_at entries) (row_args_at boots number) in
    let kept = boot_memo_longer old taken.grown.0 new taken.grown.1 entries boots memo known in
    record {
      rows = one_noted (AreRowArgs new entries boots) (length boots) memo.args.items after.args.items number args kept.rows
          (record { each = each; held = subst (λ t. list_all (has_name t) texts ≡ true) (sym taken.names) (all_held old texts) }) is;
    }
