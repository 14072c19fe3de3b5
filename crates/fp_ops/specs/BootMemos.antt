-- What is known of the rows of bootstrap methods (JVMS SE 21 section 4.7.23), by their numbers, while texts are taken into a
-- table of names.
use Rattle.std.specs.Prelude.{◌≡◌, ℕ, true, List, length}
use Rattle.std.specs.List.{list_all, flat_map, AllZip}
use Rattle.fp_base.specs.Names.{has_name}
use Rattle.fp_model.specs.declared.class.instr.BootArg.{BootArg}
use Rattle.fp_model.specs.declared.raw.attribute.BootRow.{BootRow}
use Rattle.fp_model.specs.declared.raw.pool.Entry.{Entry}
use Rattle.fp_ops.specs.declared.boot_memo.BootMemo.{BootMemo}
use Rattle.fp_ops.specs.CallSites.{arg_texts_at, row_args_at, IsArgAt}
use Rattle.fp_ops.specs.Memos.{AreKnown}

-- these are the static arguments of the row of a number, and the table has the names in them
pub record AreRowArgs (names : List (List ℕ)) (entries : List Entry) (boots : List BootRow) (args : List BootArg) (number : ℕ) : Type 0 where
  pub each : AllZip (IsArgAt names entries) (row_args_at boots number) args
  pub held : list_all (has_name names) (flat_map (arg_texts_at entries) (row_args_at boots number)) ≡ true

-- what is known is true
pub record IsBootMemo (names : List (List ℕ)) (entries : List Entry) (boots : List BootRow) (memo : BootMemo) : Type 0 where
  pub rows : AreKnown (AreRowArgs names entries boots) (length boots) memo.args.items
