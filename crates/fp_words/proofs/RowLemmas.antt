-- Entries that the library keeps of what it read.
use Rattle.std.proofs.Common.{◌≡◌, Bool, true, false, ◌||◌, cond, Some, None, List, [], ◌∷◌, ◌++◌, refl, ap, ◌∙◌}
use Rattle.std.proofs.lemmas.List.{append-nil}
use Rattle.std.specs.List.{find, fold, list_all}
use Rattle.std.specs.Str.{bytes_eq}
use Rattle.clap.proofs.WalkLemmas.{both}
use Rattle.clap.proofs.SimpleLemmas.{is_nil}
use Rattle.clap.specs.Walk.{Row, Rule, Text, at_row, has_row, is_empty, more_values, with_default, with_values, without, default_rows, reading_by}
use Rattle.clap.specs.declared.builder.value_parser.Reading.TheVariants.{AsWritten}
use Rattle.clap.specs.declared.parser.matches.ValueSource.TheVariants.{CommandLine}

-- an entry of the command line, with its values as they were written
abbrev pub entry : Text → List Text → Row
entry id values = record { id = id; values = values; count = None; source = Some CommandLine; reading = AsWritten }

at_row-absent : (id : Text) (change : Row → List Row) (missing rows : List Row) → has_row id rows ≡ false → at_row id change missing rows ≡ rows ++ missing
at_row-absent id change missing [] absent = refl
at_row-absent id change missing (row ∷ rows) absent = by_case (bytes_eq row.id id) absent (at_row-absent id change missing rows)
  where
    by_case : (same : Bool) → (same || has_row id rows) ≡ false → (has_row id rows ≡ false → at_row id change missing rows ≡ rows ++ missing) → cond same (change row ++ rows) (row ∷ at_row id change missing rows) ≡ row ∷ (rows ++ missing)
    by_case true e rest = cc
    by_case false e rest = ap (λ more. row ∷ more) (rest e)

-- a first use of an argument is kept at the end, whether it would replace an earlier one or add to it
pub first_added : (id : Text) (values : List Text) (rows : List Row) → has_row id rows ≡ false → with_values id AsWritten CommandLine values rows ≡ rows ++ entry id values ∷ []
first_added id values rows absent = at_row-absent id (more_values CommandLine values) (entry id values ∷ []) rows absent

pub first_use : (id : Text) (values : List Text) (rows : List Row) → has_row id rows ≡ false → with_values id AsWritten CommandLine values (without id rows) ≡ rows ++ entry id values ∷ []
first_use id values rows absent =
    ap (with_values id AsWritten CommandLine values) (at_row-absent id (λ _. []) [] rows absent ∙ append-nil rows)
    ∙ first_added id values rows absent

pub has_row-other : (id : Text) (rows : List Row) (row : Row) → bytes_eq row.id id ≡ false → has_row id (rows ++ row ∷ []) ≡ has_row id rows
has_row-other id [] row other = ap (λ b. b || false) other
has_row-other id (first ∷ rows) row other = ap (λ b. bytes_eq first.id id || b) (has_row-other id rows row other)

pub has_row-same : (id : Text) (rows : List Row) (row : Row) → bytes_eq row.id id ≡ true → has_row id (rows ++ row ∷ []) ≡ true
has_row-same id [] row same = ap (λ b. b || false) same
has_row-same id (first ∷ rows) row same = by_case (bytes_eq first.id id) (has_row-same id rows row same)
  where
    by_case : (b : Bool) {rest : Bool} → rest ≡ true → (b || rest) ≡ true
    by_case true e = refl
    by_case false e = e

pub find-other : (id : Text) (rows : List Row) (row : Row) → bytes_eq row.id id ≡ false → find (λ r. bytes_eq r.id id) (rows ++ row ∷ []) ≡ find (λ r. bytes_eq r.id id) rows
find-other id [] row other = ap (λ b. cond b (Some row) None) other
find-other id (first ∷ rows) row other = ap (λ o. cond (bytes_eq first.id id) (Some first) o) (find-other id rows row other)

pub find-same : (id : Text) (rows : List Row) (row : Row) → has_row id rows ≡ false → bytes_eq row.id id ≡ true → find (λ r. bytes_eq r.id id) (rows ++ row ∷ []) ≡ Some row
find-same id [] row absent same = ap (λ b. cond b (Some row) None) same
find-same id (first ∷ rows) row absent same = by_case (bytes_eq first.id id) absent (λ e. find-same id rows row e same)
  where
    by_case : (b : Bool) → (b || has_row id rows) ≡ false → (has_row id rows ≡ false → find (λ r. bytes_eq r.id id) (rows ++ row ∷ []) ≡ Some row) → cond b (Some first) (find (λ r. bytes_eq r.id id) (rows ++ row ∷ [])) ≡ Some row
    by_case true e rest = cc
    by_case false e rest = rest e

-- where no row has the id, none is found
pub find-absent : (id : Text) (rows : List Row) → has_row id rows ≡ false → find (λ r. bytes_eq r.id id) rows ≡ None
find-absent id [] absent = refl
find-absent id (first ∷ rows) absent = by_case (bytes_eq first.id id) absent (find-absent id rows)
  where
    by_case : (b : Bool) → (b || has_row id rows) ≡ false → (has_row id rows ≡ false → find (λ r. bytes_eq r.id id) rows ≡ None) → cond b (Some first) (find (λ r. bytes_eq r.id id) rows) ≡ None
    by_case true e rest = cc
    by_case false e rest = rest e

-- no argument has a default value, so that none is put in
pub no_defaults : (rules : List Rule) (rows : List Row) → list_all (λ rule. is_empty rule.defaults) rules ≡ true → fold with_default rows rules ≡ rows
no_defaults [] rows none = refl
no_defaults (rule ∷ rules) rows none =
    let here = both (is_empty rule.defaults) (list_all (λ rule. is_empty rule.defaults) rules) none in
    ap (λ kept. fold with_default kept rules) (kept rule here.0) ∙ no_defaults rules rows here.1
  where
    same : (b : Bool) → cond b rows rows ≡ rows
    same true = refl
    same false = refl

    kept : (r : Rule) → is_empty r.defaults ≡ true → with_default rows r ≡ rows
    kept r empty = ap (λ texts. cond (has_row r.id rows) rows (default_rows r.id (reading_by r) texts rows)) (is_nil r.defaults empty) ∙ same (has_row r.id rows)
