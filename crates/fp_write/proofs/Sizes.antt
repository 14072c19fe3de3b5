-- How many bytes so many of one size take.
use Rattle.std.proofs.Common.{◌≡◌, ℕ, ◌*◌, List, [], ◌∷◌, length, refl, arith}
use Rattle.std.specs.List.{flat_map}
use Rattle.fp_model.specs.declared.raw.attribute.CatchRow.{CatchRow}
use Rattle.fp_model.specs.Spelling.{u2, spelled_row}

pub u2s_size : (numbers : List ℕ) → length (flat_map u2 numbers) ≡ 2 * length numbers
u2s_size [] = refl
u2s_size (n ∷ numbers) = omega (arith, u2s_size numbers)

pub rows_size : (rows : List CatchRow) → length (flat_map spelled_row rows) ≡ 8 * length rows
rows_size [] = refl
rows_size (row ∷ rows) = omega (arith, rows_size rows)
