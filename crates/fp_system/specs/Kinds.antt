-- In which order cells stand by their kinds, and which cells of a kind methods have.
use Rattle.std.specs.Prelude.{ℕ, ◌+◌, ◌<◌, Bool, true, List, [], ◌∷◌, ⊤}
use Rattle.fp_model.specs.declared.class.Method.{Method}
use Rattle.fp_cells.specs.declared.kind.KindId.{KindId}
use Rattle.fp_cells.specs.declared.kind.KindId.TheVariants as kind
use Rattle.fp_cells.specs.Cells.{Cell}
use Rattle.fp_system.specs.Java.{arguments, gives_reference, has_code}

-- the number of a kind in the order in which the cells of the kinds are added
abbrev pub rank : KindId → ℕ
rank kind.Declared = 0
rank kind.Inst = 1
rank kind.Reach = 2
rank kind.Assign = 3
rank kind.Immut = 4
rank kind.Timmut = 5
rank kind.Fresh = 6
rank kind.Leak = 7
rank kind.Purity = 8
rank kind.Callees = 9
rank kind.Escape = 10

-- each cell is of a kind whose number is below this one
abbrev pub AreBefore : ℕ → List Cell → Type 0
AreBefore n [] = ⊤
AreBefore n (cell ∷ cells) = (rank cell.kind < n) × AreBefore n cells

-- how many bits the cell of a method has
abbrev pub method_bits : KindId → Method → ℕ
method_bits kind.Leak m = arguments m
method_bits kind.Purity m = arguments m + 2
method_bits _ m = 1

-- the method has a cell of the kind
abbrev pub method_has : KindId → Method → Bool
method_has kind.Reach m = has_code m
method_has kind.Fresh m = gives_reference m
method_has _ m = true
