use Rattle.std.specs.Prelude.{ℕ, List}
use Rattle.fp_eqs.specs.Equations.{Equations}

-- what an asker over a list of values was made with
pub record ReadingBase : Type 0 where
  pub equations : Equations
  pub task : ℕ
  pub values : List ℕ
