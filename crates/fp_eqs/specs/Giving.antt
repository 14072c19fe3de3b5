use Rattle.std.specs.Prelude.{ℕ, List}

-- a list of contributions, and how many more can be added without memory
pub record Giving : Type 0 where
  pub list : List (ℕ × ℕ)
  pub spare : ℕ
