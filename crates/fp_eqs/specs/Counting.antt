use Rattle.std.specs.Prelude.{ℕ}

-- a system, and how many evaluations were made of it
pub record CountedSystem (S : Type 0) : Type 0 where
  pub system : S
  pub evals : ℕ
