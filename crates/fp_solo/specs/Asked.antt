-- The questions of an evaluation.
use Rattle.std.specs.Prelude.{◌≡◌, ℕ, List, length}
use Rattle.fp_eqs.specs.Answers.{asked}
use Rattle.fp_eqs.specs.Solved.{flag_at}
use Rattle.fp_solo.specs.declared.evaluate.Questions.{Questions}

-- each place has a flag, which is set where the place has an answer
pub record AreQuestions (places : ℕ) (q : Questions) : Type 0 where
  pub long : length q.seen.items ≡ places
  pub seen : (p : ℕ) → flag_at q.seen.items p ≡ asked q.answers.items p

-- what an asker was made with
pub record Asking : Type 0 where
  pub task : ℕ
  pub values : List ℕ
