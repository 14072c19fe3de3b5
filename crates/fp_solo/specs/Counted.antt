-- How many places each task reads.
use Rattle.std.specs.Prelude.{◌≡◌, ◌<◌, ℕ, length, slice_index}
use Rattle.fp_eqs.specs.Equations.{Equations}
use Rattle.fp_solo.specs.declared.record.Reads.{Reads}
use Rattle.fp_solo.specs.Recorded.{IsCount, is_read}

-- each task has a number, which is how many places it reads
pub record AreCounted (e : Equations) (r : Reads) : Type 0 where
  pub long : length r.counts.items ≡ e.tasks
  pub counts : (t : ℕ) → t < e.tasks → IsCount (is_read r.links t) (slice_index r.counts.items t)
