-- What a solver holds while it solves a system on demand.
use Rattle.std.specs.Prelude.{◌≡◌, ◌==◌, ◌&&◌, ◌||◌, ℕ, not, length, slice_index, bit_or, IsTrue, if◌then◌else◌}
use Rattle.fp_eqs.specs.Equations.{Equations}
use Rattle.fp_eqs.specs.Solved.{flag_at}
use Rattle.fp_solo.specs.declared.work.Work.{Work}
use Rattle.fp_solo.specs.Agenda.{AreStarted, IsAgenda}
use Rattle.fp_solo.specs.Asked.{AreQuestions}
use Rattle.fp_solo.specs.Counted.{AreCounted}
use Rattle.fp_solo.specs.Recorded.{AreReads, is_read}
use Rattle.fp_solo.specs.Solving.{IsSolving, Wakes}

-- lists of the system's size, in which the wanted places have started their tasks, and reads that tasks still make
pub record IsWork (e : Equations) (w : Work) : Type 0 where
  pub values : length w.values.items ≡ e.places
  pub agenda : IsAgenda e w.agenda
  pub starts : AreStarted e w.agenda
  pub reads : AreReads e w.reads.links
  pub counts : AreCounted e w.reads
  pub still : (t p : ℕ) → IsTrue (is_read w.reads.links t p) → IsTrue ((e.task t).uses (slice_index w.values.items) p)
  pub questions : AreQuestions e.places w.page.questions

-- what stands while the system is solved, of what the lists hold
abbrev pub IsSolvingBy : Equations → Work → ℕ → Type 0
IsSolvingBy e w evals =
    IsSolving e (slice_index w.values.items) (flag_at w.agenda.wanted.items) (flag_at w.agenda.started.items) (flag_at w.agenda.due.flags.items) (is_read w.reads.links) evals

-- an evaluation of the task at the values, when it was due no more, is in the lists
pub record HasTaken (e : Equations) (task : ℕ) (old new : Work) : Type 0 where
  pub values : (p : ℕ) → slice_index new.values.items p ≡ bit_or (slice_index old.values.items p) ((e.task task).out (slice_index old.values.items) p)
  pub wanted : (p : ℕ) → flag_at new.agenda.wanted.items p ≡ (flag_at old.agenda.wanted.items p || (e.task task).uses (slice_index old.values.items) p)
  pub reads : (t p : ℕ) → is_read new.reads.links t p ≡ (if t == task then (e.task task).uses (slice_index old.values.items) p else is_read old.reads.links t p)
  pub wakes : Wakes e.places (is_read new.reads.links) (slice_index old.values.items) (slice_index new.values.items)
      (λ t. flag_at old.agenda.due.flags.items t || (flag_at new.agenda.started.items t && not (flag_at old.agenda.started.items t))) (flag_at new.agenda.due.flags.items)
