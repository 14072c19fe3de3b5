use Rattle.std.proofs.Common.{◌≡◌, ℕ, bit_or, get_or, length, take, slice_index}
use Rattle.fp_eqs.specs.Answers.{bits_of}
use Rattle.fp_eqs.specs.Solved.{flag_at}
use Rattle.fp_solo.specs.Queued.{IsDue}
use Rattle.fp_solo.specs.Recorded.{is_read}
use Rattle.fp_solo.specs.Solving.{Wakes}
use Rattle.fp_solo.proofs.join.join_all.Given as goal

abbrev pub invariant-loop-place : goal.invariant-loop-place
invariant-loop-place g l =
    let e = g.S.System.equations l.system.system in
    record {
      long : length l.values.items ≡ e.places;
      due : IsDue e.tasks l.due;
      values : (p : ℕ) → get_or l.values.items p 0 ≡ bit_or (get_or l.initial.values.items p 0) (bits_of (take l.place-index l.pairs) p);
      wakes : Wakes e.places (is_read l.reads) (slice_index l.initial.values.items) (slice_index l.values.items) (flag_at l.initial.due.flags.items) (flag_at l.due.flags.items);
    }
