use Rattle.std.proofs.Common.{get_or, slice_index, sym}
use Rattle.std.specs.Int.Bits.{or_zero_r}
use Rattle.std.proofs.lemmas.List.Elements.{Contains-get_or}
use Rattle.fp_eqs.specs.Solved.{flag_at}
use Rattle.fp_solo.specs.Recorded.{is_read}
use Rattle.fp_solo.proofs.JoinLemmas.{joined-more, wakes-both, wakes-none}
use Rattle.fp_solo.proofs.join.join_all.Goals as goal

pub loop-place-init : goal.loop-place-init
loop-place-init g c = record {
  long = c.requires.values;
  due = c.requires.due;
  values = λ p. sym (or_zero_r (get_or c.args.values.now.items p 0));
  wakes = wakes-none (g.S.System.equations c.args.system.now.system).places (is_read c.args.reads.now) (slice_index c.args.values.now.items) (flag_at c.args.due.now.flags.items);
}

pub join_one-requires-clause-place : goal.join_one-requires-clause-place
join_one-requires-clause-place g c = c.requires.places _ _ (Contains-get_or c.args.pairs.now c.loop-place.place-index (0, 0) c.loop-place-test.true)

pub loop-place-preserved : goal.loop-place-preserved
loop-place-preserved g c =
    let e = g.S.System.equations c.args.system.now.system in
    let l = c.loop-place.invariant in
    let told = c.in_ok-join_one.ensures in
    record {
      long = told.long;
      due = told.due;
      values = joined-more c.args.values.now.items c.loop-place.values.items c.join_one.new.values.items c.args.pairs.now c.loop-place.place-index c.loop-place-test.true l.values told.values;
      wakes = wakes-both e.places (is_read c.args.reads.now) (slice_index c.args.values.now.items) (slice_index c.loop-place.values.items) (slice_index c.join_one.new.values.items)
          (flag_at c.args.due.now.flags.items) (flag_at c.loop-place.due.flags.items) (flag_at c.join_one.new.due.flags.items) l.wakes told.wakes;
    }
