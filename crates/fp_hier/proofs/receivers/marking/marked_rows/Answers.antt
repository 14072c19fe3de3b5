use Rattle.std.proofs.Common.{◌≡◌, List, Bool, false, replicate, arith, ap, ◌∙◌, inl, inr, rules}
use Rattle.std.proofs.lemmas.Bool.{cases_eq}
use Rattle.fp_hier.proofs.MarkedRows.{all-marked, none-marked}
use Rattle.fp_hier.proofs.receivers.marking.marked_rows.Goals as goal

pub loop-class-init : goal.loop-class-init
loop-class-init c =
    let n = c.counts-classes.result.0 in
    let many = c.counts-classes.ensures.classes in
    let clear : ◌≡◌ {A = List Bool} c.in_ok-marked.marked.items (replicate n false) = search rules in
    record {
      marked = none-marked c.args.set.now c.in_ok-marked.marked.items c.in_ok-rows.rows (clear ∙ ap (λ n. replicate n false) many) c.in_ok-rows.ensures.holds (omega (arith, c.in_ok-rows.ensures.rows, many)) (c.in_ok-rows.ensures.columns ∙ many) c.in_ok-rows.ensures.unset;
      all = λ k lt. absurd (omega (arith, lt));
    }

pub loop-class-preserved : goal.loop-class-preserved
loop-class-preserved c = record {
  marked = c.in_ok-mark_class.ensures.marked;
  all = λ k lt.
      elim (cases_eq k c.loop-class.class) [
        | inl same ↦ rw same c.in_ok-mark_class.ensures.here
        | inr other ↦ c.in_ok-mark_class.ensures.kept k (c.in_ok-mark_down.ensures.kept k (c.loop-class.invariant.all k (omega (arith, lt, other))))
      ];
}

pub returns : goal.returns
returns c =
    all-marked c.args.set.now c.loop-class.marked.items c.loop-class.rows c.loop-class.invariant.marked
    (λ k lt. c.loop-class.invariant.all k (omega (arith, lt, c.counts-classes.ensures.classes, c.loop-class-test.false)))
