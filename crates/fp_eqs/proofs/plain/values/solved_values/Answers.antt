use Rattle.std.proofs.Common.{◌≡◌, ◌≤◌, ◌*◌, ◌+◌, ◌∙◌, ℕ, List, slice_index, ap, sym, subst, arith, add-one}
use Rattle.fp_eqs.specs.Solution.{round, after_rounds}
use Rattle.fp_eqs.proofs.Least.{solution-rounds, stays}
use Rattle.fp_eqs.proofs.plain.values.solved_values.Goals as goal

pub loop-round-init : goal.loop-round-init
loop-round-init g c = record {
  long = c.in_ok-values.ensures.long;
  values = c.in_ok-values.ensures.fixed;
}

pub loop-round-preserved : goal.loop-round-preserved
loop-round-preserved g c =
    let e = g.S.System.equations c.args.system.now in
    record {
      long = c.in_ok-next.ensures.long;
      values = rw add-one (c.in_ok-next.ensures.round ∙ ap {B = ℕ → ℕ} (λ (xs : List ℕ). round e (slice_index xs)) c.deref.ensures.value ∙ ap {B = ℕ → ℕ} (λ (a : ℕ → ℕ). round e a) c.loop-round.invariant.values);
    }

pub returns-clause-solution : goal.returns-clause-solution
returns-clause-solution g c =
    let e = g.S.System.equations c.args.system.now in
    let end : c.loop-round._round ≡ 64 * e.places + 1 = omega arith in
    (rw end at c.loop-round.invariant.values) ∙ sym (solution-rounds e)

pub returns-then-are_same-clause-solution : goal.returns-then-are_same-clause-solution
returns-then-are_same-clause-solution g c =
    let e = g.S.System.equations c.args.system.now in
    let values = c.loop-round.values.items in
    let next : c.in_ok-next.next.items ≡ values = sym c.deref-in-loop-round.ensures.value ∙ c.are_same.ensures c.if-are_same.true ∙ c.deref-in-loop-round-2.ensures.value in
    let after : slice_index c.in_ok-next.next.items ≡ round e (slice_index values) = subst (λ xs. slice_index c.in_ok-next.next.items ≡ round e (slice_index xs)) c.deref.ensures.value c.in_ok-next.ensures.round in
    let same : (p : ℕ) → round e (slice_index values) p ≡ slice_index values p = λ p. ap (λ (f : ℕ → ℕ). f p) (sym after ∙ ap {B = ℕ → ℕ} (λ (xs : List ℕ). slice_index xs) next) in
    let is : (p : ℕ) → after_rounds e c.loop-round._round p ≡ slice_index values p = λ p. ap (λ (f : ℕ → ℕ). f p) (sym c.loop-round.invariant.values) in
    let within : c.loop-round._round ≤ 64 * e.places + 1 = omega arith in
    let all = stays e (slice_index values) c.loop-round._round is same (64 * e.places + 1) within in
    sym (solution-rounds e ∙ (λ i p. all p i))
