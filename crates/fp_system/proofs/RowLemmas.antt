-- What the equations of classes do.
use Rattle.std.proofs.Common.{◌≡◌, ◌==◌, ◌<◌, ◌≤◌, ℕ, false, IsTrue, List, [], ◌∷◌, ◌++◌, Contains, Option, Some, None, cond, length, slice_get, bit_and, refl, sym, ap, subst, ◌∙◌, arith}
use Rattle.std.specs.Option.{option_map_or}
use Rattle.fp_model.specs.ClassSet.{is_number}
use Rattle.fp_eqs.specs.Answers.{asked}
use Rattle.fp_eqs.specs.Equations.{IsEvaluated, Task}
use Rattle.fp_eqs.specs.Makers.{is_maker, rank, IsMakerAt}
use Rattle.fp_eqs.specs.Tests.{same-place, place-here, false-if_not, left}
use Rattle.fp_eqs.specs.Counts.{count_below-none, count-listed}
use Rattle.fp_eqs.proofs.Told.{or-false, contains-here, one-given}
use Rattle.fp_system.specs.declared.declared.ClassTask.{ClassTask}
use Rattle.fp_system.specs.ClassEquations.{declared_task, declared_tasks, no_task, parent_bit}
use Rattle.fp_system.specs.Rows.{AreRowsOver, has_row, row_word}

-- a row that asks its superclass's place
pub row_evaluated : (k : ClassTask) (q w : ℕ) (answers before after : List (ℕ × ℕ)) → Some q ≡ k.parent → answers ≡ (q, w) ∷ [] → after ≡ before ++ (k.place, cond k.is_open 1 (bit_and w 1)) ∷ [] →
    IsEvaluated (declared_task k) answers before after
row_evaluated k q w answers before after parent asks gives = record {
  asks = λ a h p. ap (λ es. asked es p) asks ∙ or-false (q == p) ∙ ap (is_number p) parent;
  gives = λ a h.
      let value : a q ≡ w = h q w (subst (λ es. Contains es (q, w)) (sym asks) (contains-here (q, w) [])) in
      let word : cond k.is_open 1 (bit_and w 1) ≡ row_word k.parent k.is_open a = ap (λ v. cond k.is_open 1 (bit_and v 1)) (sym value) ∙ ap (λ o. cond k.is_open 1 (parent_bit o a)) parent in
      one-given before after k.place (cond k.is_open 1 (bit_and w 1)) 1 (λ p. k.place == p) (λ p. cond (k.place == p) (row_word k.parent k.is_open a) 0) (omega arith) gives (place-here k.place)
      (λ p. ap (λ v. cond (k.place == p) v 0) word);
}

-- the task of a row
pub task_at : (rows : List ClassTask) (t : ℕ) (k : ClassTask) → slice_get rows t ≡ Some k → (declared_tasks rows).task t ≡ declared_task k
task_at rows t k at = ap (λ o. option_map_or declared_task o no_task) at

-- ---- the maker of a place

makes_own : (o : Option ClassTask) (p u : ℕ) → ((k : ClassTask) → o ≡ Some k → k.place ≡ u) → IsTrue (is_maker p (option_map_or declared_task o no_task)) → u ≡ p
makes_own None p u h made = cc
makes_own (Some k) p u h made = sym (h k refl) ∙ same-place k.place p made

maker_is : (places : ℕ) (rows : List ClassTask) (p u : ℕ) → AreRowsOver places rows → IsTrue (is_maker p ((declared_tasks rows).task u)) → u ≡ p
maker_is places rows p u over made = makes_own (slice_get rows u) p u (λ k at. (over.each u k at).place) made

pub maker_here : (places : ℕ) (rows : List ClassTask) (p k : ℕ) → AreRowsOver places rows → p < length rows → k ≡ 0 → IsMakerAt (declared_tasks rows).task (length rows) p k p
maker_here places rows p k over lt zero_k =
    let r = has_row rows p lt in
    record {
      below = lt;
      maker = subst (λ (x : Task). IsTrue (is_maker p x)) (sym (task_at rows p r.row r.at)) (subst (λ q. IsTrue (q == p)) (sym (over.each p r.row r.at).place) (place-here p));
      ranked = count_below-none (λ u. is_maker p ((declared_tasks rows).task u)) p (λ u below. false-if_not (is_maker p ((declared_tasks rows).task u)) (λ h. absurd (omega (arith, maker_is places rows p u over h)))) ∙ sym zero_k;
    }

pub maker_once : (places : ℕ) (rows : List ClassTask) (p n : ℕ) → AreRowsOver places rows → rank (declared_tasks rows).task p n ≤ 1
maker_once places rows p n over = count-listed (λ u. is_maker p ((declared_tasks rows).task u)) (p ∷ []) n (λ u h. left (p == u) false (subst (λ q. IsTrue (q == u)) (maker_is places rows p u over h) (place-here u)))

pub maker_none : (places : ℕ) (rows : List ClassTask) (p n : ℕ) → AreRowsOver places rows → n ≤ p → rank (declared_tasks rows).task p n ≡ 0
maker_none places rows p n over past = count_below-none (λ u. is_maker p ((declared_tasks rows).task u)) n (λ u lt. false-if_not (is_maker p ((declared_tasks rows).task u)) (λ h. absurd (omega (arith, maker_is places rows p u over h))))
