-- What the rising task does.
use Rattle.std.proofs.Common.{◌≡◌, ◌==◌, ℕ, List, [], ◌∷◌, ◌++◌, Contains, cond, refl, sym, ap, subst, ◌∙◌, arith}
use Rattle.fp_eqs.specs.Answers.{asked}
use Rattle.fp_eqs.specs.Equations.{IsEvaluated}
use Rattle.fp_eqs.proofs.Told.{or-false, contains-here, one-given}
use Rattle.fp_tests.specs.Rising.{next_bits, rising_task}

pub rising-evaluated : (w : ℕ) (answers before after : List (ℕ × ℕ)) → answers ≡ (0, w) ∷ [] → after ≡ before ++ (0, next_bits w) ∷ [] → IsEvaluated rising_task answers before after
rising-evaluated w answers before after asks gives = record {
  asks = λ a h p. ap (λ es. asked es p) asks ∙ or-false (0 == p);
  gives = λ a h. one-given before after 0 (next_bits w) 1 (λ p. 0 == p) (λ p. cond (0 == p) (next_bits (a 0)) 0) (omega arith) gives refl
      (λ p. ap (λ v. cond (0 == p) (next_bits v) 0) (sym (h 0 w (subst (λ es. Contains es (0, w)) (sym asks) (contains-here (0, w) [])))));
}
