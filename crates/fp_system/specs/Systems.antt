-- What the system of a run means, and why it is monotone.
use Rattle.std.specs.Prelude.{◌≡◌, ℕ, ◌<◌, ◌≤◌, Bool, List, [], ◌∷◌, IsTrue, length, slice_index, refl}
use Rattle.std.proofs.Common.{arith, subst, zero, suc}
use Rattle.fp_cells.specs.Cells.{Cell}
use Rattle.fp_eqs.specs.Equations.{AllLawful, Equations, IsMonotone}
use Rattle.fp_eqs.specs.Solved.{flag_at}
use Rattle.fp_system.specs.declared.system.JavaSystem.{JavaSystem}
use Rattle.fp_system.specs.ClassEquations.{declared_tasks}
use Rattle.fp_system.specs.Java.{equations_of}
use Rattle.fp_system.specs.Rows.{rows_lawful}

abbrev pub system_cells : JavaSystem → List Cell
system_cells s = s.cells

-- the first places of the shown cells
abbrev pub system_shown_cells : JavaSystem → List ℕ
system_shown_cells s = s.shown_cells

abbrev pub system_equations : JavaSystem → Equations
system_equations s = equations_of s.declared.rows s.fixed s.shown

past-word : (xs : List ℕ) (p : ℕ) → length xs ≤ p → slice_index xs p ≡ 0
past-word [] p h = refl
past-word (x ∷ xs) zero h = absurd (omega arith)
past-word (x ∷ xs) (suc p) h = past-word xs p (omega arith)

flag-within : (flags : List Bool) (p : ℕ) → IsTrue (flag_at flags p) → p < length flags
flag-within [] p h = cc
flag-within (f ∷ flags) zero h = omega arith
flag-within (f ∷ flags) (suc p) h = omega (arith, flag-within flags p h)

pub system_monotone : (s : JavaSystem) → IsMonotone (system_equations s)
system_monotone s = record {
  lawful = subst (λ n. AllLawful n (declared_tasks s.declared.rows)) s.same_places (rows_lawful s.declared.places s.declared.rows s.declared.over);
  fixed_fits = s.words;
  fixed_places = past-word s.fixed;
  shown_places = λ p h. omega (arith, flag-within s.shown p h, s.long);
}
