-- The dataflow problem of words that are moved is lawful.
use Rattle.std.proofs.Common.{◌≡◌, ◌<◌, ◌≤◌, ◌+◌, ◌==◌, ℕ, true, IsTrue, List, length, All, refl, arith}
use Rattle.std.specs.List.{list_all}
use Rattle.std.proofs.lemmas.Bool.{cond_both, cond-false, ne_eqb}
use Rattle.fp_model.specs.declared.class.Code.{Code}
use Rattle.fp_model.specs.declared.class.instr.Instr.{Instr}
use Rattle.fp_facts.specs.declared.label.Label.TheVariants.{Unreached}
use Rattle.fp_facts.specs.Dataflow.{Edge, IsLawful}
use Rattle.fp_facts.specs.Frames.{fits_label}
use Rattle.fp_facts.specs.Lattices.{Lattice, IsLattice}
use Rattle.fp_facts.specs.Moves.{entry_words, first_words, moves_problem}
use Rattle.fp_facts.proofs.FittingMoves.{entry-fits, moved_along-fits}
use Rattle.fp_facts.proofs.JoinedFrames.{frames-lattice}
use Rattle.fp_facts.proofs.RisingMoves.{moved_along-rises}

module _ {W : Type 0} (w : Lattice W) (laws : IsLattice w) (none caught : W) (code : Code) (made : ℕ × Instr → List W) (arguments : List W) (edges : List Edge) where
  first-fits : IsTrue (w.fits none) → list_all w.fits arguments ≡ true → length arguments ≤ code.max_locals → (p : ℕ) →
      IsTrue (fits_label w code.max_locals (code.max_stack + 1) (first_words none code arguments p))
  first-fits none_fits fit room p =
      cond_both (p == 0) (entry_words none code arguments) Unreached (λ v. IsTrue (fits_label w code.max_locals (code.max_stack + 1) v))
      (λ _. entry-fits w code none none_fits arguments fit room) (λ _. refl)

  first-within : 0 < length code.instrs → (p : ℕ) → length code.instrs ≤ p → first_words none code arguments p ≡ Unreached
  first-within some p past = cond-false (p == 0) (entry_words none code arguments) Unreached (ne_eqb p 0 (λ is. omega arith))

  pub moves-lawful : 0 < length code.instrs → length arguments ≤ code.max_locals → All (λ e. (e.0 < length code.instrs) × (e.1 < length code.instrs)) edges →
      IsTrue (w.fits none) → IsTrue (w.fits caught) → IsTrue (list_all w.fits arguments) → ((i : ℕ × Instr) → IsTrue (list_all w.fits (made i))) →
      IsLawful (moves_problem w none caught code made arguments edges)
  moves-lawful some room within none_fits caught_fits arguments_fit made_fit = record {
    lattice = frames-lattice w laws code.max_locals (code.max_stack + 1);
    fits = moved_along-fits w code none caught none_fits caught_fits made made_fit;
    monotone = moved_along-rises w laws none caught code made;
    edges_within = within;
    first_fits = first-fits none_fits arguments_fit room;
    first_within = first-within some;
  }
