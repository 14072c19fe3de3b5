use Rattle.std.proofs.Common.{◌≡◌, ◌<◌, ◌++◌, ℕ, [], drop, map, slice_index_or}
use Rattle.std.specs.Prelude.{All, zip}
use Rattle.fp_base.specs.Files.{texts}
use Rattle.fp_model.specs.declared.class.Class.{Class}
use Rattle.fp_facts.specs.Kinded.{IsKindedMethod}
use Rattle.fp_load.specs.Faults.{refusal_told}
use Rattle.fp_load.specs.Kinds as defined
use Rattle.fp_load.proofs.judging.refusals.Given as goal

abbrev pub invariant-loop-at : goal.invariant-loop-at
invariant-loop-at l = record {
  refused : defined.refusals_of (zip (texts l.paths) l.classes) ≡ map refusal_told l.refused ++ defined.refusals_of (zip (texts (drop l.at l.paths)) (drop l.at l.classes));
  kinded : l.refused ≡ [] → (k : ℕ) (d : Class) → k < l.at → All IsKindedMethod (slice_index_or l.classes k d).methods;
}
