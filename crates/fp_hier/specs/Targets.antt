-- The targets of selection and of calls, as they are told.
use Rattle.std.specs.Prelude.{◌≡◌, ℕ, List, [], ◌∷◌, ⊤}
use Rattle.fp_facts.specs.Selection.{Candidates, Reached, always_bits, ascending_among, target_list, watched_bits}
use Rattle.fp_facts.specs.declared.call_targets.CallTargets.{CallTargets}
use Rattle.fp_hier.specs.declared.targets.Targets.{Targets}

-- what is reached, among so many methods
pub record AreTargets (methods : ℕ) (reached : Reached) (t : Targets) : Type 0 where
  pub methods_told : t.methods ≡ ascending_among methods reached.methods
  pub outside_told : t.outside ≡ reached.outside

-- what is reached by the objects of each class
abbrev pub AreTargetsByClass : (methods : ℕ) → List (ℕ × Reached) → List (ℕ × Targets) → Type 0
AreTargetsByClass methods [] [] = ⊤
AreTargetsByClass methods [] (t ∷ told) = ⊥
AreTargetsByClass methods (c ∷ by_class) [] = ⊥
AreTargetsByClass methods (c ∷ by_class) (t ∷ told) = (t.0 ≡ c.0) × (AreTargets methods c.1 t.1 × AreTargetsByClass methods by_class told)

-- what a call can reach, among so many methods
pub record AreCallTargets (methods : ℕ) (c : Candidates) (t : CallTargets) : Type 0 where
  pub targets_told : t.targets ≡ target_list methods c
  pub always_told : t.always ≡ always_bits (target_list methods c) c
  pub watch_told : t.watch ≡ watched_bits (target_list methods c) c
