-- Causes of the answers of a directory, from what its calls left of the failed calls.
use Rattle.std.proofs.Common.{◌≡◌, List, [], ◌∷◌, ◌++◌, Result, Err, IsErrOf, refl, lit<, arith}
use Rattle.std.proofs.lemmas.Grind.{common_steps}
use Rattle.fp_base.specs.Calls.{Call, HasDirCause}
use Rattle.fp_base.specs.declared.outside.dir.DirFault.{DirFault}
use Rattle.fp_base.specs.declared.outside.dir.DirFault.TheVariants.{Absent, Failed, Memory}

-- no call was added, and the answer is not Failed
pub cause-same : {T : Type 0} (before now : List Call) (call : Call) (result : Result T DirFault) → now ≡ before → (IsErrOf result Failed → ⊥) → HasDirCause before now call result
cause-same before now call result same sound =
    record { grows = ([], grind (arith, common_steps)); failed = λ is. absurd (sound is) }

-- this call was added, whatever the answer
pub cause-push : {T : Type 0} (before now : List Call) (call : Call) (result : Result T DirFault) → now ≡ before ++ call ∷ [] → HasDirCause before now call result
cause-push before now call result pushed =
    record { grows = (call ∷ [], pushed); failed = λ _. (call ∷ [], pushed, (0, lit< tt, refl)) }

-- this call was added at Failed, and no call at Memory
pub cause-noted : {T : Type 0} (before now : List Call) (call : Call) (fault : DirFault) → (fault ≡ Failed → now ≡ before ++ call ∷ []) → (fault ≡ Memory → now ≡ before) → (fault ≡ Absent → ⊥) → HasDirCause {T = T} before now call (Err fault)
cause-noted before now call Absent noted memory present = absurd (present refl)
cause-noted before now call Failed noted memory present = cause-push before now call (Err Failed) (noted refl)
cause-noted before now call Memory noted memory present = cause-same before now call (Err Memory) (memory refl) (λ is. cc)
