-- Clauses on a result that say nothing of its value.
use Rattle.std.proofs.Common.{false, Result, Ok, Err, IsTrue, IfOk, OnOk}
use Rattle.std.proofs.lemmas.Bool.{false≢true}

-- what holds, holds where there is a value
pub OnOk-always : {T E : Type 0} {P : Type 0} (result : Result T E) → P → OnOk result P
OnOk-always (Ok value) holds = holds
OnOk-always (Err fault) holds = tt

-- what is said under a false premise holds of any value
pub IfOk-never : {T E : Type 0} (result : Result T E) (P : T → Type 0) → IfOk result (λ value. IsTrue false → P value)
IfOk-never (Ok value) P = λ never. absurd (false≢true never)
IfOk-never (Err fault) P = tt
