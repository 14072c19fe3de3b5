-- When each word of a method's frames has a kind (JVMS SE 21 section 4.10).
use Rattle.std.specs.Prelude.{◌≡◌, ℕ, ◌+◌, ◌*◌, ◌<◌, true, false, length, IfSome}
use Rattle.fp_model.specs.declared.class.Code.{Code}
use Rattle.fp_model.specs.declared.class.Method.{Method}
use Rattle.fp_facts.specs.Transfer.{fails}

-- the words of all frames of a code
abbrev pub frame_words : Code → ℕ
frame_words code = length code.instrs * (code.max_stack + code.max_locals)

-- no instruction fails
abbrev pub IsKindedCode : Method → Code → Type 0
IsKindedCode m code = (number : ℕ) → number < length code.instrs → fails m code number ≡ false

-- the instruction of a number fails, and none before it
pub record IsFirstFailing (m : Method) (code : Code) (number : ℕ) : Type 0 where
  pub known : number < length code.instrs
  pub fails_there : fails m code number ≡ true
  pub earlier : (other : ℕ) → other < number → fails m code other ≡ false

-- the code of a method, where it has one, is kinded
abbrev pub IsKindedMethod : Method → Type 0
IsKindedMethod m = IfSome m.code (IsKindedCode m)
