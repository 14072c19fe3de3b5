use Rattle.std.proofs.Common.{◌≡◌, drop}
use Rattle.fp_class.specs.Methods.{code_of}
use Rattle.fp_class.proofs.methods.find_code.Given as goal

-- the code is that of what is left
abbrev pub invariant-loop-attribute : goal.invariant-loop-attribute
invariant-loop-attribute l = code_of (drop l.attribute-index l.attributes) ≡ code_of l.attributes
