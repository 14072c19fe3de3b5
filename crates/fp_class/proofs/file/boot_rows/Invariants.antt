use Rattle.std.proofs.Common.{◌≡◌, drop}
use Rattle.fp_class.specs.ClassFile.{boots_of}
use Rattle.fp_class.proofs.file.boot_rows.Given as goal

-- the bootstrap methods are those of what is left
abbrev pub invariant-loop-attribute : goal.invariant-loop-attribute
invariant-loop-attribute l = boots_of (drop l.attribute-index l.attributes) ≡ boots_of l.attributes
