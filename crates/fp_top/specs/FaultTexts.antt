-- The text of why a file is refused, its numbers in decimal.
use Rattle.std.specs.Prelude.{ℕ, List, ◌++◌, codes}
use Rattle.std.specs.Fmt.{decimal}
use Rattle.fp_model.specs.declared.fault.FileFault.{FileFault}
use Rattle.fp_model.specs.declared.fault.FileFault.TheVariants as fault
use Rattle.fp_load.specs.declared.fault.FileRefusal.{FileRefusal}
use Rattle.fp_load.specs.declared.fault.FileRefusal.TheVariants as refusal

-- want of memory is no fault of a file, and this text of it is told nowhere
abbrev pub fault_text : FileFault → List ℕ
fault_text (fault.Truncated at) = codes "truncated at " ++ decimal at
fault_text fault.Magic = codes "magic"
fault_text (fault.Version major minor) = codes "version " ++ (decimal major ++ (codes "." ++ decimal minor))
fault_text (fault.Tag at tag) = codes "tag " ++ (decimal tag ++ (codes " at " ++ decimal at))
fault_text (fault.Index at index) = codes "index " ++ (decimal index ++ (codes " at " ++ decimal at))
fault_text (fault.Descriptor at) = codes "descriptor at " ++ decimal at
fault_text (fault.Opcode at byte) = codes "opcode " ++ (decimal byte ++ (codes " at " ++ decimal at))
fault_text (fault.Subroutine at) = codes "subroutine at " ++ decimal at
fault_text (fault.Bounds at) = codes "bounds at " ++ decimal at
fault_text (fault.CodeCount method) = codes "code count method " ++ decimal method
fault_text (fault.Repeat at) = codes "repeat at " ++ decimal at
fault_text (fault.Trailing at) = codes "trailing at " ++ decimal at
fault_text fault.Memory = codes "memory"

-- a file that is no class file, or one with a method whose words have no kinds
abbrev pub file_refusal_text : FileRefusal → List ℕ
file_refusal_text (refusal.File why) = fault_text why
file_refusal_text (refusal.Kinds method pc) = codes "kinds method " ++ (decimal method ++ (codes " pc " ++ decimal pc))
