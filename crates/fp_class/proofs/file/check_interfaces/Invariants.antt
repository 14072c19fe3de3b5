use Rattle.std.proofs.Common.{◌≡◌, ◌+◌, drop, length}
use Rattle.std.specs.List.{flat_map}
use Rattle.fp_model.specs.References.{each_checked}
use Rattle.fp_model.specs.Spelling.{u2}
use Rattle.fp_class.specs.ClassFile.{interface_checked}
use Rattle.fp_class.proofs.file.check_interfaces.Given as goal

-- what is left to check leads where the whole does, and ends where it does
abbrev pub invariant-loop-index : goal.invariant-loop-index
invariant-loop-index l = record {
  rest : each_checked u2 (interface_checked l.entries) l.next (drop l.index-index l.interfaces) ≡ each_checked u2 (interface_checked l.entries) l.at l.interfaces;
  at : l.next + length (flat_map u2 (drop l.index-index l.interfaces)) ≡ l.at + length (flat_map u2 l.interfaces);
}
