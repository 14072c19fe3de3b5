use Rattle.std.proofs.Common.{◌≡◌, drop}
use Rattle.fp_base.specs.Files.{texts}
use Rattle.fp_system.specs.Faults.{is_known}
use Rattle.fp_system.specs.Java.{first_failing}
use Rattle.fp_system.proofs.words.check.check_sort.Given as goal

abbrev pub invariant-loop-word : goal.invariant-loop-word
invariant-loop-word l = first_failing (is_known l.sort l.found) (texts l.words) ≡ first_failing (is_known l.sort l.found) (texts (drop l.word-index l.words))
