-- The copies so far are those of the paths so far.
use Rattle.std.proofs.Common.{◌≡◌, take}
use Rattle.fp_base.specs.Files.{texts}
use Rattle.fp_base.proofs.host.host_dir.copies.Given as goal

abbrev pub invariant-loop-path : goal.invariant-loop-path
invariant-loop-path l = texts l.copies.items ≡ texts (take l.path-index l.paths)
