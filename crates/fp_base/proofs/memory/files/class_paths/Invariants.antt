-- The paths so far are those of the files so far.
use Rattle.std.proofs.Common.{◌≡◌, map}
use Rattle.std.specs.Map.Iter.{deref_pair}
use Rattle.fp_base.specs.Files.{texts, class_paths, files_of}
use Rattle.fp_base.proofs.memory.files.class_paths.Given as goal

abbrev pub invariant-loop-path : goal.invariant-loop-path
invariant-loop-path l = texts l.paths.items ≡ class_paths (files_of (map deref_pair l.yielded)) l.dir
