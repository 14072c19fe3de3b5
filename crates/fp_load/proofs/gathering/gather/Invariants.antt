use Rattle.std.proofs.Common.{◌≡◌, ◌≤◌, take}
use Rattle.fp_base.specs.Files.{texts}
use Rattle.fp_load.specs.Causes.{Keeps}
use Rattle.fp_load.specs.Gathering.{HasRead}
use Rattle.fp_load.proofs.gathering.gather.Given as goal

abbrev pub invariant-loop-path : goal.invariant-loop-path
invariant-loop-path g l = record {
  keeps : Keeps (g.D.ClassDir.tells l.fn.dir) (g.D.ClassDir.files l.fn.dir) (g.D.ClassDir.failed l.fn.dir) (g.D.ClassDir.tells l.dir) (g.D.ClassDir.files l.dir) (g.D.ClassDir.failed l.dir);
  listed : g.D.ClassDir.listed l.dir ≡ g.D.ClassDir.listed l.fn.dir;
  room : l.sum ≤ 268435456;
  read : HasRead (g.D.ClassDir.tells l.fn.dir) (g.D.ClassDir.files l.fn.dir) (texts (take l.path-index l.paths)) l.sum l.gathered;
}
