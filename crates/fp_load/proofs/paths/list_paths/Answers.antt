use Rattle.std.proofs.Common.{◌≡◌, true, ap, length, arith}
use Rattle.std.proofs.lemmas.List.{length-map}
use Rattle.std.specs.Prelude.{string_bytes}
use Rattle.std.proofs.lemmas.List.Sorted.{All-permutation, IsPermutation-map, IsPermutation-trans}
use Rattle.fp_base.specs.Files.{class_paths, is_class_file, texts}
use Rattle.fp_load.proofs.PathLemmas.{as_many, in_order, listed_told, still_listed, too_many}
use Rattle.fp_load.proofs.paths.list_paths.Goals as goal

pub returns-then-len-gt-MOST_FILES-clause-fault : goal.returns-then-len-gt-MOST_FILES-clause-fault
returns-then-len-gt-MOST_FILES-clause-fault g c = λ tells.
    too_many (g.D.ClassDir.files c.args.dir.now) c.args.path.now
    (omega (arith, as_many string_bytes (class_paths (g.D.ClassDir.files c.args.dir.now) c.args.path.now) c.in-Ok.paths.items (c.in-Ok.ensures.told tells)))

pub returns-clause-told : goal.returns-clause-told
returns-clause-told g c = λ tells.
    in_order string_bytes (class_paths (g.D.ClassDir.files c.args.dir.now) c.args.path.now) c.in-Ok.paths.items c.sort.new.self.items (c.in-Ok.ensures.told tells) c.in_ok-sort.ensures.permutation
    c.in_ok-sort.ensures.sorted

pub returns-clause-there : goal.returns-clause-there
returns-clause-there g c = λ tells.
    listed_told (g.D.ClassDir.files c.args.dir.now) c.args.path.now (texts c.sort.new.self.items)
    (IsPermutation-trans (class_paths (g.D.ClassDir.files c.args.dir.now) c.args.path.now) (texts c.in-Ok.paths.items) (texts c.sort.new.self.items) (c.in-Ok.ensures.told tells) (IsPermutation-map string_bytes c.in-Ok.paths.items c.sort.new.self.items c.in_ok-sort.ensures.permutation))

pub returns-clause-listed : goal.returns-clause-listed
returns-clause-listed g c =
    still_listed string_bytes (g.D.ClassDir.listed c.list.new.self) c.in-Ok.paths.items c.sort.new.self.items c.in-Ok.ensures.listed c.in_ok-sort.ensures.permutation

pub returns-clause-below : goal.returns-clause-below
returns-clause-below g c =
    All-permutation (λ p. is_class_file c.args.path.now p ≡ true) (texts c.in-Ok.paths.items) (texts c.sort.new.self.items)
    (IsPermutation-map string_bytes c.in-Ok.paths.items c.sort.new.self.items c.in_ok-sort.ensures.permutation) c.in-Ok.ensures.below

pub returns-clause-told_few : goal.returns-clause-told_few
returns-clause-told_few g c = λ tells.
    omega (arith, as_many string_bytes (class_paths (g.D.ClassDir.files c.args.dir.now) c.args.path.now) c.in-Ok.paths.items (c.in-Ok.ensures.told tells))

pub returns-clause-listed_few : goal.returns-clause-listed_few
returns-clause-listed_few g c = omega (arith, ap length c.in-Ok.ensures.listed, length-map c.in-Ok.paths.items string_bytes)
