use Rattle.std.proofs.Common.{ap, length, subst, arith}
use Rattle.std.proofs.lemmas.Result.{err_from_is_err_and}
use Rattle.fp_base.specs.Files.{texts}
use Rattle.fp_load.specs.Gathering.{HasRead}
use Rattle.fp_load.specs.Steps.{BlamesReading}
use Rattle.fp_load.proofs.ReadLemmas.{all_read, blamed_below}
use Rattle.fp_load.proofs.directory.gather_below.Goals as goal

pub returns-clause-gathered : goal.returns-clause-gathered
returns-clause-gathered g c =
    let (sum, has) = c.in_ok-gather.ensures.read in
    all_read (g.D.ClassDir.tells c.args.dir.now) (g.D.ClassDir.tells c.list_paths.new.dir) (g.D.ClassDir.files c.args.dir.now) (g.D.ClassDir.files c.list_paths.new.dir) c.args.path.now c.in_ok-paths.paths.items sum c.gather.new.gathered
    c.in_ok-paths.ensures.keeps.telling c.in_ok-paths.ensures.keeps.told c.in_ok-paths.ensures.few c.in_ok-paths.ensures.told c.in_ok-paths.ensures.told_few
    (subst (λ ps. HasRead (g.D.ClassDir.tells c.list_paths.new.dir) (g.D.ClassDir.files c.list_paths.new.dir) (texts ps) sum c.gather.new.gathered) c.as_slice.ensures.value has)

pub returns-in_err-gather-clause-blames : goal.returns-in_err-gather-clause-blames
returns-in_err-gather-clause-blames g c =
    let p = err_from_is_err_and c.from_residual-in_err-gather.result c.from_residual-in_err-gather.ensures.1 in
    rw (p.1, p.2)
    (blamed_below c.args.path.now (g.D.ClassDir.listed c.list_paths.new.dir) (g.D.ClassDir.listed c.gather.new.dir) (texts c.in_ok-paths.paths.items) (g.D.ClassDir.failed c.args.dir.now) (g.D.ClassDir.failed c.list_paths.new.dir) (g.D.ClassDir.failed c.gather.new.dir) c.in_err-gather.field-0.0
    c.in_err-gather.ensures.listed c.in_ok-paths.ensures.listed c.in_ok-paths.ensures.below c.in_ok-paths.ensures.keeps.grows
    (subst (λ ps. BlamesReading (texts ps) (g.D.ClassDir.failed c.list_paths.new.dir) (g.D.ClassDir.failed c.gather.new.dir) c.in_err-gather.field-0.0) c.as_slice.ensures.value c.in_err-gather.ensures.blames))

pub returns-in_err-gather-clause-unread : goal.returns-in_err-gather-clause-unread
returns-in_err-gather-clause-unread g c = λ many. absurd (omega (arith, many, ap length c.in_err-gather.ensures.listed, c.in_ok-paths.ensures.listed_few))

pub returns-clause-unread : goal.returns-clause-unread
returns-clause-unread g c = λ many. absurd (omega (arith, many, ap length c.in_ok-gather.ensures.listed, c.in_ok-paths.ensures.listed_few))
