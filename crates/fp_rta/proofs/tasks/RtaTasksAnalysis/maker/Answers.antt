use Rattle.std.proofs.Common.{arith}
use Rattle.fp_rta.specs.Meaning.{row_tasks}
use Rattle.fp_rta.proofs.RowTasks.{no-maker}
use Rattle.fp_rta.proofs.tasks.RtaTasksAnalysis.maker.Goals as goal

pub returns : goal.returns
returns c =
    let r = c.args.self.now in
    omega (arith, no-maker r.givers r.shapes r.sites c.args._place (row_tasks r.givers r.shapes r.sites).count)
