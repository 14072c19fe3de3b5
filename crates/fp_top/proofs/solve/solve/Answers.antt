use Rattle.std.proofs.lemmas.Result.{err_from_is_err_and}
use Rattle.fp_base.specs.Files.{texts}
use Rattle.fp_words.specs.Asked.{run_of_job}
use Rattle.fp_system.specs.Java.{system_refusal}
use Rattle.fp_system.specs.Systems.{system_cells, system_equations, system_shown_cells}
use Rattle.fp_top.proofs.SystemLemmas.{reportable}
use Rattle.fp_top.proofs.solve.solve.Goals as goal

pub returns-in_err-system-clause-refusal : goal.returns-in_err-system-clause-refusal
returns-in_err-system-clause-refusal c =
    let p = err_from_is_err_and c.from_residual.result c.from_residual.ensures.1 in
    rw p.1
    (p.2.says c.args.loaded.set (run_of_job c.args.job) (system_refusal c.args.loaded.set (texts c.args.job.analyses) (texts c.args.job.roots) (texts c.args.job.show)) c.in_err-system.ensures.refused)

pub returns-in_err-system-clause-own : goal.returns-in_err-system-clause-own
returns-in_err-system-clause-own c =
    let p = err_from_is_err_and c.from_residual.result c.from_residual.ensures.1 in
    rw p.1 p.2.own

pub returns-clause-ready : goal.returns-clause-ready
returns-clause-ready c = record {
  reportable = reportable c.args.loaded.set (run_of_job c.args.job) (system_cells c.in_ok-system.system) (system_equations c.in_ok-system.system) (system_shown_cells c.in_ok-system.system) c.in_ok-solved.solved
      c.in_ok-system.ensures.accepted c.in_ok-system.ensures.cells c.in_ok-system.ensures.equations c.in_ok-system.ensures.shown c.in_ok-solved.ensures.solved;
  shown_alone = c.requires.0;
  no_cycles = c.requires.1;
}
