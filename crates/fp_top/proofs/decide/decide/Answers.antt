use Rattle.std.proofs.lemmas.Result.{err_from_is_err_and}
use Rattle.fp_base.specs.Files.{texts}
use Rattle.fp_load.specs.Load.{loaded_of}
use Rattle.fp_words.specs.Asked.{run_of_job}
use Rattle.fp_top.proofs.DecideLemmas.{blames_of_words, says_of_words, worded_of_words}
use Rattle.fp_top.proofs.decide.decide.Goals as goal

pub returns-in_err-loaded-clause-refusal : goal.returns-in_err-loaded-clause-refusal
returns-in_err-loaded-clause-refusal g c =
    let p = err_from_is_err_and c.from_residual-in_err-loaded.result c.from_residual-in_err-loaded.ensures.1 in
    let asked = run_of_job c.in_ok-job.job in
    let files = g.D.ClassDir.files c.args.dir.now in
    rw p.1
    (λ tells. says_of_words (texts c.args.words.now) files asked p.0 c.in_ok-job.ensures.job (p.2.says asked (loaded_of files asked.dir) (c.in_err-loaded.ensures.fault tells)))

pub returns-in_err-loaded-clause-worded : goal.returns-in_err-loaded-clause-worded
returns-in_err-loaded-clause-worded g c =
    let p = err_from_is_err_and c.from_residual-in_err-loaded.result c.from_residual-in_err-loaded.ensures.1 in
    rw p.1 (worded_of_words (texts c.args.words.now) (run_of_job c.in_ok-job.job) p.0 c.in_ok-job.ensures.job p.2.worded)

pub returns-in_err-loaded-clause-blames : goal.returns-in_err-loaded-clause-blames
returns-in_err-loaded-clause-blames g c =
    let p = err_from_is_err_and c.from_residual-in_err-loaded.result c.from_residual-in_err-loaded.ensures.1 in
    let asked = run_of_job c.in_ok-job.job in
    rw p.1
    (blames_of_words (texts c.args.words.now) asked (g.D.ClassDir.listed c.load.new.dir) (g.D.ClassDir.failed c.args.dir.now) (g.D.ClassDir.failed c.load.new.dir) p.0 c.in_ok-job.ensures.job
    (p.2.blames asked.dir (g.D.ClassDir.listed c.load.new.dir) (g.D.ClassDir.failed c.args.dir.now) (g.D.ClassDir.failed c.load.new.dir) c.in_err-loaded.ensures.blames))
