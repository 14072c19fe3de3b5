use Rattle.std.proofs.Common.{◌≡◌, ◌∙◌, Some, Result, Ok, Err, refl, ap}
use Rattle.fp_base.specs.Files.{texts}
use Rattle.fp_words.specs.declared.fault.WordsFault.{WordsFault}
use Rattle.fp_words.specs.declared.fault.WordsFault.TheVariants as fault
use Rattle.fp_words.specs.declared.job.Order.{Order}
use Rattle.fp_words.specs.Asked.{asked_of, run_of_job}
use Rattle.fp_top.proofs.WordLemmas.{asked-none, asked-run, never, order-of-none, short-run}
use Rattle.fp_top.proofs.words.job_of.Goals as goal

no-usage : (f : WordsFault) (read : Result Order WordsFault) → f ≡ fault.Memory → read ≡ Err f → read ≡ Err fault.Usage → ⊥
no-usage f (Ok order) memory is usage = absurd cc
no-usage f (Err e) memory is usage = absurd cc

pub unreachable-requires : goal.unreachable-requires
unreachable-requires c =
    never (texts c.args.words.now) c.in-Ok-Generate.field-0-0 c.in-Ok-Generate.field-0-1 c.in-Ok-Generate.field-0-2 (c.in-Ok-Generate.ensures.order ∙ ap (λ (o : Order). Some (asked_of o)) c.in-Ok-Generate.field-0-is)

pub returns-in-Ok-Run-clause-job : goal.returns-in-Ok-Run-clause-job
returns-in-Ok-Run-clause-job c =
    asked-run (texts c.args.words.now) (run_of_job c.in-Ok-Run.job)
    (c.in-Ok-Run.ensures.order ∙ ap (λ (o : Order). Some (asked_of o)) c.in-Ok-Run.field-0-is)

pub returns-in-Ok-Run-clause-plain : goal.returns-in-Ok-Run-clause-plain
returns-in-Ok-Run-clause-plain c =
    short-run (texts c.args.words.now) (run_of_job c.in-Ok-Run.job) (c.in-Ok-Run.ensures.order ∙ ap (λ (o : Order). Some (asked_of o)) c.in-Ok-Run.field-0-is)

pub returns-in-Err-Usage-clause-refusal : goal.returns-in-Err-Usage-clause-refusal
returns-in-Err-Usage-clause-refusal c =
    asked-none (texts c.args.words.now) (c.in-Err-Usage.ensures.usage (ap (λ (f : WordsFault). Err f) c.in-Err-Usage.field-0-is))

pub returns-in-Err-Memory-clause-usage : goal.returns-in-Err-Memory-clause-usage
returns-in-Err-Memory-clause-usage c = λ none.
    absurd (no-usage c.in-Err-Memory.field-0 (Err c.in-Err-Memory.field-0) c.in-Err-Memory.field-0-is refl (c.in-Err-Memory.ensures.usage_exactly (order-of-none (texts c.args.words.now) none)))
