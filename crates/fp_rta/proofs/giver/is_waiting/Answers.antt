use Rattle.std.proofs.Common.{◌≡◌, ◌==◌, ℕ, Some, ap, sym, ◌∙◌}
use Rattle.fp_rta.specs.Tasks.{is_waiting}
use Rattle.fp_rta.proofs.giver.is_waiting.Goals as goal

pub returns-in-Some-clause-waiting : goal.returns-in-Some-clause-waiting
returns-in-Some-clause-waiting g c a h =
    let q = c.in-Some.trigger in
    let same : is_waiting (Some q) a ≡ is_waiting c.args.trigger a = ap (λ o. is_waiting o a) (sym c.in-Some.is) in
    ap (λ (v : ℕ). v == 0) (sym (h q c.read.result c.read.ensures.answer)) ∙ same
