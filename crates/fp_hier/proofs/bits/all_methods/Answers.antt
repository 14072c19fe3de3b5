use Rattle.std.proofs.Common.{ℕ, arith}
use Rattle.std.proofs.lemmas.Grind.{common_steps}
use Rattle.std.proofs.lemmas.List.Folds.{flat_map-map}
use Rattle.fp_facts.specs.Selection.{Reached}
use Rattle.fp_hier.specs.Bits.{as_reached}
use Rattle.fp_hier.specs.declared.targets.Targets.{Targets}
use Rattle.fp_hier.proofs.bits.all_methods.Goals as goal

pub returns : goal.returns
returns c =
    let e = flat_map-map (λ (r : ℕ × Reached). r.1.methods) (λ (t : ℕ × Targets). (t.0, as_reached t.1)) c.args.by_class.now in
    grind (arith, common_steps)
