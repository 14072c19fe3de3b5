use Rattle.std.proofs.Common.{refl, sym, ◌∙◌}
use Rattle.std.specs.List.{range_with_len}
use Rattle.fp_hier.proofs.ReachLemmas.{none-stands}
use Rattle.fp_hier.proofs.targets.Targets.none.Goals as goal

pub returns-clause-told : goal.returns-clause-told
returns-clause-told c methods = record { methods_told = c.new.ensures ∙ sym (none-stands (range_with_len 0 methods)); outside_told = refl }
