use Rattle.std.proofs.Common.{◌≡◌}
use Rattle.std.specs.Map.{lookup}
use Rattle.fp_facts.specs.Resolution.{declared_method}
use Rattle.fp_hier.specs.Members.{is_key}
use Rattle.fp_hier.specs.declared.declared.Member.{Member}
use Rattle.fp_hier.proofs.FirstMembers.{below}
use Rattle.fp_hier.proofs.declared.all_methods.Given as goal

abbrev pub invariant-loop-class : goal.invariant-loop-class
invariant-loop-class l =
    (k : Member) → lookup (is_key k) l.table.entries ≡ below (declared_method l.set.classes k.name k.descr) l.class k.class
