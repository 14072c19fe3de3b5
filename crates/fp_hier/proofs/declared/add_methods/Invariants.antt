use Rattle.std.proofs.Common.{◌≡◌, ◌+◌, take}
use Rattle.std.specs.Option.{option_or}
use Rattle.std.specs.Map.{lookup}
use Rattle.fp_model.specs.ClassSet.{first_method_of}
use Rattle.fp_hier.specs.Members.{is_key}
use Rattle.fp_hier.specs.declared.declared.Member.{Member}
use Rattle.fp_hier.proofs.FirstMembers.{first_of_methods}
use Rattle.fp_hier.proofs.declared.add_methods.Given as goal

abbrev pub invariant-loop-method : goal.invariant-loop-method
invariant-loop-method l =
    (l.id ≡ first_method_of l.set.classes l.class + l.method-index)
    × ((k : Member) → lookup (is_key k) l.table.entries
    ≡ option_or (lookup (is_key k) l.fn.table.entries) (first_of_methods l.class (first_method_of l.set.classes l.class) (take l.method-index l.method-items) k))
