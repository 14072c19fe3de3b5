use Rattle.std.proofs.Common.{◌≡◌, ◌+◌, take}
use Rattle.std.specs.Option.{option_or}
use Rattle.std.specs.Map.{lookup}
use Rattle.fp_model.specs.ClassSet.{first_field_of}
use Rattle.fp_hier.specs.Members.{is_key}
use Rattle.fp_hier.specs.declared.declared.Member.{Member}
use Rattle.fp_hier.proofs.FirstMembers.{first_of_fields}
use Rattle.fp_hier.proofs.declared.add_fields.Given as goal

abbrev pub invariant-loop-field : goal.invariant-loop-field
invariant-loop-field l =
    (l.id ≡ first_field_of l.set.classes l.class + l.field-index)
    × ((k : Member) → lookup (is_key k) l.table.entries
    ≡ option_or (lookup (is_key k) l.fn.table.entries) (first_of_fields l.class (first_field_of l.set.classes l.class) (take l.field-index l.field-items) k))
