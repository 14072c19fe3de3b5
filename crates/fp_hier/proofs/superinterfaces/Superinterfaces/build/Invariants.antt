-- The lists so far are those of the classes so far.
use Rattle.std.proofs.Common.{◌≡◌, ◌≤◌, ℕ, length, map, slice_index}
use Rattle.std.specs.List.{range_with_len}
use Rattle.fp_facts.specs.Hierarchy.{superinterfaces_at}
use Rattle.fp_hier.specs.Parts.{AreParts}
use Rattle.fp_hier.proofs.superinterfaces.Superinterfaces.build.Given as goal

abbrev pub invariant-loop-id : goal.invariant-loop-id
invariant-loop-id l = record {
  lists : AreParts (map (superinterfaces_at l.set.classes) (range_with_len 0 l.id)) l.names.items l.parts.items;
  long : length l.marks.items ≡ length l.set.names;
  below : (n : ℕ) → slice_index l.marks.items n ≤ l.id;
}
