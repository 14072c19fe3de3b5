-- The first name of the last classes.
use Rattle.std.proofs.Common.{◌≡◌, drop, string_bytes, option_map}
use Rattle.fp_model.specs.ClassSet.{least_text, marked_names}
use Rattle.fp_model.proofs.class_set.blame.first_marked_name.Given as goal

abbrev pub invariant-loop-id : goal.invariant-loop-id
invariant-loop-id l = option_map string_bytes l.first ≡ least_text (marked_names l.names (drop l.id l.classes) (drop l.id l.marks))
