-- The numbers so far are those of the classes so far.
use Rattle.std.proofs.Common.{◌≡◌, map}
use Rattle.std.specs.List.{range_with_len}
use Rattle.fp_model.specs.ClassSet.{first_field_of, first_method_of}
use Rattle.fp_model.proofs.class_set.index.first_members.Given as goal

abbrev pub invariant-loop-class : goal.invariant-loop-class
invariant-loop-class l = record {
  fields : l.fields.items ≡ map (first_field_of l.classes) (range_with_len 0 l.class-index);
  methods : l.methods.items ≡ map (first_method_of l.classes) (range_with_len 0 l.class-index);
  field : l.field ≡ first_field_of l.classes l.class-index;
  method : l.method ≡ first_method_of l.classes l.class-index;
}
