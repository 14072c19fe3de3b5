-- What was checked and found holds of the set.
use Rattle.std.proofs.Common.{◌≡◌, ◌+◌, List, length, map, None, ap, subst, ◌∙◌}
use Rattle.std.specs.List.{range_with_len}
use Rattle.fp_model.specs.declared.class.Class.{Class}
use Rattle.fp_model.specs.ClassSet.{refusal_of, class_named, first_field_of, first_method_of}
use Rattle.fp_model.proofs.Soundness.{sound_where_unrefused}
use Rattle.fp_model.proofs.class_set.ClassSet.build.Goals as goal

pub invariant_of-result : goal.invariant_of-result
invariant_of-result c =
    let Sound : List Class → Type 0 = λ classes. refusal_of (record { classes = classes; names = c.args.names }) ≡ None in
    record {
      valid = record {
        over = c.requires.over;
        few = c.requires.few;
        sound = sound_where_unrefused (record { classes = c.args.classes.items; names = c.args.names }) (subst Sound c.as_slice-2.ensures.value c.in_ok-check_sound.ensures.sound);
        names = c.in_ok-by_name.ensures.distinct;
      };
      by_name = c.in_ok-by_name.ensures.index ∙ ap (λ classes. map (class_named classes) (range_with_len 0 (length c.args.names))) c.as_slice.ensures.value;
      fields = c.in_ok-firsts.ensures.fields ∙ ap (λ classes. map (first_field_of classes) (range_with_len 0 (length classes + 1))) c.as_slice-4.ensures.value;
      methods = c.in_ok-firsts.ensures.methods ∙ ap (λ classes. map (first_method_of classes) (range_with_len 0 (length classes + 1))) c.as_slice-4.ensures.value;
    }
