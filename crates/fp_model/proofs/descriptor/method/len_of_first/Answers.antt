use Rattle.std.proofs.Common.{◌≡◌, ◌∙◌, ap, subst, take}
use Rattle.fp_model.specs.Descriptor.{first_field, is_field_descriptor, StopsAt}
use Rattle.fp_model.proofs.Stops.{StopsAt-fails}
use Rattle.fp_model.proofs.descriptor.method.len_of_first.Goals as goal

pub returns-in-Some-clause-place : goal.returns-in-Some-clause-place
returns-in-Some-clause-place c =
    let cut : c.front.result.now ≡ first_field c.args.text.now = c.front.ensures ∙ ap (λ n. take n c.args.text.now) c.count_field-len.ensures in
    let stops = subst (λ t. StopsAt is_field_descriptor t c.in-Some.place) cut c.in-Some.ensures.some in
    (StopsAt-fails is_field_descriptor (first_field c.args.text.now) c.in-Some.place stops, stops)
