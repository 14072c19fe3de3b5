use Rattle.std.proofs.Common.{◌≡◌, ◌∙◌, ap, subst, true, arith, rules}
use Rattle.std.proofs.lemmas.Bool.{both_ways}
use Rattle.fp_model.specs.Descriptor.{IsKindOf, element_text, is_field_descriptor}
use Rattle.fp_model.proofs.ArrayTypes.{from_place, whole_place}
use Rattle.fp_model.proofs.ElementTexts.{IsKindOf-array}
use Rattle.fp_model.proofs.Stops.{StopsAt-fails}
use Rattle.fp_model.proofs.descriptor.reading.read_kind.Goals as goal

pub returns-in-Some-clause-full : goal.returns-in-Some-clause-full
returns-in-Some-clause-full c = (
  λ e. absurd cc,
  λ h. absurd (both_ways (is_field_descriptor c.args.text.now) (StopsAt-fails is_field_descriptor c.args.text.now c.in-Some.place c.in-Some.ensures.some) h.0),
)

pub returns-in-Some-clause-known : goal.returns-in-Some-clause-known
returns-in-Some-clause-known c =
    λ passes _. absurd (both_ways (is_field_descriptor c.args.text.now) (StopsAt-fails is_field_descriptor c.args.text.now c.in-Some.place c.in-Some.ensures.some) passes)

pub returns-then-dims-eq0-clause-kind : goal.returns-then-dims-eq0-clause-kind
returns-then-dims-eq0-clause-kind c =
    let is : element_text c.read_element.new.names c.in_ok-element.element ≡ c.args.text.now =
    c.in_ok-element.ensures.element ∙ whole_place c.args.text.now c.count_dimensions-dims.result (omega arith) in
    let passes : is_field_descriptor c.args.text.now ≡ true = search rules in
    subst (λ t. IsKindOf c.read_element.new.names t c.kind_of.result) is (c.kind_of.ensures c.read_element.new.names (ap is_field_descriptor is ∙ passes))

pub returns-else-dims-eq0-clause-kind : goal.returns-else-dims-eq0-clause-kind
returns-else-dims-eq0-clause-kind c =
    IsKindOf-array c.read_element.new.names c.args.text.now c.count_dimensions-dims.result c.in_ok-element.element (omega arith) c.count_dimensions-dims.ensures.count (search rules)
    (c.in_ok-element.ensures.element ∙ from_place c.args.text.now c.count_dimensions-dims.result)
