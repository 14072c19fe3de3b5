use Rattle.std.proofs.Common.{get_or, ◌∙◌}
use Rattle.fp_rta.proofs.AskedPlaces.{asked-more, later-told, set-more}
use Rattle.fp_rta.proofs.call.any_set.Goals as goal

pub loop-place-preserved : goal.loop-place-preserved
loop-place-preserved g c =
    let before = g.A.Ask.answers c.args.ask.now in
    let now = g.A.Ask.answers c.loop-place.ask in
    let after = g.A.Ask.answers c.read-value.new.self in
    let places = c.args.places.now in
    let i = c.loop-place.place-index in
    let w = c.read-value.result in
    let lt = c.loop-place-test.true in
    let l = c.loop-place.invariant in
    record {
      base = c.read-value.ensures.base ∙ l.base;
      later = later-told before now (get_or places i 0) w after c.read-value.ensures.answers l.later;
      asked = asked-more before now after places i w lt l.asked c.read-value.ensures.answers;
      set = λ a h. set-more a c.loop-place.any now after places i w lt l.set c.read-value.ensures.answers c.read-value.ensures.answer h;
    }
