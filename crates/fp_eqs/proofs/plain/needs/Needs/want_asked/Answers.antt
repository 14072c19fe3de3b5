use Rattle.std.proofs.Common.{get_or, refl, ◌∙◌}
use Rattle.std.proofs.lemmas.List.Elements.{Contains-get_or}
use Rattle.fp_eqs.proofs.Flags.{goes-on-both, marks-more}
use Rattle.fp_eqs.proofs.plain.needs.Needs.want_asked.Goals as goal

pub want-requires-clause-place : goal.want-requires-clause-place
want-requires-clause-place c =
    let inside = c.requires.places _ _ (Contains-get_or c.args.answers.now c.loop-place.place-index (0, 0) c.loop-place-test.true) in
    rw c.loop-place.invariant.long inside

pub loop-place-preserved : goal.loop-place-preserved
loop-place-preserved c =
    let e = get_or c.args.answers.now c.loop-place.place-index (0, 0) in
    let told = c.in_ok-want.ensures in
    record {
      long = told.long ∙ c.loop-place.invariant.long;
      marked = marks-more c.args.self.now.wanted.items c.loop-place.self.wanted.items c.want.new.self.wanted.items c.args.answers.now c.loop-place.place-index e.0 e.1 c.loop-place-test.true refl c.loop-place.invariant.marked told.marked;
      found = told.found;
      goes_on = goes-on-both c.args.self.now.found.items c.loop-place.self.found.items c.want.new.self.found.items c.loop-place.invariant.goes_on told.goes_on;
      started = c.want.ensures.started ∙ c.loop-place.invariant.started;
    }
