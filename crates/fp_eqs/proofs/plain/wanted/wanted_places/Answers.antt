use Rattle.std.proofs.Common.{rules, ◌≡◌, ◌<◌, ◌≤◌, length, slice_index, arith}
use Rattle.std.proofs.lemmas.List.{get_or_read}
use Rattle.fp_eqs.proofs.Needed.{all-needed, found-few, found-places}
use Rattle.fp_eqs.proofs.plain.wanted.wanted_places.Goals as goal

pub returns-clause-demand : goal.returns-clause-demand
returns-clause-demand g c =
    let e = g.S.System.equations c.args.system.now in
    let l = c.loop-at.invariant in
    all-needed e (g.S.System.monotone c.args.system.now) c.loop-at.needs l.needs l.shown l.eager
    (λ i t lt. l.makers i t (omega (arith, lt, found-few e c.loop-at.needs l.needs, c.loop-at-test.false, c.places-at-end.ensures)) lt)

pub returns-then-len-at-clause-demand : goal.returns-then-len-at-clause-demand
returns-then-len-at-clause-demand g c =
    let e = g.S.System.equations c.args.system.now in
    let l = c.loop-at.invariant in
    let past : length c.loop-at.needs.found.items ≤ c.loop-at.at = search rules in
    all-needed e (g.S.System.monotone c.args.system.now) c.loop-at.needs l.needs l.shown l.eager (λ i t lt. l.makers i t (omega (arith, lt, past)) lt)

pub start_makers-requires-clause-place : goal.start_makers-requires-clause-place
start_makers-requires-clause-place g c =
    let e = g.S.System.equations c.args.system.now in
    let lt : c.loop-at.at < length c.loop-at.needs.found.items = search rules in
    let known = found-places e (g.S.System.monotone c.args.system.now) c.loop-at.needs c.loop-at.at c.loop-at.invariant.needs lt in
    let is : c.index-place.result.now ≡ slice_index c.loop-at.needs.found.items c.loop-at.at =
    get_or_read c.loop-at.needs.found.items c.loop-at.at c.index-place.result.now lt c.index-place.ensures 0 in
    rw is known.0
