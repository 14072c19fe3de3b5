use Rattle.std.proofs.Common.{arith}
use Rattle.fp_eqs.specs.Solved.{flag_at}
use Rattle.fp_report.proofs.CellLemmas.{places-step, some-places, count-step, room-step, few-step}
use Rattle.fp_report.proofs.lines.count_demanded.Goals as goal

pub bounds-wanted-first : goal.bounds-wanted-first
bounds-wanted-first c =
    omega (arith, c.requires, c.loop-i.invariant.places, places-step c.args.cells.now c.loop-i.i c.in-Some.field-0-0 c.in-Some.field-0-1 c.in-Some.bits c.in-Some.ensures.cell, some-places c.in-Some.bits)

pub loop-i-preserved : goal.loop-i-preserved
loop-i-preserved c =
    let f = flag_at c.args.wanted.now in
    let is = c.in-Some.ensures.cell in
    record {
      count = count-step f c.args.cells.now c.loop-i.i c.loop-i.count c.loop-i.first c.one_if-count.result c.count_places.result c.in-Some.field-0-0 c.in-Some.field-0-1 c.in-Some.bits is c.one_if-count.ensures c.count_places.ensures c.loop-i.invariant.count;
      places = room-step c.args.cells.now c.loop-i.i c.loop-i.first c.count_places.result c.in-Some.field-0-0 c.in-Some.field-0-1 c.in-Some.bits is c.count_places.ensures c.loop-i.invariant.places;
      few = few-step f c.loop-i.count c.loop-i.first c.one_if-count.result c.count_places.result c.in-Some.bits c.one_if-count.ensures c.count_places.ensures c.loop-i.invariant.few;
    }
