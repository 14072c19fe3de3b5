use Rattle.std.proofs.Common.{◌≡◌, List, length, ap, ◌∙◌, arith}
use Rattle.std.proofs.Math.ListN.{length-set, length-map}
use Rattle.std.proofs.lemmas.List.Elements.{Contains-get_or}
use Rattle.fp_links.specs.Linked.{Pair, has_task, without_task}
use Rattle.fp_solo.proofs.ReadLemmas.{absent, reads-more, unlinked-reads}
use Rattle.fp_solo.proofs.record.relink.Goals as goal

pub loop-place-init : goal.loop-place-init
loop-place-init c =
    let dropped = c.unlink_task.ensures in
    let room = c.in_ok-reserve.ensures in
    record {
      places = omega (arith, room.kept.1, ap length dropped.rows, length-map c.args.links.now.rows (without_task c.args.task));
      tasks = omega (arith, room.kept.0, dropped.tasks);
      room = omega (arith, room.known.2);
      reads = λ t p. ap (λ (es : List Pair). has_task es t) (c.reserve.ensures.rows p) ∙ unlinked-reads c.args.links.now c.unlink_task.new.self c.args.task dropped t p;
    }

pub link-requires-clause-place : goal.link-requires-clause-place
link-requires-clause-place c =
    let inside = c.requires.places _ _ (Contains-get_or c.args.answers.now c.loop-place.place-index (0, 0) c.loop-place-test.true) in
    omega (arith, inside, c.loop-place.invariant.places)

pub link-requires-clause-absent : goal.link-requires-clause-absent
link-requires-clause-absent c =
    absent c.args.links.now c.loop-place.links c.args.task c.loop-place.place-index c.args.answers.now c.loop-place-test.true c.requires.once c.loop-place.invariant.reads

pub loop-place-preserved : goal.loop-place-preserved
loop-place-preserved c =
    let linked = c.link.ensures in
    let l = c.loop-place.invariant in
    let inside = c.requires.places _ _ (Contains-get_or c.args.answers.now c.loop-place.place-index (0, 0) c.loop-place-test.true) in
    let long : length c.link.new.self.rows ≡ length c.loop-place.links.rows = ap length linked.rows ∙ length-set c.loop-place.links.rows _ _ in
    record {
      places = omega (arith, l.places, long);
      tasks = omega (arith, l.tasks, linked.tasks);
      room = omega (arith, l.room, linked.spare);
      reads = reads-more c.args.links.now c.loop-place.links c.link.new.self c.args.task c.loop-place.place-index c.args.answers.now c.loop-place-test.true linked
          (omega (arith, inside, l.places)) l.reads;
    }
