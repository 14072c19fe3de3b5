use Rattle.std.proofs.Common.{◌<◌, ◌^◌, ◌∷◌, [], List, length}
use Rattle.fp_rta.specs.declared.giver.Giver.{Giver}
use Rattle.fp_rta.specs.Meaning as rows
use Rattle.fp_rta.proofs.RowLists.{each-push, rows-more}
use Rattle.fp_rta.proofs.givers.givers.Goals as goal

pub loop-method-preserved : goal.loop-method-preserved
loop-method-preserved c =
    let set = c.args.set.now in
    let cells = c.args.cells.now in
    let first : List Giver = rows.root_row set c.args.facts.now cells ∷ [] in
    let i = c.loop-method.method-index in
    let g = c.in_ok-body_giver.field-0 in
    record {
      givers = rows-more (rows.body_row set cells) first c.loop-method.givers.items c.push-in-loop-method.new.self.items c.as_slice-method-items.result.now i c.method-item.result g c.loop-method-test.true c.method-item.is
          c.in_ok-body_giver.ensures.giver c.loop-method.invariant.givers c.in_ok-push-2.ensures.items;
      short = each-push (λ (x : Giver). length x.places < 2 ^ 32) c.loop-method.givers.items c.push-in-loop-method.new.self.items g c.loop-method.invariant.short c.in_ok-body_giver.ensures.short c.in_ok-push-2.ensures.items;
    }
