use Rattle.std.proofs.Common.{IsTrue, map, sym, ap, subst, ◌∙◌}
use Rattle.std.specs.Prelude.{slice_get}
use Rattle.fp_extract.specs.Rooms.{call_cost, fits, targets_of}
use Rattle.fp_extract.proofs.CallTables.{cost-there, map-one, new-one, not-new}
use Rattle.fp_extract.proofs.calls.CallTable.know.Goals as goal

pub returns-in_ok-learn-clause-told : goal.returns-in_ok-learn-clause-told
returns-in_ok-learn-clause-told c =
    let set = c.args.set.now in
    let old = c.args.self.now in
    let r = c.args.reference in
    let keys = c.in_ok-learn.ensures.references ∙ c.in_ok-number.ensures.table ∙ new-one old.references r (sym c.in_ok-number.ensures.is_new ∙ c.if-is_new.true) in
    record {
      costs = map-one (call_cost set) old.references c.learn.new.self.references r old.costs.items c.learn.new.self.costs.items keys c.requires.told.costs c.in_ok-learn.ensures.costs;
      targets = λ fit.
          let before : IsTrue (fits old.left) = subst (λ l. IsTrue (fits l)) c.in_ok-learn.ensures.left fit in
          map-one (targets_of set) old.references c.learn.new.self.references r old.targets.items c.learn.new.self.targets.items keys (c.requires.told.targets before) (c.in_ok-learn.ensures.targets before);
    }

pub returns-in_ok-learn-clause-cost : goal.returns-in_ok-learn-clause-cost
returns-in_ok-learn-clause-cost c =
    let there = ap (λ t. slice_get t c.in_ok-number.number) c.in_ok-learn.ensures.references ∙ c.in_ok-number.ensures.stored in
    cost-there c.args.set.now c.learn.new.self.references c.learn.new.self.costs.items c.args.reference c.in_ok-number.number (returns-in_ok-learn-clause-told c).costs there

pub returns-else-is_new-clause-told : goal.returns-else-is_new-clause-told
returns-else-is_new-clause-told c =
    let set = c.args.set.now in
    let old = c.args.self.now in
    let r = c.args.reference in
    let keys = c.in_ok-number.ensures.table ∙ not-new old.references r (sym c.in_ok-number.ensures.is_new ∙ c.if-is_new.false) in
    record {
      costs = c.requires.told.costs ∙ ap (map (call_cost set)) (sym keys);
      targets = λ fits. c.requires.told.targets fits ∙ ap (map (targets_of set)) (sym keys);
    }

pub returns-else-is_new-clause-cost : goal.returns-else-is_new-clause-cost
returns-else-is_new-clause-cost c =
    cost-there c.args.set.now c.number.new.self c.args.self.now.costs.items c.args.reference c.in_ok-number.number (returns-else-is_new-clause-told c).costs c.in_ok-number.ensures.stored
