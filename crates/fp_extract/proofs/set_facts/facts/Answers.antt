use Rattle.std.proofs.Common.{sym, ap, subst, ◌∙◌}
use Rattle.std.proofs.lemmas.Result.{err_from_is_err_and}
use Rattle.fp_facts.specs.Seeds.{seeds}
use Rattle.fp_extract.specs.Within.{AreCallsKnown}
use Rattle.fp_extract.proofs.CallsWithin.{facts-within}
use Rattle.fp_extract.proofs.FactsTold.{facts-told}
use Rattle.fp_extract.proofs.RoomSums.{room-refused, room-told}
use Rattle.fp_extract.proofs.set_facts.facts.Goals as goal

pub returns-in_err-left-clause-fault : goal.returns-in_err-left-clause-fault
returns-in_err-left-clause-fault c =
    let p = err_from_is_err_and c.from_residual-in_err-left.result c.from_residual-in_err-left.ensures.1 in
    let gathered = c.in_ok-gathered.ensures.gathered in
    rw (p.1, p.2) (room-refused c.args.set.now c.args.room.now c.in_ok-gathered.gathered.calls.left c.in_err-left.field-0.0 gathered.few gathered.left (sym c.in_err-left.ensures))

pub returns-clause-facts : goal.returns-clause-facts
returns-clause-facts c =
    facts-told c.args.set.now c.args.room.now c.in_ok-left.left c.in_ok-gathered.gathered c.args.roots c.args.assume c.from_vec.result c.from_vec-2.result c.from_vec-3.result c.from_vec-4.result
    c.in_ok-gathered.ensures.told c.in_ok-gathered.ensures.gathered (sym c.in_ok-left.ensures)
    (c.from_vec.ensures ∙ c.in_ok-references.ensures.references)
    (c.from_vec-2.ensures ∙ c.in_ok-references.ensures.targets)
    c.from_vec-3.ensures
    (c.from_vec-4.ensures ∙ c.in_ok-seeds.ensures ∙ ap (seeds c.args.set.now.classes) c.as_slice.ensures)

pub returns-clause-known : goal.returns-clause-known
returns-clause-known c = subst (λ f. AreCallsKnown f) (sym (returns-clause-facts c)) (facts-within c.args.set.now c.args.roots c.args.assume)

pub returns-clause-accepted : goal.returns-clause-accepted
returns-clause-accepted c =
    let gathered = c.in_ok-gathered.ensures.gathered in
    (room-told c.args.set.now c.args.room.now c.in_ok-gathered.gathered.calls.left c.in_ok-left.left gathered.few gathered.left (sym c.in_ok-left.ensures)).0

pub returns-clause-room : goal.returns-clause-room
returns-clause-room c =
    let gathered = c.in_ok-gathered.ensures.gathered in
    (room-told c.args.set.now c.args.room.now c.in_ok-gathered.gathered.calls.left c.in_ok-left.left gathered.few gathered.left (sym c.in_ok-left.ensures)).1
