-- A name that was met is passed over; behind another one stands what its class extends.
use Rattle.std.proofs.Common.{◌<◌, ◌+◌, ◌≤◌, ◌++◌, List, ℕ, length, reverse, sym, ap, subst, ◌∙◌, arith}
use Rattle.fp_hier.specs.Walks.{unmet_interfaces, walk_from}
use Rattle.fp_hier.proofs.WaitingNames.{interfaces-within, is-met, is-unmet, more-within, named-falls, named-walk, outside-falls, outside-walk}
use Rattle.fp_hier.proofs.WalkedNames.{walk-met}
use Rattle.fp_hier.proofs.superinterfaces.visit.Goals as goal

pub returns-then-marks-name-clause-walk : goal.returns-then-marks-name-clause-walk
returns-then-marks-name-clause-walk c =
    sym (walk-met c.args.set.now.classes c.args.met.now c.args.name (reverse c.args.waiting.now)
    (is-met (length c.args.set.now.names) c.args.walk c.args.marks.now c.args.met.now c.args.name c.requires.marked c.requires.name c.if-marks-name.true))

pub returns-in_ok-push_names-clause-within : goal.returns-in_ok-push_names-clause-within
returns-in_ok-push_names-clause-within c =
    let names = c.args.set.now.names in
    more-within (λ n. n < length names) c.args.waiting.now c.push_names.new.waiting c.class.result.now.interfaces
    (c.in_ok-push_names.ensures ∙ ap (λ (l : List ℕ). l ++ reverse c.args.waiting.now) c.as_slice.ensures)
    (interfaces-within c.args.set.now c.in-Some.id c.class.result.now c.class.ensures.set c.class.ensures.class)
    c.requires.within

pub returns-in_ok-push_names-clause-walk : goal.returns-in_ok-push_names-clause-walk
returns-in_ok-push_names-clause-walk c =
    let classes = c.args.set.now.classes in
    ap (λ (met : List ℕ). walk_from classes met (reverse c.push_names.new.waiting)) c.in_ok-push.ensures.ok
    ∙ named-walk classes c.args.met.now c.args.waiting.now c.push_names.new.waiting c.args.name c.in-Some.id c.class.result.now
    (sym c.in-Some.ensures.class) c.class.ensures.class
    (is-unmet (length c.args.set.now.names) c.args.walk c.args.marks.now c.args.met.now c.args.name c.requires.marked c.requires.name c.if-marks-name.false)
    (c.in_ok-push_names.ensures ∙ ap (λ (l : List ℕ). l ++ reverse c.args.waiting.now) c.as_slice.ensures)

pub returns-in_ok-push_names-clause-fewer : goal.returns-in_ok-push_names-clause-fewer
returns-in_ok-push_names-clause-fewer c =
    let classes = c.args.set.now.classes in
    subst (λ (met : List ℕ). unmet_interfaces classes met + length c.push_names.new.waiting ≤ unmet_interfaces classes c.args.met.now + length c.args.waiting.now)
    (sym c.in_ok-push.ensures.ok)
    (named-falls classes c.args.met.now c.args.waiting.now c.push_names.new.waiting c.args.name c.in-Some.id c.class.result.now
    (sym c.in-Some.ensures.class) c.class.ensures.class
    (is-unmet (length c.args.set.now.names) c.args.walk c.args.marks.now c.args.met.now c.args.name c.requires.marked c.requires.name c.if-marks-name.false)
    (c.in_ok-push_names.ensures ∙ ap (λ (l : List ℕ). l ++ reverse c.args.waiting.now) c.as_slice.ensures))

pub returns-in_default-clause-walk : goal.returns-in_default-clause-walk
returns-in_default-clause-walk c =
    let classes = c.args.set.now.classes in
    ap (λ (met : List ℕ). walk_from classes met (reverse c.args.waiting.now)) c.in_ok-push.ensures.ok
    ∙ outside-walk classes c.args.met.now c.args.waiting.now c.args.name (sym c.in_default.ensures.class)
    (is-unmet (length c.args.set.now.names) c.args.walk c.args.marks.now c.args.met.now c.args.name c.requires.marked c.requires.name c.if-marks-name.false)

pub returns-in_default-clause-fewer : goal.returns-in_default-clause-fewer
returns-in_default-clause-fewer c =
    let classes = c.args.set.now.classes in
    let unmet = is-unmet (length c.args.set.now.names) c.args.walk c.args.marks.now c.args.met.now c.args.name c.requires.marked c.requires.name c.if-marks-name.false in
    omega (arith, ap (unmet_interfaces classes) c.in_ok-push.ensures.ok, outside-falls classes c.args.met.now c.args.name unmet)
