-- The next name that waits, and the list at the end.
use Rattle.std.proofs.Common.{◌<◌, ◌+◌, ◌≡◌, [], List, ℕ, All, length, reverse, sym, ap, subst, ◌∙◌, arith}
use Rattle.fp_hier.specs.Walks.{walk_from}
use Rattle.fp_hier.proofs.WaitingNames.{first-waiting, first-within, interfaces-within, none-marked, rest-within, superinterfaces-found}
use Rattle.fp_hier.proofs.WalkedNames.{walk-none}
use Rattle.fp_hier.proofs.superinterfaces.superinterface_list.Goals as goal

pub loop-name-init : goal.loop-name-init
loop-name-init c =
    let set = c.args.set.now in
    let own = c.class.result.now.interfaces in
    let first : reverse c.push_names.new.waiting ≡ own =
    first-waiting c.push_names.new.waiting c.new-waiting.result c.as_slice.result.now c.in_ok-push_names.ensures c.new-waiting.ensures ∙ c.as_slice.ensures in
    record {
      marked = none-marked (length set.names) (c.args.id + 1) c.args.marks.now c.new-met.result c.requires.long (λ n. omega (arith, c.requires.below n)) c.new-met.ensures;
      within = subst (λ (l : List ℕ). All (λ n. n < length set.names) l) (sym first) (interfaces-within set c.args.id c.class.result.now c.class.ensures.set c.class.ensures.class);
      walk =
          ap (λ (met : List ℕ). walk_from set.classes met (reverse c.push_names.new.waiting)) c.new-met.ensures
          ∙ ap (λ (l : List ℕ). walk_from set.classes [] l) first
          ∙ superinterfaces-found set.classes c.args.id c.class.result.now c.class.ensures.class;
    }

pub visit-requires-clause-name : goal.visit-requires-clause-name
visit-requires-clause-name c =
    first-within (λ n. n < length c.args.set.now.names) c.loop-name.waiting c.pop.new.self c.in-Some.name c.in-Some.ensures c.loop-name.invariant.within

pub visit-requires-clause-within : goal.visit-requires-clause-within
visit-requires-clause-within c =
    rest-within (λ n. n < length c.args.set.now.names) c.loop-name.waiting c.pop.new.self c.in-Some.name c.in-Some.ensures c.loop-name.invariant.within

pub returns-clause-list : goal.returns-clause-list
returns-clause-list c =
    let classes = c.args.set.now.classes in
    sym (walk-none classes c.loop-name.met)
    ∙ sym (ap (λ (l : List ℕ). walk_from classes c.loop-name.met (reverse l)) c.in_default.ensures.0)
    ∙ c.loop-name.invariant.walk
