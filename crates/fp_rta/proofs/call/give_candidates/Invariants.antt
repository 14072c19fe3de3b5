use Rattle.std.proofs.Common.{◌≡◌, ◌≤◌, ◌+◌, ◌*◌, ◌||◌, ◌++◌, ℕ, length, take}
use Rattle.fp_facts.specs.Hierarchy.{has_number}
use Rattle.fp_eqs.specs.Answers.{asked, Agrees}
use Rattle.fp_rta.specs.Contributions.{is_on, pairs_from, sources_of}
use Rattle.fp_rta.specs.Meaning.{IsLater}
use Rattle.fp_rta.proofs.call.give_candidates.Given as goal

abbrev pub invariant-loop-bit : goal.invariant-loop-bit
invariant-loop-bit g l = record {
  base : g.A.Ask.base l.ask ≡ g.A.Ask.base l.initial.ask;
  later : IsLater (g.A.Ask.answers l.initial.ask) (g.A.Ask.answers l.ask);
  asked : (p : ℕ) → asked (g.A.Ask.answers l.ask) p ≡ (asked (g.A.Ask.answers l.initial.ask) p || has_number (sources_of (take l.bit l.candidates)) p);
  given : (a : ℕ → ℕ) → Agrees a (g.A.Ask.answers l.ask) → l.give.list ≡ l.initial.give.list ++ pairs_from (is_on a) l.callees 0 (take l.bit l.candidates);
  spare : l.initial.give.spare ≤ l.give.spare + 2 * l.bit;
  kept : l.give.spare + length l.give.list ≡ l.initial.give.spare + length l.initial.give.list;
}
