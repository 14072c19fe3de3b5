use Rattle.std.proofs.Common.{◌≡◌, ◌||◌, ℕ, take}
use Rattle.fp_facts.specs.Hierarchy.{has_number}
use Rattle.fp_eqs.specs.Answers.{asked, Agrees}
use Rattle.fp_rta.specs.Contributions.{any_set}
use Rattle.fp_rta.specs.Meaning.{IsLater}
use Rattle.fp_rta.proofs.call.any_set.Given as goal

abbrev pub invariant-loop-place : goal.invariant-loop-place
invariant-loop-place g l = record {
  base : g.A.Ask.base l.ask ≡ g.A.Ask.base l.initial.ask;
  later : IsLater (g.A.Ask.answers l.initial.ask) (g.A.Ask.answers l.ask);
  asked : (p : ℕ) → asked (g.A.Ask.answers l.ask) p ≡ (asked (g.A.Ask.answers l.initial.ask) p || has_number (take l.place-index l.places) p);
  set : (a : ℕ → ℕ) → Agrees a (g.A.Ask.answers l.ask) → l.any ≡ any_set a (take l.place-index l.places);
}
