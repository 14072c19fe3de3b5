-- The tasks of the call graph by their places.
use Rattle.std.specs.Prelude.{ℕ, ◌+◌, ◌*◌, ◌==◌, Bool, true, false, not, ◌&&◌, ◌||◌, List, length, slice_get, unwrap_or, is_some, Option, Some, None, if◌then◌else◌}
use Rattle.fp_model.specs.ClassSet.{is_number}
use Rattle.fp_facts.specs.Hierarchy.{has_number}
use Rattle.fp_eqs.specs.declared.start.Start.{Start}
use Rattle.fp_eqs.specs.declared.start.Start.TheVariants.{Always, Triggered}
use Rattle.fp_eqs.specs.Answers.{asked, bits_of}
use Rattle.fp_eqs.specs.Equations.{Task, Tasks}
use Rattle.fp_rta.specs.declared.candidate.Candidate.{Candidate}
use Rattle.fp_rta.specs.Contributions.{is_on, ones, pairs_from, sources_of}

abbrev pub start_of : (trigger : Option ℕ) → Start
start_of None = Always
start_of (Some trigger) = Triggered trigger

-- its trigger is 0; without one it never waits
abbrev pub is_waiting : (trigger : Option ℕ) → (ℕ → ℕ) → Bool
is_waiting None a = false
is_waiting (Some trigger) a = a trigger == 0

-- It gives 1 to some places, once its trigger isn't 0.
abbrev pub giving_task : (trigger : Option ℕ) → (places : List ℕ) → Task
giving_task trigger places = record {
  start = start_of trigger;
  asks = if is_some trigger then 1 else 0;
  gives = length places;
  makes = has_number places;
  uses = λ a p. is_number p trigger;
  out = λ a p. if is_waiting trigger a then 0 else bits_of (ones places) p;
}

-- A call, once its method is reached: it uses the places of the classes that set its bits, and gives the bits that are set, and to
-- each target of one that it is reached.
abbrev pub call_task : (trigger callees : ℕ) → List Candidate → Task
call_task trigger callees ks = record {
  start = Triggered trigger;
  asks = length (sources_of ks) + 1;
  gives = 2 * length ks;
  makes = asked (pairs_from (λ _. true) callees 0 ks);
  uses = λ a p. (trigger == p) || (not (a trigger == 0) && has_number (sources_of ks) p);
  out = λ a p. if a trigger == 0 then 0 else bits_of (pairs_from (is_on a) callees 0 ks) p;
}

-- a task that makes and uses nothing
abbrev pub no_task : Task
no_task = record { start = Always; asks = 0; gives = 0; makes = λ p. false; uses = λ a p. false; out = λ a p. 0 }

-- tasks by their numbers
abbrev pub listed_tasks : List Task → Tasks
listed_tasks tasks = record { count = length tasks; task = λ t. unwrap_or (slice_get tasks t) no_task }
