-- What analyses read of a set of classes: what the code of each method does, and what calls can reach.
use Rattle.std.specs.Prelude.{ℕ, List, [], ◌∷◌, length, map, slice_get, unwrap_or}
use Rattle.std.specs.List.{flat_map, range_with_len}
use Rattle.std.specs.Option.{option_map_or}
use Rattle.fp_model.specs.declared.class.Class.{Class}
use Rattle.fp_model.specs.declared.class.Code.{Code}
use Rattle.fp_model.specs.declared.class.Method.{Method}
use Rattle.fp_model.specs.ClassSet.{SetView, methods_of}
use Rattle.fp_facts.specs.declared.assume.Assume.{Assume}
use Rattle.fp_facts.specs.declared.call_targets.CallTargets.{CallTargets}
use Rattle.fp_facts.specs.declared.facts.CallSite.{CallSite}
use Rattle.fp_facts.specs.declared.facts.Facts.{Facts}
use Rattle.fp_facts.specs.declared.facts.MethodFacts.{MethodFacts}
use Rattle.fp_facts.specs.declared.reference.Reference.{Reference}
use Rattle.fp_facts.specs.Behaviour.{accesses_of, allocs_of, news_of, references_of, returned_of, sites_of, thrown_of}
use Rattle.fp_facts.specs.Initialisation.{begins}
use Rattle.fp_facts.specs.References.{reference_candidates, with_references}
use Rattle.fp_facts.specs.Resolution.{class_of_method, method_at}
use Rattle.fp_facts.specs.Seeds.{seeds}
use Rattle.fp_facts.specs.Selection.{Candidates, always_bits, target_list, watched_bits}
use Rattle.fp_facts.specs.Steps.{steps}

-- ---- the targets of a call, among so many methods

abbrev pub call_targets : (methods : ℕ) → Candidates → CallTargets
call_targets methods c = record {
  targets = target_list methods c;
  always = always_bits (target_list methods c) c;
  watch = watched_bits (target_list methods c) c;
}

-- ---- the methods with code, by their numbers

pub record Coded : Type 0 where
  pub id : ℕ
  pub caller : ℕ  -- the number of its class
  pub method : Method
  pub code : Code

abbrev pub with_code : (id caller : ℕ) → Method → List Coded
with_code id caller m = option_map_or (λ code. record { id = id; caller = caller; method = m; code = code } ∷ []) m.code []

abbrev pub coded_at : List Class → (id : ℕ) → List Coded
coded_at classes id = option_map_or (with_code id (unwrap_or (class_of_method classes id) 0)) (method_at classes id) []

abbrev pub coded : List Class → List Coded
coded classes = flat_map (coded_at classes) (range_with_len 0 (length (methods_of classes)))

-- ---- facts

-- the references of the calls of a method, in their order
abbrev pub references_in : Coded → List Reference
references_in m = references_of m.caller (steps m.method m.code)

-- those of all methods, each once
abbrev pub references : List Class → List Reference
references classes = with_references [] (flat_map references_in (coded classes))

-- what the code of a method does, where calls are told by the numbers of their references in a table
abbrev pub code_facts : SetView → List Reference → Coded → MethodFacts
code_facts set table m = record {
  method = m.id;
  sites = sites_of table m.caller (steps m.method m.code);
  news = news_of set.classes (steps m.method m.code);
  allocs = allocs_of (steps m.method m.code);
  begins = begins set m.method m.code;
  accesses = accesses_of set.classes (steps m.method m.code);
  thrown = thrown_of (steps m.method m.code);
  returned = returned_of (steps m.method m.code);
}

-- the facts of a set, for a run that starts at some methods and takes something for granted
abbrev pub facts_of : SetView → (roots : List ℕ) → Assume → Facts
facts_of set roots assume = record {
  references = references set.classes;
  calls = map (λ r. call_targets (length (methods_of set.classes)) (reference_candidates set r)) (references set.classes);
  methods = map (code_facts set (references set.classes)) (coded set.classes);
  seeds = seeds set.classes roots;
  roots = roots;
  assume = assume;
}

-- ---- reading them

-- what a call of facts can reach; nothing where its number is none of theirs
abbrev pub called : Facts → CallSite → CallTargets
called facts site = unwrap_or (slice_get facts.calls site.call) (record { targets = []; always = []; watch = [] })
