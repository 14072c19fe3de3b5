-- Rapid type analysis: which methods are reached, which classes have objects, and which methods each call reaches, as a task for the
-- roots, one for each method with code, and one for each call.
use Rattle.std.specs.Prelude.{ℕ, ◌+◌, ◌==◌, IsTrue, List, [], ◌∷◌, ◌++◌, All, Contains, length, map, filter, position, slice_get, Option, Some, None, option_and_then, option_map, if◌then◌else◌}
use Rattle.std.specs.List.{flat_map, range_with_len}
use Rattle.std.specs.Option.{option_to_list}
use Rattle.fp_model.specs.ClassSet.{SetView, first_method_of}
use Rattle.fp_cells.specs.declared.kind.KindId.TheVariants as kind
use Rattle.fp_cells.specs.declared.kind.Entity.TheVariants as entity
use Rattle.fp_cells.specs.Cells.{Cell, has_cell}
use Rattle.fp_facts.specs.declared.call_targets.CallTargets.{CallTargets}
use Rattle.fp_facts.specs.declared.facts.CallSite.{CallSite}
use Rattle.fp_facts.specs.declared.facts.Facts.{Facts}
use Rattle.fp_facts.specs.declared.facts.MethodFacts.{MethodFacts}
use Rattle.fp_facts.specs.Facts.{called}
use Rattle.fp_facts.specs.Hierarchy.{has_number}
use Rattle.fp_facts.specs.Initialisation.{has_initialiser, is_initialiser, with_ancestors}
use Rattle.fp_facts.specs.Resolution.{class_of_method}
use Rattle.fp_facts.specs.Selection.{ascending_among}
use Rattle.fp_eqs.specs.Equations.{Task, Tasks}
use Rattle.fp_rta.specs.declared.candidate.Candidate.{Candidate}
use Rattle.fp_rta.specs.Places.{callees_at, inst_place, inst_places, reach_at, reach_place, reach_places}
use Rattle.fp_rta.specs.Tasks.{call_task, giving_task, listed_tasks}

-- ---- class initialisers (JVMS SE 21 section 2.9.2)

-- the initialiser of a class, by its number
abbrev pub initialiser : SetView → (class : ℕ) → Option ℕ
initialiser set class =
    option_and_then (λ c. option_map (λ i. first_method_of set.classes class + i) (position (is_initialiser set.names) c.methods)) (slice_get set.classes class)

abbrev pub initialisers : SetView → (classes : List ℕ) → List ℕ
initialisers set classes = flat_map (λ class. option_to_list (initialiser set class)) classes

-- the classes with an initialiser among those that declare methods, and their ancestors in the set, ascending
abbrev pub begun_with : SetView → (methods : List ℕ) → List ℕ
begun_with set methods =
    ascending_among (length set.classes)
    (filter (has_initialiser set) (flat_map (λ m. flat_map (with_ancestors set.classes) (option_to_list (class_of_method set.classes m))) methods))

-- ---- roots and bodies

-- The roots are reached, and so are the initialisers of their classes and of these classes' ancestors; the seed classes have objects.
abbrev pub root_places : SetView → Facts → List Cell → List ℕ
root_places set facts cells =
    reach_places cells facts.roots ++ (reach_places cells (initialisers set (begun_with set facts.roots)) ++ inst_places cells facts.seeds)

-- Once a method is reached, the classes that it makes objects of have objects, and the initialisers that it begins are reached.
abbrev pub body_places : SetView → List Cell → MethodFacts → List ℕ
body_places set cells m = inst_places cells m.news ++ reach_places cells (initialisers set m.begins)

abbrev pub root_task : SetView → Facts → List Cell → Task
root_task set facts cells = giving_task None (root_places set facts cells)

abbrev pub body_task : SetView → List Cell → MethodFacts → Task
body_task set cells m = giving_task (Some (reach_at cells m.method)) (body_places set cells m)

-- ---- calls

-- the place of a class that sets bits, for each time that it tells the bit; and those of all classes that do
abbrev pub watched_at : List Cell → (bit : ℕ) → ℕ × List ℕ → List ℕ
watched_at cells bit w = flat_map (λ b. if b == bit then option_to_list (inst_place cells w.0) else []) w.1

abbrev pub setting : List Cell → (bit : ℕ) → (watch : List (ℕ × List ℕ)) → List ℕ
setting cells bit watch = flat_map (watched_at cells bit) watch

-- a bit of a call: whether it is always set, what else sets it, and which method it stands for; the last bit is that of the outside
abbrev pub candidate : List Cell → CallTargets → (bit : ℕ) → Candidate
candidate cells call bit = record {
  always = has_number call.always bit;
  sources = setting cells bit call.watch;
  target = option_and_then (reach_place cells) (slice_get call.targets bit);
}

abbrev pub candidates : List Cell → CallTargets → List Candidate
candidates cells call = map (candidate cells call) (range_with_len 0 (length call.targets + 1))

abbrev pub site_task : Facts → List Cell → (method : ℕ) → CallSite → Task
site_task facts cells method site =
    call_task (reach_at cells method) (callees_at cells method site.pc) (candidates cells (called facts site))

abbrev pub method_calls : Facts → List Cell → MethodFacts → List Task
method_calls facts cells m = map (site_task facts cells m.method) m.sites

-- ---- all of them

abbrev pub call_graph : SetView → Facts → List Cell → List Task
call_graph set facts cells =
    root_task set facts cells ∷ (map (body_task set cells) facts.methods ++ flat_map (method_calls facts cells) facts.methods)

abbrev pub call_graph_tasks : SetView → Facts → List Cell → Tasks
call_graph_tasks set facts cells = listed_tasks (call_graph set facts cells)

-- ---- the cells that there must be

-- that of what a call reaches: a bit for each target, and one for the outside
abbrev pub callees_cell : Facts → (method : ℕ) → CallSite → Cell
callees_cell facts method site = record {
  kind = kind.Callees;
  entity = entity.Site (record { method = method; pc = site.pc });
  bits = length (called facts site).targets + 1;
}

-- each method with code has a cell, and so has each call
pub record HasCells (facts : Facts) (cells : List Cell) : Type 0 where
  pub methods : All (λ m. IsTrue (has_cell cells kind.Reach (entity.Method m.method))) facts.methods
  pub calls : All (λ m. All (λ site. Contains cells (callees_cell facts m.method site)) m.sites) facts.methods
