-- What the rows of the tasks mean.
use Rattle.std.specs.Prelude.{◌≡◌, ℕ, ◌+◌, ◌*◌, ◌/◌, ◌<◌, ◌^◌, List, [], ◌++◌, length, map, slice_get, Some, None}
use Rattle.std.specs.Option.{option_map_or}
use Rattle.fp_model.specs.ClassSet.{SetView}
use Rattle.fp_cells.specs.Cells.{Cell}
use Rattle.fp_facts.specs.declared.facts.CallSite.{CallSite}
use Rattle.fp_facts.specs.declared.facts.Facts.{Facts}
use Rattle.fp_facts.specs.declared.facts.MethodFacts.{MethodFacts}
use Rattle.fp_eqs.specs.Answers.{Agrees}
use Rattle.fp_eqs.specs.Equations.{Task, Tasks}
use Rattle.fp_rta.specs.declared.candidate.Candidate.{Candidate}
use Rattle.fp_rta.specs.declared.giver.Giver.{Giver}
use Rattle.fp_rta.specs.declared.site.Shape.{Shape}
use Rattle.fp_rta.specs.declared.site.Site.{Site}
use Rattle.fp_rta.specs.CallGraph.{body_places, candidates, root_places}
use Rattle.fp_rta.specs.Contributions.{sources_of}
use Rattle.fp_rta.specs.Places.{callees_at, reach_at}
use Rattle.fp_rta.specs.Tasks.{call_task, giving_task, listed_tasks}

-- whoever agrees with the later answers agrees with the earlier
abbrev pub IsLater : (before after : List (ℕ × ℕ)) → Type 0
IsLater before after = (a : ℕ → ℕ) → Agrees a after → Agrees a before

abbrev pub giver_task : Giver → Task
giver_task g = giving_task g.trigger g.places

-- the candidates of a number
abbrev pub candidates_at : List Shape → ℕ → List Candidate
candidates_at shapes number = option_map_or (λ s. s.candidates) (slice_get shapes number) []

abbrev pub row_task : List Shape → Site → Task
row_task shapes s = call_task s.trigger s.callees (candidates_at shapes s.shape)

abbrev pub row_tasks : List Giver → List Shape → List Site → Tasks
row_tasks givers shapes sites = listed_tasks (map giver_task givers ++ map (row_task shapes) sites)

-- ---- the rows' numbers

abbrev pub AreGiversShort : List Giver → Type 0
AreGiversShort givers = (t : ℕ) (g : Giver) → slice_get givers t ≡ Some g → length g.places < 2 ^ 32

-- the bound of what its calls ask is told, and that of what they give has a number
pub record IsShapeShort (s : Shape) : Type 0 where
  pub asks : s.asks ≡ length (sources_of s.candidates) + 1
  pub gives : 2 * length s.candidates < 2 ^ 32

abbrev pub AreShapesShort : List Shape → Type 0
AreShapesShort shapes = (n : ℕ) (s : Shape) → slice_get shapes n ≡ Some s → IsShapeShort s

-- the candidates are there, and the places of their bits have numbers
pub record IsSiteOf (shapes : List Shape) (s : Site) : Type 0 where
  pub shaped : s.shape < length shapes
  pub words : s.callees + length (candidates_at shapes s.shape) / 64 < 2 ^ 32

abbrev pub AreSitesOf : List Shape → List Site → Type 0
AreSitesOf shapes sites = (t : ℕ) (s : Site) → slice_get sites t ≡ Some s → IsSiteOf shapes s

-- ---- the rows of a set

abbrev pub root_row : SetView → Facts → List Cell → Giver
root_row set facts cells = record { trigger = None; places = root_places set facts cells }

abbrev pub body_row : SetView → List Cell → MethodFacts → Giver
body_row set cells m = record { trigger = Some (reach_at cells m.method); places = body_places set cells m }

abbrev pub site_row : List Cell → (method : ℕ) → CallSite → Site
site_row cells method s = record { trigger = reach_at cells method; callees = callees_at cells method s.pc; shape = s.call }

abbrev pub site_rows : List Cell → MethodFacts → List Site
site_rows cells m = map (site_row cells m.method) m.sites

-- the candidates of each reference
abbrev pub AreShapesOf : Facts → List Cell → List Shape → Type 0
AreShapesOf facts cells shapes = map (λ s. s.candidates) shapes ≡ map (candidates cells) facts.calls
