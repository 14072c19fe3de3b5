-- The facts of the methods of a set, one after the other.
use Rattle.std.specs.Prelude.{◌≡◌, ℕ, false, IsTrue, List, [], ◌++◌, map, fold}
use Rattle.std.specs.List.{flat_map, list_any}
use Rattle.fp_model.specs.ClassSet.{SetView}
use Rattle.fp_facts.specs.declared.facts.MethodFacts.{MethodFacts}
use Rattle.fp_facts.specs.declared.reference.Reference.{Reference}
use Rattle.fp_facts.specs.Behaviour.{accesses_of, allocs_of, news_of, returned_of, sites_of, thrown_of}
use Rattle.fp_facts.specs.Facts.{Coded, code_facts, references_in}
use Rattle.fp_facts.specs.References.{with_references}
use Rattle.fp_facts.specs.Steps.{Step}
use Rattle.fp_extract.specs.declared.methods.Gathered.{Gathered}
use Rattle.fp_extract.specs.declared.room.Room.{Room}
use Rattle.fp_extract.specs.Begun.{begun_by}
use Rattle.fp_extract.specs.Refusals.{has_many_pairs}
use Rattle.fp_extract.specs.Rooms.{fits, left_by, left_of}

-- the facts of a method by its steps
abbrev pub facts_by : SetView → List Reference → (id caller : ℕ) → List Step → MethodFacts
facts_by set table id caller steps = record {
  method = id;
  sites = sites_of table caller steps;
  news = news_of set.classes steps;
  allocs = allocs_of steps;
  begins = begun_by set steps;
  accesses = accesses_of set.classes steps;
  thrown = thrown_of steps;
  returned = returned_of steps;
}

-- what is gathered of some methods: none of them has too many origin pairs; their calls have met the table, and their facts are
-- there as long as no bound is passed
pub record HasGathered (set : SetView) (room : Room) (methods : List Coded) (g : Gathered) : Type 0 where
  pub few : list_any has_many_pairs methods ≡ false
  pub table : g.calls.references ≡ with_references [] (flat_map references_in methods)
  pub left : g.calls.left ≡ fold (left_by set) (left_of room) methods
  pub facts : IsTrue (fits g.calls.left) → (more : List Reference) → g.methods.items ≡ map (code_facts set (g.calls.references ++ more)) methods
