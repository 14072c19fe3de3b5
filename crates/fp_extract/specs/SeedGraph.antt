-- A graph whose nodes stand for names, and which reaches the seed classes of roots.
use Rattle.std.specs.Prelude.{◌<◌, ◌+◌, ◌*◌, ◌==◌, ◌&&◌, ℕ, Bool, false, IsTrue, List, [], ◌∷◌, ◌++◌, map, slice_get, slice_index_or, All, IfSome, if◌then◌else◌}
use Rattle.std.specs.List.{flat_map}
use Rattle.std.specs.Option.{option_map_or}
use Rattle.fp_model.specs.declared.class.Class.{Class}
use Rattle.fp_model.specs.declared.kind.Kind.{Kind}
use Rattle.fp_facts.specs.Dataflow.{Edge, Problem, Reaches}
use Rattle.fp_facts.specs.Hierarchy.{is_concrete}
use Rattle.fp_facts.specs.Origins.{bools}
use Rattle.fp_facts.specs.Seeds.{class_of_kind, instance_types, root_types}
use Rattle.fp_extract.specs.declared.seed.node.Node.{Node}
use Rattle.fp_extract.specs.declared.seed.node.Node.TheVariants.{Roots, Named, Below, Fields}

-- ---- nodes

abbrev pub number : Node → ℕ
number Roots = 0
number (Named name) = 3 * name + 1
number (Below name) = 3 * name + 2
number (Fields name) = 3 * name + 3

-- as many nodes as so many names have
abbrev pub node_count : (names : ℕ) → ℕ
node_count names = 3 * names + 1

-- the node's name is one of the first so many
abbrev pub IsNodeWithin : (names : ℕ) → Node → Type 0
IsNodeWithin names Roots = Unit {0}
IsNodeWithin names (Named name) = name < names
IsNodeWithin names (Below name) = name < names
IsNodeWithin names (Fields name) = name < names

-- a table holds no more names
abbrev pub most_names : ℕ
most_names = 16777216

abbrev pub IsKindWithin : (names : ℕ) → Kind → Type 0
IsKindWithin names k = IfSome (class_of_kind k) (λ name. name < names)

pub record IsClassWithin (names : ℕ) (c : Class) : Type 0 where
  pub name : c.name < names
  pub parent : IfSome c.parent (λ n. n < names)
  pub interfaces : All (λ n. n < names) c.interfaces
  pub fields : All (λ f. IsKindWithin names f.kind) c.fields

-- ---- edges

abbrev pub edge : Node → Node → Edge
edge from to = (number from, number to, false)

abbrev pub type_edges : Node → (names : List ℕ) → List Edge
type_edges from names = map (λ name. edge from (Named name)) names

-- what goes by the name of an interface is what goes by that of a class with this superinterface
abbrev pub interface_edges : (name : ℕ) → (interfaces : List ℕ) → List Edge
interface_edges name interfaces = map (λ interface. edge (Named interface) (Named name)) interfaces

-- the class of the name itself, and its fields where it has objects
abbrev pub own_edges : Class → List Edge
own_edges c = edge (Named c.name) (Below c.name) ∷ (if is_concrete c then edge (Below c.name) (Fields c.name) ∷ [] else [])

-- what is below a superclass is so by superclasses alone; a superclass's fields are those of its subclasses too
abbrev pub superclass_edges : (name parent : ℕ) → List Edge
superclass_edges name parent = edge (Named parent) (Below parent) ∷ edge (Below parent) (Below name) ∷ edge (Fields name) (Fields parent) ∷ []

abbrev pub class_edges : Class → List Edge
class_edges c =
    interface_edges c.name c.interfaces
    ++ (own_edges c ++ (option_map_or (superclass_edges c.name) c.parent [] ++ type_edges (Fields c.name) (instance_types c.fields)))

unfoldable pub seed_edges : List Class → (roots : List ℕ) → List Edge
seed_edges classes roots = type_edges Roots (flat_map (root_types classes) roots) ++ flat_map class_edges classes

-- ---- what is reached

-- whether each node is reached from node 0
abbrev pub reach_problem : (nodes : ℕ) → List Edge → Problem Bool
reach_problem nodes edges = record {
  lattice = bools;
  nodes = nodes;
  edges = edges;
  carry = λ _ reached. reached;
  bottom = false;
  first = λ p. p == 0;
}

-- the flags tell which nodes edges lead to
pub record AreReached (edges : List Edge) (flags : List Bool) : Type 0 where
  pub marked : (p : ℕ) → Reaches edges p → IsTrue (slice_index_or flags p false)
  pub reaches : (p : ℕ) → IsTrue (slice_index_or flags p false) → Reaches edges p

-- the class of a number has objects, and is reached
abbrev pub is_reached : List Class → List Bool → (class : ℕ) → Bool
is_reached classes flags class = option_map_or (λ c. is_concrete c && slice_index_or flags (number (Below c.name)) false) (slice_get classes class) false
