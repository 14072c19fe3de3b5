-- The edges of the graph lead between its nodes.
use Rattle.std.proofs.Common.{◌≡◌, ◌<◌, ◌+◌, ◌*◌, ℕ, IfSome, All, List, [], ◌++◌, Option, Some, length, ap, subst, ◌∙◌, arith}
use Rattle.std.specs.List.{flat_map}
use Rattle.fp_model.specs.declared.class.Class.{Class}
use Rattle.fp_model.specs.ClassSet.{IsSet, SetView}
use Rattle.fp_facts.specs.Dataflow.{Edge}
use Rattle.fp_facts.specs.Seeds.{root_types}
use Rattle.fp_extract.specs.declared.seed.node.Node.{Node}
use Rattle.fp_extract.specs.declared.seed.node.Node.TheVariants.{Roots, Named, Below, Fields}
use Rattle.fp_extract.specs.SeedGraph.{IsNodeWithin, class_edges, number, seed_edges, type_edges}
use Rattle.fp_extract.proofs.RootTypes.{fields-listed, has-all, roots-listed}
use Rattle.fp_extract.proofs.SeedNames.{class-over, class-within}
use Rattle.fp_extract.proofs.SeedWays.{HoldsOfWays, edges-of_ways, ways-follow}

number-within : (names : ℕ) (node : Node) → IsNodeWithin names node → number node < 3 * names + 1
number-within names Roots within = omega arith
number-within names (Named name) within = omega (arith, within)
number-within names (Below name) within = omega (arith, within)
number-within names (Fields name) within = omega (arith, within)

given-within : (names above : ℕ) (o : Option ℕ) → o ≡ Some above → IfSome o (λ n. n < names) → above < names
given-within names above o is within = subst (λ p. IfSome p (λ n. n < names)) is within

module _ (set : SetView) (valid : IsSet set) (roots : List ℕ) where
  abbrev n : ℕ
  n = length set.names

  abbrev BothWithin : Node → Node → Type 0
  BothWithin from to = IsNodeWithin n from × IsNodeWithin n to

  ways-within : HoldsOfWays set.classes roots BothWithin
  ways-within = record {
    root = λ type h. (tt, roots-listed set valid roots type h);
    interface = λ id above c there h. (has-all (λ k. k < n) c.interfaces above (class-over set id c valid there).interfaces h, (class-over set id c valid there).name);
    own = λ id c there. ((class-over set id c valid there).name, (class-over set id c valid there).name);
    objects = λ id c there h. ((class-over set id c valid there).name, (class-over set id c valid there).name);
    superclass = λ id above c there is. (let up = given-within n above c.parent is (class-over set id c valid there).parent in (up, up));
    subclass = λ id above c there is. (given-within n above c.parent is (class-over set id c valid there).parent, (class-over set id c valid there).name);
    inherited = λ id above c there is. ((class-over set id c valid there).name, given-within n above c.parent is (class-over set id c valid there).parent);
    field = λ id type c there h. ((class-over set id c valid there).name, fields-listed n type c.fields (class-within set n id c valid (omega arith) there).fields h);
  }

  pub edges-within : All (λ (e : Edge). (e.0 < 3 * n + 1) × (e.1 < 3 * n + 1)) (seed_edges set.classes roots)
  edges-within =
      edges-of_ways (λ p q. (p < 3 * n + 1) × (q < 3 * n + 1)) set.classes roots
      (ways-follow set.classes roots BothWithin (λ from to. (number from < 3 * n + 1) × (number to < 3 * n + 1))
      (λ from to both. (number-within n from both.0, number-within n to both.1)) ways-within)

pub edges-told : (classes : List Class) (roots : List ℕ) (none some all : List Edge) → none ≡ [] → some ≡ none ++ type_edges Roots (flat_map (root_types classes) roots) → all ≡ some ++ flat_map class_edges classes → all ≡ seed_edges classes roots
unfolding seed_edges
edges-told classes roots none some all is first rest =
    rest ∙ ap (λ l. l ++ flat_map class_edges classes) (first ∙ ap (λ l. l ++ type_edges Roots (flat_map (root_types classes) roots)) is)
