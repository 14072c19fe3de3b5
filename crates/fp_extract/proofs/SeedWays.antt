-- The edges of the graph, one way from a node to a node after the other.
use Rattle.std.proofs.Common.{◌≡◌, ◌==◌, ◌⊎◌, ℕ, zero, suc, Bool, true, false, IsTrue, List, [], ◌∷◌, ◌++◌, Option, Some, None, All, map, refl, subst, inl, inr, if◌then◌else◌}
use Rattle.std.specs.Prelude.{slice_get}
use Rattle.std.specs.List.{AllByRecursion, flat_map}
use Rattle.std.specs.Option.{option_map_or}
use Rattle.std.proofs.lemmas.List.Elements.{All-from_recursion, recursion_from_All}
use Rattle.fp_model.specs.declared.class.Class.{Class}
use Rattle.fp_eqs.specs.Tests.{either, left, right, same-place, place-here}
use Rattle.fp_facts.specs.Dataflow.{Edge}
use Rattle.fp_facts.specs.Hierarchy.{has_number, is_concrete}
use Rattle.fp_facts.specs.Seeds.{instance_types, root_types}
use Rattle.fp_extract.specs.SeedGraph.{class_edges, edge, interface_edges, number, own_edges, seed_edges, superclass_edges, type_edges}
use Rattle.fp_extract.specs.declared.seed.node.Node.{Node}
use Rattle.fp_extract.specs.declared.seed.node.Node.TheVariants.{Roots, Named, Below, Fields}

-- ---- each edge of a list

module _ (P : Edge → Type 0) where
  each-append : (xs ys : List Edge) → AllByRecursion P xs → AllByRecursion P ys → AllByRecursion P (xs ++ ys)
  each-append [] ys all more = more
  each-append (x ∷ xs) ys all more = (all.0, each-append xs ys all.1 more)

  each-first : (xs ys : List Edge) → AllByRecursion P (xs ++ ys) → AllByRecursion P xs
  each-first [] ys all = tt
  each-first (x ∷ xs) ys all = (all.0, each-first xs ys all.1)

  each-rest : (xs ys : List Edge) → AllByRecursion P (xs ++ ys) → AllByRecursion P ys
  each-rest [] ys all = all
  each-rest (x ∷ xs) ys all = each-rest xs ys all.1

  each-map : (f : ℕ → Edge) (names : List ℕ) → ((n : ℕ) → IsTrue (has_number names n) → P (f n)) → AllByRecursion P (map f names)
  each-map f [] all = tt
  each-map f (n ∷ names) all =
      (all n (left (n == n) (has_number names n) (place-here n)), each-map f names (λ m h. all m (right (n == m) (has_number names m) h)))

  each-named : (f : ℕ → Edge) (names : List ℕ) → AllByRecursion P (map f names) → (n : ℕ) → IsTrue (has_number names n) → P (f n)
  each-named f [] all n h = let wrong : false ≡ true = h in absurd cc
  each-named f (m ∷ names) all n h = by-parts (each-named f names all.1 n) (either (m == n) (has_number names n) h)
    where
      by-parts : (IsTrue (has_number names n) → P (f n)) → IsTrue (m == n) ⊎ IsTrue (has_number names n) → P (f n)
      by-parts rest (inl same) = subst (λ k. P (f k)) (same-place m n same) all.0
      by-parts rest (inr later) = rest later

  each-flat : (f : Class → List Edge) (classes : List Class) → ((id : ℕ) (c : Class) → slice_get classes id ≡ Some c → AllByRecursion P (f c)) → AllByRecursion P (flat_map f classes)
  each-flat f [] all = tt
  each-flat f (c ∷ classes) all =
      each-append (f c) (flat_map f classes) (all zero c refl) (each-flat f classes (λ id d there. all (suc id) d there))

  each-class : (f : Class → List Edge) (classes : List Class) → AllByRecursion P (flat_map f classes) → (id : ℕ) (c : Class) → slice_get classes id ≡ Some c → AllByRecursion P (f c)
  each-class f [] all id c there = absurd cc
  each-class f (d ∷ classes) all zero c there =
      let same : d ≡ c = cc in subst (λ e. AllByRecursion P (f e)) same (each-first (f d) (flat_map f classes) all)
  each-class f (d ∷ classes) all (suc id) c there = each-class f classes (each-rest (f d) (flat_map f classes) all) id c there

-- ---- the ways

-- what holds of each way between two nodes
pub record HoldsOfWays (classes : List Class) (roots : List ℕ) (P : Node → Node → Type 0) : Type 0 where
  pub root : (type : ℕ) → IsTrue (has_number (flat_map (root_types classes) roots) type) → P Roots (Named type)
  pub interface : (id above : ℕ) (c : Class) → slice_get classes id ≡ Some c → IsTrue (has_number c.interfaces above) → P (Named above) (Named c.name)
  pub own : (id : ℕ) (c : Class) → slice_get classes id ≡ Some c → P (Named c.name) (Below c.name)
  pub objects : (id : ℕ) (c : Class) → slice_get classes id ≡ Some c → IsTrue (is_concrete c) → P (Below c.name) (Fields c.name)
  pub superclass : (id above : ℕ) (c : Class) → slice_get classes id ≡ Some c → c.parent ≡ Some above → P (Named above) (Below above)
  pub subclass : (id above : ℕ) (c : Class) → slice_get classes id ≡ Some c → c.parent ≡ Some above → P (Below above) (Below c.name)
  pub inherited : (id above : ℕ) (c : Class) → slice_get classes id ≡ Some c → c.parent ≡ Some above → P (Fields c.name) (Fields above)
  pub field : (id type : ℕ) (c : Class) → slice_get classes id ≡ Some c → IsTrue (has_number (instance_types c.fields) type) → P (Fields c.name) (Named type)

pub ways-follow : (classes : List Class) (roots : List ℕ) (P Q : Node → Node → Type 0) → ((from to : Node) → P from to → Q from to) → HoldsOfWays classes roots P → HoldsOfWays classes roots Q
ways-follow classes roots P Q follows ways = record {
  root = λ type h. follows Roots (Named type) (ways.root type h);
  interface = λ id above c there h. follows (Named above) (Named c.name) (ways.interface id above c there h);
  own = λ id c there. follows (Named c.name) (Below c.name) (ways.own id c there);
  objects = λ id c there h. follows (Below c.name) (Fields c.name) (ways.objects id c there h);
  superclass = λ id above c there is. follows (Named above) (Below above) (ways.superclass id above c there is);
  subclass = λ id above c there is. follows (Below above) (Below c.name) (ways.subclass id above c there is);
  inherited = λ id above c there is. follows (Fields c.name) (Fields above) (ways.inherited id above c there is);
  field = λ id type c there h. follows (Fields c.name) (Named type) (ways.field id type c there h);
}

module _ (P : ℕ → ℕ → Type 0) where
  abbrev OfEdge : Edge → Type 0
  OfEdge e = P e.0 e.1

  abbrev OfWay : Node → Node → Type 0
  OfWay from to = P (number from) (number to)

  -- ---- from the edges to the ways

  abbrev rest_edges : Class → List Edge
  rest_edges c = option_map_or (superclass_edges c.name) c.parent [] ++ type_edges (Fields c.name) (instance_types c.fields)

  own-first : (c : Class) → AllByRecursion OfEdge (own_edges c) → OfWay (Named c.name) (Below c.name)
  own-first c all = all.0

  own-objects : (c : Class) (b : Bool) → AllByRecursion OfEdge (if b then edge (Below c.name) (Fields c.name) ∷ [] else []) → IsTrue b → OfWay (Below c.name) (Fields c.name)
  own-objects c true all h = all.0
  own-objects c false all h = absurd cc

  above-edges : (c : Class) (above : ℕ) → AllByRecursion OfEdge (option_map_or (superclass_edges c.name) c.parent []) → c.parent ≡ Some above → AllByRecursion OfEdge (superclass_edges c.name above)
  above-edges c above all is = subst (λ (o : Option ℕ). AllByRecursion OfEdge (option_map_or (superclass_edges c.name) o [])) is all

  pub ways-of_edges : (classes : List Class) (roots : List ℕ) → All OfEdge (seed_edges classes roots) → HoldsOfWays classes roots OfWay
  unfolding seed_edges
  ways-of_edges classes roots every =
      let types : List ℕ = flat_map (root_types classes) roots in
      let all = recursion_from_All OfEdge (seed_edges classes roots) every in
      let firsts = each-first OfEdge (type_edges Roots types) (flat_map class_edges classes) all in
      let rest = each-rest OfEdge (type_edges Roots types) (flat_map class_edges classes) all in
      let at : (id : ℕ) (c : Class) → slice_get classes id ≡ Some c → AllByRecursion OfEdge (class_edges c) = λ id c there. each-class OfEdge class_edges classes rest id c there in
      let behind : (id : ℕ) (c : Class) → slice_get classes id ≡ Some c → AllByRecursion OfEdge (own_edges c ++ rest_edges c) = λ id c there. each-rest OfEdge (interface_edges c.name c.interfaces) (own_edges c ++ rest_edges c) (at id c there) in
      let own : (id : ℕ) (c : Class) → slice_get classes id ≡ Some c → AllByRecursion OfEdge (own_edges c) = λ id c there. each-first OfEdge (own_edges c) (rest_edges c) (behind id c there) in
      let last : (id : ℕ) (c : Class) → slice_get classes id ≡ Some c → AllByRecursion OfEdge (rest_edges c) = λ id c there. each-rest OfEdge (own_edges c) (rest_edges c) (behind id c there) in
      let above : (id up : ℕ) (c : Class) → slice_get classes id ≡ Some c → c.parent ≡ Some up → AllByRecursion OfEdge (superclass_edges c.name up) = λ id up c there is. above-edges c up (each-first OfEdge (option_map_or (superclass_edges c.name) c.parent []) (type_edges (Fields c.name) (instance_types c.fields)) (last id c there)) is in
      record {
        root = λ type h. each-named OfEdge (λ name. edge Roots (Named name)) types firsts type h;
        interface = λ id up c there h. each-named OfEdge (λ interface. edge (Named interface) (Named c.name)) c.interfaces
            (each-first OfEdge (interface_edges c.name c.interfaces) (own_edges c ++ rest_edges c) (at id c there)) up h;
        own = λ id c there. own-first c (own id c there);
        objects = λ id c there h. own-objects c (is_concrete c) (own id c there).1 h;
        superclass = λ id up c there is. (above id up c there is).0;
        subclass = λ id up c there is. (above id up c there is).1.0;
        inherited = λ id up c there is. (above id up c there is).1.1.0;
        field = λ id type c there h. each-named OfEdge (λ name. edge (Fields c.name) (Named name)) (instance_types c.fields)
            (each-rest OfEdge (option_map_or (superclass_edges c.name) c.parent []) (type_edges (Fields c.name) (instance_types c.fields)) (last id c there)) type h;
      }

  -- ---- from the ways to the edges

  objects-edge : (c : Class) (b : Bool) → (IsTrue b → OfWay (Below c.name) (Fields c.name)) → AllByRecursion OfEdge (if b then edge (Below c.name) (Fields c.name) ∷ [] else [])
  objects-edge c true way = (way refl, tt)
  objects-edge c false way = tt

  parent-edges : (c : Class) (o : Option ℕ) → ((above : ℕ) → o ≡ Some above → AllByRecursion OfEdge (superclass_edges c.name above)) → AllByRecursion OfEdge (option_map_or (superclass_edges c.name) o [])
  parent-edges c None ways = tt
  parent-edges c (Some above) ways = ways above refl

  pub edges-of_ways : (classes : List Class) (roots : List ℕ) → HoldsOfWays classes roots OfWay → All OfEdge (seed_edges classes roots)
  unfolding seed_edges
  edges-of_ways classes roots ways =
      let types : List ℕ = flat_map (root_types classes) roots in
      All-from_recursion OfEdge (type_edges Roots types ++ flat_map class_edges classes)
      (each-append OfEdge (type_edges Roots types) (flat_map class_edges classes)
      (each-map OfEdge (λ name. edge Roots (Named name)) types ways.root)
      (each-flat OfEdge class_edges classes (λ id c there.
      each-append OfEdge (interface_edges c.name c.interfaces) (own_edges c ++ rest_edges c)
      (each-map OfEdge (λ interface. edge (Named interface) (Named c.name)) c.interfaces (λ up h. ways.interface id up c there h))
      (each-append OfEdge (own_edges c) (rest_edges c)
      (ways.own id c there, objects-edge c (is_concrete c) (ways.objects id c there))
      (each-append OfEdge (option_map_or (superclass_edges c.name) c.parent []) (type_edges (Fields c.name) (instance_types c.fields))
      (parent-edges c c.parent (λ up is. (ways.superclass id up c there is, (ways.subclass id up c there is, (ways.inherited id up c there is, tt)))))
      (each-map OfEdge (λ name. edge (Fields c.name) (Named name)) (instance_types c.fields) (λ type h. ways.field id type c there h)))))))
