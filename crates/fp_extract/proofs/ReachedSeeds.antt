-- The classes that the graph reaches are the seed classes.
use Rattle.std.proofs.Common.{◌≡◌, ◌==◌, ◌<◌, ◌&&◌, nat_lt, ℕ, zero, suc, Bool, true, false, IsTrue, List, ◌∷◌, ◌++◌, Option, Some, None, filter, length, slice_index_or, refl, sym, ap, subst, ◌∙◌, inl, inr, arith}
use Rattle.std.specs.Prelude.{slice_get}
use Rattle.std.specs.List.{flat_map, range_with_len}
use Rattle.std.specs.List.Sorted.{IsPermutation, IsStrictlyIncreasing}
use Rattle.std.specs.Option.{option_map_or}
use Rattle.std.proofs.lemmas.Bool.{lt-ltb}
use Rattle.std.proofs.lemmas.List.Sorted.{All-permutation, IsPermutation-sym}
use Rattle.std.proofs.lemmas.Option.{slice_get_within}
use Rattle.fp_model.specs.declared.class.Class.{Class}
use Rattle.fp_model.specs.ClassSet.{IsSet, SetView}
use Rattle.fp_eqs.specs.Tests.{both, either, left, parts, place-here, right, same-place}
use Rattle.fp_facts.specs.Dataflow.{Edge, Reaches}
use Rattle.fp_facts.specs.Dataflow.Reaches.{along, start}
use Rattle.fp_facts.specs.Hierarchy.{AreClosed, ancestors, fits, has_number, is_concrete, superclasses}
use Rattle.fp_facts.specs.Seeds.{field_types, is_within, root_types, seeds, seeds_after}
use Rattle.fp_facts.proofs.ClosedAncestors.{ancestors-closed}
use Rattle.fp_facts.proofs.Reached.{reaches-kept}
use Rattle.fp_facts.proofs.SeedRounds.{least-seeds}
use Rattle.fp_hier.proofs.AscendingLists.{filter-rises, has-filter_range, same-members, same-test}
use Rattle.fp_extract.specs.SeedGraph.{AreReached, is_reached, number, seed_edges}
use Rattle.fp_extract.specs.declared.seed.node.Node.{Node}
use Rattle.fp_extract.specs.declared.seed.node.Node.TheVariants.{Roots, Named, Below, Fields}
use Rattle.fp_extract.proofs.DirectSteps.{fits-keep, superclasses-keep}
use Rattle.fp_extract.proofs.FieldTypes.{class-at-name, field-type, field-type-made, named, same-class, within-made, within-type}
use Rattle.fp_extract.proofs.SeedWays.{HoldsOfWays, edges-of_ways, ways-follow, ways-of_edges}

-- ---- numbers of nodes

-- nodes of one number are one
number-tells : (a b : Node) → number a ≡ number b → a ≡ b
number-tells Roots Roots h = refl
number-tells Roots (Named n) h = absurd (omega (arith, h))
number-tells Roots (Below n) h = absurd (omega (arith, h))
number-tells Roots (Fields n) h = absurd (omega (arith, h))
number-tells (Named m) Roots h = absurd (omega (arith, h))
number-tells (Named m) (Named n) h = ap Named (omega (arith, h))
number-tells (Named m) (Below n) h = absurd (omega (arith, h))
number-tells (Named m) (Fields n) h = absurd (omega (arith, h))
number-tells (Below m) Roots h = absurd (omega (arith, h))
number-tells (Below m) (Named n) h = absurd (omega (arith, h))
number-tells (Below m) (Below n) h = ap Below (omega (arith, h))
number-tells (Below m) (Fields n) h = absurd (omega (arith, h))
number-tells (Fields m) Roots h = absurd (omega (arith, h))
number-tells (Fields m) (Named n) h = absurd (omega (arith, h))
number-tells (Fields m) (Below n) h = absurd (omega (arith, h))
number-tells (Fields m) (Fields n) h = ap Fields (omega (arith, h))

module _ (set : SetView) (valid : IsSet set) (roots : List ℕ) where
  abbrev types : List ℕ
  types = flat_map (root_types set.classes) roots

  -- ---- what is a seed is reached

  module _ (edges : List Edge) (ways : HoldsOfWays set.classes roots (λ from to. Reaches edges (number from) → Reaches edges (number to))) where
    -- what is reached leads to what is below the class
    abbrev LeadsTo : Class → Node → Type 0
    LeadsTo c node = Reaches edges (number node) → Reaches edges (number (Below c.name))

    fitting-reached : (id type : ℕ) (c : Class) → slice_get set.classes id ≡ Some c → IsTrue (fits set.classes c type) → LeadsTo c (Named type)
    fitting-reached id type c there fit =
        fits-keep set.classes (λ name. LeadsTo c (Below name) × LeadsTo c (Named name)) (λ name. LeadsTo c (Named name))
        (λ name above d leads is up.
        let n = named set.classes name d is in
        let below : LeadsTo c (Below d.name) = subst (λ m. LeadsTo c (Below m)) (sym n.name_is) leads.0 in
        let higher : LeadsTo c (Below above) = λ r. below (ways.subclass n.place above d n.there up r) in
        (higher, λ r. higher (ways.superclass n.place above d n.there up r)))
        (λ name leads. leads.1)
        (λ name above d leads is listed.
        let n = named set.classes name d is in
        λ r. leads (subst (λ m. Reaches edges (number (Named m))) n.name_is (ways.interface n.place above d n.there listed r)))
        c (class-at-name set id c valid there) (λ r. r, λ r. ways.own id c there r) type fit

    fields-reached : (id type : ℕ) (c : Class) → slice_get set.classes id ≡ Some c → IsTrue (is_concrete c) → Reaches edges (number (Below c.name)) → IsTrue (has_number (field_types set.classes id) type) → Reaches edges (number (Named type))
    fields-reached id type c there concrete reached h =
        let f = field-type set.classes id type c there h in
        let own : Reaches edges (number (Fields c.name)) = ways.objects id c there concrete reached in
        let above : Reaches edges (number (Fields f.name)) =
        elim (either (c.name == f.name) (has_number (superclasses set.classes c) f.name) f.listed) [
          | inl same ↦ subst (λ m. Reaches edges (number (Fields m))) (same-place c.name f.name same) own
          | inr higher ↦ superclasses-keep set.classes (λ name. Reaches edges (number (Fields name)))
              (λ name up d r is parent.
              let n = named set.classes name d is in
              ways.inherited n.place up d n.there parent (subst (λ m. Reaches edges (number (Fields m))) (sym n.name_is) r))
              c (class-at-name set id c valid there) own f.name higher
        ] in
        let n = named set.classes f.name f.class f.is in
        ways.field n.place type f.class n.there f.typed (subst (λ m. Reaches edges (number (Fields m))) (sym n.name_is) above)

    module _ (flags : List Bool) (told : AreReached edges flags) where
      reached-made : (id : ℕ) (c : Class) → slice_get set.classes id ≡ Some c → IsTrue (is_concrete c) → Reaches edges (number (Below c.name)) → IsTrue (is_reached set.classes flags id)
      reached-made id c there concrete r =
          subst (λ (o : Option Class). IsTrue (option_map_or (λ d. is_concrete d && slice_index_or flags (number (Below d.name)) false) o false)) (sym there)
          (both (is_concrete c) (slice_index_or flags (number (Below c.name)) false) concrete (told.marked (number (Below c.name)) r))

      within-reached : (names : List ℕ) (id : ℕ) → ((type : ℕ) → IsTrue (has_number names type) → Reaches edges (number (Named type))) → IsTrue (is_within set.classes names id) → IsTrue (is_reached set.classes flags id)
      within-reached names id all h =
          let w = within-type set.classes names id h in
          reached-made id w.class w.there w.concrete (fitting-reached id w.type w.class w.there w.fit (all w.type w.listed))

      pub seed-reached : (id : ℕ) → IsTrue (has_number (seeds set.classes roots) id) → IsTrue (is_reached set.classes flags id)
      seed-reached =
          (least-seeds set.classes roots).least (is_reached set.classes flags)
          (λ id h. within-reached types id (λ type listed. ways.root type listed start) h)
          (λ id field h by. closed id field h by (slice_get set.classes id) refl h)
        where
          closed : (id field : ℕ) → IsTrue (is_reached set.classes flags id) → IsTrue (is_within set.classes (field_types set.classes id) field) → (found : Option Class) → slice_get set.classes id ≡ found →
              IsTrue (option_map_or (λ d. is_concrete d && slice_index_or flags (number (Below d.name)) false) found false) → IsTrue (is_reached set.classes flags field)
          closed id field h by None is at = let wrong : false ≡ true = at in absurd cc
          closed id field h by (Some c) is at =
              let p = parts (is_concrete c) (slice_index_or flags (number (Below c.name)) false) at in
              within-reached (field_types set.classes id) field (λ type listed. fields-reached id type c is p.0 (told.reaches (number (Below c.name)) p.1) listed) by

  -- ---- what is reached is a seed

  abbrev IsSeed : ℕ → Type 0
  IsSeed id = IsTrue (has_number (seeds set.classes roots) id)

  -- the concrete classes that go by the name are seeds, or those that have it or a superclass of it
  abbrev AreSeedsAt : ℕ → Type 0
  AreSeedsAt name = (id : ℕ) (c : Class) → slice_get set.classes id ≡ Some c → IsTrue (is_concrete c) → IsTrue (fits set.classes c name) → IsSeed id

  abbrev AreSeedsBelow : ℕ → Type 0
  AreSeedsBelow name = (id : ℕ) (c : Class) → slice_get set.classes id ≡ Some c → IsTrue (is_concrete c) → IsTrue (has_number (c.name ∷ superclasses set.classes c) name) → IsSeed id

  -- what node stands for is among the seeds
  abbrev IsOfSeeds : Node → Type 0
  IsOfSeeds Roots = Unit {0}
  IsOfSeeds (Named name) = AreSeedsAt name
  IsOfSeeds (Below name) = AreSeedsBelow name
  IsOfSeeds (Fields name) = (id type : ℕ) (c : Class) → slice_get set.classes id ≡ Some c → c.name ≡ name → IsTrue (has_number (field_types set.classes id) type) → AreSeedsAt type

  closed-at : (id : ℕ) (c : Class) → slice_get set.classes id ≡ Some c → AreClosed set.classes c
  closed-at id c there = ancestors-closed set.classes valid.sound id c there

  -- a class whose own or superclass's name is that of another has its superclass
  superclass-above : (i j above : ℕ) (c d : Class) → slice_get set.classes i ≡ Some c → slice_get set.classes j ≡ Some d → c.parent ≡ Some above → IsTrue (has_number (d.name ∷ superclasses set.classes d) c.name) →
      IsTrue (has_number (superclasses set.classes d) above)
  superclass-above i j above c d here there up h =
      elim (either (d.name == c.name) (has_number (superclasses set.classes d) c.name) h) [
        | inl same ↦ (closed-at j d there).superclass above (ap (λ (e : Class). e.parent) (same-class set j i d c valid there here (same-place d.name c.name same)) ∙ up)
        | inr higher ↦ (closed-at j d there).superclasses_above c.name above c higher (class-at-name set i c valid here) up
      ]

  -- and what goes by its name goes by those of its superinterfaces
  interface-above : (i j above : ℕ) (c d : Class) → slice_get set.classes i ≡ Some c → slice_get set.classes j ≡ Some d → IsTrue (has_number c.interfaces above) → IsTrue (fits set.classes d c.name) → IsTrue (fits set.classes d above)
  interface-above i j above c d here there listed h =
      right (d.name == above) (has_number (ancestors set.classes d) above)
      (elim (either (d.name == c.name) (has_number (ancestors set.classes d) c.name) h) [
        | inl same ↦ (closed-at j d there).interfaces above
            (subst (λ (e : Class). IsTrue (has_number e.interfaces above)) (sym (same-class set j i d c valid there here (same-place d.name c.name same))) listed)
        | inr higher ↦ (closed-at j d there).interfaces_above c.name above c higher (class-at-name set i c valid here) listed
      ])

  below-fits : (id name : ℕ) (c : Class) → slice_get set.classes id ≡ Some c → IsTrue (has_number (c.name ∷ superclasses set.classes c) name) → IsTrue (fits set.classes c name)
  below-fits id name c there h =
      elim (either (c.name == name) (has_number (superclasses set.classes c) name) h) [
        | inl same ↦ left (c.name == name) (has_number (ancestors set.classes c) name) same
        | inr higher ↦ right (c.name == name) (has_number (ancestors set.classes c) name) ((closed-at id c there).superclasses_among name higher)
      ]

  own-listed : (c : Class) → IsTrue (has_number (c.name ∷ superclasses set.classes c) c.name)
  own-listed c = left (c.name == c.name) (has_number (superclasses set.classes c) c.name) (place-here c.name)

  -- the types of a superclass's fields are those of the class's too
  inherited-type : (i j type : ℕ) (c d : Class) → slice_get set.classes i ≡ Some c → slice_get set.classes j ≡ Some d → c.parent ≡ Some d.name → IsTrue (has_number (field_types set.classes j) type) → IsTrue (has_number (field_types set.classes i) type)
  inherited-type i j type c d here there up h =
      let f = field-type set.classes j type d there h in
      let first : IsTrue (has_number (superclasses set.classes c) d.name) = (closed-at i c here).superclass d.name up in
      let higher : IsTrue (has_number (superclasses set.classes c) f.name) =
      elim (either (d.name == f.name) (has_number (superclasses set.classes d) f.name) f.listed) [
        | inl same ↦ subst (λ m. IsTrue (has_number (superclasses set.classes c) m)) (same-place d.name f.name same) first
        | inr above ↦ superclasses-keep set.classes (λ name. IsTrue (has_number (superclasses set.classes c) name))
            (λ name next e listed is parent. (closed-at i c here).superclasses_above name next e listed is parent)
            d (class-at-name set j d valid there) first f.name above
      ] in
      field-type-made set.classes i f.name type c f.class here (right (c.name == f.name) (has_number (superclasses set.classes c) f.name) higher) f.is f.typed

  ways-of_seeds : HoldsOfWays set.classes roots (λ from to. IsOfSeeds from → IsOfSeeds to)
  ways-of_seeds =
      let least = least-seeds set.classes roots in
      record {
        root = λ type listed _ id c there concrete fit. least.holds_roots id (within-made set.classes types id type c there concrete listed fit);
        interface = λ i above c here listed seeds_above id d there concrete fit. seeds_above id d there concrete (interface-above i id above c d here there listed fit);
        own = λ i c here seeds_at id d there concrete h. seeds_at id d there concrete (below-fits id c.name d there h);
        objects = λ i c here concrete seeds_below id type d there same listed.
            let is : d ≡ c = same-class set id i d c valid there here same in
            let seed : IsSeed id = seeds_below id d there (subst (λ (e : Class). IsTrue (is_concrete e)) (sym is) concrete) (subst (λ m. IsTrue (has_number (d.name ∷ superclasses set.classes d) m)) same (own-listed d)) in
            λ j e at objects fit. least.closed id j seed (within-made set.classes (field_types set.classes id) j type e at objects listed fit);
        superclass = λ i above c here up seeds_at id d there concrete h. seeds_at id d there concrete (below-fits id above d there h);
        subclass = λ i above c here up seeds_below id d there concrete h.
            seeds_below id d there concrete (right (d.name == above) (has_number (superclasses set.classes d) above) (superclass-above i id above c d here there up h));
        inherited = λ i above c here up fields id type d there same listed.
            fields i type c here refl (inherited-type i id type c d here there (up ∙ ap Some (sym same)) listed);
        field = λ i type c here typed fields.
            fields i type c here refl (field-type-made set.classes i c.name type c c here (own-listed c) (class-at-name set i c valid here) typed);
      }

  module _ (edges : List Edge) (same : IsPermutation (seed_edges set.classes roots) edges) where
    -- what every node of a number stands for is among the seeds
    abbrev AllOfSeeds : ℕ → Type 0
    AllOfSeeds p = (node : Node) → p ≡ number node → IsOfSeeds node

    reached-seeds : (node : Node) → Reaches edges (number node) → IsOfSeeds node
    reached-seeds node r =
        reaches-kept edges AllOfSeeds
        (λ node is. subst IsOfSeeds (number-tells Roots node is) tt)
        (All-permutation (λ (e : Edge). AllOfSeeds e.0 → AllOfSeeds e.1) (seed_edges set.classes roots) edges same
        (edges-of_ways (λ p q. AllOfSeeds p → AllOfSeeds q) set.classes roots
        (ways-follow set.classes roots (λ from to. IsOfSeeds from → IsOfSeeds to) (λ from to. AllOfSeeds (number from) → AllOfSeeds (number to))
        (λ from to step all node is. subst IsOfSeeds (number-tells to node is) (step (all from refl))) ways-of_seeds)))
        (number node) r node refl

    ways-reached : HoldsOfWays set.classes roots (λ from to. Reaches edges (number from) → Reaches edges (number to))
    ways-reached =
        ways-of_edges (λ p q. Reaches edges p → Reaches edges q) set.classes roots
        (All-permutation (λ (e : Edge). Reaches edges e.0 → Reaches edges e.1) edges (seed_edges set.classes roots) (IsPermutation-sym (seed_edges set.classes roots) edges same)
        (λ k e in_edges r. along k e in_edges r))

    module _ (flags : List Bool) (told : AreReached edges flags) where
      reached-seed : (id : ℕ) (found : Option Class) → slice_get set.classes id ≡ found → IsTrue (option_map_or (λ d. is_concrete d && slice_index_or flags (number (Below d.name)) false) found false) → IsSeed id
      reached-seed id None is h = let wrong : false ≡ true = h in absurd cc
      reached-seed id (Some c) is h =
          let p = parts (is_concrete c) (slice_index_or flags (number (Below c.name)) false) h in
          reached-seeds (Below c.name) (told.reaches (number (Below c.name)) p.1) id c is p.0 (own-listed c)

      reached-known : (id : ℕ) (found : Option Class) → slice_get set.classes id ≡ found → IsTrue (option_map_or (λ d. is_concrete d && slice_index_or flags (number (Below d.name)) false) found false) → id < length set.classes
      reached-known id None is h = let wrong : false ≡ true = h in absurd cc
      reached-known id (Some c) is h = slice_get_within set.classes id c is

      seeds-rise : (names : List ℕ) (rounds : ℕ) → IsStrictlyIncreasing (seeds_after set.classes names rounds)
      unfolding seeds_after
      seeds-rise names zero = filter-rises (is_within set.classes names) (length set.classes)
      seeds-rise names (suc rounds) = filter-rises (is_within set.classes (names ++ flat_map (field_types set.classes) (seeds_after set.classes names rounds))) (length set.classes)

      pub reached-are : filter (is_reached set.classes flags) (range_with_len 0 (length set.classes)) ≡ seeds set.classes roots
      reached-are =
          let reached : ℕ → Bool = is_reached set.classes flags in
          same-members (filter reached (range_with_len 0 (length set.classes))) (seeds set.classes roots) (filter-rises reached (length set.classes)) (seeds-rise types (length set.classes))
          (λ id. has-filter_range reached (length set.classes) id
          ∙ same-test (reached id && nat_lt id (length set.classes)) (has_number (seeds set.classes roots) id)
          (λ h. reached-seed id (slice_get set.classes id) refl (parts (reached id) (nat_lt id (length set.classes)) h).0)
          (λ h. let at = seed-reached edges ways-reached flags told id h in
          both (reached id) (nat_lt id (length set.classes)) at (lt-ltb id (length set.classes) (reached-known id (slice_get set.classes id) refl at))))
