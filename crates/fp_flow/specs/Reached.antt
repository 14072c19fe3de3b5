-- Which nodes are reached by edges that lead to no exception handler: the small dataflow problem that tests solve.
use Rattle.std.specs.Prelude.{◌≡◌, ◌<◌, ◌≤◌, ◌&&◌, ◌||◌, ℕ, Bool, true, false, not, IsTrue, List, length, nat_lt, cond, refl, slice_index_or}
use Rattle.std.specs.List.{list_all}
use Rattle.std.proofs.Common.{arith}
use Rattle.std.proofs.lemmas.Bool.{ltb-true, and_parts}
use Rattle.std.proofs.lemmas.List.{get_or_past}
use Rattle.std.proofs.lemmas.List.Elements.{All-weaker}
use Rattle.std.proofs.lemmas.List.Sums.{AllPass-from_list_all}
use Rattle.fp_facts.specs.Lattices.{Lattice, IsLattice}
use Rattle.fp_facts.specs.Dataflow.{Edge, Problem, IsLawful}

-- whether a node is reached: no comes before yes
abbrev pub answers : Lattice Bool
answers = record {
  join = λ x y. x || y;
  height = λ x. cond x 1 0;
  most = 1;
  fits = λ _. true;
}

-- those that are reached at first, and along edges to no handler
abbrev pub reached : List Edge → List Bool → Problem Bool
reached edges first = record {
  lattice = answers;
  nodes = length first;
  edges = edges;
  carry = λ e x. not e.2 && x;
  bottom = false;
  first = λ p. slice_index_or first p false;
}

-- whether every edge leads from a node to a node
abbrev pub keeps_within : ℕ → List Edge → Bool
keeps_within nodes edges = list_all (λ e. nat_lt e.0 nodes && nat_lt e.1 nodes) edges

or-associative : (x y z : Bool) → ((x || y) || z) ≡ (x || (y || z))
or-associative true y z = refl
or-associative false y z = refl

or-commutative : (x y : Bool) → (x || y) ≡ (y || x)
or-commutative true true = refl
or-commutative true false = refl
or-commutative false true = refl
or-commutative false false = refl

or-idempotent : (x : Bool) → (x || x) ≡ x
or-idempotent true = refl
or-idempotent false = refl

height-most : (x : Bool) → cond x 1 0 ≤ 1
height-most true = omega arith
height-most false = omega arith

height-grows : (x y : Bool) → (x || y) ≡ y → cond x 1 0 ≤ cond y 1 0
height-grows true true h = omega arith
height-grows true false h = absurd (cc)
height-grows false y h = omega arith

height-same : (x y : Bool) → (x || y) ≡ y → cond y 1 0 ≤ cond x 1 0 → x ≡ y
height-same true true h le = refl
height-same true false h le = absurd (cc)
height-same false true h le = absurd (omega arith)
height-same false false h le = refl

and-grows : (passes x y : Bool) → (x || y) ≡ y → ((passes && x) || (passes && y)) ≡ (passes && y)
and-grows true x y h = h
and-grows false x y h = refl

answers-lattice : IsLattice answers
answers-lattice = record {
  associative = or-associative;
  commutative = or-commutative;
  idempotent = or-idempotent;
  fits_join = λ x y h k. refl;
  height_most = λ x h. height-most x;
  height_grows = λ x y h k below. height-grows x y below;
  height_same = λ x y h k below le. height-same x y below le;
}

pub reached-lawful : (edges : List Edge) (first : List Bool) → IsTrue (keeps_within (length first) edges) → IsLawful (reached edges first)
reached-lawful edges first within = record {
  lattice = answers-lattice;
  fits = λ e x h. refl;
  monotone = λ e x y below. and-grows (not e.2) x y below;
  edges_within = All-weaker (λ (e : Edge). (nat_lt e.0 (length first) && nat_lt e.1 (length first)) ≡ true) (λ (e : Edge). (e.0 < length first) × (e.1 < length first))
      (λ e h. let parts = and_parts (nat_lt e.0 (length first)) (nat_lt e.1 (length first)) h in (ltb-true _ _ parts.0, ltb-true _ _ parts.1)) edges
      (AllPass-from_list_all (λ (e : Edge). nat_lt e.0 (length first) && nat_lt e.1 (length first)) edges within);
  first_fits = λ p. refl;
  first_within = λ p past. get_or_past first p false past;
}
