-- A code has no more edges than are counted before any is made.
use Rattle.std.proofs.Common.{◌≡◌, ◌≤◌, ◌<◌, ◌+◌, ◌-◌, ◌&&◌, ◌++◌, ℕ, Bool, true, false, ◌^◌, min, List, [], ◌∷◌, Result, Ok, Err, MatchResult, map, filter, length, get_or, take, nat_lt, nat_le, cond, refl, sym, ap, ◌∙◌, arith, zero, suc, inl, inr, length-append}
use Rattle.std.specs.Prelude.{sum_by}
use Rattle.std.proofs.lemmas.Bool.{cases_lt, lt-ltb, le-ltb, lt-leb}
use Rattle.std.proofs.lemmas.List.{length-map, take_all}
use Rattle.std.proofs.lemmas.List.Sums.{sum_by-cons, sum_by_more}
use Rattle.fp_model.specs.declared.class.Code.{Code}
use Rattle.fp_model.specs.declared.class.Guard.{Guard}
use Rattle.fp_model.specs.declared.class.instr.Instr.{Instr}
use Rattle.fp_model.specs.SoundCode.{ascend_from_0, branches_to, pcs_of}
use Rattle.fp_facts.specs.Dataflow.{Edge}
use Rattle.fp_facts.specs.Edges.{branch_edges, covers, edges_behind, edges_from, edges_of, falls_through, handler_edges, next_edges, number_at}
use Rattle.fp_flow.specs.EdgeCounts.{IsCount, count_before, covered_count, most_edges, plain_count}
use Rattle.fp_flow.proofs.RisingOffsets.{IsFound, offsets-not_fall, offsets-rise}

abbrev one_if : Bool → ℕ
one_if b = cond b 1 0

count-cons : (p : ℕ) (pcs : List ℕ) (pc : ℕ) → count_before (p ∷ pcs) pc ≡ one_if (nat_lt p pc) + count_before pcs pc
count-cons p pcs pc = sum_by-cons (λ other. cond (nat_lt other pc) 1 0) p pcs

-- ---- how many stand before an offset

pub count-is : (pcs : List ℕ) (pc i : ℕ) → i ≤ length pcs → ((k : ℕ) → k < i → get_or pcs k 0 < pc) → ((k : ℕ) → i ≤ k → k < length pcs → pc ≤ get_or pcs k 0) → count_before pcs pc ≡ i
count-is [] pc i le before behind = omega (arith, le)
count-is (p ∷ pcs) pc zero le before behind =
    let here : nat_lt p pc ≡ false = le-ltb p pc (behind 0 (omega arith) (omega arith)) in
    let rest : count_before pcs pc ≡ 0 = count-is pcs pc zero (omega arith) (λ k lt. absurd (omega (arith, lt))) (λ k from to. behind (suc k) (omega arith) (omega (arith, to))) in
    count-cons p pcs pc ∙ ap (λ b. one_if b + count_before pcs pc) here ∙ omega (arith, rest)
count-is (p ∷ pcs) pc (suc i) le before behind =
    let here : nat_lt p pc ≡ true = lt-ltb p pc (before 0 (omega arith)) in
    let rest : count_before pcs pc ≡ i = count-is pcs pc i (omega (arith, le)) (λ k lt. before (suc k) (omega (arith, lt))) (λ k from to. behind (suc k) (omega (arith, from)) (omega (arith, to))) in
    count-cons p pcs pc ∙ ap (λ b. one_if b + count_before pcs pc) here ∙ omega (arith, rest)

-- what a binary search finds is how many stand before
pub count-found : (pcs : List ℕ) (pc : ℕ) (r : Result ℕ ℕ) → ascend_from_0 pcs ≡ true → IsFound pcs pc r → MatchResult r (λ i. i ≡ count_before pcs pc) (λ i. i ≡ count_before pcs pc)
count-found pcs pc (Ok i) h found =
    sym (count-is pcs pc i (omega (arith, found.0)) (λ k lt. omega (arith, offsets-rise pcs k i h lt found.0, found.1)) (λ k from to. omega (arith, offsets-not_fall pcs h i k from to, found.1)))
count-found pcs pc (Err i) h found =
    sym (count-is pcs pc i found.0 found.1 (λ k from to. omega (arith, found.2 k from to)))

-- ---- handlers

covers-most : (a b : Bool) → one_if (a && b) ≤ one_if b
covers-most true b = omega arith
covers-most false true = omega arith
covers-most false false = omega arith

-- an offset before the end of a row stands before its start, or is covered
one-covered : (pc start end : ℕ) → start ≤ end → one_if (nat_le start pc && nat_lt pc end) + one_if (nat_lt pc start) ≤ one_if (nat_lt pc end)
one-covered pc start end le =
    elim (cases_lt pc start) [
      | inl before ↦
          (let first : nat_lt pc start ≡ true = lt-ltb pc start before in
          let later : nat_lt pc end ≡ true = lt-ltb pc end (omega (arith, before, le)) in
          let past : nat_le start pc ≡ false = lt-leb start pc before in
          rw (first, later, past) (omega arith))
      | inr from ↦
          (let first : nat_lt pc start ≡ false = le-ltb pc start from in
          rw first (omega (arith, covers-most (nat_le start pc) (nat_lt pc end))))
    ]

none-covered : (pc start end : ℕ) → end < start → one_if (nat_le start pc && nat_lt pc end) ≡ 0
none-covered pc start end lt =
    elim (cases_lt pc start) [
      | inl before ↦ (let past : nat_le start pc ≡ false = lt-leb start pc before in rw past refl)
      | inr from ↦ (let first : nat_lt pc end ≡ false = le-ltb pc end (omega (arith, from, lt)) in rw first (both-false (nat_le start pc)))
    ]
  where
    both-false : (a : Bool) → one_if (a && false) ≡ 0
    both-false true = refl
    both-false false = refl

abbrev pcs_in : List (ℕ × Instr) → List ℕ
pcs_in instrs = map (λ i. i.0) instrs

-- so many instructions are covered by a row
abbrev covered : Guard → List (ℕ × Instr) → ℕ
covered row instrs = sum_by (λ i. one_if (covers i.0 row)) instrs

row-covers : (row : Guard) (instrs : List (ℕ × Instr)) → row.start ≤ row.end → covered row instrs + count_before (pcs_in instrs) row.start ≤ count_before (pcs_in instrs) row.end
row-covers row [] le = omega arith
row-covers row (i ∷ instrs) le =
    omega (
      arith,
      sum_by-cons (λ (i : ℕ × Instr). one_if (covers i.0 row)) i instrs,
      one-covered i.0 row.start row.end le,
      row-covers row instrs le,
      count-cons i.0 (pcs_in instrs) row.start,
      count-cons i.0 (pcs_in instrs) row.end,
    )

row-empty : (row : Guard) (instrs : List (ℕ × Instr)) → row.end < row.start → covered row instrs ≡ 0
row-empty row [] lt = refl
row-empty row (i ∷ instrs) lt = omega (arith, sum_by-cons (λ (i : ℕ × Instr). one_if (covers i.0 row)) i instrs, none-covered i.0 row.start row.end lt, row-empty row instrs lt)

row-most : (row : Guard) (instrs : List (ℕ × Instr)) → covered row instrs ≤ covered_count (pcs_in instrs) row
row-most row instrs =
    elim (cases_lt row.end row.start) [
      | inl empty ↦ omega (arith, row-empty row instrs empty)
      | inr some ↦ omega (arith, row-covers row instrs some)
    ]

-- so many rows cover each instruction
abbrev covering : List Guard → List (ℕ × Instr) → ℕ
covering rows instrs = sum_by (λ i. length (filter (covers i.0) rows)) instrs

length-filter-cons : (test : Guard → Bool) (row : Guard) (rows : List Guard) → length (filter test (row ∷ rows)) ≡ one_if (test row) + length (filter test rows)
length-filter-cons test row rows = by-test (test row)
  where
    by-test : (b : Bool) → length (cond b (row ∷ filter test rows) (filter test rows)) ≡ one_if b + length (filter test rows)
    by-test true = omega arith
    by-test false = omega arith

covering-none : (instrs : List (ℕ × Instr)) → covering [] instrs ≡ 0
covering-none [] = refl
covering-none (i ∷ instrs) = omega (arith, sum_by-cons (λ (i : ℕ × Instr). length (filter (covers i.0) [])) i instrs, covering-none instrs)

covering-cons : (row : Guard) (rows : List Guard) (instrs : List (ℕ × Instr)) → covering (row ∷ rows) instrs ≡ covered row instrs + covering rows instrs
covering-cons row rows [] = refl
covering-cons row rows (i ∷ instrs) =
    omega (
      arith,
      sum_by-cons (λ (i : ℕ × Instr). length (filter (covers i.0) (row ∷ rows))) i instrs,
      length-filter-cons (covers i.0) row rows,
      covering-cons row rows instrs,
      sum_by-cons (λ (i : ℕ × Instr). one_if (covers i.0 row)) i instrs,
      sum_by-cons (λ (i : ℕ × Instr). length (filter (covers i.0) rows)) i instrs,
    )

covering-most : (rows : List Guard) (instrs : List (ℕ × Instr)) → covering rows instrs ≤ sum_by (covered_count (pcs_in instrs)) rows
covering-most [] instrs = omega (arith, covering-none instrs)
covering-most (row ∷ rows) instrs =
    omega (arith, covering-cons row rows instrs, row-most row instrs, covering-most rows instrs, sum_by-cons (covered_count (pcs_in instrs)) row rows)

-- ---- all edges

next-most : (code : Code) (k : ℕ) (i : Instr) → length (next_edges code k i) ≤ one_if (falls_through i)
next-most code k i = by-tests (falls_through i) (nat_lt (k + 1) (length code.instrs))
  where
    by-tests : (a b : Bool) → length {A = Edge} (cond (a && b) ((k, k + 1, false) ∷ []) []) ≤ one_if a
    by-tests true true = omega arith
    by-tests true false = omega arith
    by-tests false b = omega arith

from-most : (code : Code) (k : ℕ) (i : ℕ × Instr) → length (edges_from code k i) ≤ plain_count i + length (filter (covers i.0) code.rows)
from-most code k i =
    omega (
      arith,
      length-append (next_edges code k i.1) (branch_edges code k i.1 ++ handler_edges code k i.0),
      length-append (branch_edges code k i.1) (handler_edges code k i.0),
      next-most code k i.1,
      length-map {B = Edge} (branches_to i.1) (λ pc. (k, number_at (pcs_of code) pc, false)),
      length-map {B = Edge} (filter (covers i.0) code.rows) (λ (g : Guard). (k, number_at (pcs_of code) g.handler, true)),
    )

behind-most : (code : Code) (k : ℕ) (instrs : List (ℕ × Instr)) → length (edges_behind code k instrs) ≤ sum_by plain_count instrs + covering code.rows instrs
unfolding edges_behind
behind-most code k [] = omega arith
behind-most code k (i ∷ instrs) =
    omega (
      arith,
      length-append (edges_from code k i) (edges_behind code (k + 1) instrs),
      from-most code k i,
      behind-most code (k + 1) instrs,
      sum_by-cons plain_count i instrs,
      sum_by-cons (λ (i : ℕ × Instr). length (filter (covers i.0) code.rows)) i instrs,
    )

pub edges-most : (code : Code) → length (edges_of code) ≤ most_edges code (pcs_of code)
unfolding edges_of
edges-most code = omega (arith, behind-most code 0 code.instrs, covering-most code.rows code.instrs)

-- ---- counting

-- one more is counted, as far as there is room
pub counted-more : {X : Type 0} (f : X → ℕ) (xs : List X) (i : ℕ) (d : X) (count new one : ℕ) → i < length xs → IsCount count (sum_by f (take i xs)) → one ≡ f (get_or xs i d) →
    new ≡ min (count + one) (2 ^ 64 - 1) → IsCount new (sum_by f (take (i + 1) xs))
counted-more f xs i d count new one lt so_far is step below =
    let less : count < 2 ^ 64 - 1 = omega (arith, step, below) in
    omega (arith, step, below, so_far less, is, sum_by_more f xs i d lt)

pub counted-all : {X : Type 0} (f : X → ℕ) (xs : List X) (i count : ℕ) → length xs ≤ i → IsCount count (sum_by f (take i xs)) → IsCount count (sum_by f xs)
counted-all f xs i count past so_far below = so_far below ∙ ap (λ l. sum_by f l) (take_all i xs past)

pub counted-both : (a b count total more : ℕ) → IsCount a total → IsCount b more → count ≡ min (a + b) (2 ^ 64 - 1) → IsCount count (total + more)
counted-both a b count total more first second step below =
    let less : a < 2 ^ 64 - 1 = omega (arith, step, below) in
    let last : b < 2 ^ 64 - 1 = omega (arith, step, below) in
    omega (arith, step, below, first less, second last)

-- the bound of the count bounds the edges
pub edges-few : (code : Code) (pcs : List ℕ) (count most : ℕ) (es : List Edge) → pcs ≡ pcs_of code → IsCount count (most_edges code pcs) → count ≤ most → most < 2 ^ 64 - 1 → es ≡ edges_of code → length es ≤ most
edges-few code pcs count most es is counted le small same =
    let total : count ≡ most_edges code pcs = counted (omega (arith, le, small)) in
    let all : length es ≡ length (edges_of code) = ap length same in
    let here : most_edges code pcs ≡ most_edges code (pcs_of code) = ap (λ l. most_edges code l) is in
    omega (arith, le, total, all, here, edges-most code)
