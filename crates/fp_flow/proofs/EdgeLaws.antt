-- The edges of a code ascend by the instruction that they lead from, and those of a sound code keep to its instructions.
use Rattle.std.proofs.Common.{◌≡◌, ◌≤◌, ◌<◌, ◌+◌, ◌&&◌, ℕ, true, false, List, [], ◌∷◌, ◌++◌, All, filter, length, nat_lt, refl, arith}
use Rattle.std.specs.List.{list_all}
use Rattle.std.proofs.lemmas.Bool.{cond_both, and_parts, ltb-true}
use Rattle.std.proofs.lemmas.List.{length-map}
use Rattle.std.proofs.lemmas.List.Elements.{All-nil, All-cons, All-head, All-tail, All-append, All-map, All-filter, All-weaker}
use Rattle.std.proofs.lemmas.List.Sums.{AllPass-from_list_all}
use Rattle.fp_model.specs.declared.class.Code.{Code}
use Rattle.fp_model.specs.declared.class.Guard.{Guard}
use Rattle.fp_model.specs.declared.class.instr.Instr.{Instr}
use Rattle.fp_model.specs.SoundCode.{IsSoundCode, branches_to, is_pc, pcs_of}
use Rattle.fp_facts.specs.Dataflow.{Edge}
use Rattle.fp_facts.specs.Edges.{branch_edges, covers, edges_behind, edges_from, edges_of, falls_through, handler_edges, next_edges, number_at}
use Rattle.fp_flow.specs.Ascending.{IsAscending}
use Rattle.fp_flow.proofs.RisingOffsets.{number_at-within}

-- what holds of each edge from an instruction, by its three parts
from-all : (P : Edge → Type 0) (code : Code) (k : ℕ) (i : ℕ × Instr) → (k + 1 < length code.instrs → P (k, k + 1, false)) →
    All (λ pc. P (k, number_at (pcs_of code) pc, false)) (branches_to i.1) → All (λ g. P (k, number_at (pcs_of code) g.handler, true)) code.rows → All P (edges_from code k i)
from-all P code k i next branches handlers =
    All-append P (next_edges code k i.1) (branch_edges code k i.1 ++ handler_edges code k i.0)
    (cond_both (falls_through i.1 && nat_lt (k + 1) (length code.instrs)) ((k, k + 1, false) ∷ []) [] (λ es. All P es)
    (λ h. All-cons P (k, k + 1, false) [] (next (ltb-true (k + 1) (length code.instrs) (and_parts (falls_through i.1) (nat_lt (k + 1) (length code.instrs)) h).1)) (All-nil P))
    (λ _. All-nil P))
    (All-append P (branch_edges code k i.1) (handler_edges code k i.0)
    (All-map P (λ pc. (k, number_at (pcs_of code) pc, false)) (branches_to i.1) branches)
    (All-map P (λ (g : Guard). (k, number_at (pcs_of code) g.handler, true)) (filter (covers i.0) code.rows)
    (All-filter (covers i.0) (λ g. P (k, number_at (pcs_of code) g.handler, true)) code.rows handlers)))

-- ---- order

from-starts : (code : Code) (k : ℕ) (i : ℕ × Instr) → All (λ e. e.0 ≡ k) (edges_from code k i)
from-starts code k i = from-all (λ e. e.0 ≡ k) code k i (λ _. refl) (λ _ _ _. refl) (λ _ _ _. refl)

behind-starts : (code : Code) (k : ℕ) (instrs : List (ℕ × Instr)) → All (λ e. k ≤ e.0) (edges_behind code k instrs)
unfolding edges_behind
behind-starts code k [] = All-nil (λ e. k ≤ e.0)
behind-starts code k (i ∷ instrs) =
    All-append (λ e. k ≤ e.0) (edges_from code k i) (edges_behind code (k + 1) instrs)
    (All-weaker (λ e. e.0 ≡ k) (λ e. k ≤ e.0) (λ e h. omega arith) (edges_from code k i) (from-starts code k i))
    (All-weaker (λ e. k + 1 ≤ e.0) (λ e. k ≤ e.0) (λ e h. omega arith) (edges_behind code (k + 1) instrs) (behind-starts code (k + 1) instrs))

-- edges from one node before edges from later ones
ascending-append : (k : ℕ) (xs ys : List Edge) → All (λ e. e.0 ≡ k) xs → All (λ e. k ≤ e.0) ys → IsAscending ys → IsAscending (xs ++ ys)
ascending-append k [] ys here later ascending = ascending
ascending-append k (x ∷ xs) ys here later ascending =
    let first : x.0 ≡ k = All-head (λ e. e.0 ≡ k) x xs here in
    let rest = All-tail (λ e. e.0 ≡ k) x xs here in (
      All-append (λ f. x.0 ≤ f.0) xs ys
          (All-weaker (λ f. f.0 ≡ k) (λ f. x.0 ≤ f.0) (λ f h. omega arith) xs rest)
          (All-weaker (λ f. k ≤ f.0) (λ f. x.0 ≤ f.0) (λ f h. omega arith) ys later),
      ascending-append k xs ys rest later ascending,
    )

behind-ascending : (code : Code) (k : ℕ) (instrs : List (ℕ × Instr)) → IsAscending (edges_behind code k instrs)
unfolding edges_behind
behind-ascending code k [] = tt
behind-ascending code k (i ∷ instrs) =
    ascending-append k (edges_from code k i) (edges_behind code (k + 1) instrs) (from-starts code k i)
    (All-weaker (λ e. k + 1 ≤ e.0) (λ e. k ≤ e.0) (λ e h. omega arith) (edges_behind code (k + 1) instrs) (behind-starts code (k + 1) instrs))
    (behind-ascending code (k + 1) instrs)

pub edges-ascending : (code : Code) → IsAscending (edges_of code)
unfolding edges_of
edges-ascending code = behind-ascending code 0 code.instrs

-- ---- ends

abbrev IsWithin : Code → Edge → Type 0
IsWithin code e = (e.0 < length code.instrs) × (e.1 < length code.instrs)

pc-within : (code : Code) (pc : ℕ) → is_pc code pc ≡ true → number_at (pcs_of code) pc < length code.instrs
pc-within code pc h = omega (arith, number_at-within (pcs_of code) pc h, length-map code.instrs (λ (i : ℕ × Instr). i.0))

from-within : (code : Code) (k : ℕ) (i : ℕ × Instr) → k < length code.instrs → list_all (is_pc code) (branches_to i.1) ≡ true → list_all (λ g. is_pc code g.handler) code.rows ≡ true →
    All (IsWithin code) (edges_from code k i)
from-within code k i lt branches handlers =
    from-all (IsWithin code) code k i (λ next. (lt, next))
    (All-weaker (λ pc. is_pc code pc ≡ true) (λ pc. IsWithin code (k, number_at (pcs_of code) pc, false)) (λ pc h. (lt, pc-within code pc h)) (branches_to i.1)
    (AllPass-from_list_all (is_pc code) (branches_to i.1) branches))
    (All-weaker (λ (g : Guard). is_pc code g.handler ≡ true) (λ g. IsWithin code (k, number_at (pcs_of code) g.handler, true)) (λ g h. (lt, pc-within code g.handler h)) code.rows
    (AllPass-from_list_all (λ (g : Guard). is_pc code g.handler) code.rows handlers))

behind-within : (code : Code) (k : ℕ) (instrs : List (ℕ × Instr)) → k + length instrs ≡ length code.instrs → list_all (λ i. list_all (is_pc code) (branches_to i.1)) instrs ≡ true →
    list_all (λ g. is_pc code g.handler) code.rows ≡ true → All (IsWithin code) (edges_behind code k instrs)
unfolding edges_behind
behind-within code k [] long branches handlers = All-nil (IsWithin code)
behind-within code k (i ∷ instrs) long branches handlers =
    let known = and_parts (list_all (is_pc code) (branches_to i.1)) (list_all (λ i. list_all (is_pc code) (branches_to i.1)) instrs) branches in
    let lt : k < length code.instrs = omega arith in
    let rest : k + 1 + length instrs ≡ length code.instrs = omega arith in
    All-append (IsWithin code) (edges_from code k i) (edges_behind code (k + 1) instrs) (from-within code k i lt known.0 handlers)
    (behind-within code (k + 1) instrs rest known.1 handlers)

pub edges-within : (code : Code) → IsSoundCode code → All (λ e. (e.0 < length code.instrs) × (e.1 < length code.instrs)) (edges_of code)
unfolding edges_of
edges-within code sound =
    let all : 0 + length code.instrs ≡ length code.instrs = omega arith in
    behind-within code 0 code.instrs all sound.branches sound.handlers
