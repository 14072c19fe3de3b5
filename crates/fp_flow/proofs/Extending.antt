-- Lists of edges that are extended.
use Rattle.std.proofs.Common.{◌≡◌, ◌+◌, ◌<◌, ◌≤◌, ℕ, true, false, List, [], ◌∷◌, ◌++◌, map, filter, length, take, drop, get_or, refl, sym, ap, ◌∙◌, append_assoc, cond}
use Rattle.std.proofs.lemmas.List.{map_more, drop_more, drop_all, append-nil}
use Rattle.fp_model.specs.declared.class.Code.{Code}
use Rattle.fp_model.specs.declared.class.Guard.{Guard}
use Rattle.fp_model.specs.declared.class.instr.Instr.{Instr}
use Rattle.fp_model.specs.SoundCode.{branches_to, pcs_of}
use Rattle.fp_facts.specs.Dataflow.{Edge}
use Rattle.fp_facts.specs.Edges.{covers, edges_behind, edges_from, handler_edges, branch_edges, next_edges, number_at}
use Rattle.fp_flow.specs.declared.control.handlers.Handler.{Handler}
use Rattle.fp_flow.specs.Handlers.{handler_of, is_active}

-- one more of a list that is made element by element
pub mapped-more : {X Y : Type 0} (f : X → Y) (before so_far after : List Y) (xs : List X) (i : ℕ) (d : X) (y : Y) → i < length xs →
    so_far ≡ before ++ map f (take i xs) → after ≡ so_far ++ y ∷ [] → y ≡ f (get_or xs i d) → after ≡ before ++ map f (take (i + 1) xs)
mapped-more f before so_far after xs i d y lt is pushed here =
    pushed ∙ ap (λ l. l ++ y ∷ []) is ∙ append_assoc before (map f (take i xs)) (y ∷ []) ∙ ap (λ v. before ++ (map f (take i xs) ++ v ∷ [])) here ∙
    ap (λ l. before ++ l) (sym (map_more f xs i d lt))

abbrev to_handler : ℕ → Handler → Edge
to_handler k h = (k, h.number, true)

abbrev to_row : ℕ → List ℕ → Guard → Edge
to_row k pcs g = (k, number_at pcs g.handler, true)

-- the edges to the active handlers are those to the handlers of the rows that cover an offset
active-edges : (k pc : ℕ) (pcs : List ℕ) (rows : List Guard) → map (to_handler k) (filter (is_active pc) (map (handler_of pcs) rows)) ≡ map (to_row k pcs) (filter (covers pc) rows)
active-edges k pc pcs [] = refl
active-edges k pc pcs (g ∷ rows) =
    let active : List Handler = filter (is_active pc) (map (handler_of pcs) rows) in
    let covering : List Guard = filter (covers pc) rows in
    let rest : map (to_handler k) active ≡ map (to_row k pcs) covering = active-edges k pc pcs rows in
    elim (covers pc g) as (λ b. map (to_handler k) (cond b (handler_of pcs g ∷ active) active) ≡ map (to_row k pcs) (cond b (g ∷ covering) covering)) [
      | true ↦ ap (λ l. to_row k pcs g ∷ l) rest
      | false ↦ rest
    ]

-- the edges from one instruction, by the handlers near it
pub from-parts : (code : Code) (k : ℕ) (i : ℕ × Instr) (pcs : List ℕ) (near : List Handler) (before next branched after : List Edge) → pcs ≡ pcs_of code →
    filter (is_active i.0) near ≡ filter (is_active i.0) (map (handler_of pcs) code.rows) →
    next ≡ before ++ next_edges code k i.1 → branched ≡ next ++ map (λ pc. (k, number_at pcs pc, false)) (branches_to i.1) →
    after ≡ branched ++ map (to_handler k) (filter (is_active i.0) near) → after ≡ before ++ edges_from code k i
from-parts code k i pcs near before next branched after is known first second third =
    let from_handlers : map (to_handler k) (filter (is_active i.0) near) ≡ handler_edges code k i.0 =
    ap (λ l. map (to_handler k) l) known ∙ active-edges k i.0 pcs code.rows ∙ ap (λ l. map (to_row k l) (filter (covers i.0) code.rows)) is in
    let from_branch : map (λ pc. (k, number_at pcs pc, false)) (branches_to i.1) ≡ branch_edges code k i.1 =
    ap (λ l. map (λ pc. (k, number_at l pc, false)) (branches_to i.1)) is in
    third ∙ ap (λ l. branched ++ l) from_handlers ∙ ap (λ l. l ++ handler_edges code k i.0) (second ∙ ap (λ l. next ++ l) from_branch ∙ ap (λ l. l ++ branch_edges code k i.1) first) ∙
    append_assoc (before ++ next_edges code k i.1) (branch_edges code k i.1) (handler_edges code k i.0) ∙
    append_assoc before (next_edges code k i.1) (branch_edges code k i.1 ++ handler_edges code k i.0)

-- the edges from an instruction on are those from it, and those behind it
pub behind-more : (code : Code) (k : ℕ) (i : ℕ × Instr) (so_far after whole : List Edge) → k < length code.instrs → i ≡ get_or code.instrs k i →
    so_far ++ edges_behind code k (drop k code.instrs) ≡ whole → after ≡ so_far ++ edges_from code k i → after ++ edges_behind code (k + 1) (drop (k + 1) code.instrs) ≡ whole
unfolding edges_behind
behind-more code k i so_far after whole lt is all pushed =
    ap (λ l. l ++ edges_behind code (k + 1) (drop (k + 1) code.instrs)) pushed ∙
    append_assoc so_far (edges_from code k i) (edges_behind code (k + 1) (drop (k + 1) code.instrs)) ∙
    ap (λ v. so_far ++ (edges_from code k v ++ edges_behind code (k + 1) (drop (k + 1) code.instrs))) is ∙
    ap (λ l. so_far ++ edges_behind code k l) (sym (drop_more code.instrs k i lt)) ∙ all

pub behind-all : (code : Code) (k : ℕ) (so_far whole : List Edge) → length code.instrs ≤ k → so_far ++ edges_behind code k (drop k code.instrs) ≡ whole → so_far ≡ whole
unfolding edges_behind
behind-all code k so_far whole past all =
    sym (append-nil so_far) ∙ ap (λ l. so_far ++ edges_behind code k l) (sym (drop_all k code.instrs past)) ∙ all
