-- What the solver needs of a sound method, and what its answer says.
use Rattle.std.proofs.Common.{◌≡◌, ◌<◌, ◌≤◌, ℕ, List, All, length, Some, sym, ap, subst, ◌∙◌}
use Rattle.fp_model.specs.declared.class.Code.{Code}
use Rattle.fp_model.specs.declared.class.Method.{Method}
use Rattle.fp_model.specs.declared.kind.Sort.{Sort}
use Rattle.fp_model.specs.SoundCode.{IsSoundMethod}
use Rattle.fp_facts.specs.declared.label.Label.{Label}
use Rattle.fp_facts.specs.Dataflow.{Edge, labels, solution}
use Rattle.fp_facts.specs.Edges.{edges_of}
use Rattle.fp_facts.specs.Sorts.{argument_words, result_words}
use Rattle.fp_facts.specs.Transfer.{frame_before, kinds_problem}
use Rattle.fp_flow.specs.Ascending.{IsAscending}
use Rattle.fp_flow.proofs.EdgeLaws.{edges-ascending, edges-within}
use Rattle.fp_kinds.specs.Kinds.{AreLabels}
use Rattle.fp_kinds.proofs.Arguments.{sound-code, sound-room}

pub solver-ascending : (code : Code) (flow es : List Edge) → es ≡ flow → flow ≡ edges_of code → IsAscending es
solver-ascending code flow es h k = subst IsAscending (sym (h ∙ k)) (edges-ascending code)

pub solver-within : (m : Method) (code : Code) (flow es : List Edge) → IsSoundMethod m → m.code ≡ Some code → es ≡ flow → flow ≡ edges_of code
    → All (λ (e : Edge). (e.0 < length code.instrs) × (e.1 < length code.instrs)) es
solver-within m code flow es sound is h k =
    subst (λ (l : List Edge). All (λ (e : Edge). (e.0 < length code.instrs) × (e.1 < length code.instrs)) l) (sym (h ∙ k)) (edges-within code (sound-code m code sound is))

pub solver-room : (m : Method) (code : Code) (arguments : List Sort) → IsSoundMethod m → m.code ≡ Some code → arguments ≡ argument_words m → length arguments ≤ code.max_locals
solver-room m code arguments sound is h = subst (λ (l : List Sort). length l ≤ code.max_locals) (sym h) (sound-room m code sound is)

-- the solver's answer over what the method has
pub solver-labels : (m : Method) (code : Code) (arguments results : List Sort) (flow es : List Edge) (xs : List (Label Sort))
    → arguments ≡ argument_words m → results ≡ result_words m.kinds.result → es ≡ flow → flow ≡ edges_of code
    → labels (kinds_problem code arguments results es) xs ≡ solution (kinds_problem code arguments results es) → AreLabels m code xs
unfolding frame_before
solver-labels m code arguments results flow es xs a r h k same number =
    ap (λ (f : ℕ → Label Sort). f number) same
    ∙ ap (λ (l : List Sort). solution (kinds_problem code l results es) number) a
    ∙ ap (λ (l : List Sort). solution (kinds_problem code (argument_words m) l es) number) r
    ∙ ap (λ (l : List Edge). solution (kinds_problem code (argument_words m) (result_words m.kinds.result) l) number) (h ∙ k)
