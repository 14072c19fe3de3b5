-- The steps of a code, one after the other.
use Rattle.std.proofs.Common.{◌≡◌, ℕ, ◌+◌, ◌<◌, List, ◌∷◌, ◌++◌, drop, length, get_or, sym, ap, ap₂, ◌∙◌}
use Rattle.std.specs.Prelude.{Option}
use Rattle.std.proofs.lemmas.List.{drop_more}
use Rattle.fp_model.specs.declared.class.instr.Instr.{Instr}
use Rattle.fp_facts.specs.declared.origin.Origin.{Origin}
use Rattle.fp_facts.specs.Steps.{step_of, steps_of}

pub steps-next : (instrs : List (ℕ × Instr)) (frames : List (Option (List (List Origin)))) (i : ℕ) (x : ℕ × Instr) (f : Option (List (List Origin))) → i < length instrs → i < length frames → x ≡ get_or instrs i x → f ≡ get_or frames i f →
    steps_of (drop i instrs) (drop i frames) ≡ step_of x f ++ steps_of (drop (i + 1) instrs) (drop (i + 1) frames)
steps-next instrs frames i x f within also is_x is_f =
    let left : drop i instrs ≡ x ∷ drop (i + 1) instrs = drop_more instrs i x within ∙ ap (λ y. y ∷ drop (i + 1) instrs) (sym is_x) in
    let right : drop i frames ≡ f ∷ drop (i + 1) frames = drop_more frames i f also ∙ ap (λ g. g ∷ drop (i + 1) frames) (sym is_f) in
    ap₂ steps_of left right
