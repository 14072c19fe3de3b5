-- The frames of a code as a list, and the method of a number with its code.
use Rattle.std.proofs.Common.{◌≡◌, ℕ, ◌<◌, List, [], ◌∷◌, length, sym, ap, subst, ◌∙◌, arith}
use Rattle.std.specs.Prelude.{All, Option, Some, None, slice_get, unwrap_or}
use Rattle.std.specs.Option.{option_map_or}
use Rattle.std.proofs.lemmas.List.{same_lists}
use Rattle.std.proofs.lemmas.List.Elements.{All-get_or}
use Rattle.std.proofs.lemmas.List.FromFn.{get_or-map-range_with_len, length-map-range_with_len}
use Rattle.std.proofs.lemmas.Option.{get_or_from_slice_get, slice_get_within}
use Rattle.fp_model.specs.declared.class.Class.{Class}
use Rattle.fp_model.specs.declared.class.Code.{Code}
use Rattle.fp_model.specs.declared.class.Method.{Method}
use Rattle.fp_model.specs.declared.class.instr.Instr.{Instr}
use Rattle.fp_model.specs.ClassSet.{methods_of}
use Rattle.fp_facts.specs.declared.origin.Origin.{Origin}
use Rattle.fp_facts.specs.Facts.{coded_at, with_code}
use Rattle.fp_facts.specs.Origins.{origins_before}
use Rattle.fp_facts.specs.Resolution.{class_of_method}
use Rattle.fp_facts.specs.Steps.{frames_of, steps, steps_of}
use Rattle.fp_origin.specs.Answers.{AreOrigins}
use Rattle.fp_origin.specs.declared.answer.Origins.{Origins}

pub length-frames : (m : Method) (code : Code) → length (frames_of m code) ≡ length code.instrs
length-frames m code = length-map-range_with_len (origins_before m code) 0 (length code.instrs)

-- the frames that are told are those of the code
pub frames-are : (m : Method) (code : Code) (o : Origins) → AreOrigins m code o → o.frames ≡ frames_of m code
frames-are m code o told =
    same_lists o.frames (frames_of m code) (told.long ∙ sym (length-frames m code)) (λ k d within.
    let known : k < length code.instrs = subst (λ n. k < n) told.long within in
    get_or_from_slice_get o.frames k (origins_before m code k) d (told.frames k known)
    ∙ sym (get_or-map-range_with_len (origins_before m code) 0 (length code.instrs) k k d known (omega arith)))

pub steps-are : (m : Method) (code : Code) (instrs : List (ℕ × Instr)) (frames : List (Option (List (List Origin)))) → instrs ≡ code.instrs → frames ≡ frames_of m code → steps_of instrs frames ≡ steps m code
unfolding steps
steps-are m code instrs frames is told = ap (λ l. steps_of l frames) is ∙ ap (steps_of code.instrs) told

-- ---- the method of a number

coded-of : (classes : List Class) (id : ℕ) (m : Method) → slice_get (methods_of classes) id ≡ Some m → coded_at classes id ≡ with_code id (unwrap_or (class_of_method classes id) 0) m
coded-of classes id m there = ap (λ (o : Option Method). option_map_or (with_code id (unwrap_or (class_of_method classes id) 0)) o []) there

pub coded-there : (classes : List Class) (id caller : ℕ) (m : Method) (code : Code) → slice_get (methods_of classes) id ≡ Some m → m.code ≡ Some code → class_of_method classes id ≡ Some caller →
    coded_at classes id ≡ record { id = id; caller = caller; method = m; code = code } ∷ []
coded-there classes id caller m code there has owner =
    coded-of classes id m there
    ∙ ap (λ (o : Option ℕ). with_code id (unwrap_or o 0) m) owner
    ∙ ap (λ (o : Option Code). option_map_or (λ body. record { id = id; caller = caller; method = m; code = body } ∷ []) o []) has

pub none-coded : (classes : List Class) (id : ℕ) (m : Method) → slice_get (methods_of classes) id ≡ Some m → m.code ≡ None → coded_at classes id ≡ []
none-coded classes id m there none =
    coded-of classes id m there
    ∙ ap (λ (o : Option Code). option_map_or (λ body. record { id = id; caller = unwrap_or (class_of_method classes id) 0; method = m; code = body } ∷ []) o []) none

-- ---- what holds of all

pub all-there : {X : Type 0} (P : X → Type 0) (xs : List X) (i : ℕ) (x : X) → All P xs → slice_get xs i ≡ Some x → P x
all-there P xs i x all there = subst P (get_or_from_slice_get xs i x x there) (All-get_or P xs i x (slice_get_within xs i x there) all)
