-- Sets and frames that grow one after the other.
use Rattle.std.proofs.Common.{◌≡◌, ℕ, zero, suc, ◌+◌, List, [], ◌∷◌, ◌++◌, ◌<◌, length, map, take, drop, refl, sym, ap, ◌∙◌, arith}
use Rattle.std.specs.Prelude.{Option, Some, slice_get, slice_index_or, slice_set}
use Rattle.std.specs.Option.{option_map_or}
use Rattle.std.proofs.lemmas.List.{append-nil}
use Rattle.fp_facts.specs.declared.label.Label.{Label}
use Rattle.fp_facts.specs.declared.origin.Origin.{Origin}
use Rattle.fp_facts.specs.declared.label.Label.TheVariants.{Unreached, Bad, Frame}
use Rattle.fp_origin.specs.Growth.{FrameSets, chosen, empty_frame, first_frame, grown_frame, grown_frames, grown_sets}
use Rattle.fp_origin.proofs.Chosen.{chosen-zero}

pub sets-ungrown : (group : List Origin) (sets : List (List Origin)) → sets ≡ grown_sets group [] sets
sets-ungrown group [] = refl
sets-ungrown group (set ∷ sets) = ap (λ (l : List (List Origin)). set ∷ l) (sets-ungrown group sets)

pub ruleset growing = (sets-ungrown)

-- a word without bits adds nothing
pub nothing-more : (set group whole : List Origin) (word : ℕ) → word ≡ 0 → set ++ chosen group word ≡ whole → set ≡ whole
nothing-more set group whole word none is = sym (ap (λ (l : List Origin). set ++ l) (chosen-zero group word none) ∙ append-nil set) ∙ is

abbrev set_grown : List Origin → (word place : ℕ) → List (List Origin) → List (List Origin)
set_grown group word place sets = slice_set sets place (slice_index_or sets place [] ++ chosen group word)

pub nothing-set : (group : List Origin) (word place : ℕ) (sets : List (List Origin)) → word ≡ 0 → sets ≡ set_grown group word place sets
nothing-set group word place [] none = refl
nothing-set group word zero (set ∷ sets) none = ap (λ (s : List Origin). s ∷ sets) (nothing-more set group _ word none refl)
nothing-set group word (suc place) (set ∷ sets) none = ap (λ (l : List (List Origin)). set ∷ l) (nothing-set group word place sets none)

-- the sets before a place, grown by their words, and those from there on
abbrev grown_before : List Origin → List ℕ → (place : ℕ) → List (List Origin) → List (List Origin)
grown_before group words place sets = grown_sets group words (take place sets) ++ drop place sets

grow-next : (group : List Origin) (words : List ℕ) (place : ℕ) (sets : List (List Origin)) → place < length sets →
    set_grown group (slice_index_or words place 0) place (grown_before group words place sets) ≡ grown_before group words (suc place) sets
grow-next group words place [] lt = absurd (omega (arith, lt))
grow-next group [] zero (set ∷ sets) lt = sym (nothing-set group 0 0 (set ∷ sets) refl)
grow-next group (w ∷ words) zero (set ∷ sets) lt = refl
grow-next group [] (suc place) (set ∷ sets) lt = ap (λ (l : List (List Origin)). set ∷ l) (grow-next group [] place sets (omega (arith, lt)))
grow-next group (w ∷ words) (suc place) (set ∷ sets) lt = ap (λ (l : List (List Origin)). (set ++ chosen group w) ∷ l) (grow-next group words place sets (omega (arith, lt)))

pub grow-more : (group : List Origin) (words : List ℕ) (word place : ℕ) (sets now after : List (List Origin)) → place < length sets → word ≡ slice_index_or words place 0 →
    now ≡ grown_before group words place sets → after ≡ set_grown group word place now → after ≡ grown_before group words (place + 1) sets
grow-more group words word place sets now after lt told is grown =
    let next : suc place ≡ place + 1 = omega arith in
    grown ∙ ap (λ (n : ℕ). set_grown group n place now) told ∙ ap (set_grown group (slice_index_or words place 0) place) is ∙
    grow-next group words place sets lt ∙ ap (λ (n : ℕ). grown_before group words n sets) next

abbrev grown_by : List Origin → FrameSets → Option (Label ℕ) → FrameSets
grown_by group frame label = option_map_or (λ x. grown_frame group x frame) label frame

frames-push : (group : List Origin) (labels : List (Label ℕ)) (frames : List FrameSets) (frame : FrameSets) →
    grown_frames group labels (frames ++ frame ∷ []) ≡ grown_frames group labels frames ++ grown_by group frame (slice_get labels (length frames)) ∷ []
frames-push group [] [] frame = refl
frames-push group (x ∷ labels) [] frame = refl
frames-push group [] (first ∷ frames) frame = ap (λ (l : List FrameSets). first ∷ l) (frames-push group [] frames frame)
frames-push group (x ∷ labels) (first ∷ frames) frame = ap (λ (l : List FrameSets). grown_frame group x first ∷ l) (frames-push group labels frames frame)

pub frames-more : (group : List Origin) (labels : List (Label ℕ)) (frames grown after : List FrameSets) (frame new : FrameSets) (number : ℕ) → number ≡ length frames →
    grown ≡ grown_frames group labels frames → new ≡ grown_by group frame (slice_get labels number) → after ≡ grown ++ new ∷ [] → after ≡ grown_frames group labels (frames ++ frame ∷ [])
frames-more group labels frames grown after frame new number at is made pushed =
    pushed ∙ ap (λ (l : List FrameSets). l ++ new ∷ []) is ∙
    ap (λ (s : FrameSets). grown_frames group labels frames ++ s ∷ []) (made ∙ ap (λ (n : ℕ). grown_by group frame (slice_get labels n)) at) ∙ sym (frames-push group labels frames frame)

-- the frames of a first group
first-sets : (group : List Origin) (words : List ℕ) → map (chosen group) words ≡ grown_sets group words (map (λ _. []) words)
first-sets group [] = refl
first-sets group (w ∷ words) = ap (λ (l : List (List Origin)). chosen group w ∷ l) (first-sets group words)

first-frame : (group : List Origin) (label : Label ℕ) → first_frame group label ≡ grown_frame group label (empty_frame label)
first-frame group Unreached = refl
first-frame group Bad = refl
first-frame group (Frame l s) = ap (λ (w : List (List Origin)). Some w) (first-sets group (l ++ s))

pub first-frames : (group : List Origin) (labels : List (Label ℕ)) → map (first_frame group) labels ≡ grown_frames group labels (map empty_frame labels)
first-frames group [] = refl
first-frames group (label ∷ labels) =
    ap (λ (f : FrameSets). f ∷ map (first_frame group) labels) (first-frame group label) ∙
    ap (λ (l : List FrameSets). grown_frame group label (empty_frame label) ∷ l) (first-frames group labels)
