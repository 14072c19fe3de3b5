-- The steps of the search: one group of origins after the other.
use Rattle.std.proofs.Common.{◌≡◌, ℕ, ◌+◌, ◌-◌, ◌≤◌, ◌<◌, List, [], ◌++◌, map, take, drop, sym, ap, subst, ◌∙◌, arith}
use Rattle.std.specs.Prelude.{Result, Ok, Err, IfOk, IfErr}
use Rattle.std.proofs.Math.Seq.{take-add}
use Rattle.std.proofs.lemmas.List.{take-append-drop}
use Rattle.fp_model.specs.declared.class.Code.{Code}
use Rattle.fp_model.specs.declared.class.Method.{Method}
use Rattle.fp_facts.specs.declared.label.Label.{Label}
use Rattle.fp_facts.specs.declared.origin.Origin.{Origin}
use Rattle.fp_origin.specs.declared.answer.OriginFault.{OriginFault}
use Rattle.fp_origin.specs.declared.answer.OriginFault.TheVariants as fault
use Rattle.fp_origin.specs.declared.search.Gathered.{Gathered}
use Rattle.fp_origin.specs.Answers.{most_origin_pairs}
use Rattle.fp_origin.specs.Groups.{AreGroupLabels}
use Rattle.fp_origin.specs.Growth.{FrameSets, IsGrown, TellsNoRoom, empty_frame, first_frame, grown_frames, group_pairs, pairs_among}
use Rattle.fp_origin.proofs.Gathering.{empty-known, grown-known, too-many}
use Rattle.fp_origin.proofs.Growing.{first-frames}

-- a group of the origins, from a place to another one
pub group-parts : (all : List Origin) (at end : ℕ) → at ≤ end → take at all ++ take (end - at) (drop at all) ≡ take end all
group-parts all at end within =
    let same : at + (end - at) ≡ end = omega arith in
    sym (take-add at (end - at) all) ∙ ap (λ (n : ℕ). take n all) same

told-of : (m : Method) (code : Code) (group : List Origin) (labels made : List (Label ℕ)) → labels ≡ made → AreGroupLabels m code group made → AreGroupLabels m code group labels
told-of m code group labels made is known = let P : List (Label ℕ) → Type 0 = λ l. AreGroupLabels m code group l in subst P (sym is) known

-- before the first group
pub start-known : (m : Method) (code : Code) (group : List Origin) (labels made : List (Label ℕ)) (frames : List FrameSets) → labels ≡ made → AreGroupLabels m code group made →
    frames ≡ map empty_frame labels → IsGrown m code [] frames most_origin_pairs
start-known m code group labels made frames is known empty =
    let P : List FrameSets → Type 0 = λ f. IsGrown m code [] f most_origin_pairs in
    subst P (sym empty) (empty-known m code group labels (told-of m code group labels made is known))

pub step-known : (m : Method) (code : Code) (all group : List Origin) (at end : ℕ) (labels made : List (Label ℕ)) (frames : List FrameSets) (room : ℕ) (r : Result Gathered OriginFault) → take at all ++ group ≡ take end all → labels ≡ made →
    IsGrown m code (take at all) frames room → AreGroupLabels m code group made →
    IfOk r (λ g. g.frames.items ≡ grown_frames group labels frames) → IfOk r (λ g. g.room + group_pairs group labels ≡ room) →
    IfOk r (λ g. IsGrown m code (take end all) g.frames.items g.room)
step-known m code all group at end labels made frames room (Err e) parts is before known done spent = tt
step-known m code all group at end labels made frames room (Ok g) parts is before known done spent =
    let P : List Origin → Type 0 = λ os. IsGrown m code os g.frames.items g.room in
    subst P parts (grown-known m code (take at all) group labels frames g.frames.items room g.room before (told-of m code group labels made is known) done spent)

-- the frames of the first group
pub first-grown : (group : List Origin) (labels : List (Label ℕ)) (r : Result Gathered OriginFault) → IfOk r (λ g. g.frames.items ≡ map (first_frame group) labels) →
    IfOk r (λ g. g.frames.items ≡ grown_frames group labels (map empty_frame labels))
first-grown group labels (Err e) done = tt
first-grown group labels (Ok g) done = done ∙ first-frames group labels

pub step-refused : (m : Method) (code : Code) (all group : List Origin) (at end : ℕ) (labels made : List (Label ℕ)) (frames : List FrameSets) (room : ℕ) (r : Result Gathered OriginFault) → take at all ++ group ≡ take end all → labels ≡ made →
    IsGrown m code (take at all) frames room → AreGroupLabels m code group made →
    IfErr r (TellsNoRoom room (group_pairs group labels)) → IfErr r (TellsNoRoom most_origin_pairs (pairs_among m code all))
step-refused m code all group at end labels made frames room (Ok g) parts is before known told = tt
step-refused m code all group at end labels made frames room (Err fault.Memory) parts is before known told = tt
step-refused m code all group at end labels made frames room (Err fault.Limit) parts is before known told =
    let P : List Origin → Type 0 = λ os. most_origin_pairs < pairs_among m code os in
    let whole : (take at all ++ group) ++ drop end all ≡ all = ap (λ (l : List Origin). l ++ drop end all) parts ∙ take-append-drop end all in
    subst P whole (too-many m code (take at all) group (drop end all) labels frames room before (told-of m code group labels made is known) told)
