-- What a group of origins adds to the origins of the words of all frames.
use Rattle.std.proofs.Common.{◌≡◌, ℕ, suc, ◌+◌, ◌≤◌, ◌<◌, ◌==◌, Bool, true, false, List, [], ◌∷◌, ◌++◌, length, map, filter, get_or, refl, sym, ap, subst, ◌∙◌, arith, length-append}
use Rattle.std.specs.Prelude.{Some, slice_get}
use Rattle.std.specs.List.{range_with_len, sum_by}
use Rattle.std.proofs.lemmas.Bool.{and_parts, eqb-true}
use Rattle.std.proofs.lemmas.List.{get_or-map, map-append}
use Rattle.std.proofs.lemmas.List.Elements.{filter-append}
use Rattle.std.proofs.lemmas.List.FromFn.{length-map-range_with_len}
use Rattle.std.proofs.lemmas.List.Sums.{sum_by-cons}
use Rattle.fp_model.specs.declared.class.Code.{Code}
use Rattle.fp_model.specs.declared.class.Method.{Method}
use Rattle.fp_model.specs.declared.kind.Sort.{Sort}
use Rattle.fp_facts.specs.declared.label.Label.{Label}
use Rattle.fp_facts.specs.declared.label.Label.TheVariants.{Unreached, Bad, Frame}
use Rattle.fp_facts.specs.declared.origin.Origin.{Origin}
use Rattle.fp_facts.specs.Moves.{map_label, same_label_shape}
use Rattle.fp_facts.specs.Origins.{label_words, marks_before}
use Rattle.fp_facts.specs.Transfer.{frame_before}
use Rattle.fp_origin.specs.Answers.{most_origin_pairs}
use Rattle.fp_origin.specs.Groups.{AreGroupLabels, has_bit}
use Rattle.fp_origin.specs.Growth.{FrameSets, IsGrown, chosen, empty_frame, frame_among, frame_pairs, frames_among, group_pairs, grown_frame, grown_frames, grown_sets, label_pairs, origins_among, pairs_among, words_pairs}
use Rattle.fp_origin.proofs.Chosen.{chosen-filter}

-- ---- lists by their numbers

-- sets that are made by their places grow by place
sets-grown : (group : List Origin) (words : List ℕ) (from : ℕ) (before behind : ℕ → List Origin) →
    ((k place : ℕ) → from + k ≡ place → k < length words → before place ++ chosen group (get_or words k 0) ≡ behind place) →
    grown_sets group words (map before (range_with_len from (length words))) ≡ map behind (range_with_len from (length words))
sets-grown group [] from before behind same = refl
sets-grown group (w ∷ words) from before behind same =
    let first = same 0 from (omega arith) (omega arith) in
    let rest = sets-grown group words (from + 1) before behind (λ k place at lt. same (suc k) place (omega arith) (omega arith)) in
    ap (λ (s : List Origin). s ∷ grown_sets group words (map before (range_with_len (from + 1) (length words)))) first ∙ ap (λ (l : List (List Origin)). behind from ∷ l) rest

frames-grown : (group : List Origin) (labels : List (Label ℕ)) (from : ℕ) (before behind : ℕ → FrameSets) →
    ((k number : ℕ) → from + k ≡ number → k < length labels → grown_frame group (get_or labels k Unreached) (before number) ≡ behind number) →
    grown_frames group labels (map before (range_with_len from (length labels))) ≡ map behind (range_with_len from (length labels))
frames-grown group [] from before behind same = refl
frames-grown group (x ∷ labels) from before behind same =
    let first = same 0 from (omega arith) (omega arith) in
    let rest = frames-grown group labels (from + 1) before behind (λ k number at lt. same (suc k) number (omega arith) (omega arith)) in
    ap (λ (f : FrameSets). f ∷ grown_frames group labels (map before (range_with_len (from + 1) (length labels)))) first ∙ ap (λ (l : List FrameSets). behind from ∷ l) rest

-- two lists that are alike at each number
mapped-same : {X Y : Type 0} (xs : List X) (from : ℕ) (f : X → Y) (h : ℕ → Y) (d : X) → ((k number : ℕ) → from + k ≡ number → k < length xs → f (get_or xs k d) ≡ h number) →
    map f xs ≡ map h (range_with_len from (length xs))
mapped-same [] from f h d same = refl
mapped-same {X} {Y} (x ∷ xs) from f h d same =
    let first = same 0 from (omega arith) (omega arith) in
    let rest = mapped-same xs (from + 1) f h d (λ k number at lt. same (suc k) number (omega arith) (omega arith)) in
    ap (λ (y : Y). y ∷ map f xs) first ∙ ap (λ (l : List Y). h from ∷ l) rest

-- what is measured at each number is at most as much
sums-below : {X : Type 0} (measure : X → ℕ) (numbers : List ℕ) (before behind : ℕ → X) → ((number : ℕ) → measure (before number) ≤ measure (behind number)) →
    sum_by measure (map before numbers) ≤ sum_by measure (map behind numbers)
sums-below measure [] before behind below = omega arith
sums-below measure (n ∷ numbers) before behind below =
    omega (arith, below n, sums-below measure numbers before behind below, sum_by-cons measure (before n) (map before numbers), sum_by-cons measure (behind n) (map behind numbers))

-- what a group adds to the sums over all frames
sums-grown : (cost : Label ℕ → ℕ) (labels : List (Label ℕ)) (from : ℕ) (before behind : ℕ → FrameSets) →
    ((k number : ℕ) → from + k ≡ number → k < length labels → frame_pairs (before number) + cost (get_or labels k Unreached) ≡ frame_pairs (behind number)) →
    sum_by frame_pairs (map before (range_with_len from (length labels))) + sum_by cost labels ≡ sum_by frame_pairs (map behind (range_with_len from (length labels)))
sums-grown cost [] from before behind same = refl
sums-grown cost (x ∷ labels) from before behind same =
    let first = same 0 from (omega arith) (omega arith) in
    let rest = sums-grown cost labels (from + 1) before behind (λ k number at lt. same (suc k) number (omega arith) (omega arith)) in
    let numbers : List ℕ = range_with_len (from + 1) (length labels) in
    omega (arith, first, rest, sum_by-cons frame_pairs (before from) (map before numbers), sum_by-cons frame_pairs (behind from) (map behind numbers), sum_by-cons cost x labels)

-- ---- one frame

abbrev is_marked : Method → Code → (number place : ℕ) → Origin → Bool
is_marked m code number place o = get_or (label_words (marks_before m code o number)) place false

-- a label's bits tell the marks
word-marked : (m : Method) (code : Code) (number place bit : ℕ) (o : Origin) (l s : List ℕ) → place < length (l ++ s) → map_label (has_bit bit) (Frame l s) ≡ marks_before m code o number →
    has_bit bit (get_or (l ++ s) place 0) ≡ is_marked m code number place o
word-marked m code number place bit o l s lt marks =
    sym (get_or-map (has_bit bit) (l ++ s) place 0 false lt) ∙ ap (λ (w : List Bool). get_or w place false) (map-append (has_bit bit) l s) ∙
    ap (λ (x : Label Bool). get_or (label_words x) place false) marks

abbrev TellMarks : Method → Code → List Origin → ℕ → Label ℕ → Type 0
TellMarks m code group number x = (bit : ℕ) (o : Origin) → slice_get group bit ≡ Some o → map_label (has_bit bit) x ≡ marks_before m code o number

frame-sets : (m : Method) (code : Code) (os group : List Origin) (number long : ℕ) (l s : List ℕ) → length (l ++ s) ≡ long → TellMarks m code group number (Frame l s) →
    grown_sets group (l ++ s) (map (origins_among m code os number) (range_with_len 0 long)) ≡ map (origins_among m code (os ++ group) number) (range_with_len 0 long)
frame-sets m code os group number long l s is marks =
    let words : List ℕ = l ++ s in
    let P : ℕ → Type 0 = λ n. grown_sets group words (map (origins_among m code os number) (range_with_len 0 n)) ≡ map (origins_among m code (os ++ group) number) (range_with_len 0 n) in
    subst P is (sets-grown group words 0 (origins_among m code os number) (origins_among m code (os ++ group) number) (λ k place at lt.
    let same : k ≡ place = omega arith in
    let here : place < length words = omega arith in
    let added : chosen group (get_or words k 0) ≡ filter (is_marked m code number place) group =
    ap (λ (n : ℕ). chosen group (get_or words n 0)) same ∙ chosen-filter group (get_or words place 0) (is_marked m code number place) (λ bit o known. word-marked m code number place bit o l s here (marks bit o known)) in
    ap (λ (a : List Origin). filter (is_marked m code number place) os ++ a) added ∙ sym (filter-append (is_marked m code number place) os group)))

same-long : {V : Type 0} (l s : List ℕ) (m t : List V) → same_label_shape (Frame l s) (Frame m t) ≡ true → length (l ++ s) ≡ length m + length t
same-long l s m t same =
    let known = and_parts (length l == length m) (length s == length t) same in
    omega (arith, eqb-true (length l) (length m) known.0, eqb-true (length s) (length t) known.1, length-append l s)

frame-grown : (m : Method) (code : Code) (os group : List Origin) (number : ℕ) (x : Label ℕ) (frame : Label Sort) → same_label_shape x frame ≡ true → TellMarks m code group number x →
    grown_frame group x (frame_among m code os number frame) ≡ frame_among m code (os ++ group) number frame
frame-grown m code os group number x Unreached same marks = refl
frame-grown m code os group number x Bad same marks = refl
frame-grown m code os group number Unreached (Frame n t) same marks = absurd cc
frame-grown m code os group number Bad (Frame n t) same marks = absurd cc
frame-grown m code os group number (Frame l s) (Frame n t) same marks =
    ap (λ (sets : List (List Origin)). Some sets) (frame-sets m code os group number (length n + length t) l s (same-long l s n t same) marks)

-- ---- pairs of one frame

sets-pairs : (group : List Origin) (words : List ℕ) (sets : List (List Origin)) → length sets ≡ length words → sum_by length sets + words_pairs group words ≡ sum_by length (grown_sets group words sets)
sets-pairs group [] [] long = refl
sets-pairs group (w ∷ words) [] long = absurd (omega arith)
sets-pairs group [] (set ∷ sets) long = absurd (omega arith)
sets-pairs group (w ∷ words) (set ∷ sets) long =
    let rest = sets-pairs group words sets (omega arith) in
    let size : List Origin → ℕ = λ l. length l in
    let cost : ℕ → ℕ = λ n. length (chosen group n) in
    omega (arith, rest, length-append set (chosen group w), sum_by-cons size set sets, sum_by-cons cost w words, sum_by-cons size (set ++ chosen group w) (grown_sets group words sets))

frame-pairs : (m : Method) (code : Code) (os group : List Origin) (number : ℕ) (x : Label ℕ) (frame : Label Sort) → same_label_shape x frame ≡ true → TellMarks m code group number x →
    frame_pairs (frame_among m code os number frame) + label_pairs group x ≡ frame_pairs (frame_among m code (os ++ group) number frame)
frame-pairs m code os group number Unreached Unreached same marks = refl
frame-pairs m code os group number Bad Unreached same marks = absurd cc
frame-pairs m code os group number (Frame l s) Unreached same marks = absurd cc
frame-pairs m code os group number Unreached Bad same marks = absurd cc
frame-pairs m code os group number Bad Bad same marks = absurd cc
frame-pairs m code os group number (Frame l s) Bad same marks = absurd cc
frame-pairs m code os group number Unreached (Frame n t) same marks = absurd cc
frame-pairs m code os group number Bad (Frame n t) same marks = absurd cc
frame-pairs m code os group number (Frame l s) (Frame n t) same marks =
    let long = same-long l s n t same in
    let sets : List (List Origin) = map (origins_among m code os number) (range_with_len 0 (length n + length t)) in
    let as_long : length sets ≡ length (l ++ s) = length-map-range_with_len (origins_among m code os number) 0 (length n + length t) ∙ sym long in
    sets-pairs group (l ++ s) sets as_long ∙ ap (λ (w : List (List Origin)). sum_by length w) (frame-sets m code os group number (length n + length t) l s long marks)

-- ---- all frames

pub all-grown : (m : Method) (code : Code) (os group : List Origin) (labels : List (Label ℕ)) → AreGroupLabels m code group labels →
    grown_frames group labels (frames_among m code os) ≡ frames_among m code (os ++ group)
all-grown m code os group labels known =
    let before : ℕ → FrameSets = λ number. frame_among m code os number (frame_before m code number) in
    let behind : ℕ → FrameSets = λ number. frame_among m code (os ++ group) number (frame_before m code number) in
    let P : ℕ → Type 0 = λ n. grown_frames group labels (map before (range_with_len 0 n)) ≡ map behind (range_with_len 0 n) in
    subst P known.long (frames-grown group labels 0 before behind (λ k number at lt.
    let same : number ≡ k = omega arith in
    let Q : ℕ → Type 0 = λ n. grown_frame group (get_or labels n Unreached) (before number) ≡ behind number in
    subst Q same (frame-grown m code os group number (get_or labels number Unreached) (frame_before m code number) (known.shaped number) (λ bit o at_bit. known.marks number bit o at_bit))))

pub all-pairs : (m : Method) (code : Code) (os group : List Origin) (labels : List (Label ℕ)) → AreGroupLabels m code group labels →
    pairs_among m code os + group_pairs group labels ≡ pairs_among m code (os ++ group)
all-pairs m code os group labels known =
    let before : ℕ → FrameSets = λ number. frame_among m code os number (frame_before m code number) in
    let behind : ℕ → FrameSets = λ number. frame_among m code (os ++ group) number (frame_before m code number) in
    let P : ℕ → Type 0 = λ n. sum_by frame_pairs (map before (range_with_len 0 n)) + group_pairs group labels ≡ sum_by frame_pairs (map behind (range_with_len 0 n)) in
    subst P known.long (sums-grown (label_pairs group) labels 0 before behind (λ k number at lt.
    let same : number ≡ k = omega arith in
    let Q : ℕ → Type 0 = λ n. frame_pairs (before number) + label_pairs group (get_or labels n Unreached) ≡ frame_pairs (behind number) in
    subst Q same (frame-pairs m code os group number (get_or labels number Unreached) (frame_before m code number) (known.shaped number) (λ bit o at_bit. known.marks number bit o at_bit))))

-- more origins make no fewer pairs
filter-below : (m : Method) (code : Code) (os more : List Origin) (number place : ℕ) → length (origins_among m code os number place) ≤ length (origins_among m code (os ++ more) number place)
filter-below m code os more number place =
    let test : Origin → Bool = is_marked m code number place in
    omega (arith, ap length (filter-append test os more), length-append (filter test os) (filter test more))

frame-below : (m : Method) (code : Code) (os more : List Origin) (number : ℕ) (frame : Label Sort) → frame_pairs (frame_among m code os number frame) ≤ frame_pairs (frame_among m code (os ++ more) number frame)
frame-below m code os more number Unreached = omega arith
frame-below m code os more number Bad = omega arith
frame-below m code os more number (Frame l s) =
    sums-below (λ (l : List Origin). length l) (range_with_len 0 (length l + length s)) (origins_among m code os number) (origins_among m code (os ++ more) number) (λ place. filter-below m code os more number place)

pairs-below : (m : Method) (code : Code) (os more : List Origin) → pairs_among m code os ≤ pairs_among m code (os ++ more)
pairs-below m code os more =
    sums-below frame_pairs (range_with_len 0 (length code.instrs)) (λ number. frame_among m code os number (frame_before m code number)) (λ number. frame_among m code (os ++ more) number (frame_before m code number))
    (λ number. frame-below m code os more number (frame_before m code number))

-- ---- no origins

abbrev nothing : ℕ → List Origin
nothing _ = []

empty-sets : (words : List ℕ) (long from : ℕ) → length words ≡ long → map nothing words ≡ map nothing (range_with_len from long)
empty-sets words long from is =
    let P : ℕ → Type 0 = λ n. map nothing words ≡ map nothing (range_with_len from n) in
    subst P is (mapped-same words from nothing nothing 0 (λ _ _ _ _. refl))

frame-empty : (m : Method) (code : Code) (number : ℕ) (x : Label ℕ) (frame : Label Sort) → same_label_shape x frame ≡ true → empty_frame x ≡ frame_among m code [] number frame
frame-empty m code number Unreached Unreached same = refl
frame-empty m code number Bad Unreached same = absurd cc
frame-empty m code number (Frame l s) Unreached same = absurd cc
frame-empty m code number Unreached Bad same = absurd cc
frame-empty m code number Bad Bad same = absurd cc
frame-empty m code number (Frame l s) Bad same = absurd cc
frame-empty m code number Unreached (Frame n t) same = absurd cc
frame-empty m code number Bad (Frame n t) same = absurd cc
frame-empty m code number (Frame l s) (Frame n t) same = ap (λ (sets : List (List Origin)). Some sets) (empty-sets (l ++ s) (length n + length t) 0 (same-long l s n t same))

frames-empty : (m : Method) (code : Code) (group : List Origin) (labels : List (Label ℕ)) → AreGroupLabels m code group labels → map empty_frame labels ≡ frames_among m code []
frames-empty m code group labels known =
    let among : ℕ → FrameSets = λ number. frame_among m code [] number (frame_before m code number) in
    let P : ℕ → Type 0 = λ n. map empty_frame labels ≡ map among (range_with_len 0 n) in
    subst P known.long (mapped-same labels 0 empty_frame among Unreached (λ k number at lt.
    let same : number ≡ k = omega arith in
    let Q : ℕ → Type 0 = λ n. empty_frame (get_or labels n Unreached) ≡ among number in
    subst Q same (frame-empty m code number (get_or labels number Unreached) (frame_before m code number) (known.shaped number))))

empty-sum : (numbers : List ℕ) → sum_by length (map nothing numbers) ≡ 0
empty-sum [] = refl
empty-sum (n ∷ numbers) =
    let none : List Origin = [] in
    omega (arith, empty-sum numbers, sum_by-cons (λ (l : List Origin). length l) none (map nothing numbers))

frame-no-pairs : (m : Method) (code : Code) (number : ℕ) (frame : Label Sort) → frame_pairs (frame_among m code [] number frame) ≡ 0
frame-no-pairs m code number Unreached = refl
frame-no-pairs m code number Bad = refl
frame-no-pairs m code number (Frame l s) = empty-sum (range_with_len 0 (length l + length s))

no-sum : (numbers : List ℕ) (frames : ℕ → FrameSets) → ((number : ℕ) → frame_pairs (frames number) ≡ 0) → sum_by frame_pairs (map frames numbers) ≡ 0
no-sum [] frames none = refl
no-sum (n ∷ numbers) frames none = omega (arith, none n, no-sum numbers frames none, sum_by-cons frame_pairs (frames n) (map frames numbers))

pub empty-known : (m : Method) (code : Code) (group : List Origin) (labels : List (Label ℕ)) → AreGroupLabels m code group labels → IsGrown m code [] (map empty_frame labels) most_origin_pairs
empty-known m code group labels known = record {
  known = frames-empty m code group labels known;
  left = omega (arith, no-sum (range_with_len 0 (length code.instrs)) (λ number. frame_among m code [] number (frame_before m code number)) (λ number. frame-no-pairs m code number (frame_before m code number)));
}

-- ---- a group more

pub grown-known : (m : Method) (code : Code) (os group : List Origin) (labels : List (Label ℕ)) (frames after : List FrameSets) (room left : ℕ) → IsGrown m code os frames room →
    AreGroupLabels m code group labels → after ≡ grown_frames group labels frames → left + group_pairs group labels ≡ room → IsGrown m code (os ++ group) after left
grown-known m code os group labels frames after room left before known is spent = record {
  known = is ∙ ap (grown_frames group labels) before.known ∙ all-grown m code os group labels known;
  left = omega (arith, before.left, spent, all-pairs m code os group labels known);
}

pub too-many : (m : Method) (code : Code) (os group rest : List Origin) (labels : List (Label ℕ)) (frames : List FrameSets) (room : ℕ) → IsGrown m code os frames room →
    AreGroupLabels m code group labels → room < group_pairs group labels → most_origin_pairs < pairs_among m code ((os ++ group) ++ rest)
too-many m code os group rest labels frames room before known over =
    omega (arith, before.left, over, all-pairs m code os group labels known, pairs-below m code (os ++ group) rest)
