-- The origins of each word of each frame, as far as some origins say: what a group of origins adds to them by the bits of its labels.
use Rattle.std.specs.Prelude.{ℕ, ◌+◌, ◌/◌, ◌%◌, ◌==◌, ◌≡◌, ◌<◌, false, List, [], ◌∷◌, ◌++◌, length, map, filter, sum_by, slice_index_or, Option, Some, None, MatchOption, if◌then◌else◌}
use Rattle.std.specs.List.{range_with_len}
use Rattle.std.specs.Option.{option_map_or}
use Rattle.fp_model.specs.declared.class.Code.{Code}
use Rattle.fp_model.specs.declared.class.Method.{Method}
use Rattle.fp_model.specs.declared.kind.Sort.{Sort}
use Rattle.fp_facts.specs.declared.label.Label.{Label}
use Rattle.fp_facts.specs.declared.label.Label.TheVariants.{Unreached, Bad, Frame}
use Rattle.fp_facts.specs.declared.origin.Origin.{Origin}
use Rattle.fp_facts.specs.Origins.{label_words, marks_before}
use Rattle.fp_facts.specs.Transfer.{frame_before}
use Rattle.fp_origin.specs.declared.answer.OriginFault.{OriginFault}
use Rattle.fp_origin.specs.declared.answer.OriginFault.TheVariants as fault
use Rattle.fp_origin.specs.Answers.{most_origin_pairs}

-- the sets of the words of a frame, none where no way leads there
abbrev pub FrameSets : Type 0
FrameSets = Option (List (List Origin))

-- ---- what is to be known

-- those of some origins that a word may come from
abbrev pub origins_among : Method → Code → List Origin → (number place : ℕ) → List Origin
origins_among m code os number place = filter (λ o. slice_index_or (label_words (marks_before m code o number)) place false) os

abbrev pub frame_among : Method → Code → List Origin → ℕ → Label Sort → FrameSets
frame_among m code os number Unreached = None
frame_among m code os number Bad = None
frame_among m code os number (Frame l s) = Some (map (origins_among m code os number) (range_with_len 0 (length l + length s)))

-- those of all words of all frames
abbrev pub frames_among : Method → Code → List Origin → List FrameSets
frames_among m code os = map (λ number. frame_among m code os number (frame_before m code number)) (range_with_len 0 (length code.instrs))

abbrev pub frame_pairs : FrameSets → ℕ
frame_pairs frame = option_map_or (λ sets. sum_by length sets) frame 0

abbrev pub pairs_among : Method → Code → List Origin → ℕ
pairs_among m code os = sum_by frame_pairs (frames_among m code os)

-- ---- what a group adds

-- the origins of a group whose bits are set in a word
abbrev pub chosen : List Origin → (word : ℕ) → List Origin
chosen [] word = []
chosen (g ∷ group) word = (if word % 2 == 1 then g ∷ [] else []) ++ chosen group (word / 2)

-- the sets of words, with the origins that the words of a label tell behind them
abbrev pub grown_sets : List Origin → (words : List ℕ) → List (List Origin) → List (List Origin)
grown_sets group words [] = []
grown_sets group [] (set ∷ sets) = set ∷ grown_sets group [] sets
grown_sets group (w ∷ words) (set ∷ sets) = (set ++ chosen group w) ∷ grown_sets group words sets

abbrev pub grown_frame : List Origin → Label ℕ → FrameSets → FrameSets
grown_frame group label None = None
grown_frame group label (Some sets) = Some (grown_sets group (label_words label) sets)

abbrev pub grown_frames : List Origin → List (Label ℕ) → List FrameSets → List FrameSets
grown_frames group labels [] = []
grown_frames group [] (frame ∷ frames) = frame ∷ grown_frames group [] frames
grown_frames group (label ∷ labels) (frame ∷ frames) = grown_frame group label frame ∷ grown_frames group labels frames

-- a set without origins for each word
abbrev pub empty_frame : Label ℕ → FrameSets
empty_frame Unreached = None
empty_frame Bad = None
empty_frame (Frame l s) = Some (map (λ _. []) (l ++ s))

-- the origins of a first group that a label tells
abbrev pub first_frame : List Origin → Label ℕ → FrameSets
first_frame group Unreached = None
first_frame group Bad = None
first_frame group (Frame l s) = Some (map (chosen group) (l ++ s))

-- ---- counting

-- the pairs that words make with a group
abbrev pub words_pairs : List Origin → List ℕ → ℕ
words_pairs group words = sum_by (λ w. length (chosen group w)) words

abbrev pub label_pairs : List Origin → Label ℕ → ℕ
label_pairs group label = words_pairs group (label_words label)

abbrev pub group_pairs : List Origin → List (Label ℕ) → ℕ
group_pairs group labels = sum_by (label_pairs group) labels

-- what is left of the room for pairs, none where it is too small
abbrev pub IsLeft : (room cost : ℕ) → Option ℕ → Type 0
IsLeft room cost left = MatchOption left (room < cost) (λ n. n + cost ≡ room)

-- ---- a search under way

-- the frames are known as far as some origins say, and the room that is left is what their pairs leave
pub record IsGrown (m : Method) (code : Code) (os : List Origin) (frames : List FrameSets) (room : ℕ) : Type 0 where
  pub known : frames ≡ frames_among m code os
  pub left : room + pairs_among m code os ≡ most_origin_pairs

-- there is no room for so many pairs; want of memory tells nothing
abbrev pub TellsNoRoom : (room pairs : ℕ) → OriginFault → Type 0
TellsNoRoom room pairs fault.Limit = room < pairs
TellsNoRoom room pairs fault.Memory = Unit {0}
