-- What the kinds of a code are, and why it has none.
use Rattle.std.specs.Prelude.{◌≡◌, ℕ, ◌<◌, ◌≤◌, List, length, map, slice_get, slice_index_or, Bool, true, false, Option, Some, None, option_map}
use Rattle.fp_model.specs.declared.class.Code.{Code}
use Rattle.fp_model.specs.declared.class.Method.{Method}
use Rattle.fp_model.specs.declared.kind.Sort.{Sort}
use Rattle.fp_facts.specs.declared.label.Label.{Label}
use Rattle.fp_facts.specs.declared.label.Label.TheVariants.{Unreached, Bad, Frame}
use Rattle.fp_facts.specs.Kinded.{frame_words, IsFirstFailing, IsKindedCode}
use Rattle.fp_facts.specs.Transfer.{frame_before, is_bad, label_after}
use Rattle.fp_kinds.specs.declared.frame.FrameKinds.{FrameKinds}
use Rattle.fp_kinds.specs.declared.frame.KindFault.{KindFault}
use Rattle.fp_kinds.specs.declared.frame.KindFault.TheVariants as fault
use Rattle.fp_kinds.specs.declared.frame.Kinds.{Kinds}

-- the most frame words of a code that is looked at
abbrev pub most_frame_words : ℕ
most_frame_words = 4194304

-- the frame of a label, none where no way leads there
abbrev pub frame_of : Label Sort → Option FrameKinds
frame_of Unreached = None
frame_of Bad = None
frame_of (Frame l s) = Some (record { locals = l; stack = s })

-- the labels before the instructions of a method's code
abbrev pub AreLabels : Method → Code → List (Label Sort) → Type 0
AreLabels m code labels = (number : ℕ) → slice_index_or labels number Unreached ≡ frame_before m code number

-- the frames of labels, one by one
abbrev pub AreFramesOf : List (Label Sort) → List (Option FrameKinds) → Type 0
AreFramesOf labels frames = frames ≡ map frame_of labels

-- the instruction of a number fails, by labels before the instructions
abbrev pub fails_by : Code → (results : List Sort) → List (Label Sort) → ℕ → Bool
fails_by code results labels number = is_bad (label_after code results number (slice_index_or labels number Unreached))

pub record FailsFirst (code : Code) (results : List Sort) (labels : List (Label Sort)) (number : ℕ) : Type 0 where
  pub known : number < length code.instrs
  pub fails_there : fails_by code results labels number ≡ true
  pub earlier : (other : ℕ) → other < number → fails_by code results labels other ≡ false

-- the code is kinded, and each instruction has the frame before it
pub record AreKinds (m : Method) (code : Code) (k : Kinds) : Type 0 where
  pub few : frame_words code ≤ most_frame_words
  pub kinded : IsKindedCode m code
  pub long : length k.frames ≡ length code.instrs
  pub frames : (number : ℕ) → number < length code.instrs → slice_get k.frames number ≡ Some (frame_of (frame_before m code number))

-- the first instruction that fails stands at the offset
pub record FailsFirstAt (m : Method) (code : Code) (pc : ℕ) : Type 0 where
  pub few : frame_words code ≤ most_frame_words
  pub number : ℕ
  pub first : IsFirstFailing m code number
  pub pc_is : option_map (λ i. i.0) (slice_get code.instrs number) ≡ Some pc

-- why there are no kinds; want of memory tells nothing
abbrev pub TellsFault : Method → Code → KindFault → Type 0
TellsFault m code fault.Limit = most_frame_words < frame_words code
TellsFault m code (fault.Bad pc) = FailsFirstAt m code pc
TellsFault m code fault.Memory = Unit {0}
