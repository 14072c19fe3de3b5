-- Classes whose codes are looked at, and what a fault says of them.
use Rattle.std.specs.Prelude.{◌≡◌, ◌≢◌, ℕ, true, false, List, [], map, All}
use Rattle.std.specs.List.{list_any}
use Rattle.fp_model.specs.declared.class.Class.{Class}
use Rattle.fp_model.specs.declared.limit.LimitName.TheVariants.{FrameWords}
use Rattle.fp_model.specs.SoundCode.{IsSoundMethod}
use Rattle.fp_facts.specs.Kinded.{IsKindedMethod}
use Rattle.fp_kinds.specs.Kinds.{most_frame_words}
use Rattle.fp_load.specs.declared.fault.FileRefusal.{FileRefusal}
use Rattle.fp_load.specs.declared.fault.LoadFault.{LoadFault}
use Rattle.fp_load.specs.declared.fault.LoadFault.TheVariants as fault
use Rattle.fp_load.specs.Faults.{refusal_told}
use Rattle.fp_load.specs.Kinds.{Placed, has_large, refusals_of}

abbrev pub AreSoundClasses : List Class → Type 0
AreSoundClasses classes = All (λ c. All IsSoundMethod c.methods) classes

abbrev pub AreKindedClasses : List Class → Type 0
AreKindedClasses classes = All (λ c. All IsKindedMethod c.methods) classes

-- some files are refused, and no code is too large
pub record AreRefused (placed : List Placed) (classes : List Class) (told : List (List ℕ × FileRefusal)) : Type 0 where
  pub small : list_any has_large classes ≡ false
  pub told_are : told ≡ refusals_of placed
  pub some : told ≢ []

-- a fault that tells of too large a code, or of the files with a method that is not kinded
abbrev pub TellsJudged : List Placed → List Class → LoadFault → Type 0
TellsJudged placed classes (fault.Limit name most) = (name ≡ FrameWords) × (most ≡ most_frame_words) × (list_any has_large classes ≡ true)
TellsJudged placed classes (fault.Refused refused) = AreRefused placed classes (map refusal_told refused)
TellsJudged placed classes fault.Memory = Unit {0}
TellsJudged placed classes (fault.Read path) = ⊥
TellsJudged placed classes (fault.Set why) = ⊥
