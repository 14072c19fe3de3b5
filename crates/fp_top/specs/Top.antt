-- What the top call promises of its status and of what it leaves.
use Rattle.std.specs.Prelude.{◌≡◌, ℕ, Bool, List, [], Option, Some, IsTrue}
use Rattle.fp_base.specs.Files.{File, bytes_at, class_paths}
use Rattle.fp_base.specs.Calls.{Call}
use Rattle.fp_base.specs.Faults.{AppendsPart}
use Rattle.fp_top.specs.declared.status.Status.{Status}
use Rattle.fp_top.specs.declared.status.Status.TheVariants as status
use Rattle.fp_top.specs.Outcome.{usage_text, read_text, write_text, memory_text, refusal_text}
use Rattle.fp_load.specs.Causes.{IsBlamed}
use Rattle.fp_top.specs.Words.{directory_of}

-- a status goes with a verdict: a read fault and want of memory with each, a write fault with Done, any other with itself
abbrev pub Fits : (answered asked : Status) → Type 0
Fits status.Done asked = asked ≡ status.Done
Fits status.Refused asked = asked ≡ status.Refused
Fits status.Usage asked = asked ≡ status.Usage
Fits status.ReadFault asked = Unit {0}
Fits status.WriteFault asked = asked ≡ status.Done
Fits status.Selection asked = asked ≡ status.Selection
Fits status.Limit asked = asked ≡ status.Limit
Fits status.Memory asked = Unit {0}

-- a text goes with a status; that of a refusal is known where the directory tells its files
abbrev pub IsText : (tells : Bool) → (words : List (List ℕ)) → List File → Status → List ℕ → Type 0
IsText tells words files status.Done text = text ≡ []
IsText tells words files status.Usage text = text ≡ usage_text
IsText tells words files status.ReadFault text = (path : List ℕ) × (text ≡ read_text path)
IsText tells words files status.WriteFault text = text ≡ write_text
IsText tells words files status.Memory text = text ≡ memory_text
IsText tells words files status.Refused text = IsTrue tells → text ≡ refusal_text words files
IsText tells words files status.Selection text = IsTrue tells → text ≡ refusal_text words files
IsText tells words files status.Limit text = IsTrue tells → text ≡ refusal_text words files

-- err names a path whose listing or reading failed in the call: the directory of the words, or a listed file below it
pub record IsReadFault (words : List (List ℕ)) (listed : List (List ℕ)) (before now : List Call) (err err' : Option (List ℕ)) : Type 0 where
  pub dir : List ℕ
  pub path : List ℕ
  pub worded : directory_of words ≡ Some dir
  pub blamed : IsBlamed dir listed before now path
  pub named : AppendsPart err err' (read_text path)

-- a directory tells what it told: whether it tells its files, the class files below each path, and the bytes of each file
pub record TellsTheSame (tells : Bool) (files : List File) (tells' : Bool) (files' : List File) : Type 0 where
  pub telling : tells' ≡ tells
  pub listing : (dir : List ℕ) → class_paths files' dir ≡ class_paths files dir
  pub contents : (path : List ℕ) → bytes_at files' path ≡ bytes_at files path
