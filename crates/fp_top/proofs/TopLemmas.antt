-- What a refusal says of the status and of the text of a run.
use Rattle.std.proofs.Common.{◌≡◌, ◌≢◌, ◌⊎◌, ℕ, Bool, List, length, Option, Some, None, Result, Ok, Err, IsTrue, refl, sym, ap, ◌∙◌, inl, inr, length-append, arith}
use Rattle.std.specs.Prelude.{IsNone, OnErr, OnOk, string_bytes}
use Rattle.std.specs.Io.KnownBytes.{append_known}
use Rattle.fp_base.specs.declared.outside.sink.SinkFault.{SinkFault}
use Rattle.fp_base.proofs.SinkLemmas.{part-all}
use Rattle.fp_base.specs.Files.{File}
use Rattle.fp_base.specs.Calls.{Call, Gained}
use Rattle.fp_top.specs.declared.status.Status.TheVariants as status
use Rattle.fp_top.specs.declared.refusal.Refusal.{Refusal}
use Rattle.fp_top.specs.declared.refusal.Refusal.TheVariants as refusal
use Rattle.fp_top.specs.Outcome.{Outcome}
use Rattle.fp_top.specs.Outcome as outcome
use Rattle.fp_base.specs.Faults.{AppendsPart}
use Rattle.fp_top.specs.Refusal.{Says, BlamesIn, IsWorded, status_of, text_of}
use Rattle.fp_top.specs.Top.{IsReadFault, IsText}
use Rattle.fp_top.specs.Words.{directory_of}

-- no call is gained where none is added
gained_none : (before now : List Call) (call : Call) → now ≡ before → Gained before now call → ⊥
gained_none before now call same (more, parts, (place, within, is)) =
    omega (arith, length-append {A = Call} before more, ap length (sym same ∙ parts))

-- without a new failed call no refusal is a read fault
pub no_read_fault : (dir : Option (List ℕ)) (listed : List (List ℕ)) (before now : List Call) (r : Refusal) → BlamesIn dir listed before now r → now ≡ before → status_of r ≢ status.ReadFault
no_read_fault dir listed before now refusal.Usage blames same is = cc
no_read_fault None listed before now (refusal.Read path) blames same is = blames
no_read_fault (Some dir) listed before now (refusal.Read path) (inl listing) same is = gained_none before now _ same listing.1
no_read_fault (Some dir) listed before now (refusal.Read path) (inr reading) same is = gained_none before now _ same reading.2
no_read_fault dir listed before now (refusal.Files refused) blames same is = cc
no_read_fault dir listed before now (refusal.Duplicate name) blames same is = cc
no_read_fault dir listed before now (refusal.Cycle name) blames same is = cc
no_read_fault dir listed before now (refusal.Selection item) blames same is = cc
no_read_fault dir listed before now (refusal.Limit bound most) blames same is = cc
no_read_fault dir listed before now refusal.Memory blames same is = cc

-- where the told files call for a report, and no call failed, memory ran out
pub only_memory : (o : Outcome) (dir : Option (List ℕ)) (listed : List (List ℕ)) (before now : List Call) (r : Refusal) → Says o r → BlamesIn dir listed before now r → outcome.status_of o ≡ status.Done → now ≡ before → (status_of r ≡ status.Done) ⊎ (status_of r ≡ status.Memory)
only_memory o dir listed before now refusal.Usage says blames done same = let wrong : status.Usage ≡ status.Done = sym (ap outcome.status_of says) ∙ done in absurd cc
only_memory o dir listed before now (refusal.Read path) says blames done same = absurd (no_read_fault dir listed before now (refusal.Read path) blames same refl)
only_memory o dir listed before now (refusal.Files refused) says blames done same = let wrong : status.Refused ≡ status.Done = sym (ap outcome.status_of says) ∙ done in absurd cc
only_memory o dir listed before now (refusal.Duplicate name) says blames done same = let wrong : status.Refused ≡ status.Done = sym (ap outcome.status_of says) ∙ done in absurd cc
only_memory o dir listed before now (refusal.Cycle name) says blames done same = let wrong : status.Refused ≡ status.Done = sym (ap outcome.status_of says) ∙ done in absurd cc
only_memory o dir listed before now (refusal.Selection item) says blames done same = let wrong : status.Selection ≡ status.Done = sym (ap outcome.status_of says) ∙ done in absurd cc
only_memory o dir listed before now (refusal.Limit bound most) says blames done same = let wrong : status.Limit ≡ status.Done = sym (ap outcome.status_of says) ∙ done in absurd cc
only_memory o dir listed before now refusal.Memory says blames done same = inr refl

-- the text of a refusal goes with its status
pub IsText-refusal : (tells : Bool) (words : List (List ℕ)) (files : List File) (r : Refusal) → (IsTrue tells → Says (outcome.outcome words files) r) → IsText tells words files (status_of r) (text_of r)
IsText-refusal tells words files refusal.Usage says = refl
IsText-refusal tells words files (refusal.Read path) says = (string_bytes path, refl)
IsText-refusal tells words files (refusal.Files refused) says = λ t. sym (ap outcome.text_of (says t))
IsText-refusal tells words files (refusal.Duplicate name) says = λ t. sym (ap outcome.text_of (says t))
IsText-refusal tells words files (refusal.Cycle name) says = λ t. sym (ap outcome.text_of (says t))
IsText-refusal tells words files (refusal.Selection item) says = λ t. sym (ap outcome.text_of (says t))
IsText-refusal tells words files (refusal.Limit bound most) says = λ t. sym (ap outcome.text_of (says t))
IsText-refusal tells words files refusal.Memory says = refl

-- words that name no directory are refused as Usage
pub usage_of : (dir : Option (List ℕ)) (r : Refusal) → IsWorded dir r → IsNone dir → status_of r ≡ status.Usage
usage_of None refusal.Usage worded none = refl
usage_of None (refusal.Read path) worded none = absurd worded
usage_of None (refusal.Files refused) worded none = absurd worded
usage_of None (refusal.Duplicate name) worded none = absurd worded
usage_of None (refusal.Cycle name) worded none = absurd worded
usage_of None (refusal.Selection item) worded none = absurd worded
usage_of None (refusal.Limit bound most) worded none = absurd worded
usage_of None refusal.Memory worded none = absurd worded
usage_of (Some dir) r worded none = absurd cc

-- a read fault names the path that is to blame
pub fault_of : (words : List (List ℕ)) (dir : Option (List ℕ)) (listed : List (List ℕ)) (before now : List Call) (err err' : Option (List ℕ)) (r : Refusal) → directory_of words ≡ dir → BlamesIn dir listed before now r → status_of r ≡ status.ReadFault
    → AppendsPart err err' (text_of r) → IsReadFault words listed before now err err'
fault_of words dir listed before now err err' refusal.Usage names blames is part = absurd cc
fault_of words None listed before now err err' (refusal.Read path) names blames is part = absurd blames
fault_of words (Some dir) listed before now err err' (refusal.Read path) names blames is part = record { dir = dir; path = string_bytes path; worded = names; blamed = blames; named = part }
fault_of words dir listed before now err err' (refusal.Files refused) names blames is part = absurd cc
fault_of words dir listed before now err err' (refusal.Duplicate name) names blames is part = absurd cc
fault_of words dir listed before now err err' (refusal.Cycle name) names blames is part = absurd cc
fault_of words dir listed before now err err' (refusal.Selection item) names blames is part = absurd cc
fault_of words dir listed before now err err' (refusal.Limit bound most) names blames is part = absurd cc
fault_of words dir listed before now err err' refusal.Memory names blames is part = absurd cc

-- a text that is put is a first part of itself, whatever the put answers
pub put-part : {T : Type 0} (old new : Option (List ℕ)) (text : List ℕ) (result : Result T SinkFault) → OnOk result (new ≡ append_known old text) → OnErr result (AppendsPart old new text) → AppendsPart old new text
put-part old new text (Ok x) whole part = part-all old new text whole
put-part old new text (Err e) whole part = part
