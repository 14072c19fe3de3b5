-- What a call answers by the phases of a file.
use Rattle.std.proofs.Common.{◌≡◌, ℕ, ◌<◌, ◌^◌, List, Result, Ok, Err, IfOk, length, get_or, sym, ap, ◌∙◌, subst}
use Rattle.fp_model.specs.declared.fault.FileFault.{FileFault}
use Rattle.fp_model.specs.declared.raw.Raw.{Raw}
use Rattle.fp_model.specs.Reading.{Fails, Gives}
use Rattle.fp_model.specs.References.{entries_checked}
use Rattle.fp_model.proofs.Many.{Fails-bind}
use Rattle.fp_class.specs.declared.layout.Layout.{Layout}
use Rattle.fp_class.specs.ClassFile.{class_of, entries_start, names_checked, parts_of, IsWellFormed}
use Rattle.fp_model.specs.Spelling.{spelled}
use Rattle.fp_model.proofs.Readers.{IsBytes}
use Rattle.fp_class.specs.Layout.{layout_of}
use Rattle.fp_class.proofs.ClassSpelled.{class_takes}

-- it fails where the names of classes do
pub fails_named : (e : FileFault) (bytes : List ℕ) (layout : Layout) → layout_of bytes ≡ Ok layout → entries_checked layout.pool.entries entries_start layout.pool.entries ≡ Ok tt → Fails e (names_checked layout.pool.entries layout) → Fails e (class_of bytes)
unfolding class_of
fails_named e bytes layout laid referred failed = rw (laid, referred) (Fails-bind e (names_checked layout.pool.entries layout) (λ _. parts_of bytes layout) failed)

-- what is read is well formed, and the bytes are its spelling
pub found : (bytes : List ℕ) → IsBytes bytes → length bytes < 2 ^ 32 → (result : Result Raw FileFault) → Gives result (class_of bytes) → IfOk result (λ raw. IsWellFormed raw × (spelled raw ≡ bytes))
found bytes below short (Ok raw) read =
    let is : spelled raw ≡ bytes = class_takes bytes below raw read in (
      record {
        short = subst (λ text. length text < 2 ^ 32) (sym is) short;
        bytes = subst (λ text. (i : ℕ) → get_or text i 0 < 256) (sym is) below.below;
        read = ap class_of is ∙ read;
      },
      is,
    )
found bytes below short (Err e) read = tt
