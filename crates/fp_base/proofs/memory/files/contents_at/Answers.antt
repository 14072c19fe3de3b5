-- A look-up in the map finds what is told.
use Rattle.std.proofs.Common.{Some, ap, ◌∙◌}
use Rattle.std.specs.Option.{option_map}
use Rattle.fp_base.proofs.FileMapLemmas.{lookup-told}
use Rattle.fp_base.proofs.memory.files.contents_at.Goals as goal

pub returns-in_err-bytes : goal.returns-in_err-bytes
returns-in_err-bytes c =
    rw c.from_residual.ensures
    (ap (option_map (λ bytes. bytes.items)) c.in_err-bytes.ensures.value ∙ lookup-told c.args.files.now.entries c.args.path.now)

pub returns : goal.returns
returns c =
    ap Some c.as_slice.ensures.value
    ∙ ap (option_map (λ bytes. bytes.items)) c.in_ok-bytes.ensures.value ∙ lookup-told c.args.files.now.entries c.args.path.now
