use Rattle.std.proofs.Common.{◌≡◌, Some, [], length, ap, arith}
use Rattle.std.specs.Prelude.{unwrap_or}
use Rattle.fp_base.specs.Files.{bytes_at}
use Rattle.fp_load.specs.Steps.{file_at}
use Rattle.fp_load.proofs.PassedLemmas.{all_passed, long_file, own_passed, whole_file}
use Rattle.fp_load.proofs.reading.read_file.Goals as goal

pub returns-then-length-gt-MOST_FILE_BYTES-clause-passed : goal.returns-then-length-gt-MOST_FILE_BYTES-clause-passed
returns-then-length-gt-MOST_FILE_BYTES-clause-passed g c = λ tells rest.
    own_passed c.args.before (file_at (g.D.ClassDir.files c.args.dir.now) c.args.path.now) rest
    (long_file (bytes_at (g.D.ClassDir.files c.args.dir.now) c.args.path.now) c.in-Ok.bytes.items (c.in-Ok.ensures.told tells) (omega arith))

pub returns-then-before-length-gt-MOST_BYTES-clause-passed : goal.returns-then-before-length-gt-MOST_BYTES-clause-passed
returns-then-before-length-gt-MOST_BYTES-clause-passed g c = λ tells rest.
    let file = bytes_at (g.D.ClassDir.files c.args.dir.now) c.args.path.now in
    let whole : file ≡ Some c.in-Ok.bytes.items = whole_file file c.in-Ok.bytes.items (c.in-Ok.ensures.told tells) (omega arith) in
    let size : length (unwrap_or file []) ≡ length c.in-Ok.bytes.items = ap (λ o. length (unwrap_or o [])) whole in
    all_passed c.args.before (file_at (g.D.ClassDir.files c.args.dir.now) c.args.path.now) rest (omega arith) (omega arith)

pub returns-clause-bytes : goal.returns-clause-bytes
returns-clause-bytes g c = λ tells.
    whole_file (bytes_at (g.D.ClassDir.files c.args.dir.now) c.args.path.now) c.in-Ok.bytes.items (c.in-Ok.ensures.told tells) (omega arith)
