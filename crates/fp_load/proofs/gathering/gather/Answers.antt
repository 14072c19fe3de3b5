use Rattle.std.proofs.Common.{◌≡◌, ◌<◌, ◌∷◌, ◌∙◌, [], length, sym, ap, subst, arith}
use Rattle.std.specs.Prelude.{IsSome, IsTrue, string_bytes}
use Rattle.std.proofs.lemmas.Result.{err_from_is_err_and}
use Rattle.fp_base.specs.Files.{bytes_at}
use Rattle.fp_load.specs.Steps.{file_at, BlamesReading, TellsPassed}
use Rattle.fp_load.specs.Load.{passed_from}
use Rattle.fp_load.proofs.ReadLemmas.{added_as, blamed_among, holds_at, passed_here, read_more, Keeps-then}
use Rattle.fp_load.proofs.gathering.gather.Goals as goal

pub read_file-requires-clause-there : goal.read_file-requires-clause-there
read_file-requires-clause-there g c = λ tells.
    let within : c.loop-path.path-index < length c.args.paths.now = omega arith in
    let before : IsTrue (g.D.ClassDir.tells c.args.dir.now) = rw (← c.loop-path.invariant.keeps.telling) tells in
    rw (c.as_str.ensures.value, c.loop-path.invariant.keeps.told)
    (holds_at c.args.paths.now c.loop-path.path-index c.path-item.result within c.path-item.is (λ p. IsSome (bytes_at (g.D.ClassDir.files c.args.dir.now) p)) (c.requires.there before))

pub returns-in_err-bytes-clause-passed : goal.returns-in_err-bytes-clause-passed
returns-in_err-bytes-clause-passed g c =
    let p = err_from_is_err_and c.from_residual.result c.from_residual.ensures.1 in
    rw (p.1, p.2) (λ tells.
    let within : c.loop-path.path-index < length c.args.paths.now = omega arith in
    let after : IsTrue (g.D.ClassDir.tells c.loop-path.dir) = rw c.loop-path.invariant.keeps.telling tells in
    passed_here c.args.paths.now c.loop-path.path-index c.path-item.result within c.path-item.is (g.D.ClassDir.tells c.args.dir.now) (g.D.ClassDir.files c.args.dir.now) (g.D.ClassDir.files c.loop-path.dir) c.loop-path.sum c.loop-path.gathered c.in_err-bytes.field-0.0
    tells c.loop-path.invariant.keeps.told c.loop-path.invariant.read
    (λ rest. subst (λ p. TellsPassed (passed_from c.loop-path.sum (file_at (g.D.ClassDir.files c.loop-path.dir) p ∷ rest)) c.in_err-bytes.field-0.0) c.as_str.ensures.value (c.in_err-bytes.ensures.passed after rest)))

pub returns-in_err-bytes-clause-blames : goal.returns-in_err-bytes-clause-blames
returns-in_err-bytes-clause-blames g c =
    let p = err_from_is_err_and c.from_residual.result c.from_residual.ensures.1 in
    rw (p.1, p.2) (
    let within : c.loop-path.path-index < length c.args.paths.now = omega arith in
    blamed_among c.args.paths.now c.loop-path.path-index c.path-item.result within c.path-item.is (g.D.ClassDir.failed c.args.dir.now) (g.D.ClassDir.failed c.loop-path.dir) (g.D.ClassDir.failed c.read_file.new.dir) c.in_err-bytes.field-0.0
    c.loop-path.invariant.keeps.grows
    (subst (λ p. BlamesReading (p ∷ []) (g.D.ClassDir.failed c.loop-path.dir) (g.D.ClassDir.failed c.read_file.new.dir) c.in_err-bytes.field-0.0) c.as_str.ensures.value c.in_err-bytes.ensures.blames))

pub loop-path-preserved : goal.loop-path-preserved
loop-path-preserved g c =
    let within : c.loop-path.path-index < length c.args.paths.now = omega arith in
    let size : c.len.result ≡ length c.in_ok-bytes.bytes.items = omega (arith, c.in_ok-bytes.bytes.ok.0) in
    record {
      keeps = Keeps-then (g.D.ClassDir.tells c.args.dir.now) (g.D.ClassDir.tells c.loop-path.dir) (g.D.ClassDir.tells c.read_file.new.dir) (g.D.ClassDir.files c.args.dir.now) (g.D.ClassDir.files c.loop-path.dir) (g.D.ClassDir.files c.read_file.new.dir) (g.D.ClassDir.failed c.args.dir.now) (g.D.ClassDir.failed c.loop-path.dir) (g.D.ClassDir.failed c.read_file.new.dir) c.loop-path.invariant.keeps c.in_ok-bytes.ensures.keeps;
      listed = c.in_ok-bytes.ensures.listed ∙ c.loop-path.invariant.listed;
      room = rw size c.in_ok-bytes.ensures.room;
      read = rw size
          (read_more c.args.paths.now c.loop-path.path-index c.path-item.result within c.path-item.is (g.D.ClassDir.tells c.args.dir.now) (g.D.ClassDir.files c.args.dir.now) (g.D.ClassDir.files c.loop-path.dir) c.loop-path.sum c.in_ok-bytes.bytes.items c.loop-path.gathered c.add_file.new.gathered
          c.loop-path.invariant.keeps.told
          (λ tells.
          let after : IsTrue (g.D.ClassDir.tells c.loop-path.dir) = rw c.loop-path.invariant.keeps.telling tells in
          ap (bytes_at (g.D.ClassDir.files c.loop-path.dir)) (sym c.as_str.ensures.value) ∙ c.in_ok-bytes.ensures.bytes after)
          c.in_ok-bytes.ensures.short c.in_ok-bytes.ensures.room
          (added_as (string_bytes c.path-item.result) c.as_str-in-loop-path.result.now c.in_ok-bytes.bytes.items c.deref.result.now c.loop-path.gathered c.add_file.new.gathered c.as_str-in-loop-path.ensures.value c.deref.ensures.value
          c.in_ok-add_file.ensures)
          c.loop-path.invariant.read);
    }
