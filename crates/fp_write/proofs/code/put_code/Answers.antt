use Rattle.std.proofs.lemmas.Result.{on_ok_weaker}
use Rattle.fp_model.specs.Spelling.{code_bytes}
use Rattle.fp_write.proofs.Low.{behind_length}
use Rattle.fp_write.proofs.code.put_code.Goals as goal

pub returns : goal.returns
returns c =
    on_ok_weaker c.put_parts_of_code.result
    (behind_length c.args.out.now.items c.put_u32.new.out.items c.put_parts_of_code.new.out.items (code_bytes c.args.code.now) c.size_of_code.result c.size_of_code.ensures c.in_ok-put_u32.ensures)
    c.put_parts_of_code.ensures
