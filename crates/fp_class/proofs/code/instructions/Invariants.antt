use Rattle.std.proofs.Common.{◌≡◌, ◌+◌, true, length, drop, take}
use Rattle.std.specs.List.{flat_map}
use Rattle.fp_base.specs.Names.{with_names}
use Rattle.fp_ops.specs.BootMemos.{IsBootMemo}
use Rattle.fp_ops.specs.Memos.{IsMemo}
use Rattle.fp_class.specs.MethodCode.{AreInstrsFrom}
use Rattle.fp_model.specs.Spelling.{spelled_ins}
use Rattle.fp_ops.specs.Checked.{are_sound_from}
use Rattle.fp_ops.specs.Forms.{instr_texts}
use Rattle.fp_class.proofs.code.instructions.Given as goal

-- the instructions up to here are those of the code, and the next stands at pc
abbrev pub invariant-loop-ins : goal.invariant-loop-ins
invariant-loop-ins l = record {
  at : l.pc ≡ length (flat_map spelled_ins (take l.ins-index l.code));
  left : l.pc + length (flat_map spelled_ins (drop l.ins-index l.code)) ≡ length (flat_map spelled_ins l.code);
  sound : are_sound_from l.pool.entries l.boots l.pc (drop l.ins-index l.code) ≡ true;
  names : l.names ≡ with_names l.fn.names (flat_map (instr_texts l.pool.entries l.boots) (take l.ins-index l.code));
  instrs : AreInstrsFrom l.names l.pool.entries l.boots 0 l.instrs.items (take l.ins-index l.code);
  memo : IsMemo l.names l.pool.entries l.memo;
  rows : IsBootMemo l.names l.pool.entries l.boots l.boot_memo;
}
