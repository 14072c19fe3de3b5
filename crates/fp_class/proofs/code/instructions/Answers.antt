use Rattle.std.proofs.Common.{◌∷◌, [], take, ◌+◌, ◌++◌, sym, ◌∙◌, arith}
use Rattle.std.proofs.lemmas.Result.{err_from_is_err_and}
use Rattle.std.specs.List.{flat_map}
use Rattle.fp_model.proofs.Taking.{kept_by, taken_late}
use Rattle.fp_ops.specs.Forms.{instr_texts}
use Rattle.fp_ops.proofs.Walking.{left_size}
use Rattle.fp_class.proofs.LongerInstrs.{AreInstrsFrom-kept}
use Rattle.fp_class.proofs.NamedCode.{sound_next, size_more, AreInstrsFrom-more}
use Rattle.fp_ops.proofs.Tables.{front_of, names_more, pushed}
use Rattle.fp_ops.proofs.TakenTexts.{all_taken, one_stops}
use Rattle.fp_class.proofs.code.instructions.Goals as goal

pub instr_with-requires-clause-sound : goal.instr_with-requires-clause-sound
instr_with-requires-clause-sound c = (sound_next c.args.pool.now.entries c.args.boots.now c.loop-ins.pc c.args.code.now c.loop-ins.ins-index c.ins-item.result c.loop-ins-test.true c.ins-item.is c.loop-ins.invariant.sound).0

pub returns-in_err-instr-clause-names : goal.returns-in_err-instr-clause-names
returns-in_err-instr-clause-names c =
    let p = err_from_is_err_and c.from_residual.result c.from_residual.ensures.1 in
    rw (p.1, p.2)
    (one_stops (instr_texts c.args.pool.now.entries c.args.boots.now) c.args.code.now c.loop-ins.ins-index c.ins-item.result c.in_err-instr.field-0.0 c.args.names.now c.loop-ins.names c.instr_with.new.names
    c.loop-ins-test.true c.ins-item.is c.loop-ins.invariant.names c.in_err-instr.ensures.names)

pub returns-then-is_err-clause-names : goal.returns-then-is_err-clause-names
returns-then-is_err-clause-names c =
    taken_late c.args.names.now c.instr_with.new.names (flat_map (instr_texts c.args.pool.now.entries c.args.boots.now) (take (c.loop-ins.ins-index + 1) c.args.code.now)) _
    (names_more (instr_texts c.args.pool.now.entries c.args.boots.now) c.args.code.now c.loop-ins.ins-index c.ins-item.result c.loop-ins-test.true c.ins-item.is
    c.args.names.now c.loop-ins.names c.instr_with.new.names c.loop-ins.invariant.names c.in_ok-instr.ensures.names.names)

pub loop-ins-preserved : goal.loop-ins-preserved
loop-ins-preserved c =
    let longer = pushed c.push.result c.push.new.self.items (c.loop-ins.instrs.items ++ (c.loop-ins.pc, c.in_ok-instr.instr) ∷ []) c.loop-ins.instrs.items (sym c.is_err.ensures.value ∙ c.if-is_err.false) c.push.ensures.items in
    let kept = kept_by _ _ _ _ c.in_ok-instr.ensures.names in
    record {
      at = omega (arith, c.loop-ins.invariant.at, c.size-pc.ensures, size_more c.args.code.now c.loop-ins.ins-index c.ins-item.result c.loop-ins-test.true c.ins-item.is);
      left = omega (arith, c.loop-ins.invariant.left, c.size-pc.ensures, left_size c.args.code.now c.loop-ins.ins-index c.ins-item.result c.loop-ins-test.true c.ins-item.is);
      sound = rw c.size-pc.ensures (sound_next c.args.pool.now.entries c.args.boots.now c.loop-ins.pc c.args.code.now c.loop-ins.ins-index c.ins-item.result c.loop-ins-test.true c.ins-item.is c.loop-ins.invariant.sound).1;
      names = names_more (instr_texts c.args.pool.now.entries c.args.boots.now) c.args.code.now c.loop-ins.ins-index c.ins-item.result c.loop-ins-test.true c.ins-item.is
          c.args.names.now c.loop-ins.names c.instr_with.new.names c.loop-ins.invariant.names c.in_ok-instr.ensures.names.names;
      instrs = rw (longer, front_of (instr_texts c.args.pool.now.entries c.args.boots.now) c.args.code.now c.loop-ins.ins-index c.ins-item.result c.loop-ins-test.true c.ins-item.is)
          (AreInstrsFrom-more c.instr_with.new.names c.args.pool.now.entries c.args.boots.now 0 c.loop-ins.pc c.loop-ins.instrs.items (take c.loop-ins.ins-index c.args.code.now) c.in_ok-instr.instr c.ins-item.result
          (AreInstrsFrom-kept c.loop-ins.names c.instr_with.new.names kept c.args.pool.now.entries c.args.boots.now 0 c.loop-ins.instrs.items (take c.loop-ins.ins-index c.args.code.now) c.loop-ins.invariant.instrs)
          (omega (arith, c.loop-ins.invariant.at)) c.in_ok-instr.ensures.instr);
      memo = c.in_ok-instr.ensures.memo;
      rows = c.in_ok-instr.ensures.rows;
    }

pub returns-clause-names : goal.returns-clause-names
returns-clause-names c = all_taken (instr_texts c.args.pool.now.entries c.args.boots.now) c.args.code.now c.loop-ins.ins-index c.from_vec.result c.args.names.now c.loop-ins.names (omega arith) c.loop-ins.invariant.names
