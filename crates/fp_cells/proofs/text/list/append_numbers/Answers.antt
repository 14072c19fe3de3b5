use Rattle.std.proofs.Common.{◌≡◌, ℕ, ◌+◌, ◌*◌, ◌-◌, ◌++◌, Bool, length, decimal, ap, sym, ◌∙◌, arith}
use Rattle.fp_cells.specs.Words.{is_set}
use Rattle.fp_cells.proofs.ListLemmas.{separated, listed-more, listed-same, listed-dash, listed-failed, map-passing_more, map-passing_same, on_err}
use Rattle.fp_cells.proofs.text.list.append_numbers.Goals as goal
use Rattle.fp_cells.proofs.text.list.append_numbers.Goals.{then-is_set+in_ok-append_piece, else-is_set}

pub returns-in_err-append_piece-clause-err : goal.returns-in_err-append_piece-clause-err
returns-in_err-append_piece-clause-err c =
    on_err c.from_residual.result (listed-failed _ _ c.loop-i.to.items c.append_piece.new.to.items c.loop-i.is_first c.loop-i.invariant c.in_err-append_piece.ensures.err)

pub loop-i-preserved : goal.loop-i-preserved
loop-i-preserved c =
    let test : ℕ → Bool = λ k. is_set c.args.words.now (c.args.first + k) in
    let i = c.loop-i.i in
    elim c.if-is_set.branch [
      | then-is_set+in_ok-append_piece w ↦
          let piece : w.as_bytes.result.now ≡ decimal i = w.as_bytes.ensures.value ∙ w.format.ensures.text in
          rw (w.to-is, w.is_first-is) (listed-more _ _ _ c.loop-i.to.items w.append_piece.new.to.items (decimal i) c.loop-i.is_first c.loop-i.invariant
          (w.in_ok-append_piece.ensures.ok ∙ ap (λ v. c.loop-i.to.items ++ separated c.loop-i.is_first v) piece)
          (map-passing_more test decimal i (sym c.is_set.ensures ∙ w.if-is_set.true)))
      | else-is_set w ↦ rw (w.to-is, w.is_first-is) (listed-same _ _ _ c.loop-i.to.items c.loop-i.is_first c.loop-i.invariant
          (map-passing_same test decimal i (sym c.is_set.ensures ∙ w.if-is_set.false)))
    ]

pub returns-in_ok-push-clause-ok : goal.returns-in_ok-push-clause-ok
returns-in_ok-push-clause-ok c =
    let end : c.loop-i.i ≡ 64 * length c.args.words.now - c.args.first = omega arith in
    rw end at (listed-dash _ _ c.loop-i.to.items c.push.new.self.items c.loop-i.is_first c.loop-i.invariant c.if-is_first.true c.in_ok-push.ensures.items)
