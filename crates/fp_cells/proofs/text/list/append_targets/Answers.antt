use Rattle.std.proofs.Common.{◌≡◌, ℕ, ◌++◌, Bool, List, true, false, map, length, codes, get_or, ap, sym, ◌∙◌, arith}
use Rattle.std.proofs.lemmas.Result.{on_ok_weaker, on_err_weaker}
use Rattle.fp_cells.specs.Texts.{target_text}
use Rattle.fp_cells.specs.Words.{is_set}
use Rattle.fp_cells.proofs.ListLemmas.{separated, listed-more, listed-same, listed-failed, map-passing_more, map-passing_same, get_or-map_within, length-mapped, callees-outside, callees-inside, on_err}
use Rattle.fp_cells.proofs.text.list.append_targets.Goals as goal
use Rattle.fp_cells.proofs.text.list.append_targets.Goals.{then-is_set+in_ok-append_piece, else-is_set}

pub returns-in_err-append_piece-clause-err : goal.returns-in_err-append_piece-clause-err
returns-in_err-append_piece-clause-err c =
    on_err c.from_residual.result (listed-failed _ _ c.loop-i.to.items c.append_piece.new.to.items c.loop-i.is_first c.loop-i.invariant c.in_err-append_piece.ensures.err)

pub loop-i-preserved : goal.loop-i-preserved
loop-i-preserved c =
    let texts : List (List ℕ) = map (λ t. t.items) c.args.targets.now in
    let test : ℕ → Bool = is_set c.args.words.now in
    let i = c.loop-i.i in
    elim c.if-is_set.branch [
      | then-is_set+in_ok-append_piece w ↦
          let read : get_or texts i (codes "outside") ≡ (get_or c.args.targets.now i c.index-targets-i.result).items = get_or-map_within (λ t. t.items) c.args.targets.now i c.index-targets-i.result (codes "outside") (omega arith) in
          let piece : w.deref.result.now ≡ target_text texts i = w.deref.ensures.value ∙ ap (λ t. t.items) c.index-targets-i.is ∙ sym read in
          rw (w.to-is, w.is_first-is) (listed-more _ _ _ c.loop-i.to.items w.append_piece.new.to.items (target_text texts i) c.loop-i.is_first c.loop-i.invariant
          (w.in_ok-append_piece.ensures.ok ∙ ap (λ v. c.loop-i.to.items ++ separated c.loop-i.is_first v) piece)
          (map-passing_more test (target_text texts) i (sym c.is_set.ensures ∙ w.if-is_set.true)))
      | else-is_set w ↦ rw (w.to-is, w.is_first-is) (listed-same _ _ _ c.loop-i.to.items c.loop-i.is_first c.loop-i.invariant
          (map-passing_same test (target_text texts) i (sym c.is_set.ensures ∙ w.if-is_set.false)))
    ]

pub returns-then-is_set-2-clause-ok : goal.returns-then-is_set-2-clause-ok
returns-then-is_set-2-clause-ok c =
    let texts : List (List ℕ) = map (λ t. t.items) c.args.targets.now in
    let count : length texts ≡ length c.args.targets.now = length-mapped (λ t. t.items) c.args.targets.now in
    let end : c.loop-i.i ≡ length texts = omega arith in
    let hit : is_set c.args.words.now (length texts) ≡ true = ap (is_set c.args.words.now) count ∙ sym c.is_set-2.ensures ∙ c.if-is_set-2.true in
    on_ok_weaker c.append_piece-then-is_set-2.result
    (callees-outside c.args.words.now texts c.loop-i.i _ c.loop-i.to.items c.append_piece-then-is_set-2.new.to.items c.loop-i.is_first end c.loop-i.invariant hit)
    c.append_piece-then-is_set-2.ensures.ok

pub returns-then-is_set-2-clause-err : goal.returns-then-is_set-2-clause-err
returns-then-is_set-2-clause-err c =
    on_err_weaker c.append_piece-then-is_set-2.result
    (listed-failed _ _ c.loop-i.to.items c.append_piece-then-is_set-2.new.to.items c.loop-i.is_first c.loop-i.invariant) c.append_piece-then-is_set-2.ensures.err

pub returns-else-is_first-clause-ok : goal.returns-else-is_first-clause-ok
returns-else-is_first-clause-ok c =
    let texts : List (List ℕ) = map (λ t. t.items) c.args.targets.now in
    let count : length texts ≡ length c.args.targets.now = length-mapped (λ t. t.items) c.args.targets.now in
    let end : c.loop-i.i ≡ length texts = omega arith in
    let missed : is_set c.args.words.now (length texts) ≡ false = ap (is_set c.args.words.now) count ∙ sym c.is_set-2.ensures ∙ c.if-is_set-2.false in
    callees-inside c.args.words.now texts c.loop-i.i _ c.loop-i.to.items c.loop-i.to.items c.loop-i.is_first end c.loop-i.invariant missed c.if-is_first.false
