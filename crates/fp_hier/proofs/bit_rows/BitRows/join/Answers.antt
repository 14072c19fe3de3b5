use Rattle.std.proofs.Common.{◌<◌, ◌+◌, ◌*◌, ℕ, get_or, set, bit_or, length, ap, sym, subst, ◌∙◌, arith}
use Rattle.std.proofs.lemmas.List.{get_or_read}
use Rattle.fp_hier.proofs.BitPlaces.{IsJoined, word-joined, word-within}
use Rattle.fp_hier.proofs.bit_rows.BitRows.join.Goals as goal

pub loop-index-preserved : goal.loop-index-preserved
loop-index-preserved c =
    let old = c.args.self.now in
    let words = c.loop-index.self.words.items in
    let index = c.loop-index.index in
    let before = c.loop-index.invariant.joined in
    let wide = c.loop-index.invariant.columns in
    let here : index * old.columns + c.args.column < length words = omega (arith, word-within old c.requires.holds index c.args.column c.loop-index-test.true c.requires.column, before.long) in
    let there : index * old.columns + c.args.from < length words = omega (arith, word-within old c.requires.holds index c.args.from c.loop-index-test.true c.requires.from, before.long) in
    let own : index * c.loop-index.self.columns + c.args.column < length words = subst (λ (n : ℕ). index * n + c.args.column < length words) (sym wide) here in
    let other : index * c.loop-index.self.columns + c.args.from < length words = subst (λ (n : ℕ). index * n + c.args.from < length words) (sym wide) there in
    let x = c.index_mut.result.now in
    let y = c.index.result.now in
    record {
      joined = subst (λ (n : ℕ). IsJoined old.columns c.args.column c.args.from (index + 1) old.words.items (set words (index * n + c.args.column) (bit_or x y))) (sym wide)
          (word-joined old.columns c.args.column c.args.from index old.words.items words x y before c.requires.column c.requires.from here
          (get_or_read words (index * c.loop-index.self.columns + c.args.column) x own c.index_mut.ensures.value 0 ∙ ap (λ (n : ℕ). get_or words (index * n + c.args.column) 0) wide)
          (get_or_read words (index * c.loop-index.self.columns + c.args.from) y other c.index.ensures 0 ∙ ap (λ (n : ℕ). get_or words (index * n + c.args.from) 0) wide));
      rows = c.loop-index.invariant.rows;
      columns = c.loop-index.invariant.columns;
      height = c.loop-index.invariant.height;
    }
