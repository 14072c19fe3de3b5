use Rattle.std.proofs.Common.{◌≡◌, ◌≤◌, ℕ, IfSome, Vec, Global, length, subst, sym, ◌∙◌}
use Rattle.fp_model.specs.SoundCode.{method_words}
use Rattle.fp_facts.specs.declared.label.Label.{Label}
use Rattle.fp_facts.specs.Dataflow.{labels, solution}
use Rattle.fp_origin.specs.Groups.{AreGroupLabels, words_problem}
use Rattle.fp_origin.proofs.GroupMarks.{ok-both, solved-labels, solver-ascending, solver-first, solver-laws}
use Rattle.fp_origin.proofs.group.group_labels.Goals as goal

pub entry_words-requires-clause-room : goal.entry_words-requires-clause-room
entry_words-requires-clause-room c =
    subst (λ o. IfSome o (λ found. method_words c.args.method.now ≤ found.max_locals)) c.requires.code c.requires.sound.arguments

pub invariant_of-problem : goal.invariant_of-problem
invariant_of-problem c = record {
  laws = solver-laws c.args.method.now c.args.code.now c.args.group.now c.requires.sound c.requires.code c.requires.few c.as_slice-2.result.now c.args.flow.now.edges c.as_slice-edges.result.now
      (c.as_slice-2.ensures.value ∙ c.in_ok-arguments.ensures) c.as_slice-edges.ensures c.requires.flow;
  other = c.origin_bits.ensures;
  told = c.as_slice-3.ensures.value ∙ c.in_ok-transfers.ensures;
}

pub solve-requires-clause-ascending : goal.solve-requires-clause-ascending
solve-requires-clause-ascending c = solver-ascending c.args.code.now c.args.flow.now.edges c.as_slice-edges.result.now c.as_slice-edges.ensures c.requires.flow

pub solve-requires-clause-first : goal.solve-requires-clause-first
solve-requires-clause-first c =
    solver-first c.args.code.now c.as_slice.result.now c.args.group.now c.as_slice-2.result.now c.as_slice-edges.result.now c.in_ok-entry.entry c.in_ok-first.first.items _
    (c.as_slice-2.ensures.value ∙ sym c.as_slice.ensures.value) c.in_ok-entry.ensures c.in_ok-first.ensures

pub returns : goal.returns
returns c =
    ok-both c.solve.result
    (λ (v : Vec (Label ℕ) Global). length v.items ≡ length c.args.code.now.instrs)
    (λ (v : Vec (Label ℕ) Global).
    labels (words_problem c.args.code.now c.args.group.now c.as_slice-2.result.now c.as_slice-edges.result.now) v.items
    ≡ solution (words_problem c.args.code.now c.args.group.now c.as_slice-2.result.now c.as_slice-edges.result.now))
    (λ (v : Vec (Label ℕ) Global). AreGroupLabels c.args.method.now c.args.code.now c.args.group.now v.items)
    (λ v long same. solved-labels c.args.method.now c.args.code.now c.args.group.now c.requires.sound c.requires.code c.requires.few
    c.as_slice-2.result.now c.args.flow.now.edges c.as_slice-edges.result.now v.items
    c.requires.kinded (c.as_slice-2.ensures.value ∙ c.in_ok-arguments.ensures) c.as_slice-edges.ensures c.requires.flow long same)
    c.solve.ensures.long c.solve.ensures.value
