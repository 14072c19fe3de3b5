use Rattle.std.proofs.Common.{◌++◌, All, sym, ap, subst, ◌∙◌, arith}
use Rattle.std.proofs.lemmas.List.{append-nil}
use Rattle.fp_extract.specs.SeedGraph.{IsKindWithin, most_names, type_edges}
use Rattle.fp_extract.specs.declared.seed.node.Node.TheVariants.{Roots}
use Rattle.fp_extract.proofs.RootTypes.{no-root}
use Rattle.fp_extract.proofs.SeedNames.{arguments-within}
use Rattle.fp_extract.proofs.seed.roots.push_root.Goals as goal

pub returns-then-root-methods : goal.returns-then-root-methods
returns-then-root-methods c =
    let edges = c.args.edges.now.items in
    let none = no-root c.args.set.now.classes c.args.root (omega (arith, c.if-root-methods.true, c.counts-classes.ensures.methods)) in
    sym (append-nil edges) ∙ ap (λ l. edges ++ type_edges Roots l) (sym none)

pub push_types-requires-clause-kinds : goal.push_types-requires-clause-kinds
push_types-requires-clause-kinds c =
    subst (All (IsKindWithin most_names)) (sym (c.as_slice.ensures ∙ ap (λ k. k.args) c.deref.ensures))
    (arguments-within c.args.set.now most_names c.args.root c.method-method.result.now c.counts-classes.ensures.set c.requires c.method-method.ensures)
