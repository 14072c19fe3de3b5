use Rattle.std.proofs.Common.{◌≡◌, ◌++◌, sym, subst, ◌∙◌}
use Rattle.std.specs.Prelude.{OnOk}
use Rattle.fp_hier.proofs.DeclaringClasses.{declaring}
use Rattle.fp_extract.specs.SeedGraph.{type_edges}
use Rattle.fp_extract.specs.declared.seed.node.Node.TheVariants.{Roots}
use Rattle.fp_extract.proofs.RootTypes.{receiver-told}
use Rattle.fp_extract.proofs.seed.roots.push_receiver.Goals as goal

pub returns : goal.returns
returns c =
    let classes = c.args.set.now.classes in
    let owner = c.class_of_method in
    let is = receiver-told classes c.args.method.now c.args.id owner.result c.class-class.result.now (sym c.is_static.ensures ∙ c.if-is_static.false)
    (declaring classes c.args.id owner.result owner.ensures.class owner.ensures.from owner.ensures.to) c.class-class.ensures.class in
    subst (λ l. OnOk c.push_edge.result (c.push_edge.new.edges.items ≡ c.args.edges.now.items ++ type_edges Roots l)) (sym is) c.push_edge.ensures
