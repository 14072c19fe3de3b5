use Rattle.std.proofs.Common.{◌≡◌, ◌++◌, take}
use Rattle.fp_facts.specs.Seeds.{instance_types}
use Rattle.fp_extract.specs.SeedGraph.{type_edges}
use Rattle.fp_extract.specs.declared.seed.node.Node.TheVariants.{Fields}
use Rattle.fp_extract.proofs.seed.classes.push_fields.Given as goal

abbrev pub invariant-loop-field : goal.invariant-loop-field
invariant-loop-field l = l.edges.items ≡ l.fn.edges.items ++ type_edges (Fields l.name) (instance_types (take l.field-index l.fields))
