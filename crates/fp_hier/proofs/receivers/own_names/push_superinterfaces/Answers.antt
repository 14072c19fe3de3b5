use Rattle.std.proofs.Common.{◌++◌, ℕ, List, sym, ap, ◌∙◌}
use Rattle.std.specs.List.{flat_map}
use Rattle.fp_facts.specs.Hierarchy.{superinterfaces_at}
use Rattle.fp_hier.specs.Lineages.{rest_of}
use Rattle.fp_hier.proofs.FirstNamed.{list-given}
use Rattle.fp_hier.proofs.receivers.own_names.push_superinterfaces.Goals as goal

pub loop-id-preserved : goal.loop-id-preserved
loop-id-preserved c =
    let classes = c.args.set.now.classes in
    let each : ℕ → List ℕ = superinterfaces_at classes in
    record {
      same = list-given each c.in-Some.id (rest_of classes c.step.new.self) c.loop-id.names.items c.of.result.now c.extend_from_slice.new.self.items (c.of.ensures classes c.requires.lists) c.in_ok-extend_from_slice.ensures.items
          ∙ ap (λ (ids : List ℕ). c.loop-id.names.items ++ flat_map each ids) (sym c.in-Some.ensures.one)
          ∙ c.loop-id.invariant.same;
      known = c.in-Some.ensures.known;
    }
