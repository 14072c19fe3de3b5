use Rattle.std.proofs.Common.{List, ℕ, ap, ◌∙◌}
use Rattle.fp_facts.specs.Hierarchy.{has_number}
use Rattle.fp_facts.specs.Resolution.{class_of_method}
use Rattle.fp_extract.proofs.BegunLists.{all-begun, flags-known}
use Rattle.std.proofs.Common.{length}
use Rattle.fp_rta.proofs.DeclaredClasses.{same-known}
use Rattle.fp_rta.proofs.givers.begun_with.Goals as goal

pub begun_from-requires-clause-initialisers : goal.begun_from-requires-clause-initialisers
begun_from-requires-clause-initialisers c = flags-known c.args.set.now c.as_slice.result.now (c.as_slice.ensures.value ∙ c.in_ok-flags.ensures)

pub begun_from-requires-clause-classes : goal.begun_from-requires-clause-classes
begun_from-requires-clause-classes c =
    same-known (length c.args.set.now.classes) c.in_ok-declaring.field-0.items c.as_slice-2.result.now
    (λ n. ap (λ (l : List ℕ). has_number l n) c.as_slice-2.ensures.value ∙ c.ascending-classes.ensures.members n) c.in_ok-declaring.ensures.known

pub returns : goal.returns
returns c =
    let set = c.args.set.now in
    all-begun (λ (m : ℕ). class_of_method set.classes m) set c.as_slice.result.now c.args.methods.now c.in_ok-declaring.field-0.items c.as_slice-2.result.now c.in_ok-begun.begun.items c.ascending.result.items
    (c.as_slice.ensures.value ∙ c.in_ok-flags.ensures) c.in_ok-declaring.ensures.classes
    (λ n. ap (λ (l : List ℕ). has_number l n) c.as_slice-2.ensures.value ∙ c.ascending-classes.ensures.members n)
    c.in_ok-begun.ensures c.ascending.ensures.rising c.ascending.ensures.members
