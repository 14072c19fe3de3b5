use Rattle.std.proofs.Common.{List, ℕ, ap, ◌∙◌}
use Rattle.fp_facts.specs.Hierarchy.{has_number}
use Rattle.fp_facts.specs.Initialisation.{initialised_by}
use Rattle.fp_facts.specs.Steps.{Step, steps_of}
use Rattle.fp_extract.proofs.BegunLists.{all-begun, flags-known}
use Rattle.fp_extract.proofs.InitialisedClasses.{all-known}
use Rattle.fp_extract.proofs.begun.begun.Goals as goal

pub begun_from-requires-clause-initialisers : goal.begun_from-requires-clause-initialisers
begun_from-requires-clause-initialisers c = flags-known c.args.set.now c.args.initialisers.now c.requires.initialisers

pub begun_from-requires-clause-classes : goal.begun_from-requires-clause-classes
begun_from-requires-clause-classes c =
    all-known c.args.set.now.classes (steps_of c.args.instrs.now c.args.frames.now) c.in_ok-initialised.field-0.items c.as_slice.result.now c.in_ok-initialised.ensures
    (λ n. ap (λ (l : List ℕ). has_number l n) c.as_slice.ensures.value ∙ c.ascending-classes.ensures.members n)

pub returns : goal.returns
returns c =
    all-begun (λ (s : Step). initialised_by c.args.set.now.classes s.instr) c.args.set.now c.args.initialisers.now (steps_of c.args.instrs.now c.args.frames.now) c.in_ok-initialised.field-0.items c.as_slice.result.now c.in_ok-begun.begun.items c.ascending.result.items
    c.requires.initialisers c.in_ok-initialised.ensures
    (λ n. ap (λ (l : List ℕ). has_number l n) c.as_slice.ensures.value ∙ c.ascending-classes.ensures.members n)
    c.in_ok-begun.ensures c.ascending.ensures.rising c.ascending.ensures.members
