use Rattle.std.proofs.Common.{◌≡◌, ◌++◌, List, drop}
use Rattle.fp_facts.specs.declared.reference.Reference.{Reference}
use Rattle.fp_facts.specs.Behaviour.{references_of, sites_of}
use Rattle.fp_facts.specs.References.{with_references}
use Rattle.fp_facts.specs.Steps.{steps_of}
use Rattle.fp_extract.specs.Calling.{IsCallTable}
use Rattle.fp_extract.specs.Rooms.{left_after}
use Rattle.fp_extract.proofs.site.sites.Given as goal

abbrev pub invariant-loop-at : goal.invariant-loop-at
invariant-loop-at l = record {
  told : IsCallTable l.set l.calls;
  table : with_references l.calls.references (references_of l.caller (steps_of (drop l.at l.instrs) (drop l.at l.frames))) ≡ with_references l.fn.calls.references (references_of l.caller (steps_of l.instrs l.frames));
  left : left_after l.set l.calls.left (references_of l.caller (steps_of (drop l.at l.instrs) (drop l.at l.frames))) ≡ left_after l.set l.fn.calls.left (references_of l.caller (steps_of l.instrs l.frames));
  sites : (more : List Reference) → l.sites.items ++ sites_of (with_references l.fn.calls.references (references_of l.caller (steps_of l.instrs l.frames)) ++ more) l.caller (steps_of (drop l.at l.instrs) (drop l.at l.frames)) ≡ sites_of (with_references l.fn.calls.references (references_of l.caller (steps_of l.instrs l.frames)) ++ more) l.caller (steps_of l.instrs l.frames);
}
