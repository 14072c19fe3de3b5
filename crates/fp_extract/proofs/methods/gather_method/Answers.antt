use Rattle.std.proofs.Common.{◌++◌, IsTrue, refl, length, [], sym, ap, ap₂, subst, ◌∙◌}
use Rattle.std.specs.Prelude.{IfSome}
use Rattle.fp_facts.specs.Behaviour.{allocs_of, references_of}
use Rattle.fp_facts.specs.Facts.{coded_at}
use Rattle.fp_facts.specs.Kinded.{IsKindedCode, IsKindedMethod}
use Rattle.fp_facts.specs.References.{with_references}
use Rattle.fp_facts.specs.Steps.{steps_of}
use Rattle.fp_hier.proofs.DeclaringClasses.{declaring}
use Rattle.fp_extract.specs.Gathering.{facts_by}
use Rattle.fp_extract.specs.Rooms.{fits, left_after, left_less}
use Rattle.fp_extract.proofs.FrameLists.{all-there, coded-there, length-frames, steps-are}
use Rattle.fp_extract.proofs.GatheredFacts.{IsKept, gathered-more, kept-then, kept-not}
use Rattle.fp_extract.proofs.methods.gather_method.Goals as goal
use Rattle.fp_extract.proofs.methods.gather_method.Goals.{then-fits+in_ok-push, else-fits}

pub code_facts-requires-clause-frames : goal.code_facts-requires-clause-frames
code_facts-requires-clause-frames c =
    ap length c.as_slice.ensures ∙ sym (length-frames c.method-method.result.now c.in-Some.code) ∙ sym (ap length (c.as_slice-2.ensures ∙ c.in_ok-frames.ensures.frames))

pub returns-clause-gathered : goal.returns-clause-gathered
returns-clause-gathered c = λ room before h.
    let set = c.args.set.now in
    let classes = set.classes in
    let id = c.args.id in
    let m = c.method-method.result.now in
    let code = c.in-Some.code in
    let owner = c.class_of_method-caller in
    let caller = owner.result in
    let old = c.args.gathered.now in
    let taken = c.take_allocations.new.self in
    let made = c.in_ok-facts.facts in
    let steps-is = steps-are m code c.as_slice.result.now c.as_slice-2.result.now c.as_slice.ensures (c.as_slice-2.ensures ∙ c.in_ok-frames.ensures.frames) in
    let is = coded-there classes id caller m code c.method-method.ensures c.in-Some.is (declaring classes id caller owner.ensures.class owner.ensures.from owner.ensures.to) in
    let kinded = subst (λ o. IfSome o (IsKindedCode m)) c.in-Some.is (all-there IsKindedMethod _ id m c.requires.kinded c.method-method.ensures) in
    let kept : IsKept old c.if-fits.gathered taken made = elim c.if-fits.branch [
      | then-fits+in_ok-push w ↦ kept-then old c.if-fits.gathered taken made _ w.gathered-is w.in_ok-push.ensures.items refl
      | else-fits w ↦ kept-not old c.if-fits.gathered taken made _ w.gathered-is refl (sym c.fits.ensures ∙ w.if-fits.false)
    ] in
    let table = c.take_allocations.ensures.references ∙ c.in_ok-facts.ensures.table ∙ ap (λ s. with_references old.calls.references (references_of caller s)) steps-is in
    let grown = ap (λ k. k.references) kept.calls ∙ c.take_allocations.ensures.references in
    let count = c.len.ensures ∙ ap (λ f. length f.allocs) (c.in_ok-facts.ensures.facts []) in
    gathered-more set room before (coded_at classes id) (record { id = id; caller = caller; method = m; code = code }) old c.if-fits.gathered made is kinded c.in_ok-frames.ensures.few h
    (ap (λ k. k.references) kept.calls ∙ table)
    (ap (λ k. k.left) kept.calls ∙ c.take_allocations.ensures.left
    ∙ ap₂ left_less (c.in_ok-facts.ensures.left ∙ ap (λ s. left_after set old.calls.left (references_of caller s)) steps-is) (count ∙ ap (λ s. length (allocs_of s)) steps-is))
    (λ more. c.in_ok-facts.ensures.facts more ∙ ap (λ t. facts_by set (t ++ more) id caller (steps_of c.as_slice.result.now c.as_slice-2.result.now)) (sym grown) ∙ ap (λ s. facts_by set (c.if-fits.gathered.calls.references ++ more) id caller s) steps-is)
    (λ fit. kept.methods (subst (λ k. IsTrue (fits k.left)) kept.calls fit))
