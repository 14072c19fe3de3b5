-- The facts that are gathered are those of the set.
use Rattle.std.proofs.Common.{◌≡◌, ℕ, true, IsTrue, List, [], map, refl, ap, ◌∙◌}
use Rattle.std.specs.Prelude.{Option, Some, None, Ok}
use Rattle.std.proofs.lemmas.List.{append-nil}
use Rattle.fp_model.specs.ClassSet.{SetView}
use Rattle.fp_facts.specs.declared.assume.Assume.{Assume}
use Rattle.fp_facts.specs.declared.call_targets.CallTargets.{CallTargets}
use Rattle.fp_facts.specs.declared.facts.Facts.{Facts}
use Rattle.fp_facts.specs.declared.facts.MethodFacts.{MethodFacts}
use Rattle.fp_facts.specs.declared.reference.Reference.{Reference}
use Rattle.fp_facts.specs.Facts.{code_facts, coded, facts_of, references}
use Rattle.fp_facts.specs.Seeds.{seeds}
use Rattle.fp_extract.specs.declared.methods.Gathered.{Gathered}
use Rattle.fp_extract.specs.declared.room.Room.{Room}
use Rattle.fp_extract.specs.Calling.{IsCallTable}
use Rattle.fp_extract.specs.Gathering.{HasGathered}
use Rattle.fp_extract.specs.Refusals.{room_left, room_of}
use Rattle.fp_extract.specs.Rooms.{fits, targets_of}

left-fits : (places uses gives : Option ℕ) (r : Room) → room_of places uses gives ≡ Ok r → fits (record { places = places; uses = uses; gives = gives }) ≡ true
left-fits None uses gives r is = let wrong = is in cc
left-fits (Some p) None gives r is = let wrong = is in cc
left-fits (Some p) (Some u) None r is = let wrong = is in cc
left-fits (Some p) (Some u) (Some g) r is = refl

make-facts : List Reference → List CallTargets → List MethodFacts → List ℕ → List ℕ → Assume → Facts
make-facts refs calls methods among roots assume = record { references = refs; calls = calls; methods = methods; seeds = among; roots = roots; assume = assume }

pub facts-told : (set : SetView) (room left : Room) (g : Gathered) (roots : List ℕ) (assume : Assume) (refs : List Reference) (calls : List CallTargets) (methods : List MethodFacts) (among : List ℕ) →
    IsCallTable set g.calls → HasGathered set room (coded set.classes) g → room_left g.calls.left ≡ Ok left →
    refs ≡ g.calls.references → calls ≡ g.calls.targets.items → methods ≡ g.methods.items → among ≡ seeds set.classes roots →
    record { references = refs; calls = calls; methods = methods; seeds = among; roots = roots; assume = assume } ≡ facts_of set roots assume
unfolding make-facts
facts-told set room left g roots assume refs calls methods among table gathered told refs-are calls-are methods-are seeds-are =
    let all = references set.classes in
    let fit : IsTrue (fits g.calls.left) = left-fits g.calls.left.places g.calls.left.uses g.calls.left.gives left told in
    let first : refs ≡ all = refs-are ∙ gathered.table in
    let second : calls ≡ map (targets_of set) all = calls-are ∙ table.targets fit ∙ ap (map (targets_of set)) gathered.table in
    let third : methods ≡ map (code_facts set all) (coded set.classes) =
    methods-are ∙ gathered.facts fit [] ∙ ap (λ t. map (code_facts set t) (coded set.classes)) (append-nil g.calls.references ∙ gathered.table) in
    ap (λ l. make-facts l calls methods among roots assume) first
    ∙ ap (λ l. make-facts all l methods among roots assume) second
    ∙ ap (λ l. make-facts all (map (targets_of set) all) l among roots assume) third
    ∙ ap (λ l. make-facts all (map (targets_of set) all) (map (code_facts set all) (coded set.classes)) l roots assume) seeds-are
