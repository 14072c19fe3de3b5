-- What calls and allocations take of the bounds of a system.
use Rattle.std.specs.Prelude.{ℕ, ◌+◌, ◌-◌, ◌/◌, nat_lt, Bool, ◌&&◌, List, length, fold, sum_by, is_some, Option, Some, None, if◌then◌else◌}
use Rattle.fp_model.specs.ClassSet.{SetView, methods_of}
use Rattle.fp_facts.specs.declared.call_targets.CallTargets.{CallTargets}
use Rattle.fp_facts.specs.declared.reference.Reference.{Reference}
use Rattle.fp_facts.specs.Behaviour.{allocs_of}
use Rattle.fp_facts.specs.Facts.{Coded, call_targets, coded, references_in}
use Rattle.fp_facts.specs.References.{reference_candidates}
use Rattle.fp_facts.specs.Steps.{steps}
use Rattle.fp_extract.specs.declared.room.Cost.{Cost}
use Rattle.fp_extract.specs.declared.room.Left.{Left}
use Rattle.fp_extract.specs.declared.room.Room.{Room}

-- ---- one call

-- what a call of a reference can reach
abbrev pub targets_of : SetView → Reference → CallTargets
targets_of set r = call_targets (length (methods_of set.classes)) (reference_candidates set r)

-- the words of 64 bits that have a bit for each target, and one for the outside
abbrev pub callee_words : CallTargets → ℕ
callee_words t = length t.targets / 64 + 1

-- The callees of a call are these words. Its equation uses whether its method is reached, and each class that it watches; it gives to
-- the callees, and to each target.
abbrev pub cost_of : CallTargets → Cost
cost_of t = record { places = callee_words t; uses = length t.watch + 1; gives = callee_words t + length t.targets }

abbrev pub call_cost : SetView → Reference → Cost
call_cost set r = cost_of (targets_of set r)

-- ---- all calls and allocations, each of which has a place of its own

abbrev pub method_places : SetView → Coded → ℕ
method_places set m = sum_by (λ r. (call_cost set r).places) (references_in m) + length (allocs_of (steps m.method m.code))

abbrev pub method_uses : SetView → Coded → ℕ
method_uses set m = sum_by (λ r. (call_cost set r).uses) (references_in m)

abbrev pub method_gives : SetView → Coded → ℕ
method_gives set m = sum_by (λ r. (call_cost set r).gives) (references_in m)

abbrev pub taken_places : SetView → ℕ
taken_places set = sum_by (method_places set) (coded set.classes)

abbrev pub taken_uses : SetView → ℕ
taken_uses set = sum_by (method_uses set) (coded set.classes)

abbrev pub taken_gives : SetView → ℕ
taken_gives set = sum_by (method_gives set) (coded set.classes)

-- what they leave
abbrev pub room_after : SetView → Room → Room
room_after set room = record { places = room.places - taken_places set; uses = room.uses - taken_uses set; gives = room.gives - taken_gives set }

-- ---- what is left after some of them, none of a bound that is passed

abbrev pub less : Option ℕ → ℕ → Option ℕ
less None n = None
less (Some m) n = if nat_lt m n then None else Some (m - n)

abbrev pub left_without : Left → Cost → Left
left_without l c = record { places = less l.places c.places; uses = less l.uses c.uses; gives = less l.gives c.gives }

-- no bound is passed
abbrev pub fits : Left → Bool
fits l = is_some l.places && (is_some l.uses && is_some l.gives)

-- after calls of these references, and after the calls and allocations of methods
abbrev pub left_after : SetView → Left → List Reference → Left
left_after set l refs = fold (λ (left : Left) (r : Reference). left_without left (call_cost set r)) l refs

abbrev pub left_less : Left → (places : ℕ) → Left
left_less l n = record { places = less l.places n; uses = l.uses; gives = l.gives }

abbrev pub left_by : SetView → Left → Coded → Left
left_by set l m = left_less (left_after set l (references_in m)) (length (allocs_of (steps m.method m.code)))

abbrev pub left_of : Room → Left
left_of room = record { places = Some room.places; uses = Some room.uses; gives = Some room.gives }
