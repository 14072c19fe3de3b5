-- Why there are no facts of a set: the first bound that is passed.
use Rattle.std.specs.Prelude.{◌≡◌, ℕ, nat_lt, Bool, IsTrue, List, Option, Some, None, Result, Ok, Err, if◌then◌else◌}
use Rattle.std.specs.List.{list_any}
use Rattle.fp_model.specs.declared.limit.LimitName.{LimitName}
use Rattle.fp_model.specs.declared.limit.LimitName.TheVariants as limit
use Rattle.fp_model.specs.ClassSet.{SetView}
use Rattle.fp_facts.specs.Facts.{Coded, coded}
use Rattle.fp_facts.specs.Origins.{origin_pairs}
use Rattle.fp_origin.specs.Answers.{most_origin_pairs}
use Rattle.fp_extract.specs.declared.fault.FactsFault.{FactsFault}
use Rattle.fp_extract.specs.declared.fault.FactsFault.TheVariants as fault
use Rattle.fp_extract.specs.declared.room.Left.{Left}
use Rattle.fp_extract.specs.declared.room.Room.{Room}
use Rattle.fp_extract.specs.Rooms.{taken_gives, taken_places, taken_uses}

-- there are more pairs of a frame word and an origin than are told
abbrev pub has_many_pairs : Coded → Bool
has_many_pairs m = nat_lt most_origin_pairs (origin_pairs m.method m.code)

-- some method has too many origin pairs; then the places of the calls and allocations, what their equations use, and what these give
abbrev pub facts_refusal : SetView → Room → Option LimitName
facts_refusal set room =
    if list_any has_many_pairs (coded set.classes) then Some limit.OriginPairs
    else if nat_lt room.places (taken_places set) then Some limit.Places
    else if nat_lt room.uses (taken_uses set) then Some limit.Uses
    else if nat_lt room.gives (taken_gives set) then Some limit.Gives
    else None

-- want of memory tells nothing
abbrev pub TellsFault : Option LimitName → FactsFault → Type 0
TellsFault told (fault.Limit name) = told ≡ Some name
TellsFault told fault.Memory = Unit {0}

-- the same of some methods, as far as origins go
abbrev pub TellsPairs : List Coded → FactsFault → Type 0
TellsPairs methods (fault.Limit name) = (name ≡ limit.OriginPairs) × IsTrue (list_any has_many_pairs methods)
TellsPairs methods fault.Memory = Unit {0}

-- what is left of each bound, or the first that is passed
abbrev pub room_of : (places uses gives : Option ℕ) → Result Room FactsFault
room_of None uses gives = Err (fault.Limit limit.Places)
room_of (Some p) None gives = Err (fault.Limit limit.Uses)
room_of (Some p) (Some u) None = Err (fault.Limit limit.Gives)
room_of (Some p) (Some u) (Some g) = Ok (record { places = p; uses = u; gives = g })

abbrev pub room_left : Left → Result Room FactsFault
room_left l = room_of l.places l.uses l.gives
