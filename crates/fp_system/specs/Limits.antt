-- The bounds of a system.
use Rattle.std.specs.Prelude.{ℕ, nat_lt, Option, Some, None, if◌then◌else◌}
use Rattle.fp_model.specs.declared.limit.LimitName.{LimitName}
use Rattle.fp_model.specs.declared.limit.LimitName.TheVariants as limit

-- the most places, uses and gives that a system may have
abbrev pub most_places : ℕ
most_places = 1048576

abbrev pub most_uses : ℕ
most_uses = 16777216

abbrev pub most_gives : ℕ
most_gives = 16777216

-- the first of places, uses and gives that is above its bound, with the bound
abbrev pub first_exceeded : ℕ → ℕ → ℕ → Option (LimitName × ℕ)
first_exceeded places uses gives =
    if nat_lt most_places places then Some (limit.Places, most_places)
    else if nat_lt most_uses uses then Some (limit.Uses, most_uses)
    else if nat_lt most_gives gives then Some (limit.Gives, most_gives)
    else None
