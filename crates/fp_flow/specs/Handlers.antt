-- Exception handlers by the numbers of the instructions that they begin at.
use Rattle.std.specs.Prelude.{◌≡◌, ℕ, nat_le, nat_lt, Bool, ◌&&◌, List, filter, slice_index}
use Rattle.fp_model.specs.declared.class.Guard.{Guard}
use Rattle.fp_facts.specs.Edges.{number_at}
use Rattle.fp_flow.specs.declared.control.handlers.Handler.{Handler}

-- the handler of a row, by the offsets of the instructions
abbrev pub handler_of : List ℕ → Guard → Handler
handler_of pcs g = record { start = g.start; end = g.end; number = number_at pcs g.handler }

-- it is active at an offset
abbrev pub is_active : ℕ → Handler → Bool
is_active pc h = nat_le h.start pc && nat_lt pc h.end

-- it is active between two offsets, or at one of them
abbrev pub is_near : (first last : ℕ) → Handler → Bool
is_near first last h = nat_le h.start last && nat_lt first h.end

-- those near have all that are active at the instruction of that number
abbrev pub HasActive : List Handler → List ℕ → List Handler → ℕ → Type 0
HasActive handlers pcs near j = filter (is_active (slice_index pcs j)) near ≡ filter (is_active (slice_index pcs j)) handlers
