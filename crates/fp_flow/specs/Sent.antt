-- What a node sends along its edges.
use Rattle.std.specs.Prelude.{◌≡◌, ℕ, Bool}
use Rattle.fp_facts.specs.Dataflow.{Problem}

-- the edges of a node that lead to exception handlers, or those that don't, carry this label wherever they lead
abbrev pub IsSent : {L : Type 0} → Problem L → (to_a_handler : Bool) → (node : ℕ) → (before label : L) → Type 0
IsSent d to_a_handler node before label = (to : ℕ) → label ≡ d.carry (node, to, to_a_handler) before
