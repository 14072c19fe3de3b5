-- How many edges a code has at most, told before any is made.
use Rattle.std.specs.Prelude.{◌≡◌, ℕ, ◌+◌, ◌-◌, ◌<◌, ◌^◌, nat_lt, List, length, count_by, sum_by, if◌then◌else◌}
use Rattle.fp_model.specs.declared.class.Code.{Code}
use Rattle.fp_model.specs.declared.class.Guard.{Guard}
use Rattle.fp_model.specs.declared.class.instr.Instr.{Instr}
use Rattle.fp_model.specs.SoundCode.{branches_to}
use Rattle.fp_facts.specs.Edges.{falls_through}

-- those from an instruction but for the ones to handlers, as if each had a next one
abbrev pub plain_count : ℕ × Instr → ℕ
plain_count i = (if falls_through i.1 then 1 else 0) + length (branches_to i.1)

-- how many instructions stand before an offset
abbrev pub count_before : List ℕ → ℕ → ℕ
count_before pcs pc = count_by (λ other. nat_lt other pc) pcs

-- how many a row of the exception table covers
abbrev pub covered_count : List ℕ → Guard → ℕ
covered_count pcs row = count_before pcs row.end - count_before pcs row.start

-- all of a code
abbrev pub most_edges : Code → List ℕ → ℕ
most_edges code pcs = sum_by plain_count code.instrs + sum_by (covered_count pcs) code.rows

-- the count is the total, unless it stands at its last value
abbrev pub IsCount : (count total : ℕ) → Type 0
IsCount count total = count < 2 ^ 64 - 1 → count ≡ total
