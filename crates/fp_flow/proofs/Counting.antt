-- How many instructions a sound code has.
use Rattle.std.proofs.Common.{false, ◌≡◌, ◌<◌, ◌≤◌, ◌+◌, ◌-◌, ℕ, true, List, [], ◌∷◌, length, get_or, refl, arith}
use Rattle.std.proofs.lemmas.Bool.{both_ways}
use Rattle.std.proofs.lemmas.List.{length-map, get_or-map}
use Rattle.fp_model.specs.declared.class.Code.{Code}
use Rattle.fp_model.specs.declared.class.instr.Instr.{Instr}
use Rattle.fp_model.specs.SoundCode.{ascend_from_0, pcs_of, IsSoundCode}
use Rattle.fp_flow.proofs.RisingOffsets.{number-most}

offsets-some : (pcs : List ℕ) → ascend_from_0 pcs ≡ true → 0 < length pcs
offsets-some [] h = absurd (both_ways false refl h)
offsets-some (pc ∷ pcs) h = omega arith

pub code-some : (code : Code) → IsSoundCode code → 0 < length code.instrs
code-some code sound = omega (arith, offsets-some (pcs_of code) sound.pcs, length-map code.instrs (λ (i : ℕ × Instr). i.0))

-- the last offset tells how many there are at most
pub code-most : (code : Code) (last : ℕ × Instr) → IsSoundCode code → last ≡ get_or code.instrs (length code.instrs - 1) last → length code.instrs ≤ last.0 + 1
code-most code last sound is =
    let some = code-some code sound in
    let long = length-map code.instrs (λ (i : ℕ × Instr). i.0) in
    let at : ℕ = length code.instrs - 1 in
    let within : at < length code.instrs = omega (arith, some) in
    let most = number-most (pcs_of code) at sound.pcs (omega (arith, some, long)) in
    let there = get_or-map (λ (i : ℕ × Instr). i.0) code.instrs at last 0 within in
    let same : last.0 ≡ (get_or code.instrs at last).0 = λ j. (is j).0 in
    omega (arith, some, most, there, same)

pub ruleset counting = (code-some, code-most)
