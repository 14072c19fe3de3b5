-- The transfer function at each instruction of a code.
use Rattle.std.proofs.Common.{◌≡◌, ◌<◌, ◌+◌, ℕ, zero, suc, List, [], ◌∷◌, length, slice_index_or, slice_get, refl, sym, ap, ◌∙◌, arith}
use Rattle.std.specs.Option.{option_map_or}
use Rattle.fp_model.specs.declared.class.Code.{Code}
use Rattle.fp_model.specs.declared.class.instr.Instr.{Instr}
use Rattle.fp_model.specs.declared.kind.Sort.{Sort}
use Rattle.fp_facts.specs.declared.label.Label.{Label}
use Rattle.fp_facts.specs.Effects.{effect_of}
use Rattle.fp_facts.specs.Transfer.{after, is_wrong, label_after}
use Rattle.fp_kinds.specs.declared.transfer.Transfer.{Transfer}
use Rattle.fp_kinds.specs.Transfers.{transfers_behind, transfers_of}

pub length-transfers_behind : (n : ℕ) (r : List Sort) (number : ℕ) (is : List (ℕ × Instr)) → length (transfers_behind n r number is) ≡ length is
unfolding transfers_behind
length-transfers_behind n r number [] = refl
length-transfers_behind n r number (i ∷ is) = ap suc (length-transfers_behind n r (number + 1) is)

-- what the instruction at a place makes of a label
after-behind : (most n : ℕ) (r : List Sort) (number : ℕ) (is : List (ℕ × Instr)) (k at : ℕ) (d : Transfer) (x : Label Sort) → k < length is → at ≡ number + k
    → option_map_or (λ i. after most (is_wrong n at r i.1) (effect_of i.1) x) (slice_get is k) x
    ≡ after most (slice_index_or (transfers_behind n r number is) k d).wrong (slice_index_or (transfers_behind n r number is) k d).effect x
unfolding transfers_behind
after-behind most n r number [] k at d x h e = absurd (omega (arith, h))
after-behind most n r number (i ∷ is) zero at d x h e = ap (λ m. after most (is_wrong n m r i.1) (effect_of i.1) x) (let same : at ≡ number = omega arith in same)
after-behind most n r number (i ∷ is) (suc k) at d x h e = after-behind most n r (number + 1) is k at d x (omega (arith, h)) (omega (arith, e))

pub label_after-transfers : (code : Code) (r : List Sort) (k : ℕ) (d : Transfer) (x : Label Sort) → k < length code.instrs
    → label_after code r k x ≡ after code.max_stack (slice_index_or (transfers_of code r) k d).wrong (slice_index_or (transfers_of code r) k d).effect x
label_after-transfers code r k d x h = after-behind code.max_stack (length code.instrs) r 0 code.instrs k k d x h (omega arith)

-- the same of a list that is known to have them
pub length-told : (code : Code) (r : List Sort) (ts : List Transfer) → ts ≡ transfers_of code r → length ts ≡ length code.instrs
length-told code r ts told = ap length told ∙ length-transfers_behind (length code.instrs) r 0 code.instrs

pub bounds-told : (code : Code) (r : List Sort) (ts : List Transfer) (k : ℕ) → ts ≡ transfers_of code r → k < length code.instrs → k < length ts
bounds-told code r ts k told h = omega (arith, h, length-told code r ts told)

pub after-told : (code : Code) (r : List Sort) (ts : List Transfer) (k : ℕ) (t : Transfer) (x y : Label Sort) → ts ≡ transfers_of code r → k < length code.instrs
    → t ≡ slice_index_or ts k t → y ≡ after code.max_stack t.wrong t.effect x → y ≡ label_after code r k x
after-told code r ts k t x y told h is e =
    let here : t ≡ slice_index_or (transfers_of code r) k t = is ∙ ap (λ v. slice_index_or v k t) told in
    e ∙ ap (λ (v : Transfer). after code.max_stack v.wrong v.effect x) here ∙ sym (label_after-transfers code r k t x h)

pub ruleset telling = (bounds-told, after-told)
