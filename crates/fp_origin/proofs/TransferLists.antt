-- The transfer function at each instruction of a code.
use Rattle.std.proofs.Common.{◌≡◌, ◌<◌, ℕ, zero, suc, List, [], ◌∷◌, length, map, slice_index_or, slice_get, refl, sym, ap, ◌∙◌, arith}
use Rattle.std.specs.Option.{option_map_or}
use Rattle.std.proofs.lemmas.List.{length-map}
use Rattle.fp_model.specs.declared.class.Code.{Code}
use Rattle.fp_model.specs.declared.class.instr.Instr.{Instr}
use Rattle.fp_facts.specs.declared.label.Label.{Label}
use Rattle.fp_facts.specs.declared.origin.Origin.{Origin}
use Rattle.fp_facts.specs.Effects.{effect_of}
use Rattle.fp_facts.specs.Moves.{moved, moved_after}
use Rattle.fp_facts.specs.Origins.{made_words}
use Rattle.fp_origin.specs.declared.group.transfers.Transfer.{Transfer}
use Rattle.fp_origin.specs.Groups.{transfer_of, word_bits}

-- what the instruction at a place makes of a label
moved-at : (most : ℕ) (group : List Origin) (is : List (ℕ × Instr)) (k : ℕ) (d : Transfer) (x : Label ℕ) → k < length is
    → option_map_or (λ i. moved 0 most (map (word_bits group) (made_words i.0 i.1)) (effect_of i.1) x) (slice_get is k) x
    ≡ moved 0 most (slice_index_or (map (transfer_of group) is) k d).made (slice_index_or (map (transfer_of group) is) k d).effect x
moved-at most group [] k d x h = absurd (omega (arith, h))
moved-at most group (i ∷ is) zero d x h = refl
moved-at most group (i ∷ is) (suc k) d x h = moved-at most group is k d x (omega (arith, h))

pub bounds-told : (code : Code) (group : List Origin) (ts : List Transfer) (k : ℕ) → ts ≡ map (transfer_of group) code.instrs → k < length code.instrs → k < length ts
bounds-told code group ts k told h =
    let long : length ts ≡ length code.instrs = ap length told ∙ length-map code.instrs (transfer_of group) in omega (arith, h, long)

pub moved-told : (code : Code) (group : List Origin) (ts : List Transfer) (k : ℕ) (t : Transfer) (x y : Label ℕ) → ts ≡ map (transfer_of group) code.instrs → k < length code.instrs
    → t ≡ slice_index_or ts k t → y ≡ moved 0 code.max_stack t.made t.effect x → y ≡ moved_after 0 code (λ i. map (word_bits group) (made_words i.0 i.1)) k x
moved-told code group ts k t x y told h is e =
    let here : t ≡ slice_index_or (map (transfer_of group) code.instrs) k t = is ∙ ap (λ v. slice_index_or v k t) told in
    e ∙ ap (λ (v : Transfer). moved 0 code.max_stack v.made v.effect x) here ∙ sym (moved-at code.max_stack group code.instrs k t x h)

pub ruleset telling = (bounds-told)
