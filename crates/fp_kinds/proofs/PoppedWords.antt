-- Whether a stack ends with operands, by the words that are left below them.
use Rattle.std.proofs.Common.{◌≡◌, ◌<◌, ◌+◌, ◌-◌, ◌++◌, ◌&&◌, ℕ, false, List, length, drop, sym, ap, ◌∙◌, arith}
use Rattle.std.proofs.lemmas.Bool.{le-leb, lt-leb}
use Rattle.std.proofs.lemmas.List.{append-nil, nil_from_length}
use Rattle.fp_model.specs.declared.kind.Kind.{Kind}
use Rattle.fp_model.specs.declared.kind.Sort.{Sort}
use Rattle.fp_facts.specs.Sorts.{same_sorts, words_of_kinds}
use Rattle.fp_facts.specs.Transfer.{ends_with}

-- operands that a stack of that height can't have
pub ends-too_high : (stack operands : List Sort) → length stack < length operands → false ≡ ends_with stack operands
ends-too_high stack operands h =
    sym (ap (λ b. b && same_sorts (drop (length stack - length operands) stack) operands) (lt-leb (length operands) (length stack) h))

pub ends-above : (stack operands : List Sort) (left : ℕ) → left + length operands ≡ length stack → same_sorts (drop left stack) operands ≡ ends_with stack operands
ends-above stack operands left h =
    ap (λ n. same_sorts (drop n stack) operands) (let e : left ≡ length stack - length operands = omega (arith, h) in e)
    ∙ sym (ap (λ b. b && same_sorts (drop (length stack - length operands) stack) operands) (le-leb (length operands) (length stack) (omega (arith, h))))

-- operands that are all listed
pub listed-alone : (operands listed : List Sort) (kinds : List Kind) → operands ≡ listed ++ words_of_kinds kinds → length kinds ≡ 0 → operands ≡ listed
listed-alone operands listed kinds is none =
    is ∙ ap (λ l. listed ++ words_of_kinds l) (nil_from_length kinds none) ∙ append-nil listed

pub ruleset ending = (ends-too_high, ends-above, listed-alone)
