-- The dataflow problem of a group of origins is lawful.
use Rattle.std.proofs.Common.{◌<◌, ◌≤◌, ◌^◌, nat_lt, ℕ, IsTrue, List, length, map, All, refl}
use Rattle.std.specs.List.{list_all}
use Rattle.std.proofs.lemmas.Bool.{lt-ltb}
use Rattle.fp_model.specs.declared.class.Code.{Code}
use Rattle.fp_facts.specs.declared.origin.Origin.{Origin}
use Rattle.fp_facts.specs.declared.origin.Origin.TheVariants.{Other}
use Rattle.fp_facts.specs.Bits.{words64}
use Rattle.fp_facts.specs.Dataflow.{Edge, IsLawful}
use Rattle.fp_facts.specs.Origins.{made_words}
use Rattle.fp_facts.proofs.LawfulMoves.{moves-lawful}
use Rattle.fp_facts.proofs.SmallLattices.{words64-lattice}
use Rattle.fp_origin.specs.Groups.{bits_in, word_bits, words_problem}
use Rattle.fp_origin.proofs.GroupBits.{bits_in-below, words-fit}

pub group-lawful : (code : Code) (group : List Origin) (arguments : List ℕ) (edges : List Edge) → length group ≤ 64 → 0 < length code.instrs → length arguments ≤ code.max_locals
    → IsTrue (list_all (λ w. nat_lt w (2 ^ 64)) arguments) → All (λ e. (e.0 < length code.instrs) × (e.1 < length code.instrs)) edges → IsLawful (words_problem code group arguments edges)
group-lawful code group arguments edges few some room fit within =
    moves-lawful words64 words64-lattice 0 (bits_in group Other) code (λ i. map (word_bits group) (made_words i.0 i.1)) arguments edges some room within
    refl (lt-ltb (bits_in group Other) (2 ^ 64) (bits_in-below group Other 64 few)) fit (λ i. words-fit group (made_words i.0 i.1) few)
