-- The text of a value, by the kind of its property.
use Rattle.std.specs.Prelude.{◌≡◌, ℕ, ◌+◌, ◌-◌, ◌≤◌, ◌<◌, ◌^◌, Bool, true, false, List, [], ◌∷◌, ◌++◌, if◌then◌else◌, codes, decimal, length, map, slice_index_or}
use Rattle.std.specs.List.{join_with_byte}
use Rattle.fp_cells.specs.declared.kind.KindId.{KindId}
use Rattle.fp_cells.specs.declared.kind.KindId.TheVariants.{Declared, Inst, Reach, Callees, Assign, Immut, Timmut, Fresh, Leak, Escape, Purity}
use Rattle.fp_cells.specs.Cells.{places_of}
use Rattle.fp_cells.specs.Words.{is_set, passing_below, set_bits, set_bits_from}

-- the pieces with a comma between each two, or `-` where there is none
abbrev pub listed : List (List ℕ) → List ℕ
listed [] = codes "-"
listed (piece ∷ pieces) = join_with_byte 44 (piece ∷ pieces)

-- the numbers in decimal
abbrev pub numbers : List ℕ → List ℕ
numbers ns = listed (map decimal ns)

-- one of two texts, by the lowest bit
abbrev pub flag_text : List ℕ → List ℕ → List ℕ → List ℕ
flag_text words clear set = if is_set words 0 then set else clear

-- one of three texts, by the two lowest bits; where the higher is set the lower says nothing
abbrev pub chain_text : List ℕ → List ℕ → List ℕ → List ℕ → List ℕ
chain_text words least middle most = if is_set words 1 then most else if is_set words 0 then middle else least

-- the text of a target, or that of the outside, which comes after the targets
abbrev pub target_text : List (List ℕ) → ℕ → List ℕ
target_text targets i = slice_index_or targets i (codes "outside")

-- the targets whose bits are set, and the outside
abbrev pub callees_text : List ℕ → List (List ℕ) → List ℕ
callees_text words targets = listed (map (target_text targets) (passing_below (is_set words) (length targets + 1)))

-- what a method does, by whether it reads, whether it has an effect, and the arguments that it writes
abbrev pub purity_text : Bool → Bool → List ℕ → List ℕ
purity_text reads true arguments = codes "impure"
purity_text true false [] = codes "sef"
purity_text false false [] = codes "pure"
purity_text true false (argument ∷ others) = codes "scontext " ++ numbers (argument ∷ others)
purity_text false false (argument ∷ others) = codes "context " ++ numbers (argument ∷ others)

-- the text of the value of a cell, with the texts of the targets of a call site
abbrev pub value_text_of : KindId → List ℕ → List (List ℕ) → List ℕ
value_text_of Declared words targets = flag_text words (codes "final") (codes "open")
value_text_of Inst words targets = flag_text words (codes "absent") (codes "present")
value_text_of Reach words targets = flag_text words (codes "unreached") (codes "reached")
value_text_of Callees words targets = callees_text words targets
value_text_of Assign words targets = flag_text words (codes "final") (codes "assignable")
value_text_of Immut words targets = chain_text words (codes "deep") (codes "shallow") (codes "mutable")
value_text_of Timmut words targets = chain_text words (codes "deep") (codes "shallow") (codes "mutable")
value_text_of Fresh words targets = flag_text words (codes "fresh") (codes "other")
value_text_of Leak words targets = numbers (set_bits words)
value_text_of Escape words targets = chain_text words (codes "none") (codes "caller") (codes "global")
value_text_of Purity words targets = purity_text (is_set words 0) (is_set words 1) (set_bits_from 2 words)

-- so many words are those of a cell of the kind: a bit per target and one for the outside, one or more places of bits
-- that are numbered by arguments, and else one word
abbrev pub FitsKind : KindId → ℕ → ℕ → Type 0
FitsKind Callees words targets = (words ≡ places_of (targets + 1)) × (targets + 1 < 2 ^ 32)
FitsKind Leak words targets = (1 ≤ words) × (words ≤ places_of (2 ^ 32 - 1)) × (targets ≡ 0)
FitsKind Purity words targets = (1 ≤ words) × (words ≤ places_of (2 ^ 32 - 1)) × (targets ≡ 0)
FitsKind _ words targets = (words ≡ 1) × (targets ≡ 0)
