-- How many words operands have.
use Rattle.std.proofs.Common.{◌≡◌, ◌<◌, ◌+◌, ◌++◌, ℕ, List, length, drop, slice_index_or, ap, ◌∙◌}
use Rattle.std.proofs.lemmas.List.{drop_more, length-append}
use Rattle.fp_model.specs.declared.kind.Kind.{Kind}
use Rattle.fp_model.specs.declared.kind.Sort.{Sort}
use Rattle.fp_facts.specs.Sorts.{sort_of, words_of, words_of_kinds}

-- the value at a place and those behind it
pub length-values : (i : ℕ) (kinds : List Kind) (k : Kind) → i < length kinds
    → length (words_of_kinds (drop i kinds)) ≡ length (words_of (sort_of (slice_index_or kinds i k))) + length (words_of_kinds (drop (i + 1) kinds))
length-values i kinds k h =
    ap (λ l. length (words_of_kinds l)) (drop_more kinds i k h)
    ∙ length-append (words_of (sort_of (slice_index_or kinds i k))) (words_of_kinds (drop (i + 1) kinds))

-- listed words, and those of values above them
pub length-parts : (words listed : List Sort) (kinds : List Kind) → words ≡ listed ++ words_of_kinds kinds → length words ≡ length listed + length (words_of_kinds kinds)
length-parts words listed kinds is = ap length is ∙ length-append listed (words_of_kinds kinds)

pub ruleset measuring = (length-values, length-parts)
