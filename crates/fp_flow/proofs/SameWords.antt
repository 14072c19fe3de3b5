-- What a comparison of two sorts tells.
use Rattle.std.proofs.Common.{◌≡◌, Bool, true, false, sym, ap, ◌∙◌}
use Rattle.std.proofs.lemmas.Bool.{both_ways}
use Rattle.fp_model.specs.declared.kind.Sort.{Sort}
use Rattle.fp_facts.specs.Sorts.{same_sort}
use Rattle.fp_facts.proofs.OrderedSorts.{same_sort-refl, same_sort-true}

pub sorts-told : (told : Bool) (a b : Sort) → told ≡ same_sort a b → told ≡ true → a ≡ b
sorts-told told a b is yes' = same_sort-true a b (sym is ∙ yes')

pub sorts-apart : (told : Bool) (a b : Sort) → told ≡ same_sort a b → told ≡ false → a ≡ b → ⊥
sorts-apart told a b is no' same = both_ways (same_sort a b) (sym is ∙ no') (ap (λ c. same_sort a c) (sym same) ∙ same_sort-refl a)

pub ruleset telling = (sorts-told, sorts-apart)
