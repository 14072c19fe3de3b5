use Rattle.std.proofs.Common.{◌==◌, eqb, ap, sym, ◌∙◌}
use Rattle.std.specs.List.{dedup}
use Rattle.std.proofs.lemmas.List.Filters.{dedup_is}
use Rattle.std.proofs.lemmas.List.Kept.{Contains-dedup_nat, Contains-from_dedup}
use Rattle.std.proofs.lemmas.List.Sorted.{list_any-IsPermutation}
use Rattle.std.proofs.lemmas.Map.Keys.{IsStrictlyIncreasing-dedup}
use Rattle.fp_facts.specs.Hierarchy.{has_number}
use Rattle.fp_hier.proofs.AscendingLists.{same-test, has-from_contains, contains-from_has}
use Rattle.fp_hier.proofs.bits.ascending.Goals as goal

pub returns-clause-rising : goal.returns-clause-rising
returns-clause-rising c =
    let is = dedup_is _ _ _ c.dedup.ensures.filtered in rw is (IsStrictlyIncreasing-dedup _ c.sort_unstable.ensures.sorted)

pub returns-clause-members : goal.returns-clause-members
returns-clause-members c = λ n.
    let given = c.args.numbers.items in
    let sorted = c.sort_unstable.new.self.items in
    ap (λ l. has_number l n) (dedup_is _ _ _ c.dedup.ensures.filtered)
    ∙ same-test (has_number (dedup eqb sorted) n) (has_number sorted n)
    (λ h. has-from_contains sorted n (Contains-from_dedup eqb sorted n (contains-from_has (dedup eqb sorted) n h)))
    (λ h. has-from_contains (dedup eqb sorted) n (Contains-dedup_nat sorted n (contains-from_has sorted n h)))
    ∙ sym (list_any-IsPermutation (λ m. m == n) given sorted c.sort_unstable.ensures.permutation)
