-- The bits of what is reached are the places of its methods among the targets, and the place behind them for the outside.
use Rattle.std.proofs.Common.{◌≡◌, ◌+◌, ◌==◌, nat_lt, ◌&&◌, ◌||◌, ℕ, Bool, true, false, List, ◌++◌, Option, length, get_or, slice_get, refl, ap, sym, ◌∙◌, arith, inl, inr}
use Rattle.std.specs.Bool.{then_some}
use Rattle.std.specs.List.Sorted.{IsStrictlyIncreasing}
use Rattle.std.specs.Option.{option_map_or, option_to_list}
use Rattle.std.proofs.lemmas.Bool.{cases_lt, eq-eqb, eqb-true, ne_eqb, lt-ltb, le-ltb, ltb-true}
use Rattle.std.proofs.lemmas.List.Folds.{list_any-append}
use Rattle.std.proofs.lemmas.Option.{slice_get-get_or, slice_get_past}
use Rattle.fp_facts.specs.Hierarchy.{has_number}
use Rattle.fp_facts.specs.Selection.{Reached, bits_of}
use Rattle.fp_hier.proofs.AscendingLists.{eqb-flip, filter-rises, is-filter, same-test}
use Rattle.fp_hier.proofs.SearchedPlaces.{has-places, places_in}

-- a bit is one of what is reached
abbrev pub is_reached : List ℕ → Reached → ℕ → Bool
is_reached targets reached bit =
    option_map_or (has_number reached.methods) (slice_get targets bit) (reached.outside && (bit == length targets))

abbrev pub outside_bit : List ℕ → Bool → Option ℕ
outside_bit targets outside = then_some outside (length targets)

or-none : (a : Bool) → (a || false) ≡ a
or-none true = refl
or-none false = refl

has-outside : (targets : List ℕ) (outside : Bool) (n : ℕ) → has_number (option_to_list (outside_bit targets outside)) n ≡ (outside && (n == length targets))
has-outside targets false n = refl
has-outside targets true n = or-none (length targets == n) ∙ eqb-flip (length targets) n

within : (a o : Bool) → ((true && a) || (o && false)) ≡ (a && true)
within true o = refl
within false true = refl
within false false = refl

none-first : (a o e : Bool) → ((false && a) || (o && e)) ≡ ((o && e) && e)
none-first a true true = refl
none-first a true false = refl
none-first a false e = refl

-- a bit below the last is of the target at its place, the last is of the outside
bit-test : (targets : List ℕ) (r : Reached) (n : ℕ) → ((nat_lt n (length targets) && has_number r.methods (get_or targets n 0)) || (r.outside && (n == length targets))) ≡ (is_reached targets r n && nat_lt n (length targets + 1))
bit-test targets r n =
    let a = has_number r.methods (get_or targets n 0) in
    let e = n == length targets in
    elim (cases_lt n (length targets)) [
      | inl less ↦
          let at : is_reached targets r n ≡ a = ap (λ o. option_map_or (has_number r.methods) o (r.outside && e)) (slice_get-get_or targets n 0 less) in
          let low : nat_lt n (length targets) ≡ true = lt-ltb n (length targets) less in
          let bound : nat_lt n (length targets + 1) ≡ true = lt-ltb n (length targets + 1) (omega arith) in
          let apart : e ≡ false = ne_eqb n (length targets) (λ same. omega arith) in
          ap (λ b. (b && a) || (r.outside && e)) low ∙ ap (λ b. (true && a) || (r.outside && b)) apart ∙ within a r.outside
          ∙ ap (λ b. b && true) (sym at) ∙ ap (λ b. is_reached targets r n && b) (sym bound)
      | inr past ↦
          let at : is_reached targets r n ≡ (r.outside && e) = ap (λ o. option_map_or (has_number r.methods) o (r.outside && e)) (slice_get_past targets n past) in
          let high : nat_lt n (length targets) ≡ false = le-ltb n (length targets) past in
          let bound : e ≡ nat_lt n (length targets + 1) =
          same-test e (nat_lt n (length targets + 1))
          (λ h. lt-ltb n (length targets + 1) (omega (arith, eqb-true n (length targets) h)))
          (λ h. eq-eqb n (length targets) (omega (arith, ltb-true n (length targets + 1) h))) in
          ap (λ b. (b && a) || (r.outside && e)) high ∙ none-first a r.outside e
          ∙ ap (λ b. b && e) (sym at) ∙ ap (λ b. is_reached targets r n && b) bound
    ]

pub bits-are : (targets found : List ℕ) (r : Reached) → IsStrictlyIncreasing targets → IsStrictlyIncreasing found → ((n : ℕ) → has_number found n ≡ has_number (places_in targets r.methods ++ option_to_list (outside_bit targets r.outside)) n) → found ≡ bits_of targets r
bits-are targets found r up rising members =
    is-filter (is_reached targets r) (length targets + 1) found rising
    (λ n.
    members n ∙ list_any-append (λ k. k == n) (places_in targets r.methods) (option_to_list (outside_bit targets r.outside))
    ∙ ap (λ b. b || has_number (option_to_list (outside_bit targets r.outside)) n) (has-places targets r.methods n up)
    ∙ ap (λ b. (nat_lt n (length targets) && has_number r.methods (get_or targets n 0)) || b) (has-outside targets r.outside n)
    ∙ bit-test targets r n)

-- the bits ascend
pub bits-rise : (targets : List ℕ) (r : Reached) → IsStrictlyIncreasing (bits_of targets r)
bits-rise targets r = filter-rises (is_reached targets r) (length targets + 1)
