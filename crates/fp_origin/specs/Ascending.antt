-- The order of origins: the arguments by their numbers, then allocations and then results by their offsets, and what comes from elsewhere.
use Rattle.std.specs.Prelude.{◌≡◌, nat_lt, Bool, true, false, List, [], ◌∷◌, All}
use Rattle.fp_facts.specs.declared.origin.Origin.{Origin}
use Rattle.fp_facts.specs.declared.origin.Origin.TheVariants as origin

abbrev pub is_before : Origin → Origin → Bool
is_before (origin.Param i) (origin.Param j) = nat_lt i j
is_before (origin.Param i) (origin.New j) = true
is_before (origin.Param i) (origin.Result j) = true
is_before (origin.Param i) origin.Other = true
is_before (origin.New i) (origin.New j) = nat_lt i j
is_before (origin.New i) (origin.Result j) = true
is_before (origin.New i) origin.Other = true
is_before (origin.Result i) (origin.Result j) = nat_lt i j
is_before (origin.Result i) origin.Other = true
is_before _ _ = false

-- each comes before all behind it
abbrev pub Ascend : List Origin → Type 0
Ascend [] = Unit {0}
Ascend (o ∷ os) = All (λ p. is_before o p ≡ true) os × Ascend os
