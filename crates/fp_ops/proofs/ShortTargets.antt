-- Where the branches of a short code lead.
use Rattle.std.proofs.Common.{◌≡◌, inl, inr, ℕ, ◌+◌, ◌<◌, Bool, true, ◌==◌, List, [], ◌∷◌, ◌++◌, length, Option, Some, None, refl, ap, ◌∙◌, arith}
use Rattle.std.specs.Prelude.{is_some, nat_lt}
use Rattle.std.specs.List.{flat_map, list_all}
use Rattle.std.proofs.lemmas.Bool.{and_parts, and_from, eqb-true, or_cases, cond-true}
use Rattle.std.proofs.lemmas.List.{length-append}
use Rattle.fp_model.specs.declared.form.Form.TheVariants as form
use Rattle.fp_model.specs.declared.raw.attribute.RawIns.{RawIns}
use Rattle.fp_model.specs.Branches.{far_target, near_target, starts_at, targets_of}
use Rattle.fp_model.specs.Entries.{passes}
use Rattle.fp_model.specs.Instructions.{places_after, short_place}
use Rattle.fp_model.specs.Spelling.{spelled_ins}
use Rattle.fp_ops.proofs.Walking.{some_size}

-- a place in a code, which is shorter than 2 ^ 16 bytes
abbrev pub is_short : ℕ → Bool
is_short place = nat_lt place 65536

-- an instruction begins before the code ends
pub starts_below : (pc : ℕ) (code : List RawIns) (place : ℕ) → starts_at pc code place ≡ true → place < pc + length (flat_map spelled_ins code)
unfolding starts_at
starts_below pc [] place is = absurd (cc)
starts_below pc (ins ∷ code) place is =
    let sizes = length-append (spelled_ins ins) (flat_map spelled_ins code) in
    elim (or_cases (place == pc) (starts_at (pc + length (spelled_ins ins)) code place) is) [
      | inl here ↦ omega (arith, eqb-true place pc here, some_size ins, sizes)
      | inr later ↦ omega (arith, starts_below (pc + length (spelled_ins ins)) code place later, sizes)
    ]

-- a weaker test is passed too
pub passes_weaker : {A : Type 0} (f g : A → Bool) → ((x : A) → f x ≡ true → g x ≡ true) → (o : Option A) → passes f o ≡ true → passes g o ≡ true
passes_weaker f g weaker None is = absurd (cc)
passes_weaker f g weaker (Some x) is = weaker x is

pub all_weaker : (f g : ℕ → Bool) → ((k : ℕ) → f k ≡ true → g k ≡ true) → (targets : List (Option ℕ)) → list_all (passes f) targets ≡ true → list_all (passes g) targets ≡ true
all_weaker f g weaker [] all = refl
all_weaker f g weaker (target ∷ targets) all =
    let parts = and_parts (passes f target) (list_all (passes f) targets) all in
    and_from (passes g target) (list_all (passes g) targets) (passes_weaker f g weaker target parts.0) (all_weaker f g weaker targets parts.1)

-- ---- places

pub short_there : (target : Option ℕ) → passes is_short target ≡ true → is_some (short_place target) ≡ true
short_there None short = absurd (cc)
short_there (Some place) short = ap is_some (cond-true (is_short place) (Some place) None short)

pub places_there : (before : List ℕ) (targets : List (Option ℕ)) → list_all (passes is_short) targets ≡ true → is_some (places_after before targets) ≡ true
unfolding places_after
places_there before [] all = refl
places_there before (None ∷ targets) all = absurd (cc)
places_there before (Some place ∷ targets) all =
    let parts = and_parts (is_short place) (list_all (passes is_short) targets) all in
    ap is_some (cond-true (is_short place) (places_after (before ++ place ∷ []) targets) None parts.0) ∙ places_there (before ++ place ∷ []) targets parts.1

-- ---- branches

pub near_there : (pc : ℕ) (args : List ℕ) → list_all (passes is_short) (targets_of pc (form.Branch 2) args) ≡ true → is_some (short_place (near_target pc args 0)) ≡ true
unfolding targets_of
near_there pc args all = short_there (near_target pc args 0) (and_parts (passes is_short (near_target pc args 0)) true all).0

pub far_there : (pc : ℕ) (args : List ℕ) → list_all (passes is_short) (targets_of pc (form.Branch 4) args) ≡ true → is_some (short_place (far_target pc args 0)) ≡ true
unfolding targets_of
far_there pc args all = short_there (far_target pc args 0) (and_parts (passes is_short (far_target pc args 0)) true all).0
