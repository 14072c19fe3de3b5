-- Tables of references grow at their end, and keep their numbers.
use Rattle.std.proofs.Common.{◌≡◌, ℕ, ◌+◌, Bool, true, false, List, [], ◌∷◌, ◌++◌, if◌then◌else◌, ◌||◌, inl, inr, ◌⊎◌, refl, sym, ap, ◌∙◌}
use Rattle.std.specs.List.{list_any, position_or_len}
use Rattle.std.proofs.lemmas.Bool.{or_parts}
use Rattle.std.proofs.lemmas.Grind.{flat_map-append}
use Rattle.std.proofs.lemmas.List.Sums.{fold-append}
use Rattle.fp_model.specs.ClassSet.{SetView}
use Rattle.fp_extract.specs.declared.room.Left.{Left}
use Rattle.fp_extract.specs.Rooms.{call_cost, left_after, left_without}
use Rattle.std.proofs.lemmas.List.{append_assoc, append-nil}
use Rattle.fp_facts.specs.contracts.reference.ReferenceEq.TheImpl.Laws.{laws-law as laws}
use Rattle.fp_facts.specs.declared.facts.CallSite.{CallSite}
use Rattle.fp_facts.specs.declared.reference.Reference.{Reference}
use Rattle.fp_facts.specs.Behaviour.{references_of, site_of, sites_of}
use Rattle.fp_facts.specs.References.{has_reference, number_in, same_reference, with_reference, with_references}
use Rattle.fp_facts.specs.Steps.{Step}

pub known-or-not : (b : Bool) → (b ≡ true) ⊎ (b ≡ false)
known-or-not true = inl refl
known-or-not false = inr refl

-- what passes first among some passes first before more
position-in : (p : Reference → Bool) (rs more : List Reference) → list_any p rs ≡ true → position_or_len p (rs ++ more) ≡ position_or_len p rs
position-in p [] more has = cc
position-in p (r ∷ rs) more has = elim (known-or-not (p r)) [
  | inl here ↦ rw here refl
  | inr not ↦ rw not (ap (λ n. 1 + n) (position-in p rs more (sym (ap (λ b. b || list_any p rs) not) ∙ has)))
]

-- behind some that don't pass stands what does
position-behind : (p : Reference → Bool) (rs : List Reference) (v : Reference) (more : List Reference) → list_any p rs ≡ false → p v ≡ true → position_or_len p ((rs ++ v ∷ []) ++ more) ≡ position_or_len p rs
position-behind p [] v more none passes = rw passes refl
position-behind p (r ∷ rs) v more none passes =
    let neither = or_parts (p r) (list_any p rs) none in
    rw (neither.0) (ap (λ n. 1 + n) (position-behind p rs v more neither.1 passes))

pub first-stays : (p : Reference → Bool) (rs : List Reference) (v : Reference) (more : List Reference) → p v ≡ true → position_or_len p ((if list_any p rs then rs else rs ++ v ∷ []) ++ more) ≡ position_or_len p rs
first-stays p rs v more passes = elim (known-or-not (list_any p rs)) [
  | inl has ↦ rw has (position-in p rs more has)
  | inr none ↦ rw none (position-behind p rs v more none passes)
]

-- ---- one reference more

pub same-self : (r : Reference) → same_reference r r ≡ true
same-self r = laws.refl r

pub table-told : (table : List Reference) (r : Reference) → with_reference table r ≡ (if has_reference table r then table else table ++ r ∷ [])
unfolding with_reference
table-told table r = refl

pub number-told : (table : List Reference) (r : Reference) → number_in table r ≡ position_or_len (same_reference r) table
unfolding number_in
number-told table r = refl

-- ---- tables with more

pub record HasGained (before after : List Reference) : Type 0 where
  pub gained : List Reference
  pub is : after ≡ before ++ gained

gained-one : (table : List Reference) (r : Reference) → HasGained table (with_reference table r)
unfolding with_reference
gained-one table r = elim (known-or-not (has_reference table r)) [
  | inl has ↦ record { gained = []; is = rw has (sym (append-nil table)) }
  | inr none ↦ record { gained = r ∷ []; is = rw none refl }
]

pub gained-all : (table rs : List Reference) → HasGained table (with_references table rs)
gained-all table [] = record { gained = []; is = sym (append-nil table) }
gained-all table (r ∷ rs) =
    let first = gained-one table r in
    let rest = gained-all (with_reference table r) rs in
    record {
      gained = first.gained ++ rest.gained;
      is = rest.is ∙ ap (λ t. t ++ rest.gained) first.is ∙ append_assoc table first.gained rest.gained;
    }

pub with-both : (table rs ss : List Reference) → with_references table (rs ++ ss) ≡ with_references (with_references table rs) ss
with-both table [] ss = refl
with-both table (r ∷ rs) ss = with-both (with_reference table r) rs ss

pub references-both : (caller : ℕ) (here rest : List Step) → references_of caller (here ++ rest) ≡ references_of caller here ++ references_of caller rest
references-both caller here rest = flat_map-append _ here rest

-- ---- the calls of some steps and then of the rest, over the table that all of them make

pub sites-next : (caller : ℕ) (table new final : List Reference) (here rest : List Step) (old made : List CallSite) → new ≡ with_references table (references_of caller here) → with_references table (references_of caller (here ++ rest)) ≡ final →
    ((more : List Reference) → made ≡ old ++ sites_of (new ++ more) caller here) → (more : List Reference) → made ++ sites_of (final ++ more) caller rest ≡ old ++ sites_of (final ++ more) caller (here ++ rest)
sites-next caller table new final here rest old made is end told more =
    let last : with_references new (references_of caller rest) ≡ final =
    ap (λ t. with_references t (references_of caller rest)) is ∙ sym (with-both table (references_of caller here) (references_of caller rest)) ∙ ap (with_references table) (sym (references-both caller here rest)) ∙ end in
    let grown = gained-all new (references_of caller rest) in
    let longer : (new ++ (grown.gained ++ more)) ≡ (final ++ more) = sym (append_assoc new grown.gained more) ∙ ap (λ t. t ++ more) (sym grown.is ∙ last) in
    let first : made ≡ old ++ sites_of (final ++ more) caller here = told (grown.gained ++ more) ∙ ap (λ t. old ++ sites_of t caller here) longer in
    let all = sites_of (final ++ more) caller rest in
    ap (λ l. l ++ all) first ∙ append_assoc old (sites_of (final ++ more) caller here) all
    ∙ ap (λ l. old ++ l) (sym (flat_map-append (site_of (final ++ more) caller) here rest))

pub table-next : (caller : ℕ) (table new : List Reference) (here rest : List Step) → new ≡ with_references table (references_of caller here) →
    with_references new (references_of caller rest) ≡ with_references table (references_of caller (here ++ rest))
table-next caller table new here rest is =
    ap (λ t. with_references t (references_of caller rest)) is ∙ sym (with-both table (references_of caller here) (references_of caller rest)) ∙ ap (with_references table) (sym (references-both caller here rest))

-- what is left after the calls of some steps and then of the rest
pub left-next : (set : SetView) (caller : ℕ) (before new : Left) (here rest : List Step) → new ≡ left_after set before (references_of caller here) →
    left_after set new (references_of caller rest) ≡ left_after set before (references_of caller (here ++ rest))
left-next set caller before new here rest is =
    ap (λ l. left_after set l (references_of caller rest)) is
    ∙ sym (fold-append (λ (l : Left) (r : Reference). left_without l (call_cost set r)) before (references_of caller here) (references_of caller rest))
    ∙ ap (left_after set before) (sym (references-both caller here rest))
