-- The table of what calls can reach, as calls are met.
use Rattle.std.proofs.Common.{◌≡◌, ℕ, Bool, true, false, IsTrue, not, ◌&&◌, List, [], ◌∷◌, ◌++◌, length, map, refl, sym, ap, ◌∙◌}
use Rattle.std.specs.Prelude.{Option, Some, None, is_some, slice_get, option_map, if◌then◌else◌}
use Rattle.std.proofs.lemmas.Option.{slice_get-map}
use Rattle.std.proofs.lemmas.List.{map-append}
use Rattle.fp_model.specs.ClassSet.{SetView}
use Rattle.fp_facts.specs.declared.call_targets.CallTargets.{CallTargets}
use Rattle.fp_facts.specs.declared.reference.Reference.{Reference}
use Rattle.fp_facts.specs.Behaviour.{allocs_of}
use Rattle.fp_facts.specs.Facts.{Coded, call_targets, references_in}
use Rattle.fp_facts.specs.Steps.{steps}
use Rattle.fp_facts.specs.References.{has_reference, with_reference}
use Rattle.fp_facts.specs.Selection.{Candidates, always_bits, target_list}
use Rattle.fp_hier.specs.Targets.{AreCallTargets}
use Rattle.fp_extract.specs.declared.room.Cost.{Cost}
use Rattle.fp_extract.specs.declared.room.Left.{Left}
use Rattle.fp_extract.specs.Rooms.{call_cost, fits, left_after, left_by, left_less, left_without, less}

-- ---- what is left

one-less : (o : Option ℕ) (n : ℕ) → is_some (less o n) ≡ true → is_some o ≡ true
one-less None n is = is
one-less (Some m) n is = refl

and-true : (a b : Bool) → (a && b) ≡ true → (a ≡ true) × (b ≡ true)
and-true true b is = (refl, is)
and-true false b is = let wrong : false ≡ true = is in cc

fits-if : (l : Left) → is_some l.places ≡ true → is_some l.uses ≡ true → is_some l.gives ≡ true → fits l ≡ true
fits-if l p u g = rw (p, u, g) refl

-- a bound that is passed stays so
pub fits-before : (l : Left) (c : Cost) → IsTrue (fits (left_without l c)) → IsTrue (fits l)
fits-before l c h =
    let first = and-true (is_some (less l.places c.places)) (is_some (less l.uses c.uses) && is_some (less l.gives c.gives)) h in
    let rest = and-true (is_some (less l.uses c.uses)) (is_some (less l.gives c.gives)) first.1 in
    fits-if l (one-less l.places c.places first.0) (one-less l.uses c.uses rest.0) (one-less l.gives c.gives rest.1)

pub fits-less : (l : Left) (n : ℕ) → IsTrue (fits (left_less l n)) → IsTrue (fits l)
fits-less l n h =
    let first = and-true (is_some (less l.places n)) (is_some l.uses && is_some l.gives) h in
    let rest = and-true (is_some l.uses) (is_some l.gives) first.1 in
    fits-if l (one-less l.places n first.0) rest.0 rest.1

fits-earlier : (set : SetView) (refs : List Reference) (l : Left) → IsTrue (fits (left_after set l refs)) → IsTrue (fits l)
fits-earlier set [] l h = h
fits-earlier set (r ∷ refs) l h = fits-before l (call_cost set r) (fits-earlier set refs (left_without l (call_cost set r)) h)

pub fits-method : (set : SetView) (m : Coded) (l : Left) → IsTrue (fits (left_by set l m)) → IsTrue (fits l)
fits-method set m l h =
    fits-earlier set (references_in m) l (fits-less (left_after set l (references_in m)) (length (allocs_of (steps m.method m.code))) h)

-- ---- one reference more

pub not-new : (table : List Reference) (r : Reference) → not (has_reference table r) ≡ false → with_reference table r ≡ table
unfolding with_reference
not-new table r known = by-test (has_reference table r) known
  where
    by-test : (b : Bool) → not b ≡ false → (if b then table else table ++ r ∷ []) ≡ table
    by-test true is = refl
    by-test false is = let wrong : true ≡ false = is in cc

pub new-one : (table : List Reference) (r : Reference) → not (has_reference table r) ≡ true → with_reference table r ≡ table ++ r ∷ []
unfolding with_reference
new-one table r known = by-test (has_reference table r) known
  where
    by-test : (b : Bool) → not b ≡ true → (if b then table else table ++ r ∷ []) ≡ table ++ r ∷ []
    by-test false is = refl
    by-test true is = let wrong : false ≡ true = is in cc

pub map-one : {X : Type 0} (f : Reference → X) (before after : List Reference) (r : Reference) (old new : List X) → after ≡ before ++ r ∷ [] → old ≡ map f before → new ≡ old ++ f r ∷ [] → new ≡ map f after
map-one f before after r old new is told made =
    made ∙ ap (λ l. l ++ f r ∷ []) told ∙ sym (map-append f before (r ∷ [])) ∙ ap (map f) (sym is)

-- what a reference costs stands at its number
pub cost-there : (set : SetView) (table : List Reference) (costs : List Cost) (r : Reference) (n : ℕ) → costs ≡ map (call_cost set) table → slice_get table n ≡ Some r → slice_get costs n ≡ Some (call_cost set r)
cost-there set table costs r n told there =
    ap (λ l. slice_get l n) told ∙ slice_get-map (call_cost set) table n ∙ ap (option_map (call_cost set)) there

-- ---- targets as they are told

make-targets : List ℕ → List ℕ → List (ℕ × List ℕ) → CallTargets
make-targets targets always watch = record { targets = targets; always = always; watch = watch }

pub targets-told : (methods : ℕ) (c : Candidates) (t : CallTargets) → AreCallTargets methods c t → t ≡ call_targets methods c
unfolding make-targets
targets-told methods c t told =
    ap (λ l. make-targets l t.always t.watch) told.targets_told
    ∙ ap (λ l. make-targets (target_list methods c) l t.watch) told.always_told
    ∙ ap (λ l. make-targets (target_list methods c) (always_bits (target_list methods c) c) l) told.watch_told
