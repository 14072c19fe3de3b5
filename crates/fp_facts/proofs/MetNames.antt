-- The walk over superinterfaces, name by name.
use Rattle.std.proofs.Common.{◌≡◌, ℕ, zero, suc, ◌+◌, ◌≤◌, ◌<◌, ◌==◌, Bool, true, false, ◌||◌, List, [], ◌∷◌, ◌++◌, Option, None, Some, IsTrue, ◌⊎◌, inl, inr, length, length-append, refl, sym, ap, subst, ◌∙◌, arith, add-one, if◌then◌else◌}
use Rattle.std.specs.Prelude.{slice_get, option_and_then}
use Rattle.std.specs.List.{fold, sum_by}
use Rattle.std.specs.Option.{option_map_or}
use Rattle.std.proofs.lemmas.Bool.{cases_eq, eq-eqb, eqb-true, ne_eqb}
use Rattle.std.proofs.lemmas.List.Folds.{list_any-append}
use Rattle.std.proofs.lemmas.List.Quantifiers.{position-Some}
use Rattle.std.proofs.lemmas.List.Sums.{fold-append, sum_by-cons}
use Rattle.std.proofs.lemmas.Option.{get_or_from_slice_get}
use Rattle.fp_model.specs.declared.class.Class.{Class}
use Rattle.fp_model.specs.ClassSet.{class_named}
use Rattle.fp_eqs.specs.Tests.{either}
use Rattle.fp_facts.specs.Hierarchy.{class_of_name, has_number, met_from, superinterfaces, superinterfaces_of}

-- what a walk has met at its end that has met some names and is still to visit others
abbrev walk_from : List Class → (met names : List ℕ) → List ℕ
walk_from classes met names = met_from classes (length classes + 1) met names

-- what a class weighs until its name is met
abbrev unmet_weight : (Class → ℕ) → List ℕ → Class → ℕ
unmet_weight weight met c = if has_number met c.name then 0 else weight c

-- how many superinterfaces those classes list whose own names were not met
abbrev unmet_interfaces : List Class → List ℕ → ℕ
unmet_interfaces classes met = sum_by (unmet_weight (λ c. length c.interfaces) met) classes

-- ---- folds and tests

fold-kept : {A B : Type 0} (P : B → Type 0) (f : B → A → B) → ((b : B) (x : A) → P b → P (f b x)) → (xs : List A) (b : B) → P b → P (fold f b xs)
fold-kept P f kept [] b p = p
fold-kept P f kept (x ∷ xs) b p = fold-kept P f kept xs (f b x) (kept b x p)

fold-same : {A B : Type 0} (P : B → Type 0) (f g : B → A → B) → ((b : B) (x : A) → P b → f b x ≡ g b x) → ((b : B) (x : A) → P b → P (g b x)) →
    (xs : List A) (b : B) → P b → fold f b xs ≡ fold g b xs
fold-same P f g same kept [] b p = refl
fold-same {A} {B} P f g same kept (x ∷ xs) b p =
    ap (λ (s : B). fold f s xs) (same b x p) ∙ fold-same P f g same kept xs (g b x) (kept b x p)

if-kept : {A : Type 0} (P : A → Type 0) (b : Bool) (x y : A) → P x → P y → P (if b then x else y)
if-kept P true x y p q = p
if-kept P false x y p q = q

if-same : {A : Type 0} (b : Bool) (x y z : A) → (b ≡ false → y ≡ z) → (if b then x else y) ≡ (if b then x else z)
if-same true x y z same = refl
if-same false x y z same = same refl

-- ---- the names that were met

number-kept : (met more : List ℕ) (n : ℕ) → has_number met n ≡ true → has_number (met ++ more) n ≡ true
number-kept met more n is = list_any-append (λ m. m == n) met more ∙ ap (λ (b : Bool). b || has_number more n) is

number-pushed : (met : List ℕ) (name n : ℕ) → has_number (met ++ name ∷ []) n ≡ (has_number met n || ((name == n) || false))
number-pushed met name n = list_any-append (λ m. m == n) met (name ∷ [])

or-same : (b : Bool) (n : ℕ) → (b || ((n == n) || false)) ≡ true
or-same true n = refl
or-same false n = ap (λ (b : Bool). b || false) (eq-eqb n n refl)

number-last : (met : List ℕ) (name : ℕ) → has_number (met ++ name ∷ []) name ≡ true
number-last met name = number-pushed met name name ∙ or-same (has_number met name) name

-- ---- one name of a walk

abbrev step : List Class → ℕ → List ℕ → ℕ → List ℕ
step classes levels met name = if has_number met name then met else met_from classes levels (met ++ name ∷ []) (superinterfaces_of classes name)

from-none : (classes : List Class) (levels : ℕ) (met : List ℕ) → met_from classes levels met [] ≡ met
unfolding met_from
from-none classes zero met = refl
from-none classes (suc levels) met = refl

from-fold : (classes : List Class) (levels : ℕ) (met names : List ℕ) → met_from classes (suc levels) met names ≡ fold (step classes levels) met names
unfolding met_from
from-fold classes levels met names = refl

from-first : (classes : List Class) (levels : ℕ) (met : List ℕ) (name : ℕ) (names : List ℕ) →
    met_from classes (suc levels) met (name ∷ names) ≡ met_from classes (suc levels) (step classes levels met name) names
unfolding met_from
from-first classes levels met name names = refl

from-append : (classes : List Class) (levels : ℕ) (met first rest : List ℕ) →
    met_from classes (suc levels) met (first ++ rest) ≡ met_from classes (suc levels) (met_from classes (suc levels) met first) rest
unfolding met_from
from-append classes levels met first rest = fold-append (step classes levels) met first rest

from-kept : (classes : List Class) (levels : ℕ) (met names : List ℕ) (n : ℕ) → has_number met n ≡ true → has_number (met_from classes levels met names) n ≡ true
unfolding met_from
from-kept classes zero met names n is = is
from-kept classes (suc levels) met names n is =
    fold-kept (λ (s : List ℕ). has_number s n ≡ true) (step classes levels)
    (λ s name here. if-kept (λ (l : List ℕ). has_number l n ≡ true) (has_number s name) s (met_from classes levels (s ++ name ∷ []) (superinterfaces_of classes name)) here
    (from-kept classes levels (s ++ name ∷ []) (superinterfaces_of classes name) n (number-kept s (name ∷ []) n here)))
    names met is

step-kept : (classes : List Class) (levels : ℕ) (met : List ℕ) (name n : ℕ) → has_number met n ≡ true → has_number (step classes levels met name) n ≡ true
step-kept classes levels met name n is =
    if-kept (λ (l : List ℕ). has_number l n ≡ true) (has_number met name) met (met_from classes levels (met ++ name ∷ []) (superinterfaces_of classes name)) is
    (from-kept classes levels (met ++ name ∷ []) (superinterfaces_of classes name) n (number-kept met (name ∷ []) n is))

-- ---- the classes that were not met

weight-below : (a b : Bool) (w : ℕ) → (a ≡ true → b ≡ true) → (if b then 0 else w) ≤ (if a then 0 else w)
weight-below true b w kept = rw (kept refl) (omega arith)
weight-below false true w kept = omega arith
weight-below false false w kept = omega arith

unmet-fall : (weight : Class → ℕ) (met more : List ℕ) → ((n : ℕ) → has_number met n ≡ true → has_number more n ≡ true) →
    (classes : List Class) → sum_by (unmet_weight weight more) classes ≤ sum_by (unmet_weight weight met) classes
unmet-fall weight met more kept [] = omega arith
unmet-fall weight met more kept (c ∷ classes) =
    omega (
      arith,
      sum_by-cons (unmet_weight weight more) c classes,
      sum_by-cons (unmet_weight weight met) c classes,
      weight-below (has_number met c.name) (has_number more c.name) (weight c) (kept c.name),
      unmet-fall weight met more kept classes,
    )

unmet-most : (met : List ℕ) (classes : List Class) → sum_by (unmet_weight (λ c. 1) met) classes ≤ length classes
unmet-most met [] = omega arith
unmet-most met (c ∷ classes) =
    omega (arith, sum_by-cons (unmet_weight (λ c. 1) met) c classes, weight-below false (has_number met c.name) 1 (λ is. absurd cc), unmet-most met classes)

unmet-first : (weight : Class → ℕ) (met more : List ℕ) (name : ℕ) (c : Class) → c.name ≡ name → has_number met name ≡ false → has_number more name ≡ true →
    weight c + unmet_weight weight more c ≤ unmet_weight weight met c
unmet-first weight met more name c named before behind =
    let first : unmet_weight weight met c ≡ weight c = ap (λ (n : ℕ). if has_number met n then 0 else weight c) named ∙ ap (λ (b : Bool). if b then 0 else weight c) before in
    let last : unmet_weight weight more c ≡ 0 = ap (λ (n : ℕ). if has_number more n then 0 else weight c) named ∙ ap (λ (b : Bool). if b then 0 else weight c) behind in
    omega arith

unmet-at : (weight : Class → ℕ) (met more : List ℕ) → ((n : ℕ) → has_number met n ≡ true → has_number more n ≡ true) →
    (name : ℕ) → has_number met name ≡ false → has_number more name ≡ true →
    (classes : List Class) (i : ℕ) (c : Class) → slice_get classes i ≡ Some c → c.name ≡ name →
    weight c + sum_by (unmet_weight weight more) classes ≤ sum_by (unmet_weight weight met) classes
unmet-at weight met more kept name before behind [] i c is named = absurd cc
unmet-at weight met more kept name before behind (d ∷ classes) zero c is named =
    let same : d ≡ c = cc in
    let here : weight d + unmet_weight weight more d ≤ unmet_weight weight met d = unmet-first weight met more name d (ap (λ (k : Class). k.name) same ∙ named) before behind in
    omega (arith, here, ap weight same, sum_by-cons (unmet_weight weight more) d classes, sum_by-cons (unmet_weight weight met) d classes, unmet-fall weight met more kept classes)
unmet-at weight met more kept name before behind (d ∷ classes) (suc i) c is named =
    omega (
      arith,
      sum_by-cons (unmet_weight weight more) d classes,
      sum_by-cons (unmet_weight weight met) d classes,
      weight-below (has_number met d.name) (has_number more d.name) (weight d) (kept d.name),
      unmet-at weight met more kept name before behind classes i c is named,
    )

-- the class of a name has it
class-is-named : (classes : List Class) (name i : ℕ) (c : Class) → class_named classes name ≡ Some i → slice_get classes i ≡ Some c → c.name ≡ name
class-is-named classes name i c named is =
    let at = position-Some (λ (d : Class). d.name == name) classes i c named in
    eqb-true c.name name (ap (λ (d : Class). d.name == name) (sym (get_or_from_slice_get classes i c c is)) ∙ at.1)

-- a name that is met takes its class from those that were not met
unmet-taken : (weight : Class → ℕ) (classes : List Class) (met : List ℕ) (name : ℕ) (c : Class) (place : Option ℕ) → class_named classes name ≡ place →
    option_and_then (slice_get classes) place ≡ Some c → has_number met name ≡ false →
    weight c + sum_by (unmet_weight weight (met ++ name ∷ [])) classes ≤ sum_by (unmet_weight weight met) classes
unmet-taken weight classes met name c None at is unmet = absurd cc
unmet-taken weight classes met name c (Some i) at is unmet =
    unmet-at weight met (met ++ name ∷ []) (λ n here. number-kept met (name ∷ []) n here) name unmet (number-last met name) classes i c is (class-is-named classes name i c at is)

-- ---- levels

abbrev unmet_classes : List Class → List ℕ → ℕ
unmet_classes classes met = sum_by (unmet_weight (λ c. 1) met) classes

interfaces-outside : (classes : List Class) (name : ℕ) → class_of_name classes name ≡ None → superinterfaces_of classes name ≡ []
interfaces-outside classes name is = ap (λ (o : Option Class). option_map_or (λ (c : Class). c.interfaces) o []) is

-- behind a name that was not met a level makes no difference where one makes none for fewer classes
level-behind : (classes : List Class) (levels : ℕ) (met : List ℕ) (name : ℕ) (found : Option Class) → class_of_name classes name ≡ found →
    has_number met name ≡ false →
    (unmet_classes classes (met ++ name ∷ []) < unmet_classes classes met →
    met_from classes (suc levels) (met ++ name ∷ []) (superinterfaces_of classes name) ≡ met_from classes levels (met ++ name ∷ []) (superinterfaces_of classes name)) →
    met_from classes (suc levels) (met ++ name ∷ []) (superinterfaces_of classes name) ≡ met_from classes levels (met ++ name ∷ []) (superinterfaces_of classes name)
level-behind classes levels met name None is unmet same =
    let nothing : superinterfaces_of classes name ≡ [] = interfaces-outside classes name is in
    ap (λ (l : List ℕ). met_from classes (suc levels) (met ++ name ∷ []) l) nothing
    ∙ from-none classes (suc levels) (met ++ name ∷ [])
    ∙ sym (ap (λ (l : List ℕ). met_from classes levels (met ++ name ∷ []) l) nothing ∙ from-none classes levels (met ++ name ∷ []))
level-behind classes levels met name (Some c) is unmet same =
    same (omega (arith, unmet-taken (λ c. 1) classes met name c (class_named classes name) refl is unmet))

-- the same of a whole walk: one more level changes nothing while no more classes are left than levels
level-spare : (classes : List Class) (levels : ℕ) (met names : List ℕ) → unmet_classes classes met ≤ levels →
    met_from classes (suc (suc levels)) met names ≡ met_from classes (suc levels) met names
unfolding met_from
level-spare classes zero met names few =
    fold-same (λ (s : List ℕ). unmet_classes classes s ≤ 0) (step classes 1) (step classes 0)
    (λ s name left. if-same (has_number s name) s (met_from classes 1 (s ++ name ∷ []) (superinterfaces_of classes name)) (met_from classes 0 (s ++ name ∷ []) (superinterfaces_of classes name))
    (λ unmet. level-behind classes 0 s name (class_of_name classes name) refl unmet (λ fewer. absurd (omega arith))))
    (λ s name left. omega (arith, left, unmet-fall (λ c. 1) s (step classes 0 s name) (λ n is. step-kept classes 0 s name n is) classes))
    names met few
level-spare classes (suc levels) met names few =
    fold-same (λ (s : List ℕ). unmet_classes classes s ≤ suc levels) (step classes (suc (suc levels))) (step classes (suc levels))
    (λ s name left. if-same (has_number s name) s (met_from classes (suc (suc levels)) (s ++ name ∷ []) (superinterfaces_of classes name)) (met_from classes (suc levels) (s ++ name ∷ []) (superinterfaces_of classes name))
    (λ unmet. level-behind classes (suc levels) s name (class_of_name classes name) refl unmet
    (λ fewer. level-spare classes levels (s ++ name ∷ []) (superinterfaces_of classes name) (omega arith))))
    (λ s name left. omega (arith, left, unmet-fall (λ c. 1) s (step classes (suc levels) s name) (λ n is. step-kept classes (suc levels) s name n is) classes))
    names met few

level-enough : (classes : List Class) (levels : ℕ) (met : List ℕ) (name : ℕ) → unmet_classes classes met ≤ levels → has_number met name ≡ false →
    met_from classes (suc levels) (met ++ name ∷ []) (superinterfaces_of classes name) ≡ met_from classes levels (met ++ name ∷ []) (superinterfaces_of classes name)
level-enough classes zero met name few unmet =
    level-behind classes 0 met name (class_of_name classes name) refl unmet (λ fewer. absurd (omega arith))
level-enough classes (suc levels) met name few unmet =
    level-behind classes (suc levels) met name (class_of_name classes name) refl unmet
    (λ fewer. level-spare classes levels (met ++ name ∷ []) (superinterfaces_of classes name) (omega arith))

-- ---- the walk

walk-none : (classes : List Class) (met : List ℕ) → walk_from classes met [] ≡ met
walk-none classes met = from-none classes (length classes + 1) met

-- a name that was met is passed over
walk-met : (classes : List Class) (met : List ℕ) (name : ℕ) (rest : List ℕ) → has_number met name ≡ true →
    walk_from classes met (name ∷ rest) ≡ walk_from classes met rest
walk-met classes met name rest is =
    let levels = length classes in
    rw (add-one levels) (from-first classes levels met name rest
    ∙ ap (λ (b : Bool). met_from classes (suc levels) (if b then met else met_from classes levels (met ++ name ∷ []) (superinterfaces_of classes name)) rest) is)

-- another name is met, and what its class extends comes next
walk-unmet : (classes : List Class) (met : List ℕ) (name : ℕ) (rest : List ℕ) → has_number met name ≡ false →
    walk_from classes met (name ∷ rest) ≡ walk_from classes (met ++ name ∷ []) (superinterfaces_of classes name ++ rest)
walk-unmet classes met name rest is =
    let levels = length classes in
    rw (add-one levels) (from-first classes levels met name rest
    ∙ ap (λ (b : Bool). met_from classes (suc levels) (if b then met else met_from classes levels (met ++ name ∷ []) (superinterfaces_of classes name)) rest) is
    ∙ ap (λ (s : List ℕ). met_from classes (suc levels) s rest) (sym (level-enough classes levels met name (unmet-most met classes) is))
    ∙ sym (from-append classes levels (met ++ name ∷ []) (superinterfaces_of classes name) rest))

-- what is left to visit falls
walk-falls : (classes : List Class) (met : List ℕ) (name : ℕ) (found : Option Class) → class_of_name classes name ≡ found → has_number met name ≡ false →
    length (superinterfaces_of classes name) + unmet_interfaces classes (met ++ name ∷ []) ≤ unmet_interfaces classes met
walk-falls classes met name None is unmet =
    omega (arith, ap length (interfaces-outside classes name is), unmet-fall (λ c. length c.interfaces) met (met ++ name ∷ []) (λ n here. number-kept met (name ∷ []) n here) classes)
walk-falls classes met name (Some c) is unmet =
    omega (
      arith,
      ap (λ (o : Option Class). length (option_map_or (λ (c : Class). c.interfaces) o [])) is,
      unmet-taken (λ c. length c.interfaces) classes met name c (class_named classes name) refl is unmet,
    )

-- ---- what a walk meets

or-left : (a b : Bool) → a ≡ true → (a || b) ≡ true
or-left a b h = ap (λ (c : Bool). c || b) h

or-right : (a b : Bool) → b ≡ true → (a || b) ≡ true
or-right true b h = refl
or-right false b h = h

append-first : (first rest : List ℕ) (n : ℕ) → has_number first n ≡ true → has_number (first ++ rest) n ≡ true
append-first first rest n h = list_any-append (λ m. m == n) first rest ∙ or-left (has_number first n) (has_number rest n) h

append-rest : (first rest : List ℕ) (n : ℕ) → has_number rest n ≡ true → has_number (first ++ rest) n ≡ true
append-rest first rest n h = list_any-append (λ m. m == n) first rest ∙ or-right (has_number first n) (has_number rest n) h

walk-kept : (classes : List Class) (met names : List ℕ) (n : ℕ) → has_number met n ≡ true → has_number (walk_from classes met names) n ≡ true
walk-kept classes met names n h = from-kept classes (length classes + 1) met names n h

-- the work that is left falls with each name
less-left : (classes : List Class) (met : List ℕ) (name : ℕ) (rest : List ℕ) (fuel : ℕ) → has_number met name ≡ false → unmet_interfaces classes met + length (name ∷ rest) ≤ suc fuel →
    unmet_interfaces classes (met ++ name ∷ []) + length (superinterfaces_of classes name ++ rest) ≤ fuel
less-left classes met name rest fuel unmet le =
    omega (arith, walk-falls classes met name (class_of_name classes name) refl unmet, length-append (superinterfaces_of classes name) rest, le)

-- each name that it is to visit
walk-names : (classes : List Class) (fuel : ℕ) (met names : List ℕ) → unmet_interfaces classes met + length names ≤ fuel → (n : ℕ) → has_number names n ≡ true →
    has_number (walk_from classes met names) n ≡ true
walk-names classes fuel met [] le n h = absurd cc
walk-names classes zero met (name ∷ rest) le n h = absurd (omega (arith, le))
walk-names classes (suc fuel) met (name ∷ rest) le n h =
    by-met (λ more names less listed. walk-names classes fuel more names less n listed) (has_number met name) refl (either (name == n) (has_number rest n) h)
  where
    by-met : ((more names : List ℕ) → unmet_interfaces classes more + length names ≤ fuel → has_number names n ≡ true → has_number (walk_from classes more names) n ≡ true) → (b : Bool) → has_number met name ≡ b → (IsTrue (name == n) ⊎ IsTrue (has_number rest n)) → has_number (walk_from classes met (name ∷ rest)) n ≡ true
    by-met again true is (inl here) = walk-kept classes met (name ∷ rest) n (subst (λ m. has_number met m ≡ true) (eqb-true name n here) is)
    by-met again true is (inr later) = ap (λ l. has_number l n) (walk-met classes met name rest is) ∙ again met rest (omega (arith, le)) later
    by-met again false is (inl here) =
        ap (λ l. has_number l n) (walk-unmet classes met name rest is)
        ∙ walk-kept classes (met ++ name ∷ []) (superinterfaces_of classes name ++ rest) n (subst (λ m. has_number (met ++ name ∷ []) m ≡ true) (eqb-true name n here) (number-last met name))
    by-met again false is (inr later) =
        ap (λ l. has_number l n) (walk-unmet classes met name rest is)
        ∙ again (met ++ name ∷ []) (superinterfaces_of classes name ++ rest) (less-left classes met name rest fuel is le) (append-rest (superinterfaces_of classes name) rest n later)

-- and the superinterfaces of each name that it meets
walk-closed : (classes : List Class) (fuel : ℕ) (met names : List ℕ) → unmet_interfaces classes met + length names ≤ fuel → (n above : ℕ) → has_number met n ≡ false →
    has_number (walk_from classes met names) n ≡ true → has_number (superinterfaces_of classes n) above ≡ true → has_number (walk_from classes met names) above ≡ true
walk-closed classes fuel met [] le n above unmet h up =
    let wrong : has_number met n ≡ true = ap (λ l. has_number l n) (sym (walk-none classes met)) ∙ h in absurd cc
walk-closed classes zero met (name ∷ rest) le n above unmet h up = absurd (omega (arith, le))
walk-closed classes (suc fuel) met (name ∷ rest) le n above unmet h up =
    by-met (λ more names less new among. walk-closed classes fuel more names less n above new among up) (has_number met name) refl
  where
    by-met : ((more names : List ℕ) → unmet_interfaces classes more + length names ≤ fuel → has_number more n ≡ false → has_number (walk_from classes more names) n ≡ true → has_number (walk_from classes more names) above ≡ true) → (b : Bool) → has_number met name ≡ b → has_number (walk_from classes met (name ∷ rest)) above ≡ true
    by-met again true is =
        let same : has_number (walk_from classes met rest) n ≡ true = ap (λ l. has_number l n) (sym (walk-met classes met name rest is)) ∙ h in
        ap (λ l. has_number l above) (walk-met classes met name rest is) ∙ again met rest (omega (arith, le)) unmet same
    by-met again false is =
        let whole = walk-unmet classes met name rest is in
        let less = less-left classes met name rest fuel is le in
        let more : List ℕ = superinterfaces_of classes name ++ rest in
        ap (λ l. has_number l above) whole ∙ elim (cases_eq name n) [
          | inl here ↦ walk-names classes fuel (met ++ name ∷ []) more less above
              (append-first (superinterfaces_of classes name) rest above (subst (λ m. has_number (superinterfaces_of classes m) above ≡ true) (sym here) up))
          | inr other ↦
              (let before : has_number (met ++ name ∷ []) n ≡ false = number-pushed met name n ∙ ap (λ (b : Bool). b || ((name == n) || false)) unmet ∙ ap (λ (b : Bool). b || false) (ne_eqb name n other) in
              let same : has_number (walk_from classes (met ++ name ∷ []) more) n ≡ true = ap (λ l. has_number l n) (sym whole) ∙ h in
              again (met ++ name ∷ []) more less before same)
        ]

-- a class's superinterfaces hold those that it lists, and those of each of them
pub superinterfaces-listed : (classes : List Class) (c : Class) (n : ℕ) → has_number c.interfaces n ≡ true → has_number (superinterfaces classes c) n ≡ true
superinterfaces-listed classes c n h = walk-names classes (unmet_interfaces classes [] + length c.interfaces) [] c.interfaces (omega arith) n h

pub superinterfaces-closed : (classes : List Class) (c : Class) (n above : ℕ) → has_number (superinterfaces classes c) n ≡ true → has_number (superinterfaces_of classes n) above ≡ true →
    has_number (superinterfaces classes c) above ≡ true
superinterfaces-closed classes c n above h up = walk-closed classes (unmet_interfaces classes [] + length c.interfaces) [] c.interfaces (omega arith) n above refl h up
