-- The classes with an initialiser among some classes and their ancestors.
use Rattle.std.proofs.Common.{◌≡◌, ℕ, ◌+◌, ◌-◌, ◌<◌, ◌≤◌, ◌&&◌, nat_lt, Bool, true, false, IsTrue, List, [], ◌∷◌, ◌++◌, Option, Some, None, filter, map, length, get_or, take, drop, refl, sym, ap, ◌∙◌, inl, inr, arith, append_assoc}
use Rattle.std.specs.Prelude.{slice_get}
use Rattle.std.specs.List.{flat_map, list_any, range_with_len}
use Rattle.std.specs.List.Sorted.{IsStrictlyIncreasing}
use Rattle.std.specs.Option.{option_map_or, option_to_list}
use Rattle.std.proofs.lemmas.Bool.{cases_lt, lt-ltb}
use Rattle.std.proofs.lemmas.Grind.{flat_map-append}
use Rattle.std.proofs.lemmas.List.{append-nil, get_or_past, length-drop, take_all, take_more}
use Rattle.std.proofs.lemmas.List.Elements.{filter-append}
use Rattle.std.proofs.lemmas.List.FromFn.{get_or-map-range_with_len, length-map-range_with_len}
use Rattle.std.proofs.lemmas.Option.{slice_get_cases, slice_get_within}
use Rattle.fp_model.specs.declared.class.Class.{Class}
use Rattle.fp_model.specs.ClassSet.{SetView}
use Rattle.fp_facts.specs.Hierarchy.{ancestors, classes_among, has_number}
use Rattle.fp_facts.specs.Initialisation.{has_initialiser, is_initialiser, with_ancestors}
use Rattle.fp_facts.specs.Selection.{ascending_among}
use Rattle.fp_facts.proofs.ListedNumbers.{any-from, any-has, has-filter, has-flat}
use Rattle.fp_eqs.specs.Tests.{false-if_not, same-bool}
use Rattle.fp_hier.proofs.AscendingLists.{is-filter}
use Rattle.fp_extract.specs.Begun.{is_flagged}

-- ---- one by one

-- what passes of one more list is added
pub passed-next : {X : Type 0} (p : ℕ → Bool) (f : X → List ℕ) (xs : List X) (at : ℕ) (d : X) (first before after : List ℕ) → at < length xs → before ≡ first ++ filter p (flat_map f (take at xs)) →
    after ≡ before ++ filter p (f (get_or xs at d)) → after ≡ first ++ filter p (flat_map f (take (at + 1) xs))
passed-next p f xs at d first before after within was is =
    let x = get_or xs at d in
    let done = flat_map f (take at xs) in
    let more : flat_map f (take (at + 1) xs) ≡ done ++ f x =
    ap (flat_map f) (take_more xs at d within) ∙ flat_map-append f (take at xs) (x ∷ []) ∙ ap (λ l. done ++ l) (append-nil (f x)) in
    is ∙ ap (λ l. l ++ filter p (f x)) was ∙ append_assoc first (filter p done) (filter p (f x))
    ∙ ap (λ l. first ++ l) (sym (filter-append p done (f x)) ∙ ap (filter p) (sym more))

-- the names that a class goes by: its own one, and those of its ancestors
pub record AreNames (classes : List Class) (class : ℕ) (names : List ℕ) : Type 0 where
  pub own : 1 ≤ length names
  pub all : with_ancestors classes class ≡ class ∷ classes_among classes (take (length names - 1) (drop 1 names))

pub are-names : (classes : List Class) (class : ℕ) (names : List ℕ) → class < length classes → ((c : Class) → slice_get classes class ≡ Some c → names ≡ c.name ∷ ancestors classes c) → AreNames classes class names
are-names classes class names known told = elim ((slice_get_cases classes class).1) [
  | inl there ↦ (
      let c = there.0 in
      let is : names ≡ c.name ∷ ancestors classes c = told c there.2 in
      record {
        own = omega (arith, ap length is);
        all =
            ap (λ (o : Option Class). option_map_or (λ d. class ∷ classes_among classes (ancestors classes d)) o []) there.2
            ∙ ap (λ (l : List ℕ). class ∷ classes_among classes (drop 1 l)) (sym is)
            ∙ ap (λ (l : List ℕ). class ∷ classes_among classes l) (sym (take_all (length names - 1) (drop 1 names) (omega (arith, length-drop 1 names))));
      })
  | inr past ↦ absurd (omega (arith, known, past.0))
]

pub passed-both : (p : ℕ → Bool) (class : ℕ) (rest all old with_class new : List ℕ) → with_class ≡ old ++ filter p (class ∷ []) → all ≡ class ∷ rest → new ≡ with_class ++ filter p rest → new ≡ old ++ filter p all
passed-both p class rest all old with_class new first is last =
    last ∙ ap (λ l. l ++ filter p rest) first ∙ append_assoc old (filter p (class ∷ [])) (filter p rest)
    ∙ ap (λ l. old ++ l) (sym (filter-append p (class ∷ []) rest) ∙ ap (filter p) (sym is))

-- ---- all of them

initialiser-known : (set : SetView) (class : ℕ) → IsTrue (has_initialiser set class) → class < length set.classes
initialiser-known set class h = by-class (slice_get set.classes class) refl h
  where
    by-class : (found : Option Class) → slice_get set.classes class ≡ found → IsTrue (option_map_or (λ c. list_any (is_initialiser set.names) c.methods) found false) → class < length set.classes
    by-class None is h = let wrong : false ≡ true = h in cc
    by-class (Some c) is h = slice_get_within set.classes class c is

pub flags-known : (set : SetView) (flags : List Bool) → flags ≡ map (has_initialiser set) (range_with_len 0 (length set.classes)) → length flags ≡ length set.classes
flags-known set flags are = ap length are ∙ length-map-range_with_len (has_initialiser set) 0 (length set.classes)

flag-told : (set : SetView) (flags : List Bool) → flags ≡ map (has_initialiser set) (range_with_len 0 (length set.classes)) → (class : ℕ) → is_flagged flags class ≡ has_initialiser set class
flag-told set flags are class = elim (cases_lt class (length set.classes)) [
  | inl known ↦ ap (λ (l : List Bool). is_flagged l class) are ∙ get_or-map-range_with_len (has_initialiser set) 0 (length set.classes) class class false known (omega arith)
  | inr past ↦
      get_or_past flags class false (omega (arith, flags-known set flags are, past))
      ∙ sym (false-if_not (has_initialiser set class) (λ h. omega (arith, initialiser-known set class h, past)))
]

flat-both : {X : Type 0} (f : X → List ℕ) (g : ℕ → List ℕ) (xs : List X) → flat_map g (flat_map f xs) ≡ flat_map (λ x. flat_map g (f x)) xs
flat-both f g [] = refl
flat-both f g (x ∷ xs) = flat_map-append g (f x) (flat_map f xs) ∙ ap (λ l. flat_map g (f x) ++ l) (flat-both f g xs)

same-any : (test : ℕ → Bool) (xs ys : List ℕ) → ((n : ℕ) → has_number xs n ≡ has_number ys n) → list_any test xs ≡ list_any test ys
same-any test xs ys same =
    same-bool (list_any test xs) (list_any test ys)
    (λ h. let found = any-from test xs h in any-has test ys found.number (sym (same found.number) ∙ found.listed) found.passes)
    (λ h. let found = any-from test ys h in any-has test xs found.number (same found.number ∙ found.listed) found.passes)

-- where a test holds only of what is known, what is known may be asked too
known-too : (b c known : Bool) → (IsTrue b → IsTrue known) → (b && c) ≡ ((b && c) && known)
known-too false c known h = refl
known-too true false known h = refl
known-too true true known h = sym (h refl)

-- the classes that some things begin to initialise
pub all-begun : {X : Type 0} (f : X → Option ℕ) (set : SetView) (flags : List Bool) (xs : List X) (listed classes begun last : List ℕ) → flags ≡ map (has_initialiser set) (range_with_len 0 (length set.classes)) →
    listed ≡ flat_map (λ x. option_to_list (f x)) xs → ((n : ℕ) → has_number classes n ≡ has_number listed n) → begun ≡ filter (is_flagged flags) (flat_map (with_ancestors set.classes) classes) →
    IsStrictlyIncreasing last → ((n : ℕ) → has_number last n ≡ has_number begun n) →
    last ≡ ascending_among (length set.classes) (filter (has_initialiser set) (flat_map (λ x. flat_map (with_ancestors set.classes) (option_to_list (f x))) xs))
all-begun f set flags xs listed classes begun last are named same is rising members =
    let above = with_ancestors set.classes in
    let given = flat_map (λ x. option_to_list (f x)) xs in
    let all = flat_map (λ x. flat_map above (option_to_list (f x))) xs in
    let count = length set.classes in
    let among : (n : ℕ) → has_number (flat_map above classes) n ≡ has_number all n = λ n.
    has-flat above classes n
    ∙ same-any (λ class. has_number (above class) n) classes given (λ m. same m ∙ ap (λ l. has_number l m) named)
    ∙ sym (has-flat above given n)
    ∙ ap (λ l. has_number l n) (flat-both (λ x. option_to_list (f x)) above xs) in
    let passed : (n : ℕ) → has_number begun n ≡ (has_initialiser set n && has_number all n) = λ n.
    ap (λ l. has_number l n) is
    ∙ has-filter (is_flagged flags) (flat_map above classes) n
    ∙ ap (λ b. b && has_number (flat_map above classes) n) (flag-told set flags are n)
    ∙ ap (λ b. has_initialiser set n && b) (among n) in
    is-filter (has_number (filter (has_initialiser set) all)) count last rising
    (λ n.
    members n ∙ passed n
    ∙ known-too (has_initialiser set n) (has_number all n) (nat_lt n count) (λ h. lt-ltb n count (initialiser-known set n h))
    ∙ ap (λ b. b && nat_lt n count) (sym (has-filter (has_initialiser set) all n)))
