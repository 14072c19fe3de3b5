-- What the rows tell of a class's names.
use Rattle.std.proofs.Common.{◌≡◌, ◌+◌, ◌<◌, ◌==◌, nat_lt, ℕ, Bool, true, false, not, ◌&&◌, ◌||◌, List, [], ◌∷◌, ◌++◌, append-nil, cond, suc, zero, filter, length, slice_get, get_or, Option, Some, None, unwrap_or, codes, All, refl, ap, sym, ◌∙◌, arith, inl, inr}
use Rattle.std.specs.List.{list_any, position_or_len, range_with_len}
use Rattle.std.specs.Option.{is_none, option_map_or}
use Rattle.std.proofs.lemmas.Bool.{and_from, and_parts, cases_Bool, cases_lt, eq-eqb, eqb-true, false≢true, lt-ltb, ltb-true, or_cases, or_left}
use Rattle.std.proofs.lemmas.List.Elements.{All-filter, filter-append}
use Rattle.std.proofs.lemmas.List.FromFn.{get_or-range_with_len, length-range_with_len}
use Rattle.std.proofs.lemmas.List.Kept.{IsStrictlyIncreasing-filter}
use Rattle.std.proofs.lemmas.List.Sums.{prefix_len_passes}
use Rattle.std.proofs.lemmas.Option.{get_or_from_slice_get, slice_get_within}
use Rattle.std.proofs.lemmas.Slice.Eq.{bytes_eq-Decides}
use Rattle.fp_model.specs.declared.class.Class.{Class}
use Rattle.fp_model.specs.ClassSet.{SetView, class_named}
use Rattle.fp_model.specs.Descriptor.{text_of}
use Rattle.fp_base.specs.Names.{AreDistinct}
use Rattle.fp_facts.specs.Hierarchy.{ancestors, fits, has_outside_ancestor, is_array_name, is_concrete, is_object, is_outside, may_fit}
use Rattle.fp_facts.specs.Selection.{receivers}
use Rattle.fp_hier.specs.BitRows.{bit_of}
use Rattle.fp_hier.specs.Marks.{marks, own_names}
use Rattle.fp_hier.specs.Receivers.{AreReceiversOf, fits_at, is_marked, marked_in}
use Rattle.fp_hier.specs.declared.receivers.Receivers.{Receivers}
use Rattle.fp_hier.proofs.AscendingLists.{any-agree, filter-rises, has-filter, has-filter_range, is-filter, same-test}
use Rattle.fp_hier.proofs.ReceiverRows.{marks-class, marks-first, marks-second, marks-third, named-below}
use Rattle.fp_hier.proofs.SelectedTargets.{there}

-- ---- tests of lists

or-none : (a : Bool) → (a || false) ≡ a
or-none true = refl
or-none false = refl

and-all : (a : Bool) → (a && true) ≡ a
and-all true = refl
and-all false = refl

and-none : (a : Bool) → (a && false) ≡ false
and-none true = refl
and-none false = refl

or-right : (a b : Bool) → b ≡ true → (a || b) ≡ true
or-right true b h = refl
or-right false b h = h

any-implied : (p q : ℕ → Bool) (xs : List ℕ) → ((x : ℕ) → p x ≡ true → q x ≡ true) → list_any p xs ≡ true → list_any q xs ≡ true
any-implied p q [] follows h = absurd (false≢true h)
any-implied p q (x ∷ xs) follows h =
    elim (or_cases (p x) (list_any p xs) h) [
      | inl here ↦ or_left (q x) (list_any q xs) (follows x here)
      | inr rest ↦ or-right (q x) (list_any q xs) (any-implied p q xs follows rest)
    ]

or-or : (a b c d : Bool) → ((a || b) || (c || d)) ≡ ((a || c) || (b || d))
or-or true b c d = refl
or-or false true true d = refl
or-or false true false d = refl
or-or false false c d = refl

any-or : (p q : ℕ → Bool) (xs : List ℕ) → list_any (λ x. p x || q x) xs ≡ (list_any p xs || list_any q xs)
any-or p q [] = refl
any-or p q (x ∷ xs) = ap (λ b. (p x || q x) || b) (any-or p q xs) ∙ or-or (p x) (q x) (list_any p xs) (list_any q xs)

-- two tests that agree below a bound pass the same numbers below it
agree-below : (p q : ℕ → Bool) (bound n : ℕ) (t : Bool) → (n < bound → p n ≡ q n) → nat_lt n bound ≡ t → (p n && nat_lt n bound) ≡ (q n && nat_lt n bound)
agree-below p q bound n true same is = ap (λ b. b && nat_lt n bound) (same (ltb-true n bound is))
agree-below p q bound n false same is = ap (λ b. p n && b) is ∙ and-none (p n) ∙ sym (and-none (q n)) ∙ sym (ap (λ b. q n && b) is)

filter-below : (p q : ℕ → Bool) (bound : ℕ) → ((n : ℕ) → n < bound → p n ≡ q n) → filter p (range_with_len 0 bound) ≡ filter q (range_with_len 0 bound)
filter-below p q bound same =
    is-filter q bound (filter p (range_with_len 0 bound)) (filter-rises p bound)
    (λ n. has-filter_range p bound n ∙ agree-below p q bound n (nat_lt n bound) (same n) refl)

range-end : (a n : ℕ) → range_with_len a (n + 1) ≡ range_with_len a n ++ (a + n) ∷ []
range-end a zero = ap (λ (k : ℕ). k ∷ []) (omega arith)
range-end a (suc n) =
    let next : a + 1 + n ≡ a + suc n = omega arith in
    let more : suc n + 1 ≡ suc (n + 1) = omega arith in
    ap (λ (k : ℕ). range_with_len a k) more ∙ ap (λ (l : List ℕ). a ∷ l) (range-end (a + 1) n ∙ ap (λ (k : ℕ). range_with_len (a + 1) n ++ k ∷ []) next)

filter-end : (f : ℕ → Bool) (n : ℕ) → filter f (range_with_len 0 (n + 1)) ≡ filter f (range_with_len 0 n) ++ cond (f n) (n ∷ []) []
filter-end f n =
    ap (filter f) (range-end 0 n ∙ ap (λ (k : ℕ). range_with_len 0 n ++ k ∷ []) (omega arith))
    ∙ filter-append f (range_with_len 0 n) (n ∷ [])

pub marked-listed : (f : ℕ → Bool) (n : ℕ) (old now : List ℕ) → f n ≡ true → old ≡ filter f (range_with_len 0 n) → now ≡ old ++ n ∷ [] → now ≡ filter f (range_with_len 0 (n + 1))
marked-listed f n old now passes so_far pushed =
    pushed
    ∙ ap (λ (l : List ℕ). l ++ n ∷ []) so_far
    ∙ ap (λ (b : Bool). filter f (range_with_len 0 n) ++ cond b (n ∷ []) []) (sym passes)
    ∙ sym (filter-end f n)

pub marked-passed : (f : ℕ → Bool) (n : ℕ) (old : List ℕ) → f n ≡ false → old ≡ filter f (range_with_len 0 n) → old ≡ filter f (range_with_len 0 (n + 1))
marked-passed f n old fails so_far =
    so_far
    ∙ sym (append-nil (filter f (range_with_len 0 n)))
    ∙ ap (λ (b : Bool). filter f (range_with_len 0 n) ++ cond b (n ∷ []) []) (sym fails)
    ∙ sym (filter-end f n)

-- ---- the name of a class

-- a class's own name is in the set
own-named : (classes : List Class) (i : ℕ) (c : Class) → slice_get classes i ≡ Some c → is_outside classes c.name ≡ false
own-named classes i c at =
    let p : Class → Bool = λ (d : Class). d.name == c.name in
    let within : i < length classes = slice_get_within classes i c at in
    let here : p (get_or classes i c) ≡ true = ap p (get_or_from_slice_get classes i c c at) ∙ eq-eqb c.name c.name refl in
    let found : position_or_len p classes < length classes =
    elim (cases_lt i (position_or_len p classes)) [
      | inl less ↦ absurd (false≢true (sym (ap not here) ∙ prefix_len_passes (λ (d : Class). not (p d)) classes i c less))
      | inr past ↦ omega arith
    ] in
    let told : nat_lt (position_or_len p classes) (length classes) ≡ true = lt-ltb (position_or_len p classes) (length classes) found in
    rw told refl

abbrev other_outside : SetView → ℕ → Bool
other_outside set name = is_outside set.classes name && not (is_object set.names name)

-- so only an ancestor's name is outside
own-outside : (set : SetView) (i : ℕ) (c : Class) → slice_get set.classes i ≡ Some c → list_any (other_outside set) (own_names set.classes c) ≡ has_outside_ancestor set c
own-outside set i c at =
    ap (λ b. (b && not (is_object set.names c.name)) || list_any (other_outside set) (ancestors set.classes c)) (own-named set.classes i c at)

module _ (set : SetView) (r : Receivers) (are : AreReceiversOf set r) (row id : ℕ) (c : Class) (at : slice_get set.classes id ≡ Some c) where
  -- the bit of a row, by what each name marks
  bit-by : (p : ℕ → Bool) → row < length set.classes + 3 → ((name : ℕ) → marks set row name ≡ p name) → bit_of r.rows row id ≡ list_any p (own_names set.classes c)
  bit-by p there same = are.marked c row id at there ∙ any-agree (marks set row) p (own_names set.classes c) same

  pub outside-told : row ≡ length set.classes → bit_of r.rows row id ≡ has_outside_ancestor set c
  outside-told is =
      bit-by (other_outside set) (omega arith) (λ name. marks-first set row name is)
      ∙ own-outside set id c at

-- ---- the names that a reference fits

abbrev is_name : ℕ → ℕ → Bool
is_name name m = m == name

within-fit : (set : SetView) (c : Class) (name : ℕ) → is_outside set.classes name ≡ false → may_fit set c name ≡ fits set.classes c name
within-fit set c name inside =
    ap (λ b. fits set.classes c name || (b && (not (is_array_name set.names name) && has_outside_ancestor set c))) inside ∙ or-none (fits set.classes c name)

array-fit : (set : SetView) (c : Class) (name : ℕ) → is_array_name set.names name ≡ true → may_fit set c name ≡ fits set.classes c name
array-fit set c name array =
    ap (λ b. fits set.classes c name || (is_outside set.classes name && (not b && has_outside_ancestor set c))) array
    ∙ ap (λ b. fits set.classes c name || b) (and-none (is_outside set.classes name))
    ∙ or-none (fits set.classes c name)

outside-fit : (set : SetView) (c : Class) (name : ℕ) → is_outside set.classes name ≡ true → is_array_name set.names name ≡ false → may_fit set c name ≡ (fits set.classes c name || has_outside_ancestor set c)
outside-fit set c name outside array =
    ap (λ b. fits set.classes c name || (b && (not (is_array_name set.names name) && has_outside_ancestor set c))) outside
    ∙ ap (λ b. fits set.classes c name || (not b && has_outside_ancestor set c)) array

-- ---- the name of `java/lang/Object`

has-text : (place : Option (List ℕ)) (text : List ℕ) → 0 < length text → unwrap_or place [] ≡ text → place ≡ Some text
has-text None text some is = absurd (omega (arith, ap length is))
has-text (Some other) text some is = ap (λ t. Some t) is

-- it has one number
same-object : (names : List (List ℕ)) (one other : ℕ) → AreDistinct names → is_object names one ≡ true → is_object names other ≡ true → one ≡ other
same-object names one other distinct first second =
    let text = codes "java/lang/Object" in
    let a = (bytes_eq-Decides (text_of names one) text).0 first in
    let b = (bytes_eq-Decides (text_of names other) text).0 second in
    let long : 0 < length text = omega arith in
    distinct.same_number one other text (has-text (slice_get names one) text long a) (has-text (slice_get names other) text long b)

-- ---- a name that is outside

-- by `java/lang/Object` goes what has any ancestor outside
object-tests : (set : SetView) (name m : ℕ) → AreDistinct set.names → is_outside set.classes name ≡ true → is_object set.names name ≡ true →
    is_outside set.classes m ≡ (is_name name m || other_outside set m)
object-tests set name m distinct outside object =
    same-test (is_outside set.classes m) (is_name name m || other_outside set m)
    (λ h.
    elim (cases_Bool (is_object set.names m)) [
      | inl one ↦ or_left (is_name name m) (other_outside set m) (eq-eqb m name (same-object set.names m name distinct one object))
      | inr none ↦ or-right (is_name name m) (other_outside set m) (and_from (is_outside set.classes m) (not (is_object set.names m)) h (ap not none))
    ])
    (λ h.
    elim (or_cases (is_name name m) (other_outside set m) h) [
      | inl one ↦ ap (is_outside set.classes) (eqb-true m name one) ∙ outside
      | inr beyond ↦ (and_parts (is_outside set.classes m) (not (is_object set.names m)) beyond).0
    ])

-- another name outside the set is one of those
other-tests : (set : SetView) (name m : ℕ) → is_outside set.classes name ≡ true → is_object set.names name ≡ false →
    other_outside set m ≡ (is_name name m || other_outside set m)
other-tests set name m outside object =
    same-test (other_outside set m) (is_name name m || other_outside set m) (λ h. or-right (is_name name m) (other_outside set m) h)
    (λ h.
    elim (or_cases (is_name name m) (other_outside set m) h) [
      | inl one ↦ ap (other_outside set) (eqb-true m name one) ∙ and_from (is_outside set.classes name) (not (is_object set.names name)) outside (ap not object)
      | inr beyond ↦ beyond
    ])

-- ---- the bits of a row

and-and : (a b c : Bool) → (a && (b && c)) ≡ ((a && b) && c)
and-and true b c = refl
and-and false b c = refl

-- a test that implies another one
implies-both : (a b c : Bool) → (a ≡ true → c ≡ true) → (a && (c && b)) ≡ (b && a)
implies-both true b c follows = ap (λ t. t && b) (follows refl) ∙ sym (and-all b)
implies-both false b c follows = sym (and-none b)

swap-and : (a b : Bool) → (a && b) ≡ (b && a)
swap-and true b = sym (and-all b)
swap-and false b = sym (and-none b)

module _ (set : SetView) (r : Receivers) (are : AreReceiversOf set r) (row name id : ℕ) (c : Class) (at : slice_get set.classes id ≡ Some c) where
  abbrev own : List ℕ
  own = own_names set.classes c

  abbrev told : Bool
  told = is_concrete c && may_fit set c name

  -- the mark of a concrete class, by what each name marks
  marked-by : (p : ℕ → Bool) → row < length set.classes + 3 → ((n : ℕ) → marks set row n ≡ p n) → is_marked set r row id ≡ (is_concrete c && list_any p own)
  marked-by p there same =
      ap (λ b. b && option_map_or is_concrete (slice_get set.classes id) false) (bit-by set r are row id c at p there same)
      ∙ ap (λ o. list_any p own && option_map_or is_concrete o false) at
      ∙ swap-and (list_any p own) (is_concrete c)

  class-told : class_named set.classes name ≡ Some row → is_marked set r row id ≡ told
  class-told named =
      let below = named-below set.classes name row named in
      marked-by (is_name name) (omega arith) (λ m. marks-class set row m name named)
      ∙ ap (λ b. is_concrete c && b) (sym (within-fit set c name (ap (λ (o : Option ℕ). is_none o) named)))

  either-told : is_outside set.classes name ≡ true → is_array_name set.names name ≡ false →
      (is_concrete c && list_any (λ m. is_name name m || other_outside set m) own) ≡ told
  either-told outside array =
      ap (λ b. is_concrete c && b)
      (any-or (is_name name) (other_outside set) own ∙ ap (λ b. fits set.classes c name || b) (own-outside set id c at) ∙ sym (outside-fit set c name outside array))

  object-told : AreDistinct set.names → row ≡ length set.classes + 1 → is_outside set.classes name ≡ true → is_array_name set.names name ≡ false → is_object set.names name ≡ true → is_marked set r row id ≡ told
  object-told distinct is outside array object =
      marked-by (is_outside set.classes) (omega arith) (λ m. marks-second set row m is)
      ∙ ap (λ b. is_concrete c && b) (any-agree (is_outside set.classes) (λ m. is_name name m || other_outside set m) own (λ m. object-tests set name m distinct outside object))
      ∙ either-told outside array

  other-told : row ≡ length set.classes → is_outside set.classes name ≡ true → is_array_name set.names name ≡ false → is_object set.names name ≡ false → is_marked set r row id ≡ told
  other-told is outside array object =
      marked-by (other_outside set) (omega arith) (λ m. marks-first set row m is)
      ∙ ap (λ b. is_concrete c && b) (any-agree (other_outside set) (λ m. is_name name m || other_outside set m) own (λ m. other-tests set name m outside object))
      ∙ either-told outside array

  abbrev array_outside : ℕ → Bool
  array_outside m = is_outside set.classes m && is_array_name set.names m

  -- a class that goes by the name of an array has a mark if it is concrete
  array-told : row ≡ length set.classes + 2 → is_outside set.classes name ≡ true → is_array_name set.names name ≡ true → (fits set.classes c name && is_marked set r row id) ≡ told
  array-told is outside array =
      ap (λ b. fits set.classes c name && b)
      (marked-by array_outside (omega arith) (λ m. marks-third set row m is) ∙ swap-and (is_concrete c) (list_any array_outside own))
      ∙ implies-both (fits set.classes c name) (is_concrete c) (list_any array_outside own)
      (λ h.
      any-implied (is_name name) array_outside own
      (λ m one. ap array_outside (eqb-true m name one) ∙ and_from (is_outside set.classes name) (is_array_name set.names name) outside array)
      h)
      ∙ ap (λ b. is_concrete c && b) (sym (array-fit set c name array))

-- ---- the classes of a row

module _ (set : SetView) (r : Receivers) (are : AreReceiversOf set r) (row name : ℕ) where
  abbrev wanted : ℕ → Bool
  wanted id = option_map_or (λ c. is_concrete c && may_fit set c name) (slice_get set.classes id) false

  row-listed : ((id : ℕ) (c : Class) → slice_get set.classes id ≡ Some c → is_marked set r row id ≡ (is_concrete c && may_fit set c name)) → marked_in set r row ≡ receivers set name
  row-listed told =
      filter-below (is_marked set r row) wanted (length set.classes)
      (λ id less.
      let c = there set.classes id less in
      told id c.0 c.1 ∙ sym (ap (λ o. option_map_or (λ c. is_concrete c && may_fit set c name) o false) c.1))

  pub row-below : All (λ id. id < length set.classes) (marked_in set r row)
  row-below =
      let below : (n : ℕ) → All (λ id. id < n) (range_with_len 0 n) = λ n k d lt.
      let less : k < n = omega (arith, lt, length-range_with_len 0 n) in
      omega (arith, less, get_or-range_with_len 0 n k d less) in
      All-filter (is_marked set r row) (λ id. id < length set.classes) (range_with_len 0 (length set.classes))
      (below (length set.classes))

  -- those of the classes that go by the name
  pub array-listed : row ≡ length set.classes + 2 → is_outside set.classes name ≡ true → is_array_name set.names name ≡ true →
      filter (fits_at set.classes name) (marked_in set r row) ≡ receivers set name
  array-listed is outside array =
      is-filter wanted (length set.classes) (filter (fits_at set.classes name) (marked_in set r row))
      (IsStrictlyIncreasing-filter (fits_at set.classes name) (marked_in set r row) (filter-rises (is_marked set r row) (length set.classes)))
      (λ id.
      has-filter (fits_at set.classes name) (marked_in set r row) id
      ∙ ap (λ b. fits_at set.classes name id && b) (has-filter_range (is_marked set r row) (length set.classes) id)
      ∙ and-and (fits_at set.classes name id) (is_marked set r row id) (nat_lt id (length set.classes))
      ∙ agree-below (λ id. fits_at set.classes name id && is_marked set r row id) wanted (length set.classes) id (nat_lt id (length set.classes))
      (λ less.
      let c = there set.classes id less in
      ap (λ o. option_map_or (λ c. fits set.classes c name) o false && is_marked set r row id) c.1
      ∙ array-told set r are row name id c.0 c.1 is outside array
      ∙ sym (ap (λ o. option_map_or (λ c. is_concrete c && may_fit set c name) o false) c.1))
      refl)

-- ---- the receivers of a reference, by the row that tells them

module _ (set : SetView) (r : Receivers) (are : AreReceiversOf set r) (name : ℕ) where
  pub of-class : (id : ℕ) → class_named set.classes name ≡ Some id → marked_in set r id ≡ receivers set name
  of-class id named = row-listed set r are id name (λ class c at. class-told set r are id name class c at named)

  pub of-object : AreDistinct set.names → class_named set.classes name ≡ None → is_array_name set.names name ≡ false → is_object set.names name ≡ true → marked_in set r (length set.classes + 1) ≡ receivers set name
  of-object distinct outside array object =
      row-listed set r are (length set.classes + 1) name
      (λ class c at. object-told set r are (length set.classes + 1) name class c at distinct refl (ap (λ (o : Option ℕ). is_none o) outside) array object)

  pub of-other : class_named set.classes name ≡ None → is_array_name set.names name ≡ false → is_object set.names name ≡ false → marked_in set r (length set.classes) ≡ receivers set name
  of-other outside array object =
      row-listed set r are (length set.classes) name
      (λ class c at. other-told set r are (length set.classes) name class c at refl (ap (λ (o : Option ℕ). is_none o) outside) array object)
