-- The first member of a key, as tables of members grow.
use Rattle.std.proofs.Common.{◌≡◌, ℕ, suc, ◌+◌, ◌<◌, ◌≤◌, Bool, true, false, cond, not, ◌==◌, ◌&&◌, nat_lt, if◌then◌else◌, ⊎_elim, List, [], ◌∷◌, ◌++◌, length, take, take_all, get_or, flat_map, slice_get, option_and_then, Option, Some, None, option_map, refl, sym, ap, ◌∙◌, arith, eq-eqb, lt-ltb}
use Rattle.std.specs.List.{position, position_or_len}
use Rattle.std.specs.Option.{option_or}
use Rattle.std.proofs.lemmas.List.{take_more, length-take-le}
use Rattle.std.proofs.lemmas.Bool.{cases_lt, cases_order, le-ltb, ne_eqb}
use Rattle.std.specs.Cmp.{nat_eq_equiv}
use Rattle.std.proofs.lemmas.List.Folds.{length-flat_map-take}
use Rattle.std.proofs.lemmas.Option.{none-some, same_Some, get_or_from_slice_get, slice_get_past, slice_get_within}
use Rattle.fp_model.specs.declared.class.Class.{Class}
use Rattle.fp_model.specs.ClassSet.{fields_of, first_field_of, first_method_of, methods_of}
use Rattle.fp_facts.specs.Resolution.{declared_field, declared_method}
use Rattle.fp_model.specs.declared.class.Field.{Field}
use Rattle.fp_model.specs.declared.class.Method.{Method}
use Rattle.fp_hier.specs.Members.{is_key, field_of_class, method_of_class}
use Rattle.fp_hier.specs.declared.declared.Member.{Member}

-- ---- the first that passes

one-further : (n m : ℕ) → cond (nat_lt (1 + n) (suc m)) (Some (1 + n)) None ≡ option_map (λ i. suc i) (cond (nat_lt n m) (Some n) None)
one-further n m = ⊎_elim
    (λ less. rw (lt-ltb n m less, lt-ltb (1 + n) (suc m) (omega arith)) (ap Some (omega arith)))
    (λ more. rw (le-ltb n m more, le-ltb (1 + n) (suc m) (omega arith)) refl)
    (cases_lt n m)

pub position-cons : {X : Type 0} (p : X → Bool) (x : X) (xs : List X) → position p (x ∷ xs) ≡ cond (p x) (Some 0) (option_map (λ i. suc i) (position p xs))
position-cons p x xs = elim (p x) as (λ b. cond (nat_lt (cond (not b) (1 + position_or_len p xs) 0) (suc (length xs))) (Some (cond (not b) (1 + position_or_len p xs) 0)) None ≡ cond b (Some 0) (option_map (λ i. suc i) (position p xs))) [
  | true ↦ rw (lt-ltb 0 (suc (length xs)) (omega arith)) refl
  | false ↦ one-further (position_or_len p xs) (length xs)
]

or-map : (f : ℕ → ℕ) (a b : Option ℕ) → option_map f (option_or a b) ≡ option_or (option_map f a) (option_map f b)
or-map f None b = refl
or-map f (Some x) b = refl

cond-map : (f : ℕ → ℕ) (t : Bool) (x : ℕ) → option_map f (cond t (Some x) None) ≡ cond t (Some (f x)) None
cond-map f true x = refl
cond-map f false x = refl

position-push : {X : Type 0} (p : X → Bool) (xs : List X) (x : X) → position p (xs ++ x ∷ []) ≡ option_or (position p xs) (cond (p x) (Some (length xs)) None)
position-push p [] x = position-cons p x []
position-push p (y ∷ xs) x =
    let more = ap (option_map (λ i. suc i)) (position-push p xs x) ∙ or-map (λ i. suc i) (position p xs) (cond (p x) (Some (length xs)) None)
    ∙ ap (option_or (option_map (λ i. suc i) (position p xs))) (cond-map (λ i. suc i) (p x) (length xs)) in
    position-cons p y (xs ++ x ∷ []) ∙ ap (cond (p y) (Some 0)) more
    ∙ (elim (p y) as (λ b. cond b (Some 0) (option_or (option_map (λ i. suc i) (position p xs)) (cond (p x) (Some (suc (length xs))) None))
    ≡ option_or (cond b (Some 0) (option_map (λ i. suc i) (position p xs))) (cond (p x) (Some (suc (length xs))) None)) [
      | true ↦ refl
      | false ↦ refl
    ])
    ∙ ap (λ o. option_or o (cond (p x) (Some (suc (length xs))) None)) (sym (position-cons p y xs))

or-assoc : (a b c : Option ℕ) → option_or (option_or a b) c ≡ option_or a (option_or b c)
or-assoc None b c = refl
or-assoc (Some x) b c = refl

-- one element more
position-more : {X : Type 0} (p : X → Bool) (first i : ℕ) (xs : List X) (d x : X) → i < length xs → x ≡ get_or xs i d →
    option_map (λ n. first + n) (position p (take (i + 1) xs)) ≡ option_or (option_map (λ n. first + n) (position p (take i xs))) (cond (p x) (Some (first + i)) None)
position-more p first i xs d x within is =
    let front = take_more xs i d within ∙ ap (λ y. take i xs ++ y ∷ []) (sym is) in
    let long : length (take i xs) ≡ i = length-take-le i xs (omega arith) in
    ap (λ l. option_map (λ n. first + n) (position p l)) front
    ∙ ap (option_map (λ n. first + n)) (position-push p (take i xs) x)
    ∙ or-map (λ n. first + n) (position p (take i xs)) (cond (p x) (Some (length (take i xs))) None)
    ∙ ap (option_or (option_map (λ n. first + n) (position p (take i xs)))) (cond-map (λ n. first + n) (p x) (length (take i xs))
    ∙ ap (λ n. cond (p x) (Some (first + n)) None) long)

-- ---- the members of a class

abbrev pub first_of_methods : (class first : ℕ) → List Method → Member → Option ℕ
first_of_methods class first methods key =
    if key.class == class then option_map (λ i. first + i) (position (λ m. (m.name == key.name) && (m.descr == key.descr)) methods) else None

abbrev pub first_of_fields : (class first : ℕ) → List Field → Member → Option ℕ
first_of_fields class first fields key =
    if key.class == class then option_map (λ i. first + i) (position (λ f. (f.name == key.name) && (f.descr == key.descr)) fields) else None

same_pair : (a b c d : ℕ) → ((a == b) && (c == d)) ≡ ((b == a) && (d == c))
same_pair a b c d = let e = nat_eq_equiv.symm a b in let f = nat_eq_equiv.symm c d in ap (λ t. t && (c == d)) e ∙ ap (λ t. (b == a) && t) f

-- a key is put behind what is there
put : (class_is pair same : Bool) (before so_far more : Option ℕ) (id at : ℕ) → pair ≡ same → id ≡ at → more ≡ option_or so_far (cond same (Some at) None) →
    option_or (option_or before (cond class_is so_far None)) (cond (class_is && pair) (Some id) None) ≡ option_or before (cond class_is more None)
put true pair same before so_far more id at e is h = or-assoc before so_far _ ∙ ap (option_or before) (ap (λ t. option_or so_far (cond t (Some id) None)) e ∙ ap (λ n. option_or so_far (cond same (Some n) None)) is ∙ sym h)
put false pair same None so_far more id at e is h = refl
put false pair same (Some x) so_far more id at e is h = refl

pub methods-more : (class first i id : ℕ) (ms : List Method) (m : Method) (key : Member) (before was is : Option ℕ) → i < length ms → m ≡ get_or ms i m → id ≡ first + i →
    was ≡ option_or before (first_of_methods class first (take i ms) key) →
    is ≡ option_or was (cond (is_key key (record { class = class; name = m.name; descr = m.descr })) (Some id) None) →
    is ≡ option_or before (first_of_methods class first (take (i + 1) ms) key)
methods-more class first i id ms m key before was is within here at so_far added =
    added ∙ ap (λ o. option_or o (cond (is_key key (record { class = class; name = m.name; descr = m.descr })) (Some id) None)) so_far
    ∙ put (key.class == class) _ _ before _ _ id (first + i) (same_pair key.name m.name key.descr m.descr) at
    (position-more (λ (x : Method). (x.name == key.name) && (x.descr == key.descr)) first i ms m m within here)

pub fields-more : (class first i id : ℕ) (fs : List Field) (d : Field) (key : Member) (before was is : Option ℕ) → i < length fs → id ≡ first + i →
    was ≡ option_or before (first_of_fields class first (take i fs) key) →
    is ≡ option_or was (cond (is_key key (record { class = class; name = (get_or fs i d).name; descr = (get_or fs i d).descr })) (Some id) None) →
    is ≡ option_or before (first_of_fields class first (take (i + 1) fs) key)
fields-more class first i id fs d key before was is within at so_far added =
    added ∙ ap (λ o. option_or o (cond (is_key key (record { class = class; name = (get_or fs i d).name; descr = (get_or fs i d).descr })) (Some id) None)) so_far
    ∙ put (key.class == class) _ _ before _ _ id (first + i) (same_pair key.name (get_or fs i d).name key.descr (get_or fs i d).descr) at
    (position-more (λ (x : Field). (x.name == key.name) && (x.descr == key.descr)) first i fs d (get_or fs i d) within refl)

-- ---- the classes before one

abbrev pub below : (give : ℕ → Option ℕ) → (class key : ℕ) → Option ℕ
below give class key = cond (nat_lt key class) (give key) None

or-none : (a : Option ℕ) → option_or a None ≡ a
or-none None = refl
or-none (Some x) = refl

pub below-more : (give : ℕ → Option ℕ) (class key : ℕ) → option_or (below give class key) (cond (key == class) (give class) None) ≡ below give (class + 1) key
below-more give class key = ⊎_elim same (λ differ. ⊎_elim less more differ) (cases_order key class)
  where
    same : key ≡ class → option_or (below give class key) (cond (key == class) (give class) None) ≡ below give (class + 1) key
    same e =
        let before : nat_lt key class ≡ false = le-ltb key class (omega arith) in
        let here : (key == class) ≡ true = eq-eqb key class e in
        let after : nat_lt key (class + 1) ≡ true = lt-ltb key (class + 1) (omega arith) in
        rw (before, here, after) (ap give (sym e))

    less : key < class → option_or (below give class key) (cond (key == class) (give class) None) ≡ below give (class + 1) key
    less h =
        let before : nat_lt key class ≡ true = lt-ltb key class h in
        let here : (key == class) ≡ false = ne_eqb key class (λ e. omega arith) in
        let after : nat_lt key (class + 1) ≡ true = lt-ltb key (class + 1) (omega arith) in
        rw (before, here, after) (or-none (give key))

    more : class < key → option_or (below give class key) (cond (key == class) (give class) None) ≡ below give (class + 1) key
    more h =
        let before : nat_lt key class ≡ false = le-ltb key class (omega arith) in
        let here : (key == class) ≡ false = ne_eqb key class (λ e. omega arith) in
        let after : nat_lt key (class + 1) ≡ false = le-ltb key (class + 1) (omega arith) in
        rw (before, here, after) refl

-- all classes
past : {X : Type 0} (f : Class → X) (g : X → Option ℕ) (h : ℕ → ℕ) (classes : List Class) (i : ℕ) → length classes ≤ i →
    option_map h (option_and_then (λ c. g (f c)) (slice_get classes i)) ≡ None
past f g h classes i far = rw (slice_get_past classes i far) refl

below-all : (give : ℕ → Option ℕ) (n key : ℕ) → (n ≤ key → give key ≡ None) → below give n key ≡ give key
below-all give n key far = ⊎_elim
    (λ less. rw (lt-ltb key n less) refl)
    (λ more. rw (le-ltb key n more) (sym (far more)))
    (cases_lt key n)

pub methods-told : (classes : List Class) (name descr key : ℕ) → below (declared_method classes name descr) (length classes) key ≡ declared_method classes name descr key
methods-told classes name descr key =
    below-all (declared_method classes name descr) (length classes) key
    (past (λ c. c.methods) (position (λ m. (m.name == name) && (m.descr == descr))) (λ i. first_method_of classes key + i) classes key)

pub fields-told : (classes : List Class) (name descr key : ℕ) → below (declared_field classes name descr) (length classes) key ≡ declared_field classes name descr key
fields-told classes name descr key =
    below-all (declared_field classes name descr) (length classes) key
    (past (λ c. c.fields) (position (λ f. (f.name == name) && (f.descr == descr))) (λ i. first_field_of classes key + i) classes key)

-- ---- their numbers

pub member-fits : {X : Type 0} (f : Class → List X) (classes : List Class) (class i : ℕ) (c : Class) → slice_get classes class ≡ Some c → i < length (f c) →
    length (flat_map f (take class classes)) + i < length (flat_map f classes)
member-fits f classes class i c at within =
    let all = length-flat_map-take f classes class c (slice_get_within classes class c at) in
    let is : length (f (get_or classes class c)) ≡ length (f c) = ap (λ d. length (f d)) (get_or_from_slice_get classes class c c at) in
    omega arith

pub methods-whole : (classes : List Class) (class : ℕ) (c : Class) (members : List Method) (i : ℕ) (key : Member) (before : Option ℕ) → slice_get classes class ≡ Some c → members ≡ c.methods → length members ≤ i →
    option_or before (first_of_methods class (first_method_of classes class) (take i members) key) ≡ option_or before (method_of_class classes class key)
methods-whole classes class c members i key before at is whole =
    let all : take i members ≡ c.methods = take_all i members whole ∙ is in
    rw (all, at) refl

pub fields-whole : (classes : List Class) (class : ℕ) (c : Class) (members : List Field) (i : ℕ) (key : Member) (before : Option ℕ) → slice_get classes class ≡ Some c → members ≡ c.fields → length members ≤ i →
    option_or before (first_of_fields class (first_field_of classes class) (take i members) key) ≡ option_or before (field_of_class classes class key)
fields-whole classes class c members i key before at is whole =
    let all : take i members ≡ c.fields = take_all i members whole ∙ is in
    rw (all, at) refl

position-within : {X : Type 0} (p : X → Bool) (xs : List X) (i : ℕ) → position p xs ≡ Some i → i < length xs
position-within p xs i e = ⊎_elim
    (λ less. let is : Some (position_or_len p xs) ≡ Some i = ap (λ t. cond t (Some (position_or_len p xs)) None) (sym (lt-ltb (position_or_len p xs) (length xs) less)) ∙ e in
    omega (arith, same_Some (position_or_len p xs) i is))
    (λ more. let is : None ≡ Some i = ap (λ t. cond t (Some (position_or_len p xs)) None) (sym (le-ltb (position_or_len p xs) (length xs) more)) ∙ e in
    absurd (none-some i is))
    (cases_lt (position_or_len p xs) (length xs))

member-known : {X : Type 0} (f : Class → List X) (p : X → Bool) (classes : List Class) (class : ℕ) (found : Option Class) (m : ℕ) → slice_get classes class ≡ found →
    option_map (λ i. length (flat_map f (take class classes)) + i) (option_and_then (λ c. position p (f c)) found) ≡ Some m → m < length (flat_map f classes)
member-known f p classes class None m at e = absurd (none-some m e)
member-known f p classes class (Some c) m at e = numbered (position p (f c)) refl e
  where
    numbered : (place : Option ℕ) → position p (f c) ≡ place → option_map (λ i. length (flat_map f (take class classes)) + i) place ≡ Some m → m < length (flat_map f classes)
    numbered None is e = absurd (none-some m e)
    numbered (Some i) is e = omega (arith, same_Some (length (flat_map f (take class classes)) + i) m e, member-fits f classes class i c at (position-within p (f c) i is))

pub method-known : (classes : List Class) (name descr class m : ℕ) → declared_method classes name descr class ≡ Some m → m < length (methods_of classes)
method-known classes name descr class m e = member-known (λ (c : Class). c.methods) (λ (x : Method). (x.name == name) && (x.descr == descr)) classes class (slice_get classes class) m refl e

pub field-known : (classes : List Class) (name descr class m : ℕ) → declared_field classes name descr class ≡ Some m → m < length (fields_of classes)
field-known classes name descr class m e = member-known (λ (c : Class). c.fields) (λ (x : Field). (x.name == name) && (x.descr == descr)) classes class (slice_get classes class) m refl e
