-- What classes give, one after the other, and the members among them.
use Rattle.std.proofs.Common.{◌≡◌, ℕ, ◌<◌, Bool, true, false, cond, if◌then◌else◌, List, [], ◌∷◌, ◌++◌, filter, length, refl, sym, ap, ◌∙◌}
use Rattle.std.specs.Prelude.{Option, Some, None, option_and_then, slice_get}
use Rattle.std.specs.List.{flat_map}
use Rattle.std.specs.Option.{option_map_or, option_or, option_to_list}
use Rattle.std.proofs.lemmas.Option.{none-some}
use Rattle.fp_model.specs.declared.class.Class.{Class}
use Rattle.fp_model.specs.declared.class.Method.{Method}
use Rattle.fp_model.specs.ClassSet.{methods_of}
use Rattle.fp_facts.specs.Resolution.{declared_method, first_given, first_of, method_at, methods_among}
use Rattle.fp_facts.specs.Hierarchy.{class_and_above}
use Rattle.fp_facts.specs.Selection.{instance_declaration}
use Rattle.fp_hier.specs.Given.{given_by, is_instance}
use Rattle.fp_hier.specs.Lineages.{classes_up}
use Rattle.fp_hier.proofs.FirstMembers.{method-known}
use Rattle.fp_hier.proofs.Lineages.{classes-up-is}

-- ---- a walk over classes

-- a class gives nothing: what the others give is what all do
pub give-on : (give : ℕ → Option ℕ) (ids rest : List ℕ) (id : ℕ) (whole : Option ℕ) → ids ≡ id ∷ rest → give id ≡ None → first_given give ids ≡ whole → first_given give rest ≡ whole
give-on give ids rest id whole is none known =
    sym (ap (λ (o : Option ℕ). option_or o (first_given give rest)) none) ∙ sym (ap (first_given give) is) ∙ known

-- a class gives something
pub give-found : (give : ℕ → Option ℕ) (ids rest : List ℕ) (id m : ℕ) (whole : Option ℕ) → ids ≡ id ∷ rest → give id ≡ Some m → first_given give ids ≡ whole → Some m ≡ whole
give-found give ids rest id m whole is found known =
    sym (ap (λ (o : Option ℕ). option_or o (first_given give rest)) found) ∙ sym (ap (first_given give) is) ∙ known

-- no class is left
pub give-none : (give : ℕ → Option ℕ) (ids : List ℕ) (whole : Option ℕ) → ids ≡ [] → first_given give ids ≡ whole → None ≡ whole
give-none give ids whole is known = sym (ap (first_given give) is) ∙ known

-- what one of some classes gives is what the first of them gives that gives something
or-known : (a b : Option ℕ) (m n : ℕ) → (a ≡ Some m → m < n) → (b ≡ Some m → m < n) → option_or a b ≡ Some m → m < n
or-known None b m n first rest is = rest is
or-known (Some x) b m n first rest is = first is

pub give-known : (give : ℕ → Option ℕ) (n m : ℕ) → ((id : ℕ) → give id ≡ Some m → m < n) → (ids : List ℕ) → first_given give ids ≡ Some m → m < n
give-known give n m each [] is = absurd (none-some m is)
give-known give n m each (id ∷ ids) is = or-known (give id) (first_given give ids) m n (each id) (give-known give n m each ids) is

-- ---- the first of the members that classes give

first-behind : (first : Option ℕ) (rest : List ℕ) (others : Option ℕ) → first_of rest ≡ others → first_of (option_to_list first ++ rest) ≡ option_or first others
first-behind None rest others is = is
first-behind (Some m) rest others is = refl

pub first-given : (give : ℕ → Option ℕ) (ids : List ℕ) → first_of (flat_map (λ id. option_to_list (give id)) ids) ≡ first_given give ids
first-given give [] = refl
first-given give (id ∷ ids) = first-behind (give id) (flat_map (λ i. option_to_list (give i)) ids) (first_given give ids) (first-given give ids)

filter-one : (p : ℕ → Bool) (m : ℕ) (rest others : List ℕ) → filter p rest ≡ others → filter p (m ∷ rest) ≡ option_to_list (if p m then Some m else None) ++ others
filter-one p m rest others is = elim (p m) as (λ b. cond b (m ∷ filter p rest) (filter p rest) ≡ option_to_list (if b then Some m else None) ++ others) [
  | true ↦ ap (λ (ms : List ℕ). m ∷ ms) is
  | false ↦ is
]

filter-behind : (p : ℕ → Bool) (o : Option ℕ) (rest others : List ℕ) → filter p rest ≡ others → filter p (option_to_list o ++ rest) ≡ option_to_list (option_and_then (λ m. if p m then Some m else None) o) ++ others
filter-behind p None rest others is = is
filter-behind p (Some m) rest others is = filter-one p m rest others is

filter-given : (p : ℕ → Bool) (give : ℕ → Option ℕ) (ids : List ℕ) →
    filter p (flat_map (λ id. option_to_list (give id)) ids) ≡ flat_map (λ id. option_to_list (option_and_then (λ m. if p m then Some m else None) (give id))) ids
filter-given p give [] = refl
filter-given p give (id ∷ ids) = filter-behind p (give id) (flat_map (λ i. option_to_list (give i)) ids) _ (filter-given p give ids)

pub methods-given : (classes : List Class) (test : Method → Bool) (name descr : ℕ) (ids : List ℕ) →
    methods_among classes test name descr ids ≡ flat_map (λ id. option_to_list (given_by classes test name descr id)) ids
methods-given classes test name descr ids = filter-given (λ m. option_map_or test (method_at classes m) false) (declared_method classes name descr) ids

pub first-method : (classes : List Class) (test : Method → Bool) (name descr : ℕ) (ids : List ℕ) →
    first_of (methods_among classes test name descr ids) ≡ first_given (given_by classes test name descr) ids
first-method classes test name descr ids = ap first_of (methods-given classes test name descr ids) ∙ first-given (given_by classes test name descr) ids

-- ---- the numbers of what is given

pub declared-known : (classes : List Class) (name descr m : ℕ) (ids : List ℕ) → first_given (declared_method classes name descr) ids ≡ Some m → m < length (methods_of classes)
declared-known classes name descr m ids is =
    give-known (declared_method classes name descr) (length (methods_of classes)) m (λ id. method-known classes name descr id m) ids is

passed : (p : ℕ → Bool) (n m : ℕ) (o : Option ℕ) → (o ≡ Some m → m < n) → option_and_then (λ x. if p x then Some x else None) o ≡ Some m → m < n
passed p n m None known is = absurd (none-some m is)
passed p n m (Some x) known is =
    let kept : (b : Bool) → (if b then Some x else None) ≡ Some m → m < n = λ b. elim b as (λ t. (if t then Some x else None) ≡ Some m → m < n) [
      | true ↦ known
      | false ↦ λ h. absurd (none-some m h)
    ] in
    kept (p x) is

pub among-known : (classes : List Class) (test : Method → Bool) (name descr m : ℕ) (ids : List ℕ) → first_of (methods_among classes test name descr ids) ≡ Some m → m < length (methods_of classes)
among-known classes test name descr m ids is =
    let n = length (methods_of classes) in
    let p = λ (x : ℕ). option_map_or test (method_at classes x) false in
    give-known (given_by classes test name descr) n m (λ id. passed p n m (declared_method classes name descr id) (method-known classes name descr id m)) ids
    (sym (first-method classes test name descr ids) ∙ is)

-- ---- by the number of a class

pub instance-declaration-is : (classes : List Class) (id name descr : ℕ) (c : Class) → slice_get classes id ≡ Some c →
    first_given (given_by classes is_instance name descr) (classes_up classes id) ≡ instance_declaration classes c name descr
instance-declaration-is classes id name descr c at =
    ap (first_given (given_by classes is_instance name descr)) (classes-up-is classes id c at)
    ∙ sym (first-method classes is_instance name descr (class_and_above classes c))
