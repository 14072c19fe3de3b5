-- Which class an instruction begins to initialise.
use Rattle.std.proofs.Common.{◌≡◌, ◌==◌, ℕ, ◌<◌, Bool, true, false, IsTrue, List, [], ◌∷◌, Option, Some, None, All, length, get_or, refl, sym, ap, subst, ◌∙◌, inl, inr, ◌⊎◌, arith}
use Rattle.std.specs.Prelude.{option_and_then, position}
use Rattle.std.specs.List.{range_with_len}
use Rattle.std.specs.Option.{option_to_list}
use Rattle.std.proofs.lemmas.List.Elements.{All-contains_itself}
use Rattle.std.proofs.lemmas.List.FromFn.{length-range_with_len}
use Rattle.std.proofs.lemmas.List.Quantifiers.{position-Some}
use Rattle.fp_model.specs.declared.class.Class.{Class}
use Rattle.fp_model.specs.declared.class.instr.Instr.{Instr}
use Rattle.fp_model.specs.declared.class.instr.Instr.TheVariants as instr
use Rattle.fp_model.specs.declared.kind.Descr.{Descr}
use Rattle.fp_model.specs.declared.kind.Kind.{Kind}
use Rattle.fp_facts.specs.Hierarchy.{has_number}
use Rattle.fp_facts.specs.Initialisation.{initialised_by}
use Rattle.fp_facts.specs.Resolution.{class_of_field, class_of_method, resolve_field, resolve_method}
use Rattle.fp_facts.specs.Steps.{Step}
use Rattle.fp_facts.proofs.ListedNumbers.{has-append, or-none}
use Rattle.fp_eqs.specs.Tests.{either, same-place}
use Rattle.fp_hier.proofs.AscendingLists.{has-from_contains}
use Rattle.fp_extract.specs.Accessed.{accessed_field}
use Rattle.fp_extract.specs.Begun.{initialised_of}

-- ---- an instruction that means a static member

-- the instruction reads or writes a static field
abbrev pub IsStaticAccess : Instr → Type 0
IsStaticAccess i =
    ((class : ℕ) × (name : ℕ) × (descr : ℕ) × (kind : Kind) × (i ≡ instr.GetStatic class name descr kind))
    ⊎ ((class : ℕ) × (name : ℕ) × (descr : ℕ) × (kind : Kind) × (i ≡ instr.PutStatic class name descr kind))

by-field : (classes : List Class) (i : Instr) → IsStaticAccess i → initialised_by classes i ≡ option_and_then (class_of_field classes) (accessed_field classes i)
by-field classes i form = elim form [
  | inl get ↦ ap (initialised_by classes) get.4 ∙ sym (ap (λ j. option_and_then (class_of_field classes) (accessed_field classes j)) get.4)
  | inr put ↦ ap (initialised_by classes) put.4 ∙ sym (ap (λ j. option_and_then (class_of_field classes) (accessed_field classes j)) put.4)
]

pub by-static-field : (classes : List Class) (i : Instr) (field class : ℕ) → IsStaticAccess i → Some field ≡ accessed_field classes i → class_of_field classes field ≡ Some class → Some class ≡ initialised_by classes i
by-static-field classes i field class form found declared =
    sym (by-field classes i form ∙ ap (option_and_then (class_of_field classes)) (sym found) ∙ declared)

pub by-static-call : (classes : List Class) (i : Instr) (of name descr : ℕ) (kinds : Descr) (method class : ℕ) → i ≡ instr.InvokeStatic of name descr kinds → Some method ≡ resolve_method classes of name descr →
    class_of_method classes method ≡ Some class → Some class ≡ initialised_by classes i
by-static-call classes i of name descr kinds method class is found declared =
    sym (ap (initialised_by classes) is ∙ ap (option_and_then (class_of_method classes)) (sym found) ∙ declared)

-- ---- it is a class of the set

position-known : {X : Type 0} (p : X → Bool) (xs : List X) (k : ℕ) → position p xs ≡ Some k → k < length xs
position-known p [] k is = cc
position-known p (x ∷ xs) k is = (position-Some p (x ∷ xs) k x is).0

in-range : (p : ℕ → Bool) (count k : ℕ) → position p (range_with_len 0 count) ≡ Some k → k < count
in-range p count k is = omega (arith, position-known p (range_with_len 0 count) k is, length-range_with_len 0 count)

-- what is made of a value holds where it holds of all that is made
behind-some : {X Y : Type 0} (f : X → Option Y) (P : Y → Type 0) → ((x : X) (y : Y) → f x ≡ Some y → P y) → (o : Option X) (y : Y) → option_and_then f o ≡ Some y → P y
behind-some f P all None y is = cc
behind-some f P all (Some x) y is = all x y is

initialised-known : (classes : List Class) (i : Instr) (class : ℕ) → initialised_by classes i ≡ Some class → class < length classes
initialised-known classes (instr.New name) class is = position-known _ classes class is
initialised-known classes (instr.GetStatic of name descr kind) class is =
    behind-some (class_of_field classes) (λ k. k < length classes) (λ field k declared. in-range _ (length classes) k declared) (resolve_field classes of name descr) class is
initialised-known classes (instr.PutStatic of name descr kind) class is =
    behind-some (class_of_field classes) (λ k. k < length classes) (λ field k declared. in-range _ (length classes) k declared) (resolve_field classes of name descr) class is
initialised-known classes (instr.InvokeStatic of name descr kinds) class is =
    behind-some (class_of_method classes) (λ k. k < length classes) (λ method k declared. in-range _ (length classes) k declared) (resolve_method classes of name descr) class is
initialised-known classes _ class is = cc

given-known : (bound : ℕ) (o : Option ℕ) → ((k : ℕ) → o ≡ Some k → k < bound) → (class : ℕ) → IsTrue (has_number (option_to_list o) class) → class < bound
given-known bound None known class h = let wrong : false ≡ true = h in cc
given-known bound (Some k) known class h =
    let same : k ≡ class = same-place k class (subst (λ b. IsTrue b) (or-none (k == class)) h) in
    omega (arith, known k refl, same)

listed-known : (classes : List Class) (steps : List Step) (class : ℕ) → IsTrue (has_number (initialised_of classes steps) class) → class < length classes
listed-known classes [] class h = let wrong : false ≡ true = h in cc
listed-known classes (s ∷ steps) class h =
    let here = option_to_list (initialised_by classes s.instr) in
    elim (either (has_number here class) (has_number (initialised_of classes steps) class) (subst (λ b. IsTrue b) (has-append here (initialised_of classes steps) class) h)) [
      | inl first ↦ given-known (length classes) (initialised_by classes s.instr) (initialised-known classes s.instr) class first
      | inr later ↦ listed-known classes steps class later
    ]

-- lists with the same members as those that the steps name are of classes of the set
pub all-known : (classes : List Class) (steps : List Step) (listed ascending : List ℕ) → listed ≡ initialised_of classes steps → ((n : ℕ) → has_number ascending n ≡ has_number listed n) → All (λ class. class < length classes) ascending
all-known classes steps listed ascending is same = λ k d within.
    let class = get_or ascending k d in
    let has : IsTrue (has_number ascending class) = has-from_contains ascending class (All-contains_itself ascending k d within) in
    listed-known classes steps class (subst (λ b. IsTrue b) (same class ∙ ap (λ l. has_number l class) is) has)
