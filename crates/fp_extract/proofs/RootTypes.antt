-- The types of roots, and the names of all nodes of the graph.
use Rattle.std.proofs.Common.{◌≡◌, ◌==◌, ◌<◌, ◌≤◌, ◌||◌, ℕ, Bool, true, false, IsTrue, IfSome, All, List, [], ◌∷◌, ◌++◌, Option, Some, None, filter, length, map, refl, ap, subst, ◌∙◌, inl, inr, arith, cond}
use Rattle.std.specs.Prelude.{not, slice_get, option_and_then}
use Rattle.std.specs.List.{flat_map}
use Rattle.std.specs.Option.{option_map_or, option_to_list}
use Rattle.std.proofs.lemmas.List.Concat.{flat_map-cons}
use Rattle.std.proofs.lemmas.List.Elements.{All-filter, All-head, All-map, All-tail}
use Rattle.std.proofs.lemmas.Option.{slice_get_past}
use Rattle.fp_model.specs.declared.class.Class.{Class}
use Rattle.fp_model.specs.declared.class.Field.{Field}
use Rattle.fp_model.specs.declared.class.Method.{Method}
use Rattle.fp_model.specs.declared.kind.Kind.{Kind}
use Rattle.fp_model.specs.ClassSet.{IsSet, SetView, methods_of}
use Rattle.fp_model.specs.Flags.{is_static}
use Rattle.fp_eqs.specs.Tests.{either, same-place}
use Rattle.fp_facts.specs.Hierarchy.{has_number}
use Rattle.fp_facts.specs.Resolution.{class_of_method, method_at}
use Rattle.fp_facts.specs.Seeds.{class_of_kind, classes_of_kinds, instance_types, receiver_type, root_types}
use Rattle.fp_facts.proofs.ListedNumbers.{any-from, has-append, has-flat}
use Rattle.fp_extract.specs.SeedGraph.{IsKindWithin}
use Rattle.fp_extract.proofs.SeedNames.{arguments-within, class-over}

-- ---- as they are told

pub receiver-told : (classes : List Class) (m : Method) (id k : ℕ) (c : Class) → is_static m.flags ≡ false → class_of_method classes id ≡ Some k → slice_get classes k ≡ Some c → receiver_type classes m id ≡ c.name ∷ []
receiver-told classes m id k c instance owner there =
    ap (λ (b : Bool). cond b [] (map (λ (d : Class). d.name) (option_to_list (option_and_then (slice_get classes) (class_of_method classes id))))) instance
    ∙ ap (λ (o : Option ℕ). map (λ (d : Class). d.name) (option_to_list (option_and_then (slice_get classes) o))) owner
    ∙ ap (λ (o : Option Class). map (λ (d : Class). d.name) (option_to_list o)) there

pub no-root : (classes : List Class) (id : ℕ) → length (methods_of classes) ≤ id → root_types classes id ≡ []
no-root classes id past = ap (λ (o : Option Method). option_map_or (λ m. receiver_type classes m id ++ classes_of_kinds m.kinds.args) o []) (slice_get_past (methods_of classes) id past)

-- ---- of the table

pub has-all : (P : ℕ → Type 0) (xs : List ℕ) (n : ℕ) → All P xs → IsTrue (has_number xs n) → P n
has-all P [] n all h = let wrong : false ≡ true = h in absurd cc
has-all P (x ∷ xs) n all h = elim (either (x == n) (has_number xs n) h) [
  | inl same ↦ subst P (same-place x n same) (All-head P x xs all)
  | inr later ↦ has-all P xs n (All-tail P x xs all) later
]

kind-listed : (names type : ℕ) (o : Option ℕ) → IfSome o (λ n. n < names) → IsTrue (has_number (option_to_list o) type) → type < names
kind-listed names type None within h = let wrong : false ≡ true = h in absurd cc
kind-listed names type (Some n) within h = elim (either (n == type) false h) [
  | inl same ↦ subst (λ k. k < names) (same-place n type same) within
  | inr none ↦ (let wrong : false ≡ true = none in absurd cc)
]

pub kinds-listed : (names type : ℕ) (kinds : List Kind) → All (IsKindWithin names) kinds → IsTrue (has_number (classes_of_kinds kinds) type) → type < names
kinds-listed names type [] all h = let wrong : false ≡ true = h in absurd cc
kinds-listed names type (k ∷ kinds) all h =
    let rest = classes_of_kinds kinds in
    let both : IsTrue (has_number (option_to_list (class_of_kind k)) type || has_number rest type) =
    subst (λ b. IsTrue b) (ap (λ l. has_number l type) (flat_map-cons (λ (j : Kind). option_to_list (class_of_kind j)) k kinds) ∙ has-append (option_to_list (class_of_kind k)) rest type) h in
    elim (either (has_number (option_to_list (class_of_kind k)) type) (has_number rest type) both) [
      | inl here ↦ kind-listed names type (class_of_kind k) (All-head (IsKindWithin names) k kinds all) here
      | inr later ↦ kinds-listed names type kinds (All-tail (IsKindWithin names) k kinds all) later
    ]

pub fields-listed : (names type : ℕ) (fields : List Field) → All (λ (f : Field). IsKindWithin names f.kind) fields → IsTrue (has_number (instance_types fields) type) → type < names
fields-listed names type fields all h =
    let p : Field → Bool = λ f. not (is_static f.flags) in
    kinds-listed names type (map (λ (f : Field). f.kind) (filter p fields))
    (All-map (IsKindWithin names) (λ (f : Field). f.kind) (filter p fields) (All-filter p (λ (f : Field). IsKindWithin names f.kind) fields all)) h

module _ (set : SetView) (valid : IsSet set) where
  receiver-listed : (type : ℕ) (place : Option ℕ) → IsTrue (has_number (map (λ (d : Class). d.name) (option_to_list (option_and_then (slice_get set.classes) place))) type) → type < length set.names
  receiver-listed type None h = let wrong : false ≡ true = h in absurd cc
  receiver-listed type (Some k) h = by-class (slice_get set.classes k) refl h
    where
      by-class : (found : Option Class) → slice_get set.classes k ≡ found → IsTrue (has_number (map (λ (d : Class). d.name) (option_to_list found)) type) → type < length set.names
      by-class None is h = let wrong : false ≡ true = h in absurd cc
      by-class (Some c) is h = kind-listed (length set.names) type (Some c.name) (class-over set k c valid is).name h

  method-listed : (id type : ℕ) (m : Method) → slice_get (methods_of set.classes) id ≡ Some m → IsTrue (has_number (receiver_type set.classes m id ++ classes_of_kinds m.kinds.args) type) → type < length set.names
  method-listed id type m there h =
      let own = receiver_type set.classes m id in
      let args = classes_of_kinds m.kinds.args in
      elim (either (has_number own type) (has_number args type) (subst (λ b. IsTrue b) (has-append own args type) h)) [
        | inl here ↦ by-static (is_static m.flags) here
        | inr later ↦ kinds-listed (length set.names) type m.kinds.args (arguments-within set (length set.names) id m valid (omega arith) there) later
      ]
    where
      by-static : (b : Bool) → IsTrue (has_number (cond b [] (map (λ (d : Class). d.name) (option_to_list (option_and_then (slice_get set.classes) (class_of_method set.classes id))))) type) → type < length set.names
      by-static true h = let wrong : false ≡ true = h in absurd cc
      by-static false h = receiver-listed type (class_of_method set.classes id) h

  root-listed : (id type : ℕ) (found : Option Method) → method_at set.classes id ≡ found → IsTrue (has_number (option_map_or (λ m. receiver_type set.classes m id ++ classes_of_kinds m.kinds.args) found []) type) → type < length set.names
  root-listed id type None is h = let wrong : false ≡ true = h in absurd cc
  root-listed id type (Some m) is h = method-listed id type m is h

  pub roots-listed : (roots : List ℕ) (type : ℕ) → IsTrue (has_number (flat_map (root_types set.classes) roots) type) → type < length set.names
  roots-listed roots type h =
      let r = any-from (λ id. has_number (root_types set.classes id) type) roots (subst (λ b. IsTrue b) (has-flat (root_types set.classes) roots type) h) in
      root-listed r.number type (method_at set.classes r.number) refl r.passes
