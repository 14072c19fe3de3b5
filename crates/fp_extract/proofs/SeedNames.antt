-- The names that classes, methods and types of a set speak of are of its table.
use Rattle.std.proofs.Common.{◌≡◌, ℕ, ◌<◌, ◌≤◌, nat_le, true, List, [], ◌∷◌, Option, Some, None, IfSome, All, length, refl, sym, subst, ◌∙◌, arith}
use Rattle.std.specs.Prelude.{slice_get}
use Rattle.std.specs.List.{flat_map}
use Rattle.std.proofs.lemmas.Bool.{and_from, and_parts}
use Rattle.std.proofs.lemmas.List.Elements.{All-append, All-get_or, All-head, All-nil, All-tail, All-weaker}
use Rattle.std.proofs.lemmas.List.Sums.{AllPass-from_list_all}
use Rattle.std.proofs.lemmas.Option.{get_or_from_slice_get, slice_get_within}
use Rattle.fp_model.specs.declared.class.Class.{Class}
use Rattle.fp_model.specs.declared.class.Field.{Field}
use Rattle.fp_model.specs.declared.class.Method.{Method}
use Rattle.fp_model.specs.declared.kind.Elem.TheVariants as elem
use Rattle.fp_model.specs.declared.kind.Kind.{Kind}
use Rattle.fp_model.specs.declared.kind.Kind.TheVariants as kind
use Rattle.fp_model.specs.ClassSet.{IsClassOver, IsFieldOver, IsMethodOver, IsSet, SetView, methods_of}
use Rattle.fp_model.specs.Descriptor.{element_text, is_element, is_field_descriptor, is_kind, is_proper, kind_text}
use Rattle.fp_model.proofs.ArrayTypes.{is_field_descriptor-brackets}
use Rattle.fp_model.proofs.ElementTexts.{class_within}
use Rattle.fp_extract.specs.SeedGraph.{IsClassWithin, IsKindWithin}

-- ---- types

-- the elements of an array are of a class that a descriptor may name by itself
element-kind : (names : List (List ℕ)) (dims n : ℕ) → is_kind names (kind.Array dims (elem.Class n)) ≡ true → is_kind names (kind.Class n) ≡ true
element-kind names dims n is =
    let text = element_text names (elem.Class n) in
    let whole = (and_parts (is_proper (kind.Array dims (elem.Class n))) (is_field_descriptor (kind_text names (kind.Array dims (elem.Class n)))) is).1 in
    let passes = (and_parts (nat_le dims 255) (is_element text) (sym (is_field_descriptor-brackets dims text refl) ∙ whole)).1 in
    and_from true (is_field_descriptor text) refl (is_field_descriptor-brackets 0 text refl ∙ and_from (nat_le 0 255) (is_element text) refl passes)

pub kind-within : (names : List (List ℕ)) (k : Kind) → is_kind names k ≡ true → IsKindWithin (length names) k
kind-within names (kind.Class n) is = class_within names n is
kind-within names (kind.Array dims (elem.Class n)) is = class_within names n (element-kind names dims n is)
kind-within names (kind.Array dims (elem.Prim letter)) is = tt
kind-within names (kind.Int letter) is = tt
kind-within names kind.Long is = tt
kind-within names kind.Float is = tt
kind-within names kind.Double is = tt

-- ---- larger tables

some-larger : (few most : ℕ) (o : Option ℕ) → few ≤ most → IfSome o (λ n. n < few) → IfSome o (λ n. n < most)
some-larger few most None le h = tt
some-larger few most (Some n) le h = omega (arith, le, h)

-- ---- a class and a method of a set

at-place : {X : Type 0} (P : X → Type 0) (xs : List X) (i : ℕ) (x : X) → slice_get xs i ≡ Some x → All P xs → P x
at-place P xs i x there all = subst P (get_or_from_slice_get xs i x x there) (All-get_or P xs i x (slice_get_within xs i x there) all)

pub class-over : (set : SetView) (id : ℕ) (c : Class) → IsSet set → slice_get set.classes id ≡ Some c → IsClassOver set.names c
class-over set id c valid there = at-place (IsClassOver set.names) set.classes id c there valid.over

pub class-within : (set : SetView) (most id : ℕ) (c : Class) → IsSet set → length set.names ≤ most → slice_get set.classes id ≡ Some c → IsClassWithin most c
class-within set most id c valid few there =
    let over = class-over set id c valid there in
    record {
      name = omega (arith, over.name, few);
      parent = some-larger (length set.names) most c.parent few over.parent;
      interfaces = All-weaker (λ (n : ℕ). n < length set.names) (λ (n : ℕ). n < most) (λ n h. omega (arith, h, few)) c.interfaces over.interfaces;
      fields = All-weaker (IsFieldOver set.names) (λ (f : Field). IsKindWithin most f.kind)
          (λ f h. some-larger (length set.names) most _ few (kind-within set.names f.kind h.kind.kind)) c.fields over.fields;
    }

all-flat : {X Y : Type 0} (P : Y → Type 0) (f : X → List Y) (xs : List X) → All (λ x. All P (f x)) xs → All P (flat_map f xs)
all-flat P f [] all = All-nil P
all-flat P f (x ∷ xs) all =
    All-append P (f x) (flat_map f xs) (All-head (λ x. All P (f x)) x xs all) (all-flat P f xs (All-tail (λ x. All P (f x)) x xs all))

pub method-over : (set : SetView) (id : ℕ) (m : Method) → IsSet set → slice_get (methods_of set.classes) id ≡ Some m → IsMethodOver set.names m
method-over set id m valid there =
    at-place (IsMethodOver set.names) (methods_of set.classes) id m there
    (all-flat (IsMethodOver set.names) (λ (c : Class). c.methods) set.classes
    (All-weaker (IsClassOver set.names) (λ (c : Class). All (IsMethodOver set.names) c.methods) (λ c over. over.methods) set.classes valid.over))

pub arguments-within : (set : SetView) (most id : ℕ) (m : Method) → IsSet set → length set.names ≤ most → slice_get (methods_of set.classes) id ≡ Some m → All (IsKindWithin most) m.kinds.args
arguments-within set most id m valid few there =
    All-weaker (λ (k : Kind). is_kind set.names k ≡ true) (IsKindWithin most)
    (λ k h. some-larger (length set.names) most _ few (kind-within set.names k h)) m.kinds.args
    (AllPass-from_list_all (is_kind set.names) m.kinds.args (method-over set id m valid there).kinds.args)
