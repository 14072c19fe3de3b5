-- The text of an entity is at least as long as each name in it.
use Rattle.std.proofs.Common.{◌≡◌, ℕ, ◌+◌, ◌-◌, ◌/◌, ◌%◌, ◌≤◌, ◌<◌, true, false, cond, List, [], ◌∷◌, ◌++◌, Some, length, map, take, flat_map, get_or, slice_get, unwrap_or, codes, refl, sym, ap, subst, ◌∙◌, arith, length-append}
use Rattle.std.proofs.lemmas.List.{get_or-map, length-map, take_more}
use Rattle.std.proofs.lemmas.List.Concat.{flat_map-append, get_or-flat_map}
use Rattle.std.proofs.lemmas.Option.{get_or_from_slice_get, slice_get_within, unwrap_or-slice_get}
use Rattle.fp_base.specs.Escape.{escaped_by, escaped_byte, escaped_name, escaped_text, hex_digit, is_plain}
use Rattle.fp_model.specs.declared.class.Class.{Class}
use Rattle.fp_model.specs.declared.class.Field.{Field}
use Rattle.fp_model.specs.declared.class.Method.{Method}
use Rattle.fp_model.specs.ClassSet.{SetView, fields_of, methods_of}
use Rattle.fp_model.specs.Descriptor.{text_of}
use Rattle.fp_cells.specs.declared.kind.Entity.TheVariants.{Class as OfClass, Field as OfField, Method as OfMethod}
use Rattle.fp_cells.specs.Entities.{class_text, class_texts, entity_text, field_text, method_text}

-- ---- escaped names

own_byte : (reserved : List ℕ) (b : ℕ) → 1 ≤ length (escaped_byte reserved b)
own_byte reserved b =
    (elim (is_plain reserved b) as (λ p. 1 ≤ length (cond p (b ∷ []) (codes "\\x" ++ hex_digit (b / 16) ∷ hex_digit (b % 16) ∷ []))) [
      | true ↦ omega arith
      | false ↦ omega arith
    ])

long_by : (reserved text : List ℕ) → length text ≤ length (escaped_by reserved text)
long_by reserved [] = omega arith
long_by reserved (b ∷ text) = omega (arith, own_byte reserved b, long_by reserved text, length-append (escaped_byte reserved b) (escaped_by reserved text))

name_long : (text : List ℕ) → length text ≤ length (escaped_name text)
unfolding escaped_name
name_long text = long_by (codes "\\,.(:") text

text_long : (text : List ℕ) → length text ≤ length (escaped_text text)
unfolding escaped_text
text_long text = long_by (codes "\\,") text

-- ---- the names in a text

pub record HasLengths (class name descr text : List ℕ) : Type 0 where
  pub of_class : length class ≤ length text
  pub of_name : length name ≤ length text
  pub of_descr : length descr ≤ length text

method_long : (names : List (List ℕ)) (c : Class) (m : Method) → HasLengths (text_of names c.name) (text_of names m.name) (text_of names m.descr) (method_text names c m)
method_long names c m =
    let name = escaped_name (text_of names m.name) in
    let descr = escaped_text (text_of names m.descr) in
    let whole = length-append (class_text names c) (46 ∷ (name ++ descr)) in
    let rest = length-append name descr in
    record {
      of_class = omega (arith, whole, name_long (text_of names c.name));
      of_name = omega (arith, whole, rest, name_long (text_of names m.name));
      of_descr = omega (arith, whole, rest, text_long (text_of names m.descr));
    }

field_long : (names : List (List ℕ)) (c : Class) (f : Field) → HasLengths (text_of names c.name) (text_of names f.name) (text_of names f.descr) (field_text names c f)
field_long names c f =
    let name = escaped_name (text_of names f.name) in
    let descr = escaped_text (text_of names f.descr) in
    let whole = length-append (class_text names c) (46 ∷ (name ++ (58 ∷ descr))) in
    let rest = length-append name (58 ∷ descr) in
    record {
      of_class = omega (arith, whole, name_long (text_of names c.name));
      of_name = omega (arith, whole, rest, name_long (text_of names f.name));
      of_descr = omega (arith, whole, rest, text_long (text_of names f.descr));
    }

-- ---- the text of a member

module _ {F : Type 0} (members : Class → List F) (text : Class → F → List ℕ) where
  abbrev class_members : Class → List (List ℕ)
  class_members c = map (text c) (members c)

  count_same : (classes : List Class) → length (flat_map class_members classes) ≡ length (flat_map members classes)
  count_same [] = refl
  count_same (c ∷ classes) =
      omega (arith, length-append (class_members c) (flat_map class_members classes), length-append (members c) (flat_map members classes), length-map (members c) (text c), count_same classes)

  one_more : (classes : List Class) (i : ℕ) (c : Class) → slice_get classes i ≡ Some c → length (flat_map members (take (i + 1) classes)) ≡ length (flat_map members (take i classes)) + length (members c)
  one_more classes i c at =
      let more : take (i + 1) classes ≡ take i classes ++ c ∷ [] = take_more classes i c (slice_get_within classes i c at) ∙ ap (λ v. take i classes ++ v ∷ []) (get_or_from_slice_get classes i c c at) in
      let parts = ap (λ v. length (flat_map members v)) more ∙ ap length (flat_map-append members (take i classes) (c ∷ [])) in
      omega (arith, parts, length-append (flat_map members (take i classes)) (members c ++ []), length-append (members c) [])

  text_at : (classes : List Class) (i id : ℕ) (c : Class) (f : F) → slice_get classes i ≡ Some c → length (flat_map members (take i classes)) ≤ id → id < length (flat_map members (take (i + 1) classes)) → slice_get (flat_map members classes) id ≡ Some f →
      unwrap_or (slice_get (flat_map class_members classes) id) [] ≡ text c f
  text_at classes i id c f at from to is =
      let within = slice_get_within classes i c at in
      let class : get_or classes i c ≡ c = get_or_from_slice_get classes i c c at in
      let j = id - length (flat_map members (take i classes)) in
      let inside : j < length (members c) = omega (arith, one_more classes i c at) in
      let place : id ≡ length (flat_map members (take i classes)) + j = omega arith in
      let text_place : id ≡ length (flat_map class_members (take i classes)) + j = omega (arith, count_same (take i classes)) in
      let own : get_or (members c) j f ≡ f =
      sym (ap (λ x. get_or (members x) j f) class)
      ∙ sym (get_or-flat_map members classes i j c f within (subst (λ x. j < length (members x)) (sym class) inside))
      ∙ sym (ap (λ k. get_or (flat_map members classes) k f) place)
      ∙ get_or_from_slice_get (flat_map members classes) id f f is in
      let mapped : j < length (class_members c) = omega (arith, inside, length-map (members c) (text c)) in
      unwrap_or-slice_get (flat_map class_members classes) id []
      ∙ ap (λ k. get_or (flat_map class_members classes) k []) text_place
      ∙ get_or-flat_map class_members classes i j c [] within (subst (λ x. j < length (class_members x)) (sym class) mapped)
      ∙ ap (λ x. get_or (class_members x) j []) class
      ∙ get_or-map (text c) (members c) j f [] inside
      ∙ ap (text c) own

pub method_longer : (set : SetView) (i id : ℕ) (c : Class) (m : Method) → slice_get set.classes i ≡ Some c → length (methods_of (take i set.classes)) ≤ id → id < length (methods_of (take (i + 1) set.classes)) → slice_get (methods_of set.classes) id ≡ Some m →
    HasLengths (text_of set.names c.name) (text_of set.names m.name) (text_of set.names m.descr) (entity_text set (OfMethod id))
method_longer set i id c m at from to is =
    subst (HasLengths (text_of set.names c.name) (text_of set.names m.name) (text_of set.names m.descr)) (sym (text_at (λ c. c.methods) (method_text set.names) set.classes i id c m at from to is)) (method_long set.names c m)

pub field_longer : (set : SetView) (i id : ℕ) (c : Class) (f : Field) → slice_get set.classes i ≡ Some c → length (fields_of (take i set.classes)) ≤ id → id < length (fields_of (take (i + 1) set.classes)) → slice_get (fields_of set.classes) id ≡ Some f →
    HasLengths (text_of set.names c.name) (text_of set.names f.name) (text_of set.names f.descr) (entity_text set (OfField id))
field_longer set i id c f at from to is =
    subst (HasLengths (text_of set.names c.name) (text_of set.names f.name) (text_of set.names f.descr)) (sym (text_at (λ c. c.fields) (field_text set.names) set.classes i id c f at from to is)) (field_long set.names c f)

pub class_longer : (set : SetView) (id : ℕ) (c : Class) → slice_get set.classes id ≡ Some c → length (text_of set.names c.name) ≤ length (entity_text set (OfClass id))
class_longer set id c at =
    let within = slice_get_within set.classes id c at in
    let text : entity_text set (OfClass id) ≡ class_text set.names c =
    unwrap_or-slice_get (class_texts set) id []
    ∙ get_or-map (class_text set.names) set.classes id c [] within
    ∙ ap (class_text set.names) (get_or_from_slice_get set.classes id c c at) in
    subst (λ v. length (text_of set.names c.name) ≤ length v) (sym text) (name_long (text_of set.names c.name))

-- a text is longer than what a name in it is longer than
pub text_longer : (told names : List (List ℕ)) (number most : ℕ) (text : List ℕ) → told ≡ names → length (text_of names number) ≤ length text → most < length (text_of told number) → most < length text
text_longer told names number most text is long h =
    let own = subst (λ v. most < length (text_of v number)) is h in
    omega (arith, own, long)
