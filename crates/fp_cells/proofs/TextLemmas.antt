-- The text of an entity is that of no other one of its kind.
use Rattle.std.proofs.Common.{◌≡◌, ◌≢◌, ℕ, zero, suc, ◌+◌, ◌<◌, ◌^◌, List, [], ◌∷◌, ◌++◌, Option, Some, length, get_or, take, slice_get, flat_map, refl, sym, ap, ap₂, subst, ◌∙◌, arith}
use Rattle.std.specs.Prelude.{unwrap_or, decimal, All}
use Rattle.std.specs.Option.{option_map}
use Rattle.std.proofs.lemmas.List.Elements.{All-get_or, All-head, All-nil, All-tail, All-weaker}
use Rattle.std.proofs.lemmas.Option.{get_or_from_slice_get, slice_get-get_or, slice_get-map, slice_get_within}
use Rattle.fp_base.specs.Escape.{escaped_name, escaped_text, AreBytes, IsNameByte}
use Rattle.fp_base.specs.Names.{AreDistinct}
use Rattle.fp_base.proofs.EscapeLemmas.{escaped_name-bytes, same_escaped_name, same_escaped_text}
use Rattle.fp_model.specs.declared.class.Class.{Class}
use Rattle.fp_model.specs.declared.class.Field.{Field}
use Rattle.fp_model.specs.declared.class.Method.{Method}
use Rattle.fp_model.specs.declared.class.SiteId.{SiteId}
use Rattle.fp_model.specs.ClassSet.{fields_of, methods_of, IsClassOver, IsFieldOver, IsMethodOver, IsSet, SetView}
use Rattle.fp_model.specs.Descriptor.{kind_text, result_text, text_of}
use Rattle.fp_cells.specs.declared.kind.Entity.TheVariants as entity
use Rattle.fp_cells.specs.Distinct.{AreApart, HasApartMembers, TellEntities}
use Rattle.fp_cells.specs.Entities.{class_text, entity_text, field_text, method_text}
use Rattle.fp_cells.proofs.MemberLemmas.{located, there, texts}
use Rattle.fp_cells.proofs.SplitLemmas.{decimal_lacks, same_decimal, split_first, split_last, Lacks}

-- ---- names

text_bytes : (names : List (List ℕ)) (n : ℕ) → All AreBytes names → AreBytes (text_of names n)
text_bytes [] n bytes = All-nil (λ byte. byte < 256)
text_bytes (x ∷ xs) zero bytes = All-head AreBytes x xs bytes
text_bytes (x ∷ xs) (suc n) bytes = text_bytes xs n (All-tail AreBytes x xs bytes)

-- two numbers of one text are one
same_number : (names : List (List ℕ)) (a b : ℕ) → AreDistinct names → a < length names → b < length names → text_of names a ≡ text_of names b → a ≡ b
same_number names a b distinct la lb e =
    let at_a = slice_get-get_or names a [] la in
    let at_b = slice_get-get_or names b [] lb in
    let text : get_or names a [] ≡ get_or names b [] = sym (ap (λ o. unwrap_or o []) at_a) ∙ e ∙ ap (λ o. unwrap_or o []) at_b in
    distinct.same_number a b (get_or names a []) at_a (at_b ∙ ap Some (sym text))

some_same : {A : Type 0} (o : Option A) (x y : A) → o ≡ Some x → o ≡ Some y → x ≡ y
some_same o x y one other = cc

module _ (names : List (List ℕ)) (distinct : AreDistinct names) (bytes : All AreBytes names) where
  lacks_dot : (n : ℕ) → Lacks 46 (escaped_name (text_of names n))
  lacks_dot n = All-weaker IsNameByte (λ x. x ≢ 46) (λ x one. one.no_dot) (escaped_name (text_of names n)) (escaped_name-bytes (text_of names n) (text_bytes names n bytes))

  lacks_parenthesis : (n : ℕ) → Lacks 40 (escaped_name (text_of names n))
  lacks_parenthesis n = All-weaker IsNameByte (λ x. x ≢ 40) (λ x one. one.no_parenthesis) (escaped_name (text_of names n)) (escaped_name-bytes (text_of names n) (text_bytes names n bytes))

  lacks_colon : (n : ℕ) → Lacks 58 (escaped_name (text_of names n))
  lacks_colon n = All-weaker IsNameByte (λ x. x ≢ 58) (λ x one. one.no_colon) (escaped_name (text_of names n)) (escaped_name-bytes (text_of names n) (text_bytes names n bytes))

  same_name : (a b : ℕ) → a < length names → b < length names → escaped_name (text_of names a) ≡ escaped_name (text_of names b) → a ≡ b
  same_name a b la lb e = same_number names a b distinct la lb (same_escaped_name (text_of names a) (text_of names b) (text_bytes names a bytes) (text_bytes names b bytes) e)

  same_descr : (a b : ℕ) → a < length names → b < length names → escaped_text (text_of names a) ≡ escaped_text (text_of names b) → a ≡ b
  same_descr a b la lb e = same_number names a b distinct la lb (same_escaped_text (text_of names a) (text_of names b) (text_bytes names a bytes) (text_bytes names b bytes) e)

  -- ---- what the texts of two members tell

  field_tells : (c d : Class) (f g : Field) → IsClassOver names c → IsClassOver names d → IsFieldOver names f → IsFieldOver names g → field_text names c f ≡ field_text names d g
      → (c.name ≡ d.name) × (f.name ≡ g.name) × (f.descr ≡ g.descr)
  field_tells c d f g co dv fo go e =
      let first = split_first 46 (class_text names c) (class_text names d) _ _ (lacks_dot c.name) (lacks_dot d.name) e in
      let second = split_first 58 (escaped_name (text_of names f.name)) (escaped_name (text_of names g.name)) _ _ (lacks_colon f.name) (lacks_colon g.name) first.1 in
      (same_name c.name d.name co.name dv.name first.0, same_name f.name g.name fo.name go.name second.0, same_descr f.descr g.descr fo.descr go.descr second.1)

  -- the descriptor of a method begins with its parenthesis
  opened : (rest : List ℕ) → escaped_text (40 ∷ rest) ≡ 40 ∷ escaped_text rest
  unfolding escaped_text
  opened rest = refl

  method_begins : (m : Method) → IsMethodOver names m → (rest : List ℕ) × (escaped_text (text_of names m.descr) ≡ 40 ∷ rest)
  method_begins m over =
      let rest = flat_map (kind_text names) m.kinds.args ++ (41 ∷ result_text names m.kinds.result) in
      (escaped_text rest, ap escaped_text (sym over.kinds.written) ∙ opened rest)

  method_tells : (c d : Class) (m n : Method) → IsClassOver names c → IsClassOver names d → IsMethodOver names m → IsMethodOver names n → method_text names c m ≡ method_text names d n
      → (c.name ≡ d.name) × (m.name ≡ n.name) × (m.descr ≡ n.descr)
  method_tells c d m n co dv mo nv e =
      let first = split_first 46 (class_text names c) (class_text names d) _ _ (lacks_dot c.name) (lacks_dot d.name) e in
      let of_m = method_begins m mo in
      let of_n = method_begins n nv in
      let name_m = escaped_name (text_of names m.name) in
      let name_n = escaped_name (text_of names n.name) in
      let both : name_m ++ (40 ∷ of_m.0) ≡ name_n ++ (40 ∷ of_n.0) = ap (λ t. name_m ++ t) (sym of_m.1) ∙ first.1 ∙ ap (λ t. name_n ++ t) of_n.1 in
      let second = split_first 40 name_m name_n of_m.0 of_n.0 (lacks_parenthesis m.name) (lacks_parenthesis n.name) both in
      let descr : escaped_text (text_of names m.descr) ≡ escaped_text (text_of names n.descr) = of_m.1 ∙ ap (λ t. 40 ∷ t) second.1 ∙ sym of_n.1 in
      (same_name c.name d.name co.name dv.name first.0, same_name m.name n.name mo.name nv.name second.0, same_descr m.descr n.descr mo.descr nv.descr descr)

-- ---- members by their numbers

all_at : {A : Type 0} (P : A → Type 0) (xs : List A) (i : ℕ) (x : A) → All P xs → slice_get xs i ≡ Some x → P x
all_at P xs i x all at = subst P (get_or_from_slice_get xs i x x at) (All-get_or P xs i x (slice_get_within xs i x at) all)

module _ {M : Type 0} (set : SetView) (is : IsSet set) (members : Class → List M) (text : Class → M → List ℕ) (name_of descr_of : M → ℕ)
    (tells : (c d : Class) (a b : M) (i j k l : ℕ) → slice_get set.classes i ≡ Some c → slice_get set.classes j ≡ Some d → slice_get (members c) k ≡ Some a → slice_get (members d) l ≡ Some b → text c a ≡ text d b → (c.name ≡ d.name) × (name_of a ≡ name_of b) × (descr_of a ≡ descr_of b))
    (apart : (c : Class) (i : ℕ) → slice_get set.classes i ≡ Some c → AreApart name_of descr_of (members c)) where
  same_place : (i j k l : ℕ) (c d : Class) (a b : M) → slice_get set.classes i ≡ Some c → slice_get set.classes j ≡ Some d → slice_get (members c) k ≡ Some a → slice_get (members d) l ≡ Some b → text c a ≡ text d b → (i ≡ j) × (k ≡ l)
  same_place i j k l c d a b at_i at_j at_k at_l e =
      let told = tells c d a b i j k l at_i at_j at_k at_l e in
      let owners : i ≡ j = is.sound.distinct i j c d at_i at_j told.0 in
      let classes : c ≡ d = some_same (slice_get set.classes j) c d (ap (slice_get set.classes) (sym owners) ∙ at_i) at_j in
      let here : slice_get (members c) l ≡ Some b = ap (λ x. slice_get (members x) l) classes ∙ at_l in
      (owners, (apart c i at_i).apart k l a b at_k here told.1 told.2)

  pub same_member : (x y : ℕ) → x < length (flat_map members set.classes) → y < length (flat_map members set.classes)
      → unwrap_or (slice_get (texts members text set.classes) x) [] ≡ unwrap_or (slice_get (texts members text set.classes) y) [] → x ≡ y
  same_member x y lx ly e =
      let one = located members text set.classes x lx in
      let other = located members text set.classes y ly in
      let same : text one.class one.member ≡ text other.class other.member = sym (ap (λ o. unwrap_or o []) one.text_at) ∙ e ∙ ap (λ o. unwrap_or o []) other.text_at in
      let places = same_place one.owner other.owner one.place other.place one.class other.class one.member other.member one.class_at other.class_at one.member_at other.member_at same in
      one.number ∙ ap₂ (λ i k. length (flat_map members (take i set.classes)) + k) places.0 places.1 ∙ sym other.number

-- ---- the entities of a set

module _ (set : SetView) (is : IsSet set) (bytes : All AreBytes set.names) (apart : All HasApartMembers set.classes) where
  over_at : (i : ℕ) (c : Class) → slice_get set.classes i ≡ Some c → IsClassOver set.names c
  over_at i c at = all_at (IsClassOver set.names) set.classes i c is.over at

  same_class : (a b : ℕ) → a < length set.classes → b < length set.classes → entity_text set (entity.Class a) ≡ entity_text set (entity.Class b) → a ≡ b
  same_class a b la lb e =
      let c = there set.classes a la in
      let d = there set.classes b lb in
      let text_c : entity_text set (entity.Class a) ≡ class_text set.names c.0 = ap (λ o. unwrap_or o []) (slice_get-map (class_text set.names) set.classes a ∙ ap (option_map (class_text set.names)) c.1) in
      let text_d : entity_text set (entity.Class b) ≡ class_text set.names d.0 = ap (λ o. unwrap_or o []) (slice_get-map (class_text set.names) set.classes b ∙ ap (option_map (class_text set.names)) d.1) in
      let same = same_name set.names is.names bytes c.0.name d.0.name (over_at a c.0 c.1).name (over_at b d.0 d.1).name (sym text_c ∙ e ∙ text_d) in
      is.sound.distinct a b c.0 d.0 c.1 d.1 same

  same_field : (a b : ℕ) → a < length (fields_of set.classes) → b < length (fields_of set.classes) → entity_text set (entity.Field a) ≡ entity_text set (entity.Field b) → a ≡ b
  same_field a b la lb e =
      same_member set is (λ c. c.fields) (field_text set.names) (λ f. f.name) (λ f. f.descr)
      (λ c d f g i j k l at_i at_j at_k at_l same.
      let co = over_at i c at_i in
      let dv = over_at j d at_j in
      field_tells set.names is.names bytes c d f g co dv (all_at (IsFieldOver set.names) c.fields k f co.fields at_k) (all_at (IsFieldOver set.names) d.fields l g dv.fields at_l) same)
      (λ c i at. (all_at HasApartMembers set.classes i c apart at).of_fields)
      a b la lb e

  same_method : (a b : ℕ) → a < length (methods_of set.classes) → b < length (methods_of set.classes) → entity_text set (entity.Method a) ≡ entity_text set (entity.Method b) → a ≡ b
  same_method a b la lb e =
      same_member set is (λ c. c.methods) (method_text set.names) (λ m. m.name) (λ m. m.descr)
      (λ c d m n i j k l at_i at_j at_k at_l same.
      let co = over_at i c at_i in
      let dv = over_at j d at_j in
      method_tells set.names is.names bytes c d m n co dv (all_at (IsMethodOver set.names) c.methods k m co.methods at_k) (all_at (IsMethodOver set.names) d.methods l n dv.methods at_l) same)
      (λ c i at. (all_at HasApartMembers set.classes i c apart at).of_methods)
      a b la lb e

  same_site : (a b : SiteId) → a.method < length (methods_of set.classes) → b.method < length (methods_of set.classes) → a.pc < 2 ^ 16 → b.pc < 2 ^ 16 → entity_text set (entity.Site a) ≡ entity_text set (entity.Site b) → a ≡ b
  same_site a b la lb pa pb e =
      let parts = split_last 64 (entity_text set (entity.Method a.method)) (entity_text set (entity.Method b.method)) (decimal a.pc) (decimal b.pc) (decimal_lacks a.pc (omega (arith, pa))) (decimal_lacks b.pc (omega (arith, pb))) e in
      let methods = same_method a.method b.method la lb parts.0 in
      let pcs = same_decimal a.pc b.pc (omega (arith, pa)) (omega (arith, pb)) parts.1 in
      ap (λ m. record { method = m; pc = a.pc }) methods ∙ ap (λ p. record { method = b.method; pc = p }) pcs

pub tells : (set : SetView) → IsSet set → All AreBytes set.names → All HasApartMembers set.classes → TellEntities set
tells set is bytes apart = record {
  classes = same_class set is bytes apart;
  fields = same_field set is bytes apart;
  methods = same_method set is bytes apart;
  sites = same_site set is bytes apart;
}
