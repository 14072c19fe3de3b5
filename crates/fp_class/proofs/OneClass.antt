-- The class of a file over a table of distinct names is determined.
use Rattle.std.proofs.Common.{◌≡◌, ℕ, ◌<◌, List, [], ◌∷◌, Option, Some, None, length, get_or, map, refl, sym, ap, ap₂, ◌∙◌}
use Rattle.std.specs.Prelude.{slice_get, unwrap_or, option_and_then, option_map, IfSome, All}
use Rattle.std.specs.List.{AllZip}
use Rattle.std.proofs.lemmas.List.Elements.{All-head, All-tail}
use Rattle.std.proofs.lemmas.Option.{slice_get-get_or}
use Rattle.fp_base.specs.Names.{number_of, AreDistinct}
use Rattle.fp_base.proofs.NameLemmas.{number_of-at}
use Rattle.fp_model.specs.declared.class.Class.{Class}
use Rattle.fp_model.specs.declared.class.Code.{Code}
use Rattle.fp_model.specs.declared.class.Field.{Field}
use Rattle.fp_model.specs.declared.class.Method.{Method}
use Rattle.fp_model.specs.declared.raw.Raw.{Raw}
use Rattle.fp_model.specs.declared.raw.RawMember.{RawMember}
use Rattle.fp_model.specs.declared.raw.attribute.BootRow.{BootRow}
use Rattle.fp_model.specs.declared.raw.attribute.RawCode.{RawCode}
use Rattle.fp_model.specs.declared.raw.pool.Entry.{Entry}
use Rattle.fp_model.specs.declared.kind.Descr.{Descr}
use Rattle.fp_model.specs.declared.kind.Kind.{Kind}
use Rattle.fp_model.specs.Descriptor.{text_of}
use Rattle.fp_model.specs.Entries.{text_at, class_name_at}
use Rattle.fp_model.specs.ClassSet.{IsFieldOver, IsMethodOver}
use Rattle.fp_model.specs.Kinds.{kind_in}
use Rattle.fp_class.specs.Classes.{class_in, field_in, method_in, number_in, IsClassOf, IsCodeAmong, IsFieldOf, IsMethodOf}
use Rattle.fp_class.specs.ClassFile.{boots_of}
use Rattle.fp_class.specs.CodeNumbers.{code_in, descr_in}
use Rattle.fp_class.specs.Methods.{code_of}
use Rattle.fp_class.proofs.OneCode.{code_said}
use Rattle.fp_class.proofs.OneDescr.{descr_said, kind_said}

-- ---- numbers

number_said : (names : List (List ℕ)) (n : ℕ) (text : Option (List ℕ)) → AreDistinct names → n < length names → slice_get names n ≡ text → n ≡ number_in names text
number_said names n text distinct within at =
    let found : slice_get names n ≡ Some (get_or names n []) = slice_get-get_or names n [] within in
    sym (ap (number_in names) (sym at ∙ found) ∙ number_of-at names n (get_or names n []) distinct found)

parent_said : (names : List (List ℕ)) (parent : Option ℕ) (text : Option (List ℕ)) → AreDistinct names → IfSome parent (λ n. n < length names) → option_and_then (slice_get names) parent ≡ text → parent ≡ option_map (number_of names) text
parent_said names None text distinct within at = ap (option_map (number_of names)) at
parent_said names (Some n) text distinct within at =
    let found : slice_get names n ≡ Some (get_or names n []) = slice_get-get_or names n [] within in
    sym (ap (option_map (number_of names)) (sym at ∙ found) ∙ ap Some (number_of-at names n (get_or names n []) distinct found))

interfaces_said : (names : List (List ℕ)) (entries : List Entry) (numbers indexes : List ℕ) → AreDistinct names → All (λ n. n < length names) numbers → map (slice_get names) numbers ≡ map (class_name_at entries) indexes → numbers ≡ map (λ index. number_in names (class_name_at entries index)) indexes
interfaces_said names entries [] [] distinct within at = refl
interfaces_said names entries [] (i ∷ indexes) distinct within at = absurd cc
interfaces_said names entries (n ∷ numbers) [] distinct within at = absurd cc
interfaces_said names entries (n ∷ numbers) (i ∷ indexes) distinct within at =
    let first : slice_get names n ≡ class_name_at entries i = cc in
    let others : map (slice_get names) numbers ≡ map (class_name_at entries) indexes = cc in
    ap₂ (λ x xs. x ∷ xs)
    (number_said names n (class_name_at entries i) distinct (All-head (λ n. n < length names) n numbers within) first)
    (interfaces_said names entries numbers indexes distinct (All-tail (λ n. n < length names) n numbers within) others)

-- ---- fields

-- a field by its parts
field_by_parts : (f : Field) (name descr : ℕ) (k : Kind) (flags : ℕ) → f.name ≡ name → f.descr ≡ descr → f.kind ≡ k → f.flags ≡ flags → f ≡ record { name = name; descr = descr; kind = k; flags = flags }
field_by_parts f name descr k flags n d s g =
    ap (λ n. record { name = n; descr = f.descr; kind = f.kind; flags = f.flags }) n
    ∙ ap (λ d. record { name = name; descr = d; kind = f.kind; flags = f.flags }) d
    ∙ ap (λ s. record { name = name; descr = descr; kind = s; flags = f.flags }) s
    ∙ ap (λ g. record { name = name; descr = descr; kind = k; flags = g }) g

field_said : (names : List (List ℕ)) (entries : List Entry) (f : Field) (field : RawMember) → AreDistinct names → IsFieldOver names f → IsFieldOf names entries f field → f ≡ field_in names entries field
field_said names entries f field distinct over of =
    let name : f.name ≡ number_in names (text_at entries field.name) = number_said names f.name (text_at entries field.name) distinct over.name of.name in
    let descr : f.descr ≡ number_in names (text_at entries field.descr) = number_said names f.descr (text_at entries field.descr) distinct over.descr of.descr in
    let text : text_of names f.descr ≡ unwrap_or (text_at entries field.descr) [] = ap (λ o. unwrap_or o []) of.descr in
    let kind : f.kind ≡ kind_in names (unwrap_or (text_at entries field.descr) []) = kind_said names (text_of names f.descr) f.kind distinct over.kind ∙ ap (kind_in names) text in
    field_by_parts f (number_in names (text_at entries field.name)) (number_in names (text_at entries field.descr)) (kind_in names (unwrap_or (text_at entries field.descr) [])) field.flags name descr kind of.flags

fields_said : (names : List (List ℕ)) (entries : List Entry) (fields : List Field) (members : List RawMember) → AreDistinct names → All (IsFieldOver names) fields → AllZip (IsFieldOf names entries) fields members → fields ≡ map (field_in names entries) members
fields_said names entries [] [] distinct over all = refl
fields_said names entries [] (m ∷ members) distinct over all = absurd all
fields_said names entries (f ∷ fields) [] distinct over all = absurd all
fields_said names entries (f ∷ fields) (m ∷ members) distinct over all =
    ap₂ (λ x xs. x ∷ xs)
    (field_said names entries f m distinct (All-head (IsFieldOver names) f fields over) all.0)
    (fields_said names entries fields members distinct (All-tail (IsFieldOver names) f fields over) all.1)

-- ---- methods

-- a method by its parts
method_by_parts : (m : Method) (name descr : ℕ) (kinds : Descr) (flags : ℕ) (code : Option Code) → m.name ≡ name → m.descr ≡ descr → m.kinds ≡ kinds → m.flags ≡ flags → m.code ≡ code → m ≡ record { name = name; descr = descr; kinds = kinds; flags = flags; code = code }
method_by_parts m name descr kinds flags code n d k g c =
    ap (λ n. record { name = n; descr = m.descr; kinds = m.kinds; flags = m.flags; code = m.code }) n
    ∙ ap (λ d. record { name = name; descr = d; kinds = m.kinds; flags = m.flags; code = m.code }) d
    ∙ ap (λ k. record { name = name; descr = descr; kinds = k; flags = m.flags; code = m.code }) k
    ∙ ap (λ g. record { name = name; descr = descr; kinds = kinds; flags = g; code = m.code }) g
    ∙ ap (λ c. record { name = name; descr = descr; kinds = kinds; flags = flags; code = c }) c

code_among_said : (names : List (List ℕ)) (entries : List Entry) (boots : List BootRow) (code : Option Code) (raw : Option RawCode) → AreDistinct names → IsCodeAmong names entries boots code raw → code ≡ option_map (code_in names entries boots) raw
code_among_said names entries boots None None distinct is = refl
code_among_said names entries boots None (Some raw) distinct is = absurd is
code_among_said names entries boots (Some code) None distinct is = absurd is
code_among_said names entries boots (Some code) (Some raw) distinct is = ap Some (code_said names distinct entries boots code raw is)

method_said : (names : List (List ℕ)) (entries : List Entry) (boots : List BootRow) (m : Method) (method : RawMember) → AreDistinct names → IsMethodOver names m → IsMethodOf names entries boots m method → m ≡ method_in names entries boots method
method_said names entries boots m method distinct over of =
    let name : m.name ≡ number_in names (text_at entries method.name) = number_said names m.name (text_at entries method.name) distinct over.name of.name in
    let descr : m.descr ≡ number_in names (text_at entries method.descr) = number_said names m.descr (text_at entries method.descr) distinct over.descr of.descr in
    let text : text_of names m.descr ≡ unwrap_or (text_at entries method.descr) [] = ap (λ o. unwrap_or o []) of.descr in
    let kinds : m.kinds ≡ descr_in names (unwrap_or (text_at entries method.descr) []) = descr_said names (text_of names m.descr) m.kinds distinct over.kinds ∙ ap (descr_in names) text in
    let code : m.code ≡ option_map (code_in names entries boots) (code_of method.attributes) = code_among_said names entries boots m.code (code_of method.attributes) distinct of.code in
    method_by_parts m (number_in names (text_at entries method.name)) (number_in names (text_at entries method.descr)) (descr_in names (unwrap_or (text_at entries method.descr) [])) method.flags (option_map (code_in names entries boots) (code_of method.attributes)) name descr kinds of.flags code

methods_said : (names : List (List ℕ)) (entries : List Entry) (boots : List BootRow) (methods : List Method) (members : List RawMember) → AreDistinct names → All (IsMethodOver names) methods → AllZip (IsMethodOf names entries boots) methods members → methods ≡ map (method_in names entries boots) members
methods_said names entries boots [] [] distinct over all = refl
methods_said names entries boots [] (m ∷ members) distinct over all = absurd all
methods_said names entries boots (m ∷ methods) [] distinct over all = absurd all
methods_said names entries boots (m ∷ methods) (r ∷ members) distinct over all =
    ap₂ (λ x xs. x ∷ xs)
    (method_said names entries boots m r distinct (All-head (IsMethodOver names) m methods over) all.0)
    (methods_said names entries boots methods members distinct (All-tail (IsMethodOver names) m methods over) all.1)

-- ---- the law

-- a class by its parts
class_by_parts : (c : Class) (name : ℕ) (parent : Option ℕ) (interfaces : List ℕ) (flags : ℕ) (fields : List Field) (methods : List Method) → c.name ≡ name → c.parent ≡ parent → c.interfaces ≡ interfaces → c.flags ≡ flags → c.fields ≡ fields → c.methods ≡ methods → c ≡ record { name = name; parent = parent; interfaces = interfaces; flags = flags; fields = fields; methods = methods }
class_by_parts c name parent interfaces flags fields methods n p i g f m =
    ap (λ n. record { name = n; parent = c.parent; interfaces = c.interfaces; flags = c.flags; fields = c.fields; methods = c.methods }) n
    ∙ ap (λ p. record { name = name; parent = p; interfaces = c.interfaces; flags = c.flags; fields = c.fields; methods = c.methods }) p
    ∙ ap (λ i. record { name = name; parent = parent; interfaces = i; flags = c.flags; fields = c.fields; methods = c.methods }) i
    ∙ ap (λ g. record { name = name; parent = parent; interfaces = interfaces; flags = g; fields = c.fields; methods = c.methods }) g
    ∙ ap (λ f. record { name = name; parent = parent; interfaces = interfaces; flags = flags; fields = f; methods = c.methods }) f
    ∙ ap (λ m. record { name = name; parent = parent; interfaces = interfaces; flags = flags; fields = fields; methods = m }) m

pub one_class : (names : List (List ℕ)) (c : Class) (raw : Raw) → AreDistinct names → IsClassOf names c raw → c ≡ class_in names raw
one_class names c raw distinct of =
    let entries = raw.pool.entries in
    let name : c.name ≡ number_in names (class_name_at raw.pool.entries raw.this) = number_said names c.name (class_name_at entries raw.this) distinct of.over.name of.name in
    let parent : c.parent ≡ option_map (number_of names) (class_name_at raw.pool.entries raw.parent) = parent_said names c.parent (class_name_at entries raw.parent) distinct of.over.parent of.parent in
    let interfaces : c.interfaces ≡ map (λ index. number_in names (class_name_at raw.pool.entries index)) raw.interfaces = interfaces_said names entries c.interfaces raw.interfaces distinct of.over.interfaces of.interfaces in
    let fields : c.fields ≡ map (field_in names raw.pool.entries) raw.fields = fields_said names entries c.fields raw.fields distinct of.over.fields of.fields in
    let methods : c.methods ≡ map (method_in names raw.pool.entries (boots_of raw.attributes)) raw.methods = methods_said names entries (boots_of raw.attributes) c.methods raw.methods distinct of.over.methods of.methods in
    class_by_parts c (number_in names (class_name_at raw.pool.entries raw.this)) (option_map (number_of names) (class_name_at raw.pool.entries raw.parent)) (map (λ index. number_in names (class_name_at raw.pool.entries index)) raw.interfaces) raw.flags (map (field_in names raw.pool.entries) raw.fields) (map (method_in names raw.pool.entries (boots_of raw.attributes)) raw.methods) name parent interfaces of.flags fields methods
