-- The texts of kinds and of entities, by which reports and words name them.
use Rattle.std.specs.Prelude.{ℕ, ◌<◌, List, [], ◌∷◌, ◌++◌, codes, length, map, slice_get, unwrap_or}
use Rattle.std.specs.List.{flat_map}
use Rattle.std.specs.Fmt.{decimal}
use Rattle.fp_base.specs.Escape.{escaped_name, escaped_text}
use Rattle.fp_model.specs.declared.class.Class.{Class}
use Rattle.fp_model.specs.declared.class.Field.{Field}
use Rattle.fp_model.specs.declared.class.Method.{Method}
use Rattle.fp_model.specs.ClassSet.{SetView, fields_of, methods_of}
use Rattle.fp_model.specs.Descriptor.{text_of}
use Rattle.fp_cells.specs.declared.kind.KindId.{KindId}
use Rattle.fp_cells.specs.declared.kind.KindId.TheVariants.{Declared, Inst, Reach, Callees, Assign, Immut, Timmut, Fresh, Leak, Escape, Purity}
use Rattle.fp_cells.specs.declared.kind.Entity.{Entity}
use Rattle.fp_cells.specs.declared.kind.Entity.TheVariants as entity

-- the name of a kind
abbrev pub kind_text : KindId → List ℕ
kind_text Declared = codes "declared"
kind_text Inst = codes "inst"
kind_text Reach = codes "reach"
kind_text Callees = codes "callees"
kind_text Assign = codes "assign"
kind_text Immut = codes "immut"
kind_text Timmut = codes "timmut"
kind_text Fresh = codes "fresh"
kind_text Leak = codes "leak"
kind_text Escape = codes "escape"
kind_text Purity = codes "purity"

-- a class by its escaped name
abbrev pub class_text : List (List ℕ) → Class → List ℕ
class_text names c = escaped_name (text_of names c.name)

-- a field of a class: `class.name:descriptor`
abbrev pub field_text : List (List ℕ) → Class → Field → List ℕ
field_text names c f = class_text names c ++ (46 ∷ (escaped_name (text_of names f.name) ++ (58 ∷ escaped_text (text_of names f.descr))))

-- a method of a class: `class.name(parameters)result`, where the descriptor begins with its parenthesis
abbrev pub method_text : List (List ℕ) → Class → Method → List ℕ
method_text names c m = class_text names c ++ (46 ∷ (escaped_name (text_of names m.name) ++ escaped_text (text_of names m.descr)))

-- the texts of all classes, fields and methods, by their numbers
abbrev pub class_texts : SetView → List (List ℕ)
class_texts set = map (class_text set.names) set.classes

abbrev pub field_texts : SetView → List (List ℕ)
field_texts set = flat_map (λ c. map (field_text set.names c) c.fields) set.classes

abbrev pub method_texts : SetView → List (List ℕ)
method_texts set = flat_map (λ c. map (method_text set.names c) c.methods) set.classes

-- the text of an entity; a site is its method, `@` and its place in the code
abbrev pub entity_text : SetView → Entity → List ℕ
entity_text set (entity.Class id) = unwrap_or (slice_get (class_texts set) id) []
entity_text set (entity.Field id) = unwrap_or (slice_get (field_texts set) id) []
entity_text set (entity.Method id) = unwrap_or (slice_get (method_texts set) id) []
entity_text set (entity.Site site) = unwrap_or (slice_get (method_texts set) site.method) [] ++ (64 ∷ decimal site.pc)

-- the entity is one of the set's
abbrev pub IsEntityOf : SetView → Entity → Type 0
IsEntityOf set (entity.Class id) = id < length set.classes
IsEntityOf set (entity.Field id) = id < length (fields_of set.classes)
IsEntityOf set (entity.Method id) = id < length (methods_of set.classes)
IsEntityOf set (entity.Site site) = site.method < length (methods_of set.classes)
