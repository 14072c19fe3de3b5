-- The system of a run over a set of classes: its cells, the equations of the selected analyses, and what is shown.
use Rattle.std.specs.Prelude.{ℕ, ◌+◌, ◌-◌, ◌*◌, ◌^◌, ◌==◌, nat_lt, nat_le, Bool, true, false, ◌&&◌, ◌||◌, List, [], ◌∷◌, ◌++◌, length, map, replicate, codes, bit_and, slice_index, Option, Some, None, if◌then◌else◌}
use Rattle.std.specs.List.{list_any, flat_map, range_with_len}
use Rattle.std.specs.Option.{option_or, option_map}
use Rattle.std.specs.Str.{bytes_eq}
use Rattle.fp_model.specs.declared.class.Class.{Class}
use Rattle.fp_model.specs.declared.class.Method.{Method}
use Rattle.fp_model.specs.declared.kind.Kind.{Kind}
use Rattle.fp_model.specs.declared.kind.Kind.TheVariants as type
use Rattle.fp_model.specs.ClassSet.{SetView, fields_of, methods_of}
use Rattle.fp_model.specs.Flags.{is_static}
use Rattle.fp_cells.specs.declared.kind.KindId.{KindId}
use Rattle.fp_cells.specs.declared.kind.KindId.TheVariants as kind
use Rattle.fp_cells.specs.declared.kind.Entity.TheVariants as entity
use Rattle.fp_cells.specs.Cells.{Cell, places_of, total_places}
use Rattle.fp_cells.specs.Entities.{kind_text, entity_text}
use Rattle.fp_eqs.specs.Equations.{Equations}
use Rattle.fp_eqs.specs.Solved.{flag_at}
pub use Rattle.fp_facts.specs.Hierarchy.{is_concrete}
pub use Rattle.fp_facts.specs.Resolution.{has_code}
use Rattle.fp_system.specs.ClassEquations.{class_tasks, declared_tasks}
use Rattle.fp_system.specs.declared.declared.ClassTask.{ClassTask}
use Rattle.fp_system.specs.Limits.{most_places}

-- the analysis that computes a kind
abbrev pub analysis_of : KindId → List ℕ
analysis_of kind.Declared = codes "declared"
analysis_of kind.Inst = codes "rta"
analysis_of kind.Reach = codes "rta"
analysis_of kind.Callees = codes "rta"
analysis_of kind.Assign = codes "assign"
analysis_of kind.Immut = codes "immut"
analysis_of kind.Timmut = codes "immut"
analysis_of kind.Fresh = codes "fresh"
analysis_of kind.Leak = codes "escape"
analysis_of kind.Escape = codes "escape"
analysis_of kind.Purity = codes "purity"

-- the analyses that there are so far
abbrev pub is_analysis : List ℕ → Bool
is_analysis name = bytes_eq name (codes "declared")

abbrev pub has_text : List (List ℕ) → List ℕ → Bool
has_text texts text = list_any (λ other. bytes_eq other text) texts

-- the kind's analysis is selected
abbrev pub is_selected : List (List ℕ) → KindId → Bool
is_selected analyses k = has_text analyses (analysis_of k)

-- the class has none of these access flags (JVMS SE 21 section 4.1)
abbrev pub lacks : ℕ → Class → Bool
lacks flags c = bit_and c.flags flags == 0

-- it is no interface: no ACC_INTERFACE
abbrev pub is_no_interface : Class → Bool
is_no_interface c = lacks 0x0200 c

-- a cell of the kind for each class that passes the test, in the order of the classes, the first of which is `first`
abbrev pub class_cells : KindId → ℕ → (Class → Bool) → (first : ℕ) → List Class → List Cell
class_cells k bits test first [] = []
class_cells k bits test first (c ∷ classes) =
    (if test c then record { kind = k; entity = entity.Class first; bits = bits } ∷ [] else []) ++ class_cells k bits test (first + 1) classes

-- a cell of the kind for each field
abbrev pub field_cells : KindId → ℕ → List Class → List Cell
field_cells k bits classes = map (λ id. record { kind = k; entity = entity.Field id; bits = bits }) (range_with_len 0 (length (fields_of classes)))

-- a cell of the kind for each method that passes the test, in the order of the methods, the first of which is `first`
abbrev pub method_cells : KindId → (Method → ℕ) → (Method → Bool) → (first : ℕ) → List Method → List Cell
method_cells k bits test first [] = []
method_cells k bits test first (m ∷ methods) =
    (if test m then record { kind = k; entity = entity.Method first; bits = bits m } ∷ [] else []) ++ method_cells k bits test (first + 1) methods

-- a type whose values are references
abbrev pub is_reference : Option Kind → Bool
is_reference (Some (type.Class name)) = true
is_reference (Some (type.Array dims element)) = true
is_reference _ = false

-- it has code, and returns a reference
abbrev pub gives_reference : Method → Bool
gives_reference m = has_code m && is_reference m.kinds.result

-- how many arguments it has, the receiver of an instance method among them
abbrev pub arguments : Method → ℕ
arguments m = length m.kinds.args + (if is_static m.flags then 0 else 1)

-- the cells of the methods that can be called
abbrev pub reach_cells : List Class → List Cell
reach_cells classes = method_cells kind.Reach (λ m. 1) has_code 0 (methods_of classes)

-- the cells of a set, kind by kind; the kinds of sites have none so far
abbrev pub java_cells : List Class → List Cell
java_cells classes =
    class_cells kind.Declared 1 (λ c. true) 0 classes
    ++ (class_cells kind.Inst 1 is_concrete 0 classes
    ++ (reach_cells classes
    ++ (field_cells kind.Assign 1 classes
    ++ (class_cells kind.Immut 2 is_no_interface 0 classes
    ++ (class_cells kind.Timmut 2 (λ c. true) 0 classes
    ++ (method_cells kind.Fresh (λ m. 1) gives_reference 0 (methods_of classes)
    ++ (method_cells kind.Leak arguments (λ m. true) 0 (methods_of classes)
    ++ method_cells kind.Purity (λ m. arguments m + 2) (λ m. true) 0 (methods_of classes))))))))

-- the word of a place of a cell that has so many bits from that place on, with every bit set
abbrev pub full_word : ℕ → ℕ
full_word bits = if nat_le 64 bits then 2 ^ 64 - 1 else 2 ^ bits - 1

-- the words that a cell starts with: every bit of its kind, the fallback, where the kind's analysis isn't selected, else none
abbrev pub fixed_of : List (List ℕ) → Cell → List ℕ
fixed_of analyses cell =
    map (λ i. if is_selected analyses cell.kind then 0 else full_word (cell.bits - 64 * i)) (range_with_len 0 (places_of cell.bits))

abbrev pub fixed_words : List (List ℕ) → List Cell → List ℕ
fixed_words analyses cells = flat_map (fixed_of analyses) cells

-- a shown item is a kind, which shows each of its cells, or `kind=entity`, which shows that cell
abbrev pub shows : SetView → Cell → List ℕ → Bool
shows set cell item = bytes_eq item (kind_text cell.kind) || bytes_eq item (kind_text cell.kind ++ (61 ∷ entity_text set cell.entity))

abbrev pub is_shown : SetView → List (List ℕ) → Cell → Bool
is_shown set show cell = list_any (shows set cell) show

-- whether each place is of a shown cell
abbrev pub shown_flags : SetView → List (List ℕ) → List Cell → List Bool
shown_flags set show cells = flat_map (λ cell. replicate (places_of cell.bits) (is_shown set show cell)) cells

-- the first places of the shown cells, ascending, where the first of the cells begins at `first`
abbrev pub shown_from : SetView → List (List ℕ) → ℕ → List Cell → List ℕ
shown_from set show first [] = []
shown_from set show first (cell ∷ cells) =
    (if is_shown set show cell then first ∷ [] else []) ++ shown_from set show (first + places_of cell.bits) cells

-- the tasks of the selected analyses
abbrev pub selected_tasks : SetView → List (List ℕ) → List ClassTask
selected_tasks set analyses = if is_selected analyses kind.Declared then class_tasks set (java_cells set.classes) else []

-- the equations over tasks, starting words and shown places
abbrev pub equations_of : List ClassTask → List ℕ → List Bool → Equations
equations_of tasks fixed shown = record {
  places = length fixed;
  tasks = (declared_tasks tasks).count;
  task = (declared_tasks tasks).task;
  fixed = slice_index fixed;
  shown = flag_at shown;
}

-- the system of a set, the selected analyses and the shown items
abbrev pub java_equations : SetView → List (List ℕ) → List (List ℕ) → Equations
java_equations set analyses show =
    let cells = java_cells set.classes in
    equations_of (selected_tasks set analyses) (fixed_words analyses cells) (shown_flags set show cells)

-- every kind
abbrev pub kinds : List KindId
kinds = kind.Declared ∷ kind.Inst ∷ kind.Reach ∷ kind.Callees ∷ kind.Assign ∷ kind.Immut ∷ kind.Timmut ∷ kind.Fresh ∷ kind.Leak ∷ kind.Escape ∷ kind.Purity ∷ []

-- the text is the name of a kind
abbrev pub is_kind_text : List ℕ → Bool
is_kind_text text = list_any (λ k. bytes_eq text (kind_text k)) kinds

-- the item is a kind, or names a cell
abbrev pub is_item : SetView → List ℕ → Bool
is_item set item = is_kind_text item || list_any (λ cell. shows set cell item) (java_cells set.classes)

-- the text names a method with code
abbrev pub is_root : SetView → List ℕ → Bool
is_root set text = list_any (λ cell. bytes_eq text (entity_text set cell.entity)) (reach_cells set.classes)

-- the first text that fails a test
abbrev pub first_failing : (List ℕ → Bool) → List (List ℕ) → Option (List ℕ)
first_failing test [] = None
first_failing test (text ∷ texts) = if test text then first_failing test texts else Some text

-- why there is no system: an analysis that isn't there, a root that is no method with code, a shown item that is neither a kind
-- nor a cell, too many places
pub data SystemRefusal : Type 0 where
  UnknownAnalysis : List ℕ → SystemRefusal
  UnknownRoot : List ℕ → SystemRefusal
  UnknownItem : List ℕ → SystemRefusal
  TooManyPlaces : SystemRefusal

-- there are too many places
abbrev pub places_refusal : ℕ → Option SystemRefusal
places_refusal places = if nat_lt most_places places then Some TooManyPlaces else None

-- the first of these
unfoldable pub system_refusal : SetView → (analyses roots show : List (List ℕ)) → Option SystemRefusal
system_refusal set analyses roots show =
    option_or (option_map UnknownAnalysis (first_failing is_analysis analyses))
    (option_or (option_map UnknownRoot (first_failing (is_root set) roots))
    (option_or (option_map UnknownItem (first_failing (is_item set) show))
    (places_refusal (total_places (java_cells set.classes)))))
