-- Which cells the shown items show.
use Rattle.std.proofs.Common.{◌≡◌, ℕ, ◌+◌, Bool, true, false, cond, ◌||◌, List, [], ◌∷◌, ◌++◌, ◌-◌, ◌≤◌, ◌<◌, map, subst, zero, suc, Option, Some, None, length, take, slice_get, replicate, refl, sym, ap, ◌∙◌, arith, append-nil, append_assoc, length-append, take_all}
use Rattle.std.proofs.lemmas.Slice.Eq.{bytes_eq-Decides}
use Rattle.std.proofs.lemmas.List.{length-replicate, take_more}
use Rattle.std.proofs.lemmas.List.Concat.{flat_map-append}
use Rattle.std.proofs.lemmas.Option.{slice_get_within, get_or_from_slice_get}
use Rattle.std.specs.List.{range_with_len}
use Rattle.std.specs.Option.{option_map}
use Rattle.std.specs.Str.{bytes_eq}
use Rattle.fp_base.specs.Names.{has_name}
use Rattle.fp_model.specs.ClassSet.{SetView}
use Rattle.fp_cells.specs.declared.kind.KindId.{KindId}
use Rattle.fp_cells.specs.declared.kind.KindId.TheVariants.{Declared, Inst, Reach, Callees, Assign, Immut, Timmut, Fresh, Leak, Escape, Purity}
use Rattle.fp_cells.specs.declared.kind.Entity.{Entity}
use Rattle.fp_cells.specs.Cells.{Cell, places_of, total_places}
use Rattle.fp_cells.specs.Entities.{IsEntityOf, kind_text, entity_text}
use Rattle.fp_model.specs.declared.class.Class.{Class}
use Rattle.fp_model.specs.declared.class.Method.{Method}
use Rattle.fp_model.specs.ClassSet.{fields_of, methods_of}
use Rattle.fp_cells.specs.declared.kind.Entity.TheVariants.{Class as OfClass, Field as OfField, Method as OfMethod}
use Rattle.fp_system.specs.Java.{arguments, class_cells, gives_reference, has_code, java_cells, is_concrete, is_no_interface, method_cells, has_text, is_shown, shown_flags, shown_from, shows}
use Rattle.fp_system.specs.Shows.{AreEntitiesOf, KnowsParts, cell_text, is_marked, marked_flags, marked_from}
use Rattle.fp_system.specs.Texts.{AreWithin, part_before}
use Rattle.fp_system.proofs.JavaCellLemmas.{false-if_not, or-both}

part-of_kind : (k : KindId) → part_before (kind_text k) ≡ kind_text k
part-of_kind Declared = refl
part-of_kind Inst = refl
part-of_kind Reach = refl
part-of_kind Callees = refl
part-of_kind Assign = refl
part-of_kind Immut = refl
part-of_kind Timmut = refl
part-of_kind Fresh = refl
part-of_kind Leak = refl
part-of_kind Escape = refl
part-of_kind Purity = refl

part-of_cell : (k : KindId) (e : List ℕ) → part_before (kind_text k ++ (61 ∷ e)) ≡ kind_text k
part-of_cell Declared e = refl
part-of_cell Inst e = refl
part-of_cell Reach e = refl
part-of_cell Callees e = refl
part-of_cell Assign e = refl
part-of_cell Immut e = refl
part-of_cell Timmut e = refl
part-of_cell Fresh e = refl
part-of_cell Leak e = refl
part-of_cell Escape e = refl
part-of_cell Purity e = refl

pub or-false : (b : Bool) → (b || false) ≡ b
or-false true = refl
or-false false = refl

module _ (set : SetView) (items parts : List (List ℕ)) (known : KnowsParts items parts) (kind : KindId) (entity : Entity) where
  abbrev the_cell : Cell
  the_cell = record { kind = kind; entity = entity; bits = 0 }

  no_item : (text : List ℕ) → part_before text ≡ kind_text kind → has_name parts (kind_text kind) ≡ false → has_name items text ≡ false
  no_item text cut none = false-if_not (has_name items text) (λ h. let k = known text h in let same = ap (has_name parts) cut in cc)

  -- no item begins with the kind
  pub unmarked : has_name parts (kind_text kind) ≡ false → is_marked set (has_name items) the_cell ≡ false
  unmarked none = or-both (has_name items (kind_text kind)) (has_name items (cell_text set the_cell)) (no_item (kind_text kind) (part-of_kind kind) none) (no_item (cell_text set the_cell) (part-of_cell kind (entity_text set entity)) none)

  pub unnamed_kind : has_name parts (kind_text kind) ≡ false → has_name items (cell_text set the_cell) ≡ false
  unnamed_kind none = no_item (cell_text set the_cell) (part-of_cell kind (entity_text set entity)) none

  -- no item names the cell
  pub unnamed : has_name items (cell_text set the_cell) ≡ false → (item : List ℕ) → has_name items item ≡ true → (b : Bool) → b ≡ (b || bytes_eq item (cell_text set the_cell))
  unnamed absent item there b =
      let other : bytes_eq item (cell_text set the_cell) ≡ false = false-if_not (bytes_eq item (cell_text set the_cell)) (λ e.
      let same = ap (has_name items) ((bytes_eq-Decides item (cell_text set the_cell)).0 e) in cc) in
      sym (ap (λ c. b || c) other ∙ or-false b)

-- no item names a cell whose entity has a longer text than each
pub too_long : (set : SetView) (items : List (List ℕ)) (most : ℕ) (kind : KindId) (entity : Entity) → AreWithin most items → most < length (entity_text set entity) → has_name items (cell_text set (record { kind = kind; entity = entity; bits = 0 })) ≡ false
too_long set items most kind entity within long =
    let whole = length-append (kind_text kind) (61 ∷ entity_text set entity) in
    false-if_not (has_name items (kind_text kind ++ (61 ∷ entity_text set entity))) (λ there. absurd (omega (arith, within (kind_text kind ++ (61 ∷ entity_text set entity)) there, whole, long)))

-- ---- shown is marked by the items

or-four : (a b c d : Bool) → ((a || b) || (c || d)) ≡ ((a || c) || (b || d))
or-four true b c d = refl
or-four false true true d = refl
or-four false true false d = refl
or-four false false c d = refl

pub is_shown-marked : (set : SetView) (show : List (List ℕ)) (cell : Cell) → is_shown set show cell ≡ is_marked set (has_text show) cell
is_shown-marked set [] cell = refl
is_shown-marked set (item ∷ show) cell =
    ap (λ b. shows set cell item || b) (is_shown-marked set show cell)
    ∙ or-four (bytes_eq item (kind_text cell.kind)) (bytes_eq item (cell_text set cell)) (has_text show (kind_text cell.kind)) (has_text show (cell_text set cell))

marked-same : (set : SetView) (has : List ℕ → Bool) (show : List (List ℕ)) (cell : Cell) → ((text : List ℕ) → has text ≡ has_text show text) → is_marked set has cell ≡ is_shown set show cell
marked-same set has show cell h =
    ap (λ b. b || has (cell_text set cell)) (h (kind_text cell.kind)) ∙ ap (λ b. has_text show (kind_text cell.kind) || b) (h (cell_text set cell)) ∙ sym (is_shown-marked set show cell)

pub flags-shown : (set : SetView) (has : List ℕ → Bool) (show : List (List ℕ)) (cells : List Cell) → ((text : List ℕ) → has text ≡ has_text show text) → marked_flags set has cells ≡ shown_flags set show cells
flags-shown set has show [] h = refl
flags-shown set has show (c ∷ cells) h =
    ap (λ b. replicate (places_of c.bits) b ++ marked_flags set has cells) (marked-same set has show c h)
    ∙ ap (λ v. replicate (places_of c.bits) (is_shown set show c) ++ v) (flags-shown set has show cells h)

pub firsts-shown : (set : SetView) (has : List ℕ → Bool) (show : List (List ℕ)) (first : ℕ) (cells : List Cell) → ((text : List ℕ) → has text ≡ has_text show text) → marked_from set has first cells ≡ shown_from set show first cells
firsts-shown set has show first [] h = refl
firsts-shown set has show first (c ∷ cells) h =
    ap (λ b. cond b (first ∷ []) [] ++ marked_from set has (first + places_of c.bits) cells) (marked-same set has show c h)
    ∙ ap (λ v. cond (is_shown set show c) (first ∷ []) [] ++ v) (firsts-shown set has show (first + places_of c.bits) cells h)

-- ---- one cell more

pub length-flags : (set : SetView) (has : List ℕ → Bool) (cells : List Cell) → length (marked_flags set has cells) ≡ total_places cells
length-flags set has [] = refl
length-flags set has (c ∷ cells) =
    let own : length (replicate (places_of c.bits) (is_marked set has c)) ≡ places_of c.bits = length-replicate (places_of c.bits) (is_marked set has c) in
    length-append (replicate (places_of c.bits) (is_marked set has c)) (marked_flags set has cells)
    ∙ ap (λ n. n + length (marked_flags set has cells)) own ∙ ap (λ n. places_of c.bits + n) (length-flags set has cells)

marked_from-push : (set : SetView) (has : List ℕ → Bool) (first : ℕ) (cells : List Cell) (cell : Cell) → marked_from set has first (cells ++ cell ∷ []) ≡ marked_from set has first cells ++ cond (is_marked set has cell) ((first + total_places cells) ∷ []) []
marked_from-push set has first [] cell =
    let here : first + 0 ≡ first = omega arith in
    append-nil (cond (is_marked set has cell) (first ∷ []) []) ∙ ap (λ n. cond (is_marked set has cell) (n ∷ []) []) (sym here)
marked_from-push set has first (c ∷ cells) cell =
    let along : (first + places_of c.bits) + total_places cells ≡ first + total_places (c ∷ cells) = omega arith in
    let own = cond (is_marked set has c) (first ∷ []) [] in
    ap (λ v. own ++ v) (marked_from-push set has (first + places_of c.bits) cells cell ∙ ap (λ n. marked_from set has (first + places_of c.bits) cells ++ cond (is_marked set has cell) (n ∷ []) []) along)
    ∙ sym (append_assoc own (marked_from set has (first + places_of c.bits) cells) (cond (is_marked set has cell) ((first + total_places (c ∷ cells)) ∷ []) []))

total_places-take : (cells : List Cell) (i : ℕ) → total_places (take i cells) ≤ total_places cells
total_places-take cells zero = omega arith
total_places-take [] (suc i) = omega arith
total_places-take (c ∷ cells) (suc i) = omega (arith, total_places-take cells i)

-- what stands after the cells so far
pub record ShownSoFar (set : SetView) (items : List (List ℕ)) (cells : List Cell) (flags : List Bool) (firsts : List ℕ) : Type 0 where
  pub flags_are : flags ≡ marked_flags set (has_name items) cells
  pub firsts_are : firsts ≡ marked_from set (has_name items) 0 cells

pub flags_below : (set : SetView) (items : List (List ℕ)) (cells : List Cell) (i : ℕ) (flags : List Bool) (firsts : List ℕ) → ShownSoFar set items (take i cells) flags firsts → length flags ≤ total_places cells
flags_below set items cells i flags firsts h =
    let all : length flags ≡ total_places (take i cells) = ap length h.flags_are ∙ length-flags set (has_name items) (take i cells) in
    omega (arith, all, total_places-take cells i)

-- the cell that was told
record WholeCell (o : Option Cell) (wanted : KindId × Entity × ℕ) : Type 0 where
  pub cell : Cell
  pub at : o ≡ Some cell
  pub told : ◌≡◌ {A = KindId × Entity × ℕ} (cell.kind, cell.entity, cell.bits) wanted

whole_cell : (o : Option Cell) (told : KindId × Entity × ℕ) → option_map (λ c. (c.kind, c.entity, c.bits)) o ≡ Some told → WholeCell o told
whole_cell None told h = absurd (cc)
whole_cell (Some c) told h = record { cell = c; at = refl; told = cc }

pub shown_step : (set : SetView) (items : List (List ℕ)) (cells : List Cell) (i : ℕ) (told : KindId × Entity × ℕ) (shown : Bool) (flags more_flags : List Bool) (firsts more_firsts : List ℕ) (end count : ℕ) →
    option_map (λ c. (c.kind, c.entity, c.bits)) (slice_get cells i) ≡ Some told →
    shown ≡ is_marked set (has_name items) (record { kind = told.0; entity = told.1; bits = 0 }) →
    count ≡ length flags → end ≡ count + places_of told.2 → more_flags ≡ take end flags ++ replicate (end - count) shown → more_firsts ≡ firsts ++ cond shown (count ∷ []) [] →
    ShownSoFar set items (take i cells) flags firsts → ShownSoFar set items (take (i + 1) cells) more_flags more_firsts
shown_step set items cells i told shown flags more_flags firsts more_firsts end count here marked counts ends resized pushed h =
    let r = whole_cell (slice_get cells i) told here in
    let has = has_name items in
    let longer : take (i + 1) cells ≡ take i cells ++ r.cell ∷ [] = take_more cells i r.cell (slice_get_within cells i r.cell r.at) ∙ ap (λ v. take i cells ++ v ∷ []) (get_or_from_slice_get cells i r.cell r.cell r.at) in
    let own : shown ≡ is_marked set has r.cell = marked ∙ ap (λ (t : KindId × Entity × ℕ). is_marked set has (record { kind = t.0; entity = t.1; bits = 0 })) (sym r.told) in
    let all : take end flags ≡ flags = take_all end flags (omega arith) in
    let n : end - count ≡ places_of r.cell.bits = ap (λ v. v - count) ends ∙ (let e : (count + places_of told.2) - count ≡ places_of told.2 = omega arith in e) ∙ ap (λ (t : KindId × Entity × ℕ). places_of t.2) (sym r.told) in
    let place : count ≡ 0 + total_places (take i cells) = omega (arith, counts, ap length h.flags_are, length-flags set has (take i cells)) in
    record {
      flags_are =
          resized ∙ ap (λ v. v ++ replicate (end - count) shown) (all ∙ h.flags_are)
          ∙ ap (λ k. marked_flags set has (take i cells) ++ replicate k shown) n
          ∙ ap (λ b. marked_flags set has (take i cells) ++ replicate (places_of r.cell.bits) b) own
          ∙ ap (λ v. marked_flags set has (take i cells) ++ v) (sym (append-nil (replicate (places_of r.cell.bits) (is_marked set has r.cell))))
          ∙ sym (flat_map-append (λ c. replicate (places_of c.bits) (is_marked set has c)) (take i cells) (r.cell ∷ []))
          ∙ ap (marked_flags set has) (sym longer);
      firsts_are =
          pushed ∙ ap (λ v. v ++ cond shown (count ∷ []) []) h.firsts_are
          ∙ ap (λ b. marked_from set has 0 (take i cells) ++ cond b (count ∷ []) []) own
          ∙ ap (λ k. marked_from set has 0 (take i cells) ++ cond (is_marked set has r.cell) (k ∷ []) []) place
          ∙ sym (marked_from-push set has 0 (take i cells) r.cell)
          ∙ ap (marked_from set has 0) (sym longer);
    }

-- ---- the entities of cells

pub entity_at : (set : SetView) (cells : List Cell) (i : ℕ) (told : KindId × Entity × ℕ) → AreEntitiesOf set cells → option_map (λ c. (c.kind, c.entity, c.bits)) (slice_get cells i) ≡ Some told → IsEntityOf set told.1
entity_at set [] i told h here = absurd (cc)
entity_at set (c ∷ cells) zero told h here =
    let r = whole_cell (Some c) told here in
    let same : c ≡ r.cell = let e = r.at in cc in
    subst (IsEntityOf set) (ap (λ (v : Cell). v.entity) same ∙ ap (λ (t : KindId × Entity × ℕ). t.1) r.told) h.0
entity_at set (c ∷ cells) (suc i) told h here = entity_at set cells i told h.1 here

entities-append : (set : SetView) (xs ys : List Cell) → AreEntitiesOf set xs → AreEntitiesOf set ys → AreEntitiesOf set (xs ++ ys)
entities-append set [] ys h k = k
entities-append set (c ∷ xs) ys h k = (h.0, entities-append set xs ys h.1 k)

class_entities : (set : SetView) (k : KindId) (bits : ℕ) (test : Class → Bool) (first : ℕ) (classes : List Class) → first + length classes ≤ length set.classes → AreEntitiesOf set (class_cells k bits test first classes)
class_entities set k bits test first [] le = tt
class_entities set k bits test first (c ∷ classes) le =
    let rest = class_entities set k bits test (first + 1) classes (omega arith) in
    let lt : first < length set.classes = omega arith in
    (elim (test c) as (λ b. AreEntitiesOf set (cond b (record { kind = k; entity = OfClass first; bits = bits } ∷ []) [] ++ class_cells k bits test (first + 1) classes)) [
      | true ↦ (lt, rest)
      | false ↦ rest
    ])

field_entities : (set : SetView) (k : KindId) (bits first n : ℕ) → first + n ≤ length (fields_of set.classes) → AreEntitiesOf set (map (λ id. record { kind = k; entity = OfField id; bits = bits }) (range_with_len first n))
field_entities set k bits first zero le = tt
field_entities set k bits first (suc n) le = (omega arith, field_entities set k bits (first + 1) n (omega arith))

method_entities : (set : SetView) (k : KindId) (bits : Method → ℕ) (test : Method → Bool) (first : ℕ) (methods : List Method) → first + length methods ≤ length (methods_of set.classes) → AreEntitiesOf set (method_cells k bits test first methods)
method_entities set k bits test first [] le = tt
method_entities set k bits test first (m ∷ methods) le =
    let rest = method_entities set k bits test (first + 1) methods (omega arith) in
    let lt : first < length (methods_of set.classes) = omega arith in
    (elim (test m) as (λ b. AreEntitiesOf set (cond b (record { kind = k; entity = OfMethod first; bits = bits m } ∷ []) [] ++ method_cells k bits test (first + 1) methods)) [
      | true ↦ (lt, rest)
      | false ↦ rest
    ])

pub java_entities : (set : SetView) (cells : List Cell) → cells ≡ java_cells set.classes → AreEntitiesOf set cells
java_entities set cells is =
    let whole : 0 + length set.classes ≤ length set.classes = omega arith in
    let methods : 0 + length (methods_of set.classes) ≤ length (methods_of set.classes) = omega arith in
    subst (AreEntitiesOf set) (sym is)
    (entities-append set _ _ (class_entities set Declared 1 (λ c. true) 0 set.classes whole)
    (entities-append set _ _ (class_entities set Inst 1 is_concrete 0 set.classes whole)
    (entities-append set _ _ (method_entities set Reach (λ m. 1) has_code 0 (methods_of set.classes) methods)
    (entities-append set _ _ (field_entities set Assign 1 0 (length (fields_of set.classes)) (omega arith))
    (entities-append set _ _ (class_entities set Immut 2 is_no_interface 0 set.classes whole)
    (entities-append set _ _ (class_entities set Timmut 2 (λ c. true) 0 set.classes whole)
    (entities-append set _ _ (method_entities set Fresh (λ m. 1) gives_reference 0 (methods_of set.classes) methods)
    (entities-append set _ _ (method_entities set Leak arguments (λ m. true) 0 (methods_of set.classes) methods)
    (method_entities set Purity (λ m. arguments m + 2) (λ m. true) 0 (methods_of set.classes) methods)))))))))

-- ---- the text of a cell

pub text_pieces : (name entity one two three four : List ℕ) → one ≡ [] → two ≡ one ++ name → three ≡ two ++ 61 ∷ [] → four ≡ three ++ entity → four ≡ name ++ (61 ∷ entity)
text_pieces name entity one two three four a b c d =
    d ∙ ap (λ v. v ++ entity) (c ∙ ap (λ v. v ++ 61 ∷ []) (b ∙ ap (λ v. v ++ name) a)) ∙ append_assoc name (61 ∷ []) entity
