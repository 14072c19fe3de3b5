-- The system of a set, what its report may be made of, and what its solution says.
use Rattle.std.proofs.Common.{◌≡◌, ◌≢◌, ℕ, zero, suc, ◌+◌, ◌-◌, ◌^◌, ◌<◌, ◌≤◌, ◌==◌, Bool, true, false, cond, nat_lt, Option, List, [], ◌∷◌, ◌++◌, length, map, All, Some, None, ⊎_elim, slice_index, refl, sym, ap, ap₂, subst, ◌∙◌, length-append, arith}
use Rattle.std.specs.List.{range_with_len}
use Rattle.std.specs.Option.{option_map, option_or}
use Rattle.std.proofs.lemmas.Bool.{cases_Bool, cond_both, cond-true, cond-false, eq-eqb, ltb-false}
use Rattle.std.proofs.lemmas.List.Elements.{All-nil, All-cons, All-head, All-tail, All-append, All-weaker}
use Rattle.std.proofs.lemmas.List.FromFn.{length-map-range_with_len}
use Rattle.std.proofs.lemmas.Option.{none-some}
use Rattle.fp_model.specs.declared.class.Class.{Class}
use Rattle.fp_model.specs.declared.class.Method.{Method}
use Rattle.fp_model.specs.ClassSet.{SetView, fields_of, methods_of}
use Rattle.fp_cells.specs.declared.kind.KindId.{KindId}
use Rattle.fp_cells.specs.declared.kind.KindId.TheVariants as kind
use Rattle.fp_cells.specs.declared.kind.Entity.{Entity}
use Rattle.fp_cells.specs.declared.kind.Entity.TheVariants as entity
use Rattle.fp_cells.specs.Cells.{Cell, cell_from, places_of, total_places}
use Rattle.fp_cells.specs.Entities.{IsEntityOf}
use Rattle.fp_eqs.specs.declared.solved.Solved.{Solved}
use Rattle.fp_eqs.specs.Equations.{Equations}
use Rattle.fp_eqs.specs.Solution.{solution}
use Rattle.fp_eqs.specs.Demand.{demand}
use Rattle.fp_eqs.specs.Solved.{IsSolved, flag_at}
use Rattle.fp_system.specs.Limits.{most_places}
use Rattle.fp_system.specs.Java.SystemRefusal.{UnknownAnalysis, UnknownRoot, UnknownItem, TooManyPlaces}
use Rattle.fp_system.specs.Java.{arguments, class_cells, fixed_of, first_failing, fixed_words, gives_reference, has_code, is_analysis, is_concrete, is_item, is_no_interface, is_root, is_shown, java_cells, java_equations, method_cells, places_refusal, shown_from, system_refusal}
use Rattle.fp_report.specs.Report.{report, IsCellOf, IsReportable}
use Rattle.fp_words.specs.Words.{RunAsked}
use Rattle.fp_top.specs.Outcome.{java_report}

-- ---- cells

class_cells-from : (P : Cell → Type 0) (k : KindId) (bits : ℕ) (test : Class → Bool) (n first : ℕ) (classes : List Class) → first + length classes ≤ n → ((id : ℕ) → id < n → P (record { kind = k; entity = entity.Class id; bits = bits }))
    → All P (class_cells k bits test first classes)
class_cells-from P k bits test n first [] fits holds = All-nil P
class_cells-from P k bits test n first (c ∷ cs) fits holds =
    let cell : Cell = record { kind = k; entity = entity.Class first; bits = bits } in
    let rest = class_cells k bits test (first + 1) cs in
    let others : All P rest = class_cells-from P k bits test n (first + 1) cs (omega (arith, fits)) holds in
    cond_both (test c) (cell ∷ []) [] (λ l. All P (l ++ rest))
    (λ _. All-cons P cell rest (holds first (omega (arith, fits))) others)
    (λ _. others)

class_cells-all : (P : Cell → Type 0) (k : KindId) (bits : ℕ) (test : Class → Bool) (classes : List Class) → ((id : ℕ) → id < length classes → P (record { kind = k; entity = entity.Class id; bits = bits })) → All P (class_cells k bits test 0 classes)
class_cells-all P k bits test classes holds = class_cells-from P k bits test (length classes) 0 classes (omega arith) holds

field_cells-from : (P : Cell → Type 0) (k : KindId) (bits n first count : ℕ) → first + count ≤ n → ((id : ℕ) → id < n → P (record { kind = k; entity = entity.Field id; bits = bits }))
    → All P (map (λ (id : ℕ). record { kind = k; entity = entity.Field id; bits = bits }) (range_with_len first count))
field_cells-from P k bits n first zero fits holds = All-nil P
field_cells-from P k bits n first (suc count) fits holds =
    All-cons P _ _ (holds first (omega (arith, fits))) (field_cells-from P k bits n (first + 1) count (omega (arith, fits)) holds)

method_cells-from : (P : Cell → Type 0) (k : KindId) (bits : Method → ℕ) (test : Method → Bool) (n first : ℕ) (methods : List Method) → first + length methods ≤ n → ((id : ℕ) (m : Method) → id < n → P (record { kind = k; entity = entity.Method id; bits = bits m }))
    → All P (method_cells k bits test first methods)
method_cells-from P k bits test n first [] fits holds = All-nil P
method_cells-from P k bits test n first (m ∷ ms) fits holds =
    let cell : Cell = record { kind = k; entity = entity.Method first; bits = bits m } in
    let rest = method_cells k bits test (first + 1) ms in
    let others : All P rest = method_cells-from P k bits test n (first + 1) ms (omega (arith, fits)) holds in
    cond_both (test m) (cell ∷ []) [] (λ l. All P (l ++ rest))
    (λ _. All-cons P cell rest (holds first m (omega (arith, fits))) others)
    (λ _. others)

-- as many words as its kind has, or any number where it has a bit for each argument
abbrev HasWords : KindId → ℕ → Type 0
HasWords kind.Callees words = ⊥
HasWords kind.Leak words = 1 ≤ words
HasWords kind.Purity words = 1 ≤ words
HasWords _ words = words ≡ 1

-- a cell of an entity of the set
record IsOneOf (set : SetView) (cell : Cell) : Type 0 where
  of_set : IsEntityOf set cell.entity
  words : HasWords cell.kind (places_of cell.bits)

some_words : (bits : ℕ) → 1 ≤ places_of bits
some_words bits = omega arith

ones-of : (set : SetView) → All (IsOneOf set) (java_cells set.classes)
ones-of set =
    let P = IsOneOf set in
    let methods = methods_of set.classes in
    let class_one : (k : KindId) (bits : ℕ) → HasWords k (places_of bits) → (id : ℕ) → id < length set.classes → P (record { kind = k; entity = entity.Class id; bits = bits }) = λ k bits words id lt. record { of_set = lt; words = words } in
    let method_one : (k : KindId) (bits : Method → ℕ) → ((m : Method) → HasWords k (places_of (bits m))) → (id : ℕ) (m : Method) → id < length methods → P (record { kind = k; entity = entity.Method id; bits = bits m }) = λ k bits words id m lt. record { of_set = lt; words = words m } in
    All-append P _ _ (class_cells-all P kind.Declared 1 (λ c. true) set.classes (class_one kind.Declared 1 refl))
    (All-append P _ _ (class_cells-all P kind.Inst 1 is_concrete set.classes (class_one kind.Inst 1 refl))
    (All-append P _ _ (method_cells-from P kind.Reach (λ m. 1) has_code (length methods) 0 methods (omega arith) (method_one kind.Reach (λ m. 1) (λ m. refl)))
    (All-append P _ _ (field_cells-from P kind.Assign 1 (length (fields_of set.classes)) 0 (length (fields_of set.classes)) (omega arith) (λ id lt. record { of_set = lt; words = refl }))
    (All-append P _ _ (class_cells-all P kind.Immut 2 is_no_interface set.classes (class_one kind.Immut 2 refl))
    (All-append P _ _ (class_cells-all P kind.Timmut 2 (λ c. true) set.classes (class_one kind.Timmut 2 refl))
    (All-append P _ _ (method_cells-from P kind.Fresh (λ m. 1) gives_reference (length methods) 0 methods (omega arith) (method_one kind.Fresh (λ m. 1) (λ m. refl)))
    (All-append P _ _ (method_cells-from P kind.Leak arguments (λ m. true) (length methods) 0 methods (omega arith) (method_one kind.Leak arguments (λ m. some_words (arguments m))))
    (method_cells-from P kind.Purity (λ m. arguments m + 2) (λ m. true) (length methods) 0 methods (omega arith) (method_one kind.Purity (λ m. arguments m + 2) (λ m. some_words (arguments m + 2)))))))))))

wide_enough : (words : ℕ) → words ≤ most_places → words ≤ places_of (2 ^ 32 - 1)
wide_enough words few = omega (arith, few)

-- a report may be made of a cell that has few places
cell_is : (set : SetView) (k : KindId) (e : Entity) (bits : ℕ) → IsEntityOf set e → HasWords k (places_of bits) → places_of bits ≤ most_places → IsCellOf set [] (record { kind = k; entity = e; bits = bits })
cell_is set kind.Declared e bits in_set words few = record { of_set = in_set; methods = All-nil _; places = (words, refl) }
cell_is set kind.Inst e bits in_set words few = record { of_set = in_set; methods = All-nil _; places = (words, refl) }
cell_is set kind.Reach e bits in_set words few = record { of_set = in_set; methods = All-nil _; places = (words, refl) }
cell_is set kind.Callees e bits in_set words few = absurd words
cell_is set kind.Assign e bits in_set words few = record { of_set = in_set; methods = All-nil _; places = (words, refl) }
cell_is set kind.Immut e bits in_set words few = record { of_set = in_set; methods = All-nil _; places = (words, refl) }
cell_is set kind.Timmut e bits in_set words few = record { of_set = in_set; methods = All-nil _; places = (words, refl) }
cell_is set kind.Fresh e bits in_set words few = record { of_set = in_set; methods = All-nil _; places = (words, refl) }
cell_is set kind.Leak e bits in_set words few = record { of_set = in_set; methods = All-nil _; places = (words, wide_enough (places_of bits) few, refl) }
cell_is set kind.Escape e bits in_set words few = record { of_set = in_set; methods = All-nil _; places = (words, refl) }
cell_is set kind.Purity e bits in_set words few = record { of_set = in_set; methods = All-nil _; places = (words, wide_enough (places_of bits) few, refl) }

cells-are : (set : SetView) (cells : List Cell) → All (IsOneOf set) cells → total_places cells ≤ most_places → All (IsCellOf set []) cells
cells-are set [] ones few = All-nil (IsCellOf set [])
cells-are set (cell ∷ cells) ones few =
    let one = All-head (IsOneOf set) cell cells ones in
    All-cons (IsCellOf set []) cell cells (cell_is set cell.kind cell.entity cell.bits one.of_set one.words (omega (arith, few)))
    (cells-are set cells (All-tail (IsOneOf set) cell cells ones) (omega (arith, few)))

-- ---- the places of a system that is not refused

last_none : {X : Type 0} (a b : Option X) → option_or a b ≡ None → b ≡ None
last_none None b is = is
last_none (Some x) b is = absurd (none-some x (sym is))

none_too_many : (many : Bool) → cond many (Some TooManyPlaces) None ≡ None → many ≡ false
none_too_many true is = absurd (none-some TooManyPlaces (sym is))
none_too_many false is = refl

few_places : (set : SetView) (analyses roots show : List (List ℕ)) → system_refusal set analyses roots show ≡ None → total_places (java_cells set.classes) ≤ most_places
unfolding system_refusal
few_places set analyses roots show is =
    let unknown_analysis = option_map UnknownAnalysis (first_failing is_analysis analyses) in
    let unknown_root = option_map UnknownRoot (first_failing (is_root set) roots) in
    let unknown_item = option_map UnknownItem (first_failing (is_item set) show) in
    let many = places_refusal (total_places (java_cells set.classes)) in
    let places : many ≡ None = last_none unknown_item many (last_none unknown_root (option_or unknown_item many) (last_none unknown_analysis (option_or unknown_root (option_or unknown_item many)) is)) in
    ltb-false most_places (total_places (java_cells set.classes)) (none_too_many (nat_lt most_places (total_places (java_cells set.classes))) places)

-- ---- shown places

begins-here : (cell : Cell) (cells : List Cell) (first : ℕ) → cell_from (cell ∷ cells) first first ≢ None
begins-here cell cells first none =
    none-some cell (sym none ∙ cond-true (first == first) (Some cell) (cell_from cells (first + places_of cell.bits) first) (eq-eqb first first refl))

begins-later : (cell : Cell) (cells : List Cell) (first p : ℕ) → cell_from cells (first + places_of cell.bits) p ≢ None → cell_from (cell ∷ cells) first p ≢ None
begins-later cell cells first p there none =
    ⊎_elim
    (λ here. none-some cell (sym none ∙ cond-true (first == p) (Some cell) (cell_from cells (first + places_of cell.bits) p) here))
    (λ later. there (sym (cond-false (first == p) (Some cell) (cell_from cells (first + places_of cell.bits) p) later) ∙ none))
    (cases_Bool (first == p))

shown-begin : (set : SetView) (show : List (List ℕ)) (cells : List Cell) (first : ℕ) → All (λ p. cell_from cells first p ≢ None) (shown_from set show first cells)
shown-begin set show [] first = All-nil _
shown-begin set show (cell ∷ cells) first =
    let P : ℕ → Type 0 = λ p. cell_from (cell ∷ cells) first p ≢ None in
    let rest = shown_from set show (first + places_of cell.bits) cells in
    let others : All P rest = All-weaker (λ p. cell_from cells (first + places_of cell.bits) p ≢ None) P (λ p there. begins-later cell cells first p there) rest (shown-begin set show cells (first + places_of cell.bits)) in
    cond_both (is_shown set show cell) (first ∷ []) [] (λ l. All P (l ++ rest))
    (λ _. All-cons P first rest (begins-here cell cells first) others)
    (λ _. others)

-- ---- the number of places

words-length : (analyses : List (List ℕ)) (cells : List Cell) → length (fixed_words analyses cells) ≡ total_places cells
words-length analyses [] = refl
words-length analyses (cell ∷ cells) =
    length-append (fixed_of analyses cell) (fixed_words analyses cells)
    ∙ ap₂ (λ (a b : ℕ). a + b) (length-map-range_with_len _ 0 (places_of cell.bits)) (words-length analyses cells)

-- ---- a solved system

-- a report may be made of it
pub reportable : (set : SetView) (asked : RunAsked) (cells : List Cell) (system : Equations) (shown : List ℕ) (solved : Solved) → system_refusal set asked.analyses asked.roots asked.show ≡ None → cells ≡ java_cells set.classes → system ≡ java_equations set asked.analyses asked.show
    → shown ≡ shown_from set asked.show 0 (java_cells set.classes) → IsSolved system solved → IsReportable set cells [] shown (length solved.values) (length solved.wanted)
reportable set asked cells system shown solved accepted cells_are system_is shown_are is =
    let places : system.places ≡ total_places cells = ap (λ (e : Equations). e.places) system_is ∙ words-length asked.analyses (java_cells set.classes) ∙ ap total_places (sym cells_are) in
    record {
      of_set = subst (λ (cs : List Cell). All (IsCellOf set []) cs) (sym cells_are)
          (cells-are set (java_cells set.classes) (ones-of set) (few_places set asked.analyses asked.roots asked.show accepted));
      first_places = rw (shown_are, cells_are) (shown-begin set asked.show (java_cells set.classes) 0);
      value_count = is.value_count ∙ places;
      mark_count = is.wanted_count ∙ places;
    }

-- and it is that of the least solution
pub solved-report : (set : SetView) (asked : RunAsked) (cells : List Cell) (system : Equations) (shown : List ℕ) (solved : Solved) → cells ≡ java_cells set.classes → system ≡ java_equations set asked.analyses asked.show
    → shown ≡ shown_from set asked.show 0 (java_cells set.classes) → IsSolved system solved → slice_index solved.values ≡ solution system
    → java_report set asked ≡ report set cells [] shown (slice_index solved.values) (flag_at solved.wanted)
solved-report set asked cells system shown solved cells_are system_is shown_are is values_are =
    let e = java_equations set asked.analyses asked.show in
    let values : slice_index solved.values ≡ solution e = values_are ∙ ap (λ (x : Equations). solution x) system_is in
    let wanted : flag_at solved.wanted ≡ demand e = (λ i p. is.wanted p i) ∙ ap (λ (x : Equations). demand x) system_is in
    sym (
    ap (λ (cs : List Cell). report set cs [] shown (slice_index solved.values) (flag_at solved.wanted)) cells_are
    ∙ ap (λ (ps : List ℕ). report set (java_cells set.classes) [] ps (slice_index solved.values) (flag_at solved.wanted)) shown_are
    ∙ ap₂ (λ (v : ℕ → ℕ) (w : ℕ → Bool). report set (java_cells set.classes) [] (shown_from set asked.show 0 (java_cells set.classes)) v w) values wanted)
