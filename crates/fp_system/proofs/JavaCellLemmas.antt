-- The cells of a set, one after another.
use Rattle.std.proofs.Common.{◌≡◌, ◌==◌, ℕ, zero, suc, ◌+◌, ◌≤◌, ◌<◌, Bool, true, false, cond, ◌&&◌, ◌||◌, List, [], ◌∷◌, ◌++◌, Some, length, map, take, slice_get, refl, sym, ap, subst, ◌∙◌, arith, rules, take_all, append-nil, append_assoc}
use denote.Enum.Bare.{same_true}
use Rattle.std.proofs.lemmas.List.{take_more}
use Rattle.std.proofs.lemmas.List.Folds.{list_any-append}
use Rattle.std.proofs.lemmas.List.FromFn.{map-range_with_len_more}
use Rattle.std.proofs.lemmas.Option.{slice_get_within, get_or_from_slice_get}
use Rattle.std.specs.Int.Bits.{and_zero_r}
use Rattle.std.specs.List.{range_with_len}
use Rattle.fp_model.specs.declared.class.Class.{Class}
use Rattle.fp_cells.specs.declared.kind.KindId.{KindId}
use Rattle.fp_cells.specs.declared.kind.Entity.{Entity}
use Rattle.fp_cells.specs.declared.kind.Entity.TheVariants.{Class as OfClass, Field as OfField}
use Rattle.fp_cells.specs.contracts.kind.KindId.{the_type}
use Rattle.fp_cells.specs.contracts.kind.KindIdPartialEq.TheImpl.{ghosts as kinds}
use Rattle.fp_cells.specs.contracts.kind.EntityPartialEq.TheImpl.{ghosts as entities}
use Rattle.fp_cells.specs.Cells.{Cell, has_cell, is_cell_of}
use Rattle.fp_system.specs.Java.{class_cells, field_cells, lacks}
use Rattle.fp_system.specs.Kinds.{AreBefore, rank}

pub and-false : (a b : Bool) → b ≡ false → (a && b) ≡ false
and-false true b h = h
and-false false b h = refl

pub false-if_not : (b : Bool) → (b ≡ true → ⊥) → b ≡ false
false-if_not true h = absurd (h refl)
false-if_not false h = refl

pub or-both : (a b : Bool) → a ≡ false → b ≡ false → (a || b) ≡ false
or-both true b h k = h
or-both false b h k = k

-- ---- the order of the kinds

same_kind : (a b : KindId) → kinds.eq a b ≡ true → a ≡ b
same_kind a b h = same_true the_type (search rules) a b h

pub before-more : (n m : ℕ) (cells : List Cell) → n ≤ m → AreBefore n cells → AreBefore m cells
before-more n m [] le h = tt
before-more n m (c ∷ cells) le h = (omega (arith, h.0), before-more n m cells le h.1)

pub before-append : (n : ℕ) (xs ys : List Cell) → AreBefore n xs → AreBefore n ys → AreBefore n (xs ++ ys)
before-append n [] ys h k = k
before-append n (c ∷ xs) ys h k = (h.0, before-append n xs ys h.1 k)

-- none of the cells is of the kind
pub before-absent : (kind : KindId) (entity : Entity) (cells : List Cell) → AreBefore (rank kind) cells → has_cell cells kind entity ≡ false
before-absent kind entity [] h = refl
before-absent kind entity (c ∷ cells) h =
    let other : kinds.eq kind c.kind ≡ false = false-if_not (kinds.eq kind c.kind) (λ e. let same = ap rank (same_kind kind c.kind e) in absurd (omega (arith, h.0, same))) in
    or-both (is_cell_of kind entity c) (has_cell cells kind entity) (ap (λ b. b && entities.eq entity c.entity) other) (before-absent kind entity cells h.1)

pub absent_in_both : (kind : KindId) (entity : Entity) (xs ys : List Cell) → AreBefore (rank kind) xs → has_cell ys kind entity ≡ false → has_cell (xs ++ ys) kind entity ≡ false
absent_in_both kind entity xs ys h k =
    list_any-append (is_cell_of kind entity) xs ys ∙ or-both (has_cell xs kind entity) (has_cell ys kind entity) (before-absent kind entity xs h) k

-- the cells of a kind come before those of the next one
pub order_kept : (kind : KindId) (old now more : List Cell) → now ≡ old ++ more → AreBefore (rank kind) old → AreBefore (rank kind + 1) more → AreBefore (rank kind + 1) now
order_kept kind old now more is h k = subst (AreBefore (rank kind + 1)) (sym is) (before-append (rank kind + 1) old more (before-more (rank kind) (rank kind + 1) old (omega arith) h) k)

-- ---- a cell for each class

pub same_class : (a b : ℕ) → entities.eq (OfClass a) (OfClass b) ≡ true → a ≡ b
same_class a b h = search rules

same_field : (a b : ℕ) → entities.eq (OfField a) (OfField b) ≡ true → a ≡ b
same_field a b h = grind arith

classes_below : (k : KindId) (bits : ℕ) (test : Class → Bool) (classes : List Class) (first id : ℕ) → first + length classes ≤ id → has_cell (class_cells k bits test first classes) k (OfClass id) ≡ false
classes_below k bits test [] first id h = refl
classes_below k bits test (c ∷ classes) first id h =
    let rest = classes_below k bits test classes (first + 1) id (omega arith) in
    (elim (test c) as (λ b. has_cell (cond b (record { kind = k; entity = OfClass first; bits = bits } ∷ []) [] ++ class_cells k bits test (first + 1) classes) k (OfClass id) ≡ false) [
      | true ↦ or-both (kinds.eq k k && entities.eq (OfClass id) (OfClass first)) _ (and-false (kinds.eq k k) (entities.eq (OfClass id) (OfClass first)) (false-if_not (entities.eq (OfClass id) (OfClass first)) (λ e. let same = same_class id first e in absurd (omega arith)))) rest
      | false ↦ rest
    ])

class_cells-push : (k : KindId) (bits : ℕ) (test : Class → Bool) (classes : List Class) (first : ℕ) (c : Class) → class_cells k bits test first (classes ++ c ∷ []) ≡ class_cells k bits test first classes ++ cond (test c) (record { kind = k; entity = OfClass (first + length classes); bits = bits } ∷ []) []
class_cells-push k bits test [] first c =
    let here : first + 0 ≡ first = omega arith in
    append-nil (cond (test c) (record { kind = k; entity = OfClass first; bits = bits } ∷ []) []) ∙ ap (λ n. cond (test c) (record { kind = k; entity = OfClass n; bits = bits } ∷ []) []) (sym here)
class_cells-push k bits test (d ∷ classes) first c =
    let along : (first + 1) + length classes ≡ first + length (d ∷ classes) = omega arith in
    let own = cond (test d) (record { kind = k; entity = OfClass first; bits = bits } ∷ []) [] in
    ap (λ v. own ++ v) (class_cells-push k bits test classes (first + 1) c ∙ ap (λ n. class_cells k bits test (first + 1) classes ++ cond (test c) (record { kind = k; entity = OfClass n; bits = bits } ∷ []) []) along)
    ∙ sym (append_assoc own (class_cells k bits test (first + 1) classes) (cond (test c) (record { kind = k; entity = OfClass (first + length (d ∷ classes)); bits = bits } ∷ []) []))

pub length-take : {A : Type 0} (i : ℕ) (xs : List A) → i ≤ length xs → length (take i xs) ≡ i
length-take zero xs h = refl
length-take (suc i) [] h = absurd (omega arith)
length-take (suc i) (x ∷ xs) h = ap suc (length-take i xs (omega arith))

module _ (k : KindId) (bits : ℕ) (test : Class → Bool) (classes : List Class) (i : ℕ) (c : Class) (at : slice_get classes i ≡ Some c) (old now : List Cell) (is : now ≡ old ++ class_cells k bits test 0 (take i classes)) where
  within : i < length classes
  within = slice_get_within classes i c at

  pub class_absent : AreBefore (rank k) old → has_cell now k (OfClass i) ≡ false
  class_absent new =
      ap (λ v. has_cell v k (OfClass i)) is
      ∙ absent_in_both k (OfClass i) old (class_cells k bits test 0 (take i classes)) new
      (classes_below k bits test (take i classes) 0 i (omega (arith, length-take i classes (omega (arith, within)))))

  one_more : class_cells k bits test 0 (take (i + 1) classes) ≡ class_cells k bits test 0 (take i classes) ++ cond (test c) (record { kind = k; entity = OfClass i; bits = bits } ∷ []) []
  one_more =
      let number : 0 + length (take i classes) ≡ i = omega (arith, length-take i classes (omega (arith, within))) in
      ap (class_cells k bits test 0) (take_more classes i c within ∙ ap (λ v. take i classes ++ v ∷ []) (get_or_from_slice_get classes i c c at))
      ∙ class_cells-push k bits test (take i classes) 0 c
      ∙ ap (λ n. class_cells k bits test 0 (take i classes) ++ cond (test c) (record { kind = k; entity = OfClass n; bits = bits } ∷ []) []) number

  pub class_step : (later : List Cell) → later ≡ now ++ cond (test c) (record { kind = k; entity = OfClass i; bits = bits } ∷ []) [] → later ≡ old ++ class_cells k bits test 0 (take (i + 1) classes)
  class_step later added =
      let more : List Cell = cond (test c) (record { kind = k; entity = OfClass i; bits = bits } ∷ []) [] in
      added ∙ ap (λ v. v ++ more) is
      ∙ append_assoc old (class_cells k bits test 0 (take i classes)) more
      ∙ ap (λ v. old ++ v) (sym one_more)

-- ---- a cell for each field

abbrev pub fields_upto : KindId → ℕ → ℕ → List Cell
fields_upto k bits i = map (λ id. record { kind = k; entity = OfField id; bits = bits }) (range_with_len 0 i)

fields_below : (k : KindId) (bits first n id : ℕ) → first + n ≤ id → has_cell (map (λ id. record { kind = k; entity = OfField id; bits = bits }) (range_with_len first n)) k (OfField id) ≡ false
fields_below k bits first zero id h = refl
fields_below k bits first (suc n) id h =
    or-both (kinds.eq k k && entities.eq (OfField id) (OfField first)) _ (and-false (kinds.eq k k) (entities.eq (OfField id) (OfField first)) (false-if_not (entities.eq (OfField id) (OfField first)) (λ e. let same = same_field id first e in absurd (omega arith))))
    (fields_below k bits (first + 1) n id (omega arith))

pub field_absent : (k : KindId) (bits i : ℕ) (old now : List Cell) → now ≡ old ++ fields_upto k bits i → AreBefore (rank k) old → has_cell now k (OfField i) ≡ false
field_absent k bits i old now is new =
    ap (λ v. has_cell v k (OfField i)) is ∙ absent_in_both k (OfField i) old (fields_upto k bits i) new (fields_below k bits 0 i i (omega arith))

pub field_added : (k : KindId) (bits i : ℕ) (old now later : List Cell) → now ≡ old ++ fields_upto k bits i → later ≡ now ++ record { kind = k; entity = OfField i; bits = bits } ∷ [] → later ≡ old ++ fields_upto k bits (i + 1)
field_added k bits i old now later is added =
    added ∙ ap (λ v. v ++ record { kind = k; entity = OfField i; bits = bits } ∷ []) is
    ∙ append_assoc old (fields_upto k bits i) (record { kind = k; entity = OfField i; bits = bits } ∷ [])
    ∙ ap (λ v. old ++ v) (sym (map-range_with_len_more (λ id. record { kind = k; entity = OfField id; bits = bits }) 0 i i (omega arith)))

pub classes_done : (k : KindId) (bits : ℕ) (test : Class → Bool) (classes : List Class) (i : ℕ) (old now : List Cell) → length classes ≤ i → now ≡ old ++ class_cells k bits test 0 (take i classes) → now ≡ old ++ class_cells k bits test 0 classes
classes_done k bits test classes i old now past is = is ∙ ap (λ v. old ++ class_cells k bits test 0 v) (take_all i classes past)

-- ---- all cells

classes_before : (k : KindId) (bits : ℕ) (test : Class → Bool) (first : ℕ) (classes : List Class) → AreBefore (rank k + 1) (class_cells k bits test first classes)
classes_before k bits test first [] = tt
classes_before k bits test first (c ∷ classes) =
    let rest = classes_before k bits test (first + 1) classes in
    let own : rank k < rank k + 1 = omega arith in
    (elim (test c) as (λ b. AreBefore (rank k + 1) (cond b (record { kind = k; entity = OfClass first; bits = bits } ∷ []) [] ++ class_cells k bits test (first + 1) classes)) [
      | true ↦ (own, rest)
      | false ↦ rest
    ])

fields_before : (k : KindId) (bits first n : ℕ) → AreBefore (rank k + 1) (map (λ id. record { kind = k; entity = OfField id; bits = bits }) (range_with_len first n))
fields_before k bits first zero = tt
fields_before k bits first (suc n) = (omega arith, fields_before k bits (first + 1) n)

pub classes_order : (k : KindId) (bits : ℕ) (test : Class → Bool) (classes : List Class) (old now : List Cell) → now ≡ old ++ class_cells k bits test 0 classes → AreBefore (rank k) old → AreBefore (rank k + 1) now
classes_order k bits test classes old now is h = order_kept k old now (class_cells k bits test 0 classes) is h (classes_before k bits test 0 classes)

pub fields_order : (k : KindId) (bits : ℕ) (classes : List Class) (old now : List Cell) → now ≡ old ++ field_cells k bits classes → AreBefore (rank k) old → AreBefore (rank k + 1) now
fields_order k bits classes old now is h = order_kept k old now (field_cells k bits classes) is h (fields_before k bits 0 _)

-- every class lacks no flag at all
pub class_cells-all : (k : KindId) (bits first : ℕ) (classes : List Class) → class_cells k bits (lacks 0) first classes ≡ class_cells k bits (λ c. true) first classes
class_cells-all k bits first [] = refl
class_cells-all k bits first (c ∷ classes) =
    let passes : lacks 0 c ≡ true = ap (λ n. n == 0) (and_zero_r c.flags) in
    ap (λ b. cond b (record { kind = k; entity = OfClass first; bits = bits } ∷ []) [] ++ class_cells k bits (lacks 0) (first + 1) classes) passes
    ∙ ap (λ v. (record { kind = k; entity = OfClass first; bits = bits } ∷ []) ++ v) (class_cells-all k bits (first + 1) classes)

-- what two steps have added
pub joined : (old now later x y : List Cell) → now ≡ old ++ x → later ≡ now ++ y → later ≡ old ++ (x ++ y)
joined old now later x y h k = k ∙ ap (λ v. v ++ y) h ∙ append_assoc old x y
