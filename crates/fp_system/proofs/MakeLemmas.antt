-- Why the equations of the classes of a set stand at their own places.
use Rattle.std.proofs.Common.{◌≡◌, ℕ, zero, suc, ◌+◌, ◌≤◌, ◌<◌, true, false, cond, List, [], ◌∷◌, ◌++◌, Option, Some, None, length, get_or, unwrap_or, refl, sym, ap, subst, ◌∙◌, arith, zero-add}
use Rattle.std.proofs.lemmas.List.FromFn.{length-map-range_with_len, get_or-map-range_with_len}
use Rattle.std.proofs.lemmas.Option.{slice_get_within, get_or_from_slice_get}
use Rattle.std.specs.Option.{option_map, option_and_then}
use Rattle.fp_model.specs.declared.class.Class.{Class}
use Rattle.fp_model.specs.ClassSet.{SetView, superclass_of}
use Rattle.fp_cells.specs.declared.kind.KindId.{KindId}
use Rattle.fp_cells.specs.declared.kind.KindId.TheVariants.{Declared}
use Rattle.fp_cells.specs.declared.kind.Entity.{Entity}
use Rattle.fp_cells.specs.declared.kind.Entity.TheVariants.{Class as OfClass}
use Rattle.fp_cells.specs.contracts.kind.KindIdEq.TheImpl.Laws.{laws-law as kind_laws}
use Rattle.fp_cells.specs.contracts.kind.EntityEq.TheImpl.Laws.{laws-law as entity_laws}
use Rattle.fp_cells.specs.contracts.kind.KindIdPartialEq.TheImpl.{ghosts as kinds}
use Rattle.fp_cells.specs.contracts.kind.EntityPartialEq.TheImpl.{ghosts as entities}
use Rattle.fp_cells.specs.Cells.{Cell, first_place, is_cell_of, places_of, total_places}
use Rattle.fp_system.specs.declared.declared.ClassTask.{ClassTask}
use Rattle.fp_system.specs.ClassEquations.{class_task, class_tasks}
use Rattle.fp_system.specs.Java.{class_cells, java_cells}
use Rattle.fp_system.specs.Rows.{AreRowsOver, IsRowOver}
use Rattle.fp_system.proofs.JavaCellLemmas.{same_class, false-if_not, and-false}

-- the first place of a cell is a place
below-shifted : (o : Option ℕ) (n total p : ℕ) → ((q : ℕ) → o ≡ Some q → q < total) → option_map (λ q. n + q) o ≡ Some p → p < n + total
below-shifted None n total p h is = absurd (cc)
below-shifted (Some q) n total p h is = let e : n + q ≡ p = cc in omega (arith, h q refl)

places_of-some : (bits : ℕ) → 1 ≤ places_of bits
places_of-some bits = omega arith

pub first_place-below : (cells : List Cell) (kind : KindId) (entity : Entity) (p : ℕ) → first_place cells kind entity ≡ Some p → p < total_places cells
first_place-below [] kind entity p h = absurd (cc)
first_place-below (c ∷ cells) kind entity p h =
    (elim (is_cell_of kind entity c) as (λ b. cond b (Some 0) (option_map (λ q. places_of c.bits + q) (first_place cells kind entity)) ≡ Some p → p < places_of c.bits + total_places cells) [
      | true ↦ λ is. let start : 0 ≡ p = cc in omega (arith, places_of-some c.bits)
      | false ↦ λ is. below-shifted (first_place cells kind entity) (places_of c.bits) (total_places cells) p (λ q there. first_place-below cells kind entity q there) is
    ]) h

-- ---- the cells of kind Declared come first, one place each

class_key : (i first : ℕ) → (i ≡ first → ⊥) → is_cell_of Declared (OfClass i) (record { kind = Declared; entity = OfClass first; bits = 1 }) ≡ false
class_key i first other = and-false (kinds.eq Declared Declared) (entities.eq (OfClass i) (OfClass first)) (false-if_not (entities.eq (OfClass i) (OfClass first)) (λ e. other (same_class i first e)))

own_key : (i : ℕ) → is_cell_of Declared (OfClass i) (record { kind = Declared; entity = OfClass i; bits = 1 }) ≡ true
own_key i = let a = kind_laws.refl Declared in let b = entity_laws.refl (OfClass i) in cc

declared_at : (classes : List Class) (first i : ℕ) (more : List Cell) → i < length classes → first_place (class_cells Declared 1 (λ c. true) first classes ++ more) Declared (OfClass (first + i)) ≡ Some i
declared_at [] first i more h = elim h [ ]
declared_at (c ∷ classes) first zero more h =
    let here : first + 0 ≡ first = omega arith in
    let own : is_cell_of Declared (OfClass (first + 0)) (record { kind = Declared; entity = OfClass first; bits = 1 }) ≡ true = ap (λ n. is_cell_of Declared (OfClass n) (record { kind = Declared; entity = OfClass first; bits = 1 })) here ∙ own_key first in
    ap (λ b. cond b (Some 0) (option_map (λ p. places_of 1 + p) (first_place (class_cells Declared 1 (λ c. true) (first + 1) classes ++ more) Declared (OfClass (first + 0))))) own
declared_at (c ∷ classes) first (suc i) more h =
    let other = class_key (first + suc i) first (λ e. absurd (omega arith)) in
    let along : (first + 1) + i ≡ first + suc i = omega arith in
    let rest = ap (λ n. first_place (class_cells Declared 1 (λ c. true) (first + 1) classes ++ more) Declared (OfClass n)) (sym along) ∙ declared_at classes (first + 1) i more (omega arith) in
    let one : places_of 1 + i ≡ suc i = omega arith in
    ap (λ b. cond b (Some 0) (option_map (λ p. places_of 1 + p) (first_place (class_cells Declared 1 (λ c. true) (first + 1) classes ++ more) Declared (OfClass (first + suc i))))) other
    ∙ ap (option_map (λ p. places_of 1 + p)) rest ∙ ap Some one

declared_many : (classes : List Class) (first : ℕ) (more : List Cell) → length classes ≤ total_places (class_cells Declared 1 (λ c. true) first classes ++ more)
declared_many [] first more = omega arith
declared_many (c ∷ classes) first more = let one : places_of 1 ≡ 1 = refl in omega (arith, declared_many classes (first + 1) more)

-- ---- the rows of a set

row_over : (set : SetView) (cells : List Cell) (t : ℕ) → cells ≡ java_cells set.classes → t < length set.classes → IsRowOver (total_places cells) t (class_task set cells t)
row_over set cells t is lt = record {
  place = ap (λ o. unwrap_or o 0) (ap (λ v. first_place v Declared (OfClass t)) is ∙ ap (λ n. first_place (java_cells set.classes) Declared (OfClass n)) (sym (zero-add t)) ∙ declared_at set.classes 0 t _ lt);
  parent = λ p h. parent-below (superclass_of set.classes t) p h;
}
  where
    parent-below : (o : Option ℕ) (p : ℕ) → option_and_then (λ s. first_place cells Declared (OfClass s)) o ≡ Some p → p < total_places cells
    parent-below None p h = absurd (cc)
    parent-below (Some s) p h = first_place-below cells Declared (OfClass s) p h

pub rows_over : (set : SetView) (cells : List Cell) (rows : List ClassTask) (places : ℕ) → cells ≡ java_cells set.classes → rows ≡ class_tasks set cells → places ≡ total_places cells → AreRowsOver places rows
rows_over set cells rows places is made all = record {
  few =
      let count : length rows ≡ length set.classes = ap length made ∙ length-map-range_with_len (class_task set cells) 0 (length set.classes) in
      let many : length set.classes ≤ total_places cells = subst (λ v. length set.classes ≤ total_places v) (sym is) (declared_many set.classes 0 _) in
      omega arith;
  each = λ t k at.
      let count : length rows ≡ length set.classes = ap length made ∙ length-map-range_with_len (class_task set cells) 0 (length set.classes) in
      let lt : t < length set.classes = omega (arith, slice_get_within rows t k at) in
      let own : class_task set cells t ≡ k = sym (ap (λ v. get_or v t k) made ∙ get_or-map-range_with_len (class_task set cells) 0 (length set.classes) t t k lt (zero-add t)) ∙ get_or_from_slice_get rows t k k at in
      subst (λ n. IsRowOver n t k) (sym all) (subst (IsRowOver (total_places cells) t) own (row_over set cells t is lt));
}

pub rows_few : (set : SetView) (cells : List Cell) (rows : List ClassTask) → rows ≡ class_tasks set cells → length rows ≡ length set.classes
rows_few set cells rows made = ap length made ∙ length-map-range_with_len (class_task set cells) 0 (length set.classes)
