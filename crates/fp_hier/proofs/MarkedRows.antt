-- Marks in rows, one after the other.
use Rattle.std.proofs.Common.{◌≡◌, ◌≢◌, ◌<◌, ◌+◌, ◌==◌, ◌&&◌, ◌||◌, ℕ, Bool, true, false, List, get_or, set as written, length, slice_get, Some, replicate, refl, sym, ap, subst, ◌∙◌, arith, inl, inr}
use Rattle.std.proofs.lemmas.Bool.{cases_eq, eq-eqb, ne_eqb}
use Rattle.std.proofs.lemmas.List.{get_or-replicate, get_or-set_other, get_or-set_same, length-replicate, length-set}
use Rattle.std.proofs.lemmas.Option.{same_Some, slice_get_within}
use Rattle.fp_model.specs.declared.class.Class.{Class}
use Rattle.fp_model.specs.ClassSet.{IsSet, SetView, superclass_of}
use Rattle.fp_facts.specs.Hierarchy.{superinterfaces_at}
use Rattle.fp_hier.specs.BitRows.{HoldsRows, Marks, bit_of}
use Rattle.fp_hier.specs.Marks.{AreAllMarked, AreMarked, marks, marks_any, own_names}
use Rattle.fp_hier.specs.declared.bit_rows.BitRows.{BitRows}
use Rattle.fp_hier.proofs.InheritedNames.{inherited}
use Rattle.fp_hier.proofs.SelectedTargets.{there}

or-none : (b x : Bool) → b ≡ (b || (x && false))
or-none true x = refl
or-none false true = refl
or-none false false = refl

or-either : (b x f g : Bool) → ((b || (x && f)) || (x && g)) ≡ (b || (x && (f || g)))
or-either true x f g = refl
or-either false true f g = refl
or-either false false f g = refl

-- no mark leaves all as it is
pub no-marks : (class : ℕ) (f : ℕ → Bool) (t : BitRows) → ((row : ℕ) → f row ≡ false) → Marks class f t t
no-marks class f t none = record {
  bits = λ row column h k. or-none (bit_of t row column) (column == class) ∙ ap (λ (b : Bool). bit_of t row column || ((column == class) && b)) (sym (none row));
  rows = refl;
  columns = refl;
  holds = λ h. h;
}

-- marks and further ones
pub more-marks : (class : ℕ) (f g h : ℕ → Bool) (a b d : BitRows) → Marks class f a b → Marks class g b d → ((row : ℕ) → row < a.rows → h row ≡ (f row || g row)) → Marks class h a d
more-marks class f g h a b d first then both = record {
  bits = λ row column in_rows in_columns.
      let here = first.bits row column in_rows in_columns in
      let next = then.bits row column (subst (λ n. row < n) (sym first.rows) in_rows) (subst (λ n. column < n) (sym first.columns) in_columns) in
      next
      ∙ ap (λ (o : Bool). o || ((column == class) && g row)) here
      ∙ or-either (bit_of a row column) (column == class) (f row) (g row)
      ∙ ap (λ (o : Bool). bit_of a row column || ((column == class) && o)) (sym (both row in_rows));
  rows = then.rows ∙ first.rows;
  columns = then.columns ∙ first.columns;
  holds = λ k. then.holds (first.holds k);
}

-- the same marks, told otherwise
pub same-marks : (class : ℕ) (f g : ℕ → Bool) (a b : BitRows) → Marks class f a b → ((row : ℕ) → g row ≡ f row) → Marks class g a b
same-marks class f g a b are same = record {
  bits = λ row column h k. are.bits row column h k ∙ ap (λ (o : Bool). bit_of a row column || ((column == class) && o)) (sym (same row));
  rows = are.rows;
  columns = are.columns;
  holds = are.holds;
}

-- ---- class by class

-- before the first class there is no mark
pub none-marked : (set : SetView) (marked : List Bool) (t : BitRows) → marked ≡ replicate (length set.classes) false → HoldsRows t → t.rows ≡ length set.classes + 3 → t.columns ≡ length set.classes →
    ((row column : ℕ) → bit_of t row column ≡ false) → AreMarked set marked t
none-marked set marked t unmarked holds rows columns unset = record {
  holds = holds;
  rows = rows;
  columns = columns;
  long = ap length unmarked ∙ length-replicate (length set.classes) false;
  bits = λ c row class at within.
      unset row class
      ∙ sym (ap (λ (b : Bool). b && marks_any set row (own_names set.classes c))
      (ap (λ (l : List Bool). get_or l class false) unmarked ∙ get_or-replicate (length set.classes) class false false (slice_get_within set.classes class c at)));
}

or-itself : (b x f : Bool) → b ≡ false → x ≡ true → (b || (x && f)) ≡ f
or-itself b x f is same = ap (λ (o : Bool). o || (x && f)) is ∙ ap (λ (o : Bool). o && f) same

or-other : (b x f : Bool) → x ≡ false → (b || (x && f)) ≡ b
or-other true x f other = refl
or-other false x f other = ap (λ (o : Bool). o && f) other

module _ (set : SetView) (class : ℕ) (c : Class) (marked now : List Bool) (old new : BitRows) (at : slice_get set.classes class ≡ Some c) (before : AreMarked set marked old) (unmarked : get_or marked class false ≡ false)
    (more : Marks class (λ row. marks_any set row (own_names set.classes c)) old new) (told : now ≡ written marked class true) where
  bit-new : (row other : ℕ) → row < length set.classes + 3 → other < length set.classes → bit_of new row other ≡ (bit_of old row other || ((other == class) && marks_any set row (own_names set.classes c)))
  bit-new row other in_rows in_columns = more.bits row other (omega (arith, in_rows, before.rows)) (omega (arith, in_columns, before.columns))

  bit-here : (row : ℕ) → row < length set.classes + 3 → bit_of new row class ≡ (get_or now class false && marks_any set row (own_names set.classes c))
  bit-here row h =
      let known = slice_get_within set.classes class c at in
      bit-new row class h known
      ∙ or-itself (bit_of old row class) (class == class) (marks_any set row (own_names set.classes c))
      (before.bits c row class at h ∙ ap (λ (b : Bool). b && marks_any set row (own_names set.classes c)) unmarked) (eq-eqb class class refl)
      ∙ sym (ap (λ (b : Bool). b && marks_any set row (own_names set.classes c))
      (ap (λ (l : List Bool). get_or l class false) told ∙ get_or-set_same marked class true false (omega (arith, known, before.long))))

  bit-there : (d : Class) (row other : ℕ) → slice_get set.classes other ≡ Some d → row < length set.classes + 3 → other ≢ class → bit_of new row other ≡ (get_or now other false && marks_any set row (own_names set.classes d))
  bit-there d row other is h apart =
      bit-new row other h (slice_get_within set.classes other d is)
      ∙ or-other (bit_of old row other) (other == class) (marks_any set row (own_names set.classes c)) (ne_eqb other class apart)
      ∙ before.bits d row other is h
      ∙ sym (ap (λ (b : Bool). b && marks_any set row (own_names set.classes d))
      (ap (λ (l : List Bool). get_or l other false) told ∙ get_or-set_other marked class other true false apart))

  -- one class more
  pub class-marked : AreMarked set now new
  class-marked = record {
    holds = more.holds before.holds;
    rows = more.rows ∙ before.rows;
    columns = more.columns ∙ before.columns;
    long = ap length told ∙ length-set marked class true ∙ before.long;
    bits = λ d row other is within.
        elim (cases_eq other class) [
          | inl same ↦
              let one : c ≡ d = same_Some c d (sym at ∙ ap (slice_get set.classes) (sym same) ∙ is) in
              ap (bit_of new row) same ∙ bit-here row within
              ∙ ap (λ (e : Class). get_or now class false && marks_any set row (own_names set.classes e)) one
              ∙ ap (λ (k : ℕ). get_or now k false && marks_any set row (own_names set.classes d)) (sym same)
          | inr apart ↦ bit-there d row other is within apart
        ];
  }

  pub class-here : get_or now class false ≡ true
  class-here = ap (λ (l : List Bool). get_or l class false) told ∙ get_or-set_same marked class true false (omega (arith, slice_get_within set.classes class c at, before.long))

  pub others-kept : (k : ℕ) → get_or marked k false ≡ true → get_or now k false ≡ true
  others-kept k was =
      elim (cases_eq k class) [
        | inl same ↦ ap (λ (j : ℕ). get_or now j false) same ∙ class-here
        | inr apart ↦ ap (λ (l : List Bool). get_or l k false) told ∙ get_or-set_other marked class k true false apart ∙ was
      ]

-- a class and what its superclass has
pub inherited-marks : (set : SetView) (id p : ℕ) (c : Class) (marked : List Bool) (old mid new : BitRows) → IsSet set → slice_get set.classes id ≡ Some c → superclass_of set.classes id ≡ Some p → p < length set.classes →
    AreMarked set marked old → get_or marked p false ≡ true → Marks id (λ row. bit_of old row p) old mid →
    Marks id (λ row. marks set row c.name || marks_any set row (superinterfaces_at set.classes id)) mid new → Marks id (λ row. marks_any set row (own_names set.classes c)) old new
inherited-marks set id p c marked old mid new valid at next known are is joined own =
    let d = there set.classes p known in
    more-marks id (λ row. bit_of old row p) (λ row. marks set row c.name || marks_any set row (superinterfaces_at set.classes id)) (λ row. marks_any set row (own_names set.classes c)) old mid new joined own
    (λ row within.
    inherited set id p c d.0 valid at d.1 (marks set row) next
    ∙ ap (λ (b : Bool). b || (marks set row c.name || marks_any set row (superinterfaces_at set.classes id)))
    (sym (are.bits d.0 row p d.1 (omega (arith, within, are.rows)) ∙ ap (λ (b : Bool). b && marks_any set row (own_names set.classes d.0)) is)))

-- in the end all classes are marked
pub all-marked : (set : SetView) (marked : List Bool) (t : BitRows) → AreMarked set marked t → ((k : ℕ) → k < length set.classes → get_or marked k false ≡ true) → AreAllMarked set t
all-marked set marked t are all = record {
  holds = are.holds;
  rows = are.rows;
  columns = are.columns;
  marked = λ c row class at within.
      are.bits c row class at within ∙ ap (λ (b : Bool). b && marks_any set row (own_names set.classes c)) (all class (slice_get_within set.classes class c at));
}
