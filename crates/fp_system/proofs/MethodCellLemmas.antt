-- The cells of methods, one after another.
use Rattle.std.proofs.Common.{◌≡◌, ℕ, ◌+◌, ◌≤◌, ◌<◌, Bool, true, false, cond, ◌&&◌, List, [], ◌∷◌, ◌++◌, Some, length, take, slice_get, refl, sym, ap, ◌∙◌, arith, take_all, append-nil, append_assoc}
use Rattle.std.proofs.lemmas.List.{take_more}
use Rattle.std.proofs.lemmas.Option.{slice_get_within, get_or_from_slice_get}
use Rattle.fp_model.specs.declared.class.Method.{Method}
use Rattle.fp_cells.specs.declared.kind.KindId.{KindId}
use Rattle.fp_cells.specs.declared.kind.Entity.TheVariants.{Method as OfMethod}
use Rattle.fp_cells.specs.contracts.kind.KindIdPartialEq.TheImpl.{ghosts as kinds}
use Rattle.fp_cells.specs.contracts.kind.EntityPartialEq.TheImpl.{ghosts as entities}
use Rattle.fp_cells.specs.Cells.{Cell, has_cell}
use Rattle.fp_system.specs.Java.{method_cells}
use Rattle.fp_system.specs.Kinds.{AreBefore, rank}
use Rattle.fp_system.proofs.JavaCellLemmas.{absent_in_both, and-false, false-if_not, length-take, or-both, order_kept}

same_method : (a b : ℕ) → entities.eq (OfMethod a) (OfMethod b) ≡ true → a ≡ b
same_method a b h = grind arith

module _ (k : KindId) (bits : Method → ℕ) (test : Method → Bool) where
  -- the cell of a method, where it has one
  abbrev pub own_cell : ℕ → Method → List Cell
  own_cell id m = cond (test m) (record { kind = k; entity = OfMethod id; bits = bits m } ∷ []) []

  methods_below : (methods : List Method) (first id : ℕ) → first + length methods ≤ id → has_cell (method_cells k bits test first methods) k (OfMethod id) ≡ false
  methods_below [] first id h = refl
  methods_below (m ∷ methods) first id h =
      let rest = methods_below methods (first + 1) id (omega arith) in
      (elim (test m) as (λ b. has_cell (cond b (record { kind = k; entity = OfMethod first; bits = bits m } ∷ []) [] ++ method_cells k bits test (first + 1) methods) k (OfMethod id) ≡ false) [
        | true ↦ or-both (kinds.eq k k && entities.eq (OfMethod id) (OfMethod first)) _ (and-false (kinds.eq k k) (entities.eq (OfMethod id) (OfMethod first)) (false-if_not (entities.eq (OfMethod id) (OfMethod first)) (λ e. let same = same_method id first e in absurd (omega arith)))) rest
        | false ↦ rest
      ])

  method_cells-push : (methods : List Method) (first : ℕ) (m : Method) → method_cells k bits test first (methods ++ m ∷ []) ≡ method_cells k bits test first methods ++ own_cell (first + length methods) m
  method_cells-push [] first m =
      let here : first + 0 ≡ first = omega arith in
      append-nil (own_cell first m) ∙ ap (λ n. own_cell n m) (sym here)
  method_cells-push (d ∷ methods) first m =
      let along : (first + 1) + length methods ≡ first + length (d ∷ methods) = omega arith in
      ap (λ v. own_cell first d ++ v) (method_cells-push methods (first + 1) m ∙ ap (λ n. method_cells k bits test (first + 1) methods ++ own_cell n m) along)
      ∙ sym (append_assoc (own_cell first d) (method_cells k bits test (first + 1) methods) (own_cell (first + length (d ∷ methods)) m))

  pub one_more : (methods : List Method) (i : ℕ) (m : Method) → slice_get methods i ≡ Some m → method_cells k bits test 0 (take (i + 1) methods) ≡ method_cells k bits test 0 (take i methods) ++ own_cell i m
  one_more methods i m at =
      let within : i < length methods = slice_get_within methods i m at in
      let number : 0 + length (take i methods) ≡ i = omega (arith, length-take i methods (omega (arith, within))) in
      ap (method_cells k bits test 0) (take_more methods i m within ∙ ap (λ v. take i methods ++ v ∷ []) (get_or_from_slice_get methods i m m at))
      ∙ method_cells-push (take i methods) 0 m
      ∙ ap (λ n. method_cells k bits test 0 (take i methods) ++ own_cell n m) number

  pub method_absent : (methods : List Method) (i : ℕ) (old now : List Cell) → i < length methods → now ≡ old ++ method_cells k bits test 0 (take i methods) → AreBefore (rank k) old → has_cell now k (OfMethod i) ≡ false
  method_absent methods i old now within is new =
      ap (λ v. has_cell v k (OfMethod i)) is
      ∙ absent_in_both k (OfMethod i) old (method_cells k bits test 0 (take i methods)) new
      (methods_below (take i methods) 0 i (omega (arith, length-take i methods (omega (arith, within)))))

  pub method_step : (methods : List Method) (i : ℕ) (m : Method) (old now later : List Cell) → slice_get methods i ≡ Some m → now ≡ old ++ method_cells k bits test 0 (take i methods) → later ≡ now ++ own_cell i m → later ≡ old ++ method_cells k bits test 0 (take (i + 1) methods)
  method_step methods i m old now later at is added =
      added ∙ ap (λ v. v ++ own_cell i m) is
      ∙ append_assoc old (method_cells k bits test 0 (take i methods)) (own_cell i m)
      ∙ ap (λ v. old ++ v) (sym (one_more methods i m at))

  pub methods_done : (methods : List Method) (i : ℕ) (old now : List Cell) → length methods ≤ i → now ≡ old ++ method_cells k bits test 0 (take i methods) → now ≡ old ++ method_cells k bits test 0 methods
  methods_done methods i old now past is = is ∙ ap (λ v. old ++ method_cells k bits test 0 v) (take_all i methods past)

  methods_before : (first : ℕ) (methods : List Method) → AreBefore (rank k + 1) (method_cells k bits test first methods)
  methods_before first [] = tt
  methods_before first (m ∷ methods) =
      let rest = methods_before (first + 1) methods in
      let own : rank k < rank k + 1 = omega arith in
      (elim (test m) as (λ b. AreBefore (rank k + 1) (cond b (record { kind = k; entity = OfMethod first; bits = bits m } ∷ []) [] ++ method_cells k bits test (first + 1) methods)) [
        | true ↦ (own, rest)
        | false ↦ rest
      ])

  pub methods_order : (methods : List Method) (old now : List Cell) → now ≡ old ++ method_cells k bits test 0 methods → AreBefore (rank k) old → AreBefore (rank k + 1) now
  methods_order methods old now is h = order_kept k old now (method_cells k bits test 0 methods) is h (methods_before 0 methods)
