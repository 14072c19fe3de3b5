-- The cells of a call graph are those that its tasks need.
use Rattle.std.proofs.Common.{◌<◌, ℕ, Bool, IsTrue, List, [], ◌∷◌, ◌++◌, Contains, get_or, length, map, sym, subst, arith, zero, suc}
use Rattle.std.specs.List.{flat_map, list_any}
use Rattle.std.proofs.lemmas.List.Elements.{Contains-append_left, Contains-append_right, Contains-push}
use Rattle.fp_cells.specs.declared.kind.KindId.TheVariants as kind
use Rattle.fp_cells.specs.declared.kind.Entity.TheVariants as entity
use Rattle.fp_cells.specs.Cells.{Cell, has_cell, is_cell_of}
use Rattle.fp_facts.specs.declared.facts.Facts.{Facts}
use Rattle.fp_eqs.specs.Tests.{left, right, place-here}
use Rattle.fp_rta.specs.CallGraph.{HasCells, callees_cell}
use Rattle.fp_tests.specs.Graphs.{method_cells, reach_cell}

any-at : {X : Type 0} (f : X → Bool) (xs : List X) (k : ℕ) (d : X) → k < length xs → IsTrue (f (get_or xs k d)) → IsTrue (list_any f xs)
any-at f [] k d lt h = absurd (omega arith)
any-at f (x ∷ xs) zero d lt h = left (f x) (list_any f xs) h
any-at f (x ∷ xs) (suc k) d lt h = right (f x) (list_any f xs) (any-at f xs k d (omega arith) h)

here : {X : Type 0} (x : X) (xs : List X) → Contains (x ∷ xs) x
here x xs = Contains-append_left (x ∷ []) xs x (Contains-push [] x)

later : {X : Type 0} (x : X) (xs : List X) (y : X) → Contains xs y → Contains (x ∷ xs) y
later x xs y h = Contains-append_right (x ∷ []) xs y h

in-map : {X Y : Type 0} (g : X → Y) (xs : List X) (k : ℕ) (d : X) → k < length xs → Contains (map g xs) (g (get_or xs k d))
in-map g [] k d lt = absurd (omega arith)
in-map g (x ∷ xs) zero d lt = here (g x) (map g xs)
in-map g (x ∷ xs) (suc k) d lt = later (g x) (map g xs) (g (get_or xs k d)) (in-map g xs k d (omega arith))

in-flat : {X Y : Type 0} (f : X → List Y) (xs : List X) (k : ℕ) (d : X) (y : Y) → k < length xs → Contains (f (get_or xs k d)) y → Contains (flat_map f xs) y
in-flat f [] k d y lt h = absurd (omega arith)
in-flat f (x ∷ xs) zero d y lt h = Contains-append_left (f x) (flat_map f xs) y h
in-flat f (x ∷ xs) (suc k) d y lt h = Contains-append_right (f x) (flat_map f xs) y (in-flat f xs k d y (omega arith) h)

has-reach : (cells : List Cell) (method : ℕ) → Contains cells (reach_cell method) → IsTrue (has_cell cells kind.Reach (entity.Method method))
has-reach cells method at =
    any-at (is_cell_of kind.Reach (entity.Method method)) cells at.0 (reach_cell method) at.1
    (subst (λ c. IsTrue (is_cell_of kind.Reach (entity.Method method) c)) (sym at.2) (place-here method))

pub has-cells : (facts : Facts) (first : List Cell) → HasCells facts (first ++ flat_map (method_cells facts) facts.methods)
has-cells facts first =
    let ms = facts.methods in
    let all = flat_map (method_cells facts) ms in
    record {
      methods = λ k d lt. (
          let m = get_or ms k d in
          has-reach (first ++ all) m.method (Contains-append_right first all (reach_cell m.method)
          (in-flat (method_cells facts) ms k d (reach_cell m.method) lt (here (reach_cell m.method) (map (callees_cell facts m.method) m.sites)))));
      calls = λ k d lt j e within. (
          let m = get_or ms k d in
          let c = callees_cell facts m.method (get_or m.sites j e) in
          Contains-append_right first all c (in-flat (method_cells facts) ms k d c lt (later (reach_cell m.method) (map (callees_cell facts m.method) m.sites) c (in-map (callees_cell facts m.method) m.sites j e within))));
    }
