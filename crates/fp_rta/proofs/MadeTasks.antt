-- What the rows of a set mean, and why its tasks are lawful.
use Rattle.std.proofs.Common.{◌≡◌, ◌==◌, ◌<◌, ◌≤◌, ◌+◌, ◌/◌, ◌^◌, ℕ, Bool, true, false, cond, IsTrue, List, [], ◌∷◌, ◌++◌, Option, Some, None, All, Contains, length, map, slice_get, refl, sym, ap, subst, ◌∙◌, arith, inl, inr, zero, suc}
use Rattle.std.specs.Prelude.{option_and_then, unwrap_or}
use Rattle.std.specs.List.{flat_map, range_with_len}
use Rattle.std.specs.Option.{option_to_list}
use Rattle.std.proofs.lemmas.List.{append-nil}
use Rattle.std.proofs.lemmas.List.FromFn.{length-map-range_with_len}
use Rattle.fp_model.specs.ClassSet.{SetView}
use Rattle.fp_cells.specs.declared.kind.KindId.TheVariants as kind
use Rattle.fp_cells.specs.declared.kind.Entity.TheVariants as entity
use Rattle.fp_cells.specs.Cells.{Cell, IsNumbering, has_cell, places_of, total_places}
use Rattle.fp_facts.specs.declared.call_targets.CallTargets.{CallTargets}
use Rattle.fp_facts.specs.declared.facts.CallSite.{CallSite}
use Rattle.fp_facts.specs.declared.facts.Facts.{Facts}
use Rattle.fp_facts.specs.declared.facts.MethodFacts.{MethodFacts}
use Rattle.fp_facts.specs.Facts.{called}
use Rattle.fp_facts.specs.Hierarchy.{has_number}
use Rattle.fp_facts.proofs.ListedNumbers.{has-append}
use Rattle.fp_eqs.specs.Equations.{AllLawful, IsLawful, Task}
use Rattle.fp_eqs.specs.Tests.{either, same-place}
use Rattle.fp_extract.specs.Within.{AreCallsKnown}
use Rattle.fp_rta.specs.declared.candidate.Candidate.{Candidate}
use Rattle.fp_rta.specs.declared.giver.Giver.{Giver}
use Rattle.fp_rta.specs.declared.site.Shape.{Shape}
use Rattle.fp_rta.specs.declared.site.Site.{Site}
use Rattle.fp_rta.specs.CallGraph.{HasCells, begun_with, body_places, body_task, call_graph, call_graph_tasks, callees_cell, candidate, candidates, initialisers, method_calls, root_places, root_task, setting, site_task, watched_at}
use Rattle.fp_rta.specs.Contributions.{sources_of}
use Rattle.fp_rta.specs.Meaning.{AreShapesOf, AreSitesOf, IsSiteOf, body_row, candidates_at, giver_task, root_row, row_task, row_tasks, site_row, site_rows}
use Rattle.fp_rta.specs.Places.{callees_at, inst_place, inst_places, reach_at, reach_place, reach_places}
use Rattle.fp_rta.specs.Tasks.{call_task, listed_tasks, no_task}
use Rattle.fp_rta.proofs.CellPlaces.{cell-within, insts-below, known-place, place-below, reaches-below}
use Rattle.fp_rta.proofs.Each.{Each, each-all, each-append, each-at, each-both, each-flat, each-map, each-or}
use Rattle.fp_rta.proofs.LawfulTasks.{AreWithin, call-lawful, giving-lawful}

-- ---- rows and tasks

bodies-mean : (set : SetView) (cells : List Cell) (ms : List MethodFacts) → map giver_task (map (body_row set cells) ms) ≡ map (body_task set cells) ms
bodies-mean set cells [] = refl
bodies-mean set cells (m ∷ ms) = ap (λ ts. body_task set cells m ∷ ts) (bodies-mean set cells ms)

-- the candidates of the number of a reference
told-shape : (cells : List Cell) (shapes : List Shape) (calls : List CallTargets) (n : ℕ) (none : CallTargets) → map (λ (s : Shape). s.candidates) shapes ≡ map (candidates cells) calls → n < length calls →
    candidates_at shapes n ≡ candidates cells (unwrap_or (slice_get calls n) none)
told-shape cells [] [] n none h lt = absurd (omega arith)
told-shape cells [] (c ∷ calls) n none h lt = cc
told-shape cells (s ∷ shapes) [] n none h lt = absurd (omega arith)
told-shape cells (s ∷ shapes) (c ∷ calls) zero none h lt = cc
told-shape cells (s ∷ shapes) (c ∷ calls) (suc n) none h lt = told-shape cells shapes calls n none (let rest : map (λ (x : Shape). x.candidates) shapes ≡ map (candidates cells) calls = cc in rest) (omega arith)

shapes-many : (cells : List Cell) (shapes : List Shape) (calls : List CallTargets) → map (λ (s : Shape). s.candidates) shapes ≡ map (candidates cells) calls → length shapes ≡ length calls
shapes-many cells [] [] h = refl
shapes-many cells [] (c ∷ calls) h = cc
shapes-many cells (s ∷ shapes) [] h = cc
shapes-many cells (s ∷ shapes) (c ∷ calls) h = ap suc (shapes-many cells shapes calls (let rest : map (λ (x : Shape). x.candidates) shapes ≡ map (candidates cells) calls = cc in rest))

site-means : (facts : Facts) (cells : List Cell) (shapes : List Shape) → AreShapesOf facts cells shapes → (method : ℕ) (s : CallSite) → s.call < length facts.calls → row_task shapes (site_row cells method s) ≡ site_task facts cells method s
site-means facts cells shapes shaped method s known =
    ap (call_task (reach_at cells method) (callees_at cells method s.pc)) (told-shape cells shapes facts.calls s.call (record { targets = []; always = []; watch = [] }) shaped known)

sites-mean : (facts : Facts) (cells : List Cell) (shapes : List Shape) → AreShapesOf facts cells shapes → (method : ℕ) (ss : List CallSite) → Each (λ s. s.call < length facts.calls) ss →
    map (row_task shapes) (map (site_row cells method) ss) ≡ map (site_task facts cells method) ss
sites-mean facts cells shapes shaped method [] known = refl
sites-mean facts cells shapes shaped method (s ∷ ss) known =
    ap (λ t. t ∷ map (row_task shapes) (map (site_row cells method) ss)) (site-means facts cells shapes shaped method s known.0)
    ∙ ap (λ ts. site_task facts cells method s ∷ ts) (sites-mean facts cells shapes shaped method ss known.1)

map-parts : (f : Site → Task) (xs ys : List Site) → map f (xs ++ ys) ≡ map f xs ++ map f ys
map-parts f [] ys = refl
map-parts f (x ∷ xs) ys = ap (λ l. f x ∷ l) (map-parts f xs ys)

all-sites-mean : (facts : Facts) (cells : List Cell) (shapes : List Shape) → AreShapesOf facts cells shapes → (ms : List MethodFacts) → Each (λ m. All (λ s. s.call < length facts.calls) m.sites) ms →
    map (row_task shapes) (flat_map (site_rows cells) ms) ≡ flat_map (method_calls facts cells) ms
all-sites-mean facts cells shapes shaped [] known = refl
all-sites-mean facts cells shapes shaped (m ∷ ms) known =
    map-parts (row_task shapes) (site_rows cells m) (flat_map (site_rows cells) ms)
    ∙ ap (λ l. l ++ map (row_task shapes) (flat_map (site_rows cells) ms)) (sites-mean facts cells shapes shaped m.method m.sites (each-all (λ s. s.call < length facts.calls) m.sites known.0))
    ∙ ap (λ l. method_calls facts cells m ++ l) (all-sites-mean facts cells shapes shaped ms known.1)

pub rows-mean : (set : SetView) (facts : Facts) (cells : List Cell) (givers : List Giver) (shapes : List Shape) (sites : List Site) → AreCallsKnown facts →
    givers ≡ root_row set facts cells ∷ map (body_row set cells) facts.methods → AreShapesOf facts cells shapes → sites ≡ flat_map (site_rows cells) facts.methods →
    row_tasks givers shapes sites ≡ call_graph_tasks set facts cells
rows-mean set facts cells givers shapes sites known gs shaped ss =
    let first : map giver_task givers ≡ root_task set facts cells ∷ map (body_task set cells) facts.methods =
    ap (map giver_task) gs ∙ ap (λ ts. root_task set facts cells ∷ ts) (bodies-mean set cells facts.methods) in
    let rest : map (row_task shapes) sites ≡ flat_map (method_calls facts cells) facts.methods =
    ap (map (row_task shapes)) ss ∙ all-sites-mean facts cells shapes shaped facts.methods (each-all (λ m. All (λ s. s.call < length facts.calls) m.sites) facts.methods known) in
    ap (λ (ts : List Task). listed_tasks (ts ++ map (row_task shapes) sites)) first ∙ ap (λ (ts : List Task). listed_tasks ((root_task set facts cells ∷ map (body_task set cells) facts.methods) ++ ts)) rest

-- ---- laws

flat-below : {X : Type 0} (places : ℕ) (f : X → List ℕ) (xs : List X) (p : ℕ) → ((x : X) → IsTrue (has_number (f x) p) → p < places) → IsTrue (has_number (flat_map f xs) p) → p < places
flat-below places f [] p h k = cc
flat-below places f (x ∷ xs) p h k =
    elim (either (has_number (f x) p) (has_number (flat_map f xs) p) (subst (λ b. IsTrue b) (has-append (f x) (flat_map f xs) p) k)) [
      | inl now ↦ h x now
      | inr later ↦ flat-below places f xs p h later
    ]

-- the place of a class that sets a bit, and those of all that do
watched-below : (cells : List Cell) (bit : ℕ) (w : ℕ × List ℕ) (p : ℕ) → IsTrue (has_number (watched_at cells bit w) p) → p < total_places cells
watched-below cells bit w p h = flat-below (total_places cells) (λ b. cond (b == bit) (option_to_list (inst_place cells w.0)) []) w.1 p (λ b. by-test (b == bit)) h
  where
    by-test : (b : Bool) → IsTrue (has_number (cond b (option_to_list (inst_place cells w.0)) []) p) → p < total_places cells
    by-test true k = insts-below cells (w.0 ∷ []) p (subst (λ l. IsTrue (has_number l p)) (sym (append-nil (option_to_list (inst_place cells w.0)))) k)
    by-test false k = cc

sources-below : (cells : List Cell) (call : CallTargets) (bits : List ℕ) (p : ℕ) → IsTrue (has_number (sources_of (map (candidate cells call) bits)) p) → p < total_places cells
sources-below cells call [] p h = cc
sources-below cells call (b ∷ bits) p h =
    let here = setting cells b call.watch in
    let rest = sources_of (map (candidate cells call) bits) in
    elim (either (has_number here p) (has_number rest p) (subst (λ c. IsTrue c) (has-append here rest p) h)) [
      | inl now ↦ flat-below (total_places cells) (watched_at cells b) call.watch p (λ w. watched-below cells b w p) now
      | inr later ↦ sources-below cells call bits p later
    ]

-- the place of a target
target-below : (cells : List Cell) (o : Option ℕ) (t : ℕ) → option_and_then (reach_place cells) o ≡ Some t → t < total_places cells
target-below cells None t h = cc
target-below cells (Some m) t h = place-below cells kind.Reach (entity.Method m) t h

targets-below : (cells : List Cell) (call : CallTargets) (bits : List ℕ) → Each (λ (k : Candidate). (t : ℕ) → k.target ≡ Some t → t < total_places cells) (map (candidate cells call) bits)
targets-below cells call [] = tt
targets-below cells call (b ∷ bits) = (λ t h. target-below cells (slice_get call.targets b) t h, targets-below cells call bits)

candidates-many : (cells : List Cell) (call : CallTargets) → length (candidates cells call) ≡ length call.targets + 1
candidates-many cells call = length-map-range_with_len (candidate cells call) 0 (length call.targets + 1)

word-within : (targets i : ℕ) → i < targets + 1 → i / 64 < places_of (targets + 1)
word-within targets i lt = omega arith

-- what a call's places are known to be
abbrev pub IsCallWithin : Facts → List Cell → (method : ℕ) → CallSite → Type 0
IsCallWithin facts cells method s = IsTrue (has_cell cells kind.Reach (entity.Method method)) × Contains cells (callees_cell facts method s)

site-lawful : (facts : Facts) (cells : List Cell) → IsNumbering cells → (method : ℕ) (s : CallSite) → IsCallWithin facts cells method s → IsLawful (total_places cells) (site_task facts cells method s)
site-lawful facts cells numbered method s within =
    let call = called facts s in
    let ks = candidates cells call in
    let callees = callees_at cells method s.pc in
    call-lawful (total_places cells) (reach_at cells method) callees ks
    (known-place cells kind.Reach (entity.Method method) within.0)
    (record {
      words = λ i lt. (
          let same : 0 + i ≡ i = omega arith in
          let few : i < length call.targets + 1 = omega (arith, lt, candidates-many cells call) in
          subst (λ n. callees + n / 64 < total_places cells) (sym same) (cell-within cells (callees_cell facts method s) numbered within.1 (i / 64) (word-within (length call.targets) i few)));
      targets = each-at (λ (k : Candidate). (t : ℕ) → k.target ≡ Some t → t < total_places cells) ks (targets-below cells call (range_with_len 0 (length call.targets + 1)));
    })
    (λ p h. sources-below cells call (range_with_len 0 (length call.targets + 1)) p h)

root-lawful : (set : SetView) (facts : Facts) (cells : List Cell) → IsLawful (total_places cells) (root_task set facts cells)
root-lawful set facts cells = giving-lawful (total_places cells) None (root_places set facts cells) (λ q h. cc) within
  where
    within : AreWithin (total_places cells) (root_places set facts cells)
    within p h =
        let roots = reach_places cells facts.roots in
        let begun = reach_places cells (initialisers set (begun_with set facts.roots)) in
        let made = inst_places cells facts.seeds in
        elim (either (has_number roots p) (has_number (begun ++ made) p) (subst (λ b. IsTrue b) (has-append roots (begun ++ made) p) h)) [
          | inl first ↦ reaches-below cells facts.roots p first
          | inr later ↦ elim (either (has_number begun p) (has_number made p) (subst (λ b. IsTrue b) (has-append begun made p) later)) [
            | inl second ↦ reaches-below cells (initialisers set (begun_with set facts.roots)) p second
            | inr third ↦ insts-below cells facts.seeds p third
          ]
        ]

body-lawful : (set : SetView) (cells : List Cell) (m : MethodFacts) → IsTrue (has_cell cells kind.Reach (entity.Method m.method)) → IsLawful (total_places cells) (body_task set cells m)
body-lawful set cells m known =
    giving-lawful (total_places cells) (Some (reach_at cells m.method)) (body_places set cells m)
    (λ q h. subst (λ r. r < total_places cells) (same-place (reach_at cells m.method) q h) (known-place cells kind.Reach (entity.Method m.method) known)) within
  where
    within : AreWithin (total_places cells) (body_places set cells m)
    within p h =
        let made = inst_places cells m.news in
        let begun = reach_places cells (initialisers set m.begins) in
        elim (either (has_number made p) (has_number begun p) (subst (λ b. IsTrue b) (has-append made begun p) h)) [
          | inl first ↦ insts-below cells m.news p first
          | inr second ↦ reaches-below cells (initialisers set m.begins) p second
        ]

-- what is known of the cells of a method and its calls
abbrev pub IsMethodWithin : Facts → List Cell → MethodFacts → Type 0
IsMethodWithin facts cells m = IsTrue (has_cell cells kind.Reach (entity.Method m.method)) × All (λ site. Contains cells (callees_cell facts m.method site)) m.sites

methods-within : (facts : Facts) (cells : List Cell) → HasCells facts cells → Each (IsMethodWithin facts cells) facts.methods
methods-within facts cells has =
    each-both (λ m. IsTrue (has_cell cells kind.Reach (entity.Method m.method))) (λ m. All (λ site. Contains cells (callees_cell facts m.method site)) m.sites) facts.methods
    (each-all (λ m. IsTrue (has_cell cells kind.Reach (entity.Method m.method))) facts.methods has.methods)
    (each-all (λ m. All (λ site. Contains cells (callees_cell facts m.method site)) m.sites) facts.methods has.calls)

calls-lawful : (facts : Facts) (cells : List Cell) → IsNumbering cells → (m : MethodFacts) → IsMethodWithin facts cells m → Each (IsLawful (total_places cells)) (method_calls facts cells m)
calls-lawful facts cells numbered m within =
    each-map (λ site. Contains cells (callees_cell facts m.method site)) (IsLawful (total_places cells)) (site_task facts cells m.method) m.sites
    (λ s there. site-lawful facts cells numbered m.method s (within.0, there)) (each-all (λ site. Contains cells (callees_cell facts m.method site)) m.sites within.1)

pub graph-lawful : (set : SetView) (facts : Facts) (cells : List Cell) → IsNumbering cells → HasCells facts cells → AllLawful (total_places cells) (call_graph_tasks set facts cells)
graph-lawful set facts cells numbered has =
    let within = methods-within facts cells has in
    let lawful = IsLawful (total_places cells) in
    let bodies = each-map (IsMethodWithin facts cells) lawful (body_task set cells) facts.methods (λ m known. body-lawful set cells m known.0) within in
    let calls = each-flat (IsMethodWithin facts cells) lawful (method_calls facts cells) facts.methods (calls-lawful facts cells numbered) within in
    each-or lawful no_task (call_graph set facts cells) (root-lawful set facts cells, each-append lawful (map (body_task set cells) facts.methods) (flat_map (method_calls facts cells) facts.methods) bodies calls)

-- ---- the rows of calls

site-known : (facts : Facts) (cells : List Cell) (shapes : List Shape) → IsNumbering cells → total_places cells < 2 ^ 32 → AreShapesOf facts cells shapes → (method : ℕ) (s : CallSite) → s.call < length facts.calls → Contains cells (callees_cell facts method s) →
    IsSiteOf shapes (site_row cells method s)
site-known facts cells shapes numbered few shaped method s known there =
    let call = called facts s in
    let callees = callees_at cells method s.pc in
    let many : length (candidates_at shapes s.call) ≡ length call.targets + 1 =
    ap length (told-shape cells shapes facts.calls s.call (record { targets = []; always = []; watch = [] }) shaped known) ∙ candidates-many cells call in
    let last = cell-within cells (callees_cell facts method s) numbered there (length call.targets / 64) (word-within (length call.targets) (length call.targets) (omega arith)) in
    let next : (length call.targets + 1) / 64 ≤ length call.targets / 64 + 1 = omega arith in
    record {
      shaped = omega (arith, known, shapes-many cells shapes facts.calls shaped);
      words = subst (λ n. callees + n / 64 < 2 ^ 32) (sym many) (omega (arith, last, next, few));
    }

method-known : (facts : Facts) (cells : List Cell) (shapes : List Shape) → IsNumbering cells → total_places cells < 2 ^ 32 → AreShapesOf facts cells shapes → (m : MethodFacts) →
    All (λ s. s.call < length facts.calls) m.sites × All (λ site. Contains cells (callees_cell facts m.method site)) m.sites → Each (IsSiteOf shapes) (site_rows cells m)
method-known facts cells shapes numbered few shaped m known =
    each-map (λ s. (s.call < length facts.calls) × Contains cells (callees_cell facts m.method s)) (IsSiteOf shapes) (site_row cells m.method) m.sites
    (λ s k. site-known facts cells shapes numbered few shaped m.method s k.0 k.1)
    (each-both (λ s. s.call < length facts.calls) (λ s. Contains cells (callees_cell facts m.method s)) m.sites (each-all (λ s. s.call < length facts.calls) m.sites known.0) (each-all (λ s. Contains cells (callees_cell facts m.method s)) m.sites known.1))

pub sites-known : (facts : Facts) (cells : List Cell) (shapes : List Shape) (sites : List Site) → IsNumbering cells → total_places cells < 2 ^ 32 → AreCallsKnown facts → HasCells facts cells → AreShapesOf facts cells shapes →
    sites ≡ flat_map (site_rows cells) facts.methods → AreSitesOf shapes sites
sites-known facts cells shapes sites numbered few known has shaped is =
    let told = each-both (λ m. All (λ s. s.call < length facts.calls) m.sites) (λ m. All (λ site. Contains cells (callees_cell facts m.method site)) m.sites) facts.methods
    (each-all (λ m. All (λ s. s.call < length facts.calls) m.sites) facts.methods known) (each-all (λ m. All (λ site. Contains cells (callees_cell facts m.method site)) m.sites) facts.methods has.calls) in
    let each = each-flat (λ m. All (λ s. s.call < length facts.calls) m.sites × All (λ site. Contains cells (callees_cell facts m.method site)) m.sites) (IsSiteOf shapes) (site_rows cells) facts.methods (method-known facts cells shapes numbered few shaped) told in
    subst (λ l. AreSitesOf shapes l) (sym is) (each-at (IsSiteOf shapes) (flat_map (site_rows cells) facts.methods) each)
