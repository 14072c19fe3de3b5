-- A search that starts each task at most once finds the least demand.
use Rattle.std.proofs.Common.{◌≡◌, ◌==◌, ◌<◌, ◌≤◌, ◌+◌, ◌||◌, ◌&&◌, ℕ, Bool, true, false, IsTrue, List, [], ◌∷◌, length, set, slice_index, refl, sym, ap, subst, ◌∙◌, inl, inr, arith, suc}
use Rattle.std.proofs.Math.ListN.{length-set}
use Rattle.std.proofs.lemmas.Bool.{cases_Bool, cases_lt}
use Rattle.std.proofs.lemmas.List.Folds.{list_any_at}
use Rattle.fp_eqs.specs.declared.plain.needs.Needs.{Needs}
use Rattle.fp_eqs.specs.declared.start.Start.{Start}
use Rattle.fp_eqs.specs.declared.start.Start.TheVariants.{Always, Triggered, Lazy}
use Rattle.fp_eqs.specs.Demand.{demand, is_started, runs}
use Rattle.fp_eqs.specs.Equations.{Equations, IsIn, IsMonotone, Task}
use Rattle.fp_eqs.specs.Makers.{is_lazy, is_maker, rank, IsMakerAt}
use Rattle.fp_eqs.specs.Needs.{AreFound, AreLater, AreNeeds, GoesOn, is_listed}
use Rattle.fp_eqs.specs.Solution.{solution}
use Rattle.fp_eqs.specs.Solved.{flag_at}
use Rattle.fp_eqs.specs.Tests.{left, right, either, both, parts, same-bool, same-place, place-here, any-found}
use Rattle.fp_eqs.proofs.Flags.{mark-one, goes-on-same, goes-on-both}
use Rattle.fp_eqs.proofs.LeastDemand.{demand-least, demand-places, started-maker}
use Rattle.fp_eqs.proofs.MakerLemmas.{same-rank}

eager-runs : (s : Start) (b : Bool) → is_lazy s ≡ false → IsTrue (runs s b)
eager-runs Always b h = refl
eager-runs (Triggered p) b h = refl
eager-runs Lazy b h = let wrong : true ≡ false = h in cc

lazy-runs : (s : Start) (b : Bool) → IsTrue (is_lazy s) → IsTrue (runs s b) → IsTrue b
lazy-runs Always b h k = let wrong : false ≡ true = h in cc
lazy-runs (Triggered p) b h k = let wrong : false ≡ true = h in cc
lazy-runs Lazy b h k = k

-- a task that waits for no demand is started by any
pub eager-started : (e : Equations) (d : ℕ → Bool) (t : ℕ) → is_lazy (e.task t).start ≡ false → IsTrue (is_started e d t)
eager-started e d t h = eager-runs (e.task t).start _ h

pub later-same : (s : Needs) → AreLater s s
later-same s = record { wanted = λ p h. h; started = λ t h. h; goes_on = goes-on-same s.found.items }

pub later-both : (s m n : Needs) → AreLater s m → AreLater m n → AreLater s n
later-both s m n h k = record {
  wanted = λ p w. k.wanted p (h.wanted p w);
  started = λ t w. k.started t (h.started t w);
  goes_on = goes-on-both s.found.items m.found.items n.found.items h.goes_on k.goes_on;
}

-- what a place or places more leave, where no task was started
pub wanted-later : (s n : Needs) (more : ℕ → Bool) → ((p : ℕ) → flag_at n.wanted.items p ≡ (flag_at s.wanted.items p || more p)) → n.started.items ≡ s.started.items →
    GoesOn s.found.items n.found.items → AreLater s n
wanted-later s n more marked same goes = record {
  wanted = λ p h. subst (λ b. IsTrue b) (sym (marked p)) (left (flag_at s.wanted.items p) (more p) h);
  started = λ t h. subst (λ xs. IsTrue (flag_at xs t)) (sym same) h;
  goes_on = goes;
}

-- a list without flags wants nothing
pub needs-none : (e : Equations) (s : Needs) → length s.wanted.items ≡ e.places → length s.started.items ≡ e.tasks → AreFound s.wanted.items s.found.items →
    ((p : ℕ) → flag_at s.wanted.items p ≡ false) → ((t : ℕ) → flag_at s.started.items t ≡ false) → AreNeeds e s
needs-none e s places tasks found wanted started = record {
  flag_count = places;
  start_count = tasks;
  found = found;
  needed = λ p h. let none = wanted p in let wrong : false ≡ true = sym none ∙ h in cc;
  supplied = λ t h. let none = started t in let wrong : false ≡ true = sym none ∙ h in cc;
}

module _ (e : Equations) (laws : IsMonotone e) where
  -- a shown place is wanted
  pub needs-shown : (s n : Needs) (q : ℕ) → IsTrue (e.shown q) → AreNeeds e s → length n.wanted.items ≡ length s.wanted.items →
      ((p : ℕ) → flag_at n.wanted.items p ≡ (flag_at s.wanted.items p || q == p)) → AreFound n.wanted.items n.found.items → n.started.items ≡ s.started.items → AreNeeds e n
  needs-shown s n q shown known long marked found same = record {
    flag_count = long ∙ known.flag_count;
    start_count = ap length same ∙ known.start_count;
    found = found;
    needed = λ p h. elim (either (flag_at s.wanted.items p) (q == p) (subst (λ b. IsTrue b) (marked p) h)) [
      | inl before ↦ known.needed p before
      | inr here ↦ subst (λ r. IsTrue (demand e r)) (same-place q p here) ((demand-least e laws).holds_shown q shown)
    ];
    supplied = λ t h p used. subst (λ b. IsTrue b) (sym (marked p)) (left (flag_at s.wanted.items p) (q == p) (known.supplied t (subst (λ xs. IsTrue (flag_at xs t)) same h) p used));
  }

  -- a task is started, and what it uses is wanted
  pub needs-started : (s n : Needs) (t : ℕ) → t < e.tasks → IsTrue (is_started e (demand e) t) → AreNeeds e s → length n.wanted.items ≡ length s.wanted.items →
      ((p : ℕ) → flag_at n.wanted.items p ≡ (flag_at s.wanted.items p || (e.task t).uses (solution e) p)) → AreFound n.wanted.items n.found.items →
      n.started.items ≡ set s.started.items t true → AreNeeds e n
  needs-started s n t lt started known long marked found set_here =
      let inside : t < length s.started.items = omega (arith, known.start_count, lt) in
      let stays : (p : ℕ) → IsTrue (flag_at s.wanted.items p) → IsTrue (flag_at n.wanted.items p) =
      λ p h. subst (λ b. IsTrue b) (sym (marked p)) (left (flag_at s.wanted.items p) ((e.task t).uses (solution e) p) h) in
      record {
        flag_count = long ∙ known.flag_count;
        start_count = ap length set_here ∙ length-set s.started.items t true ∙ known.start_count;
        found = found;
        needed = λ p h. elim (either (flag_at s.wanted.items p) ((e.task t).uses (solution e) p) (subst (λ b. IsTrue b) (marked p) h)) [
          | inl before ↦ known.needed p before
          | inr used ↦ (demand-least e laws).supplied t lt started p used
        ];
        supplied = λ u h p used.
            let flagged : IsTrue (flag_at s.started.items u || t == u) = subst (λ b. IsTrue b) (ap (λ xs. flag_at xs u) set_here ∙ mark-one s.started.items t inside u) h in
            elim (either (flag_at s.started.items u) (t == u) flagged) [
              | inl before ↦ stays p (known.supplied u before p used)
              | inr here ↦ subst (λ b. IsTrue b) (sym (marked p)) (right (flag_at s.wanted.items p) ((e.task t).uses (solution e) p)
                  (subst (λ r. IsTrue ((e.task r).uses (solution e) p)) (sym (same-place t u here)) used))
            ];
      }

  -- the lazy makers of a wanted place run
  pub maker-runs : (s : Needs) (p k t : ℕ) → p < e.places → AreNeeds e s → IsTrue (flag_at s.wanted.items p) → IsMakerAt e.task e.tasks p k t → IsTrue (is_started e (demand e) t)
  maker-runs s p k t lt known wanted maker = started-maker e (demand e) t p lt maker.maker (known.needed p wanted)

  record IsListedAt (xs : List ℕ) (p : ℕ) : Type 0 where
    at : ℕ
    below : at < length xs
    is : slice_index xs at ≡ p

  listed-at : (xs : List ℕ) (p : ℕ) → IsTrue (is_listed xs p) → IsListedAt xs p
  listed-at [] p h = let wrong : false ≡ true = h in cc
  listed-at (x ∷ xs) p h =
      elim (either (x == p) (is_listed xs p) h) [
        | inl here ↦ record { at = 0; below = omega arith; is = same-place x p here }
        | inr later ↦ (let r = listed-at xs p later in record { at = suc r.at; below = omega (arith, r.below); is = r.is })
      ]

  -- once the makers of each place found were started, the places wanted are those demanded
  pub all-needed : (s : Needs) → AreNeeds e s → IsIn e.shown (flag_at s.wanted.items) →
      ((t : ℕ) → t < e.tasks → is_lazy (e.task t).start ≡ false → IsTrue (flag_at s.started.items t)) →
      ((i t : ℕ) → i < length s.found.items → t < e.tasks → IsTrue (is_maker (slice_index s.found.items i) (e.task t)) → IsTrue (flag_at s.started.items t)) →
      flag_at s.wanted.items ≡ demand e
  all-needed s known shown eager makers =
      let lazy_started : (t : ℕ) → t < e.tasks → IsTrue (is_lazy (e.task t).start) → IsTrue (is_started e (flag_at s.wanted.items) t) → IsTrue (flag_at s.started.items t) =
      λ t lt lazy started.
      (let r = any-found (λ p. (e.task t).makes p && flag_at s.wanted.items p) e.places (lazy-runs (e.task t).start _ lazy started) in
      let makes = parts ((e.task t).makes r.at) (flag_at s.wanted.items r.at) r.passes in
      let there = listed-at s.found.items r.at (subst (λ b. IsTrue b) (known.found.listed r.at) makes.1) in
      let maker : IsTrue (is_maker r.at (e.task t)) = both (is_lazy (e.task t).start) ((e.task t).makes r.at) lazy makes.0 in
      makers there.at t there.below lt (subst (λ p. IsTrue (is_maker p (e.task t))) (sym there.is) maker)) in
      let supplied : (t : ℕ) → t < e.tasks → IsTrue (is_started e (flag_at s.wanted.items) t) → IsIn ((e.task t).uses (solution e)) (flag_at s.wanted.items) =
      λ t lt started. elim (cases_Bool (is_lazy (e.task t).start)) [
        | inl lazy ↦ known.supplied t (lazy_started t lt lazy started)
        | inr other ↦ known.supplied t (eager t lt other)
      ] in
      let same : (p : ℕ) → flag_at s.wanted.items p ≡ demand e p =
      λ p. same-bool (flag_at s.wanted.items p) (demand e p) (known.needed p) ((demand-least e laws).least (flag_at s.wanted.items) shown supplied p) in
      λ i p. same p i

-- the makers of a place up to the one of a number were started, and that one too
pub makers-more : (task : ℕ → Task) (tasks p k t : ℕ) (old new : List Bool) → IsMakerAt task tasks p k t → IsIn (flag_at old) (flag_at new) → IsTrue (flag_at new t) →
    ((u : ℕ) → u < tasks → IsTrue (is_maker p (task u)) → rank task p u < k → IsTrue (flag_at old u)) →
    (u : ℕ) → u < tasks → IsTrue (is_maker p (task u)) → rank task p u < k + 1 → IsTrue (flag_at new u)
makers-more task tasks p k t old new maker stays here so_far u lt makes below =
    elim (cases_lt (rank task p u) k) [
      | inl less ↦ stays u (so_far u lt makes less)
      | inr same ↦ subst (λ v. IsTrue (flag_at new v)) (same-rank task p t u maker.maker makes (omega (arith, maker.ranked, same, below))) here
    ]

-- the makers of the places up to one were started, and those of that one too
pub places-more : (e : Equations) (s n : Needs) (at : ℕ) → AreLater s n → at < length s.found.items →
    ((i t : ℕ) → i < at → i < length s.found.items → t < e.tasks → IsTrue (is_maker (slice_index s.found.items i) (e.task t)) → IsTrue (flag_at s.started.items t)) →
    ((t : ℕ) → t < e.tasks → IsTrue (is_maker (slice_index s.found.items at) (e.task t)) → IsTrue (flag_at n.started.items t)) →
    (i t : ℕ) → i < at + 1 → i < length n.found.items → t < e.tasks → IsTrue (is_maker (slice_index n.found.items i) (e.task t)) → IsTrue (flag_at n.started.items t)
places-more e s n at later lt so_far here i t below within tasks makes =
    let inside : i < length s.found.items = omega (arith, below, lt) in
    let before : IsTrue (is_maker (slice_index s.found.items i) (e.task t)) = subst (λ p. IsTrue (is_maker p (e.task t))) (later.goes_on i inside).1 makes in
    elim (cases_lt i at) [
      | inl less ↦ later.started t (so_far i t less inside tasks before)
      | inr same ↦ (let is : i ≡ at = omega (arith, below, same) in here t tasks (subst (λ j. IsTrue (is_maker (slice_index s.found.items j) (e.task t))) is before))
    ]

-- a place that was found is one of the system
pub found-places : (e : Equations) (laws : IsMonotone e) (s : Needs) (at : ℕ) → AreNeeds e s → at < length s.found.items → (slice_index s.found.items at < e.places) × IsTrue (flag_at s.wanted.items (slice_index s.found.items at))
found-places e laws s at known lt =
    let p : ℕ = slice_index s.found.items at in
    let wanted : IsTrue (flag_at s.wanted.items p) = known.found.listed p ∙ list_any_at (λ q. q == p) s.found.items at 0 lt (place-here p) in
    (demand-places e laws p (known.needed p wanted), wanted)

-- no more places are found than there are
pub found-few : (e : Equations) (s : Needs) → AreNeeds e s → length s.found.items ≤ e.places
found-few e s known = omega (arith, known.found.few, known.flag_count)
