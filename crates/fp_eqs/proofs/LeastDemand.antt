-- Rounds of demand end in the least demand.
use Rattle.std.proofs.Common.{◌≡◌, ◌<◌, ◌≤◌, ◌+◌, ◌&&◌, ◌⊎◌, ℕ, Bool, false, IsTrue, refl, sym, ap, subst, ◌∙◌, inl, inr, arith, zero, suc, add-one}
use Rattle.std.proofs.lemmas.Bool.{cases_lt}
use Rattle.fp_eqs.specs.declared.start.Start.{Start}
use Rattle.fp_eqs.specs.declared.start.Start.TheVariants.{Always, Triggered, Lazy}
use Rattle.fp_eqs.specs.Equations.{Equations, IsMonotone, IsIn, count_below}
use Rattle.fp_eqs.specs.Makers.{is_maker, is_lazy}
use Rattle.fp_eqs.specs.Solution.{solution}
use Rattle.fp_eqs.specs.Demand.{runs, is_started, demand_round, demand_after, demand, IsLeastDemand}
use Rattle.fp_eqs.specs.Tests.{left, right, either, both, parts, false-if_not, same-bool, any-here, any-found, any-grows, any-none}
use Rattle.fp_eqs.specs.Counts.{count_below-same, count_below-most}

runs-grow : (s : Start) (b c : Bool) → (IsTrue b → IsTrue c) → IsTrue (runs s b) → IsTrue (runs s c)
runs-grow Always b c h k = refl
runs-grow (Triggered p) b c h k = refl
runs-grow Lazy b c h k = h k

lazy-runs : (s : Start) (b : Bool) → IsTrue (is_lazy s) → IsTrue b → IsTrue (runs s b)
lazy-runs Always b h k = refl
lazy-runs (Triggered p) b h k = refl
lazy-runs Lazy b h k = k

stopped-lazy : (s : Start) (b : Bool) → runs s b ≡ false → IsTrue (is_lazy s) × (b ≡ false)
stopped-lazy Always b h = cc
stopped-lazy (Triggered p) b h = cc
stopped-lazy Lazy b h = (refl, h)

-- more demand starts no fewer tasks
pub started-grows : (e : Equations) (c d : ℕ → Bool) → IsIn c d → IsIn (is_started e c) (is_started e d)
started-grows e c d h t =
    runs-grow (e.task t).start _ _ (any-grows (λ p. (e.task t).makes p && c p) (λ p. (e.task t).makes p && d p) e.places
    (λ p _ k. let known = parts ((e.task t).makes p) (c p) k in both ((e.task t).makes p) (d p) known.0 (h p known.1)))

-- a lazy maker of a demanded place is started
pub started-maker : (e : Equations) (d : ℕ → Bool) (t p : ℕ) → p < e.places → IsTrue (is_maker p (e.task t)) → IsTrue (d p) → IsTrue (is_started e d t)
started-maker e d t p lt h wanted =
    let known = parts (is_lazy (e.task t).start) ((e.task t).makes p) h in
    lazy-runs (e.task t).start _ known.0 (any-here (λ q. (e.task t).makes q && d q) e.places p lt (both ((e.task t).makes p) (d p) known.1 wanted))

-- a task that isn't started is lazy and makes no demanded place
pub makes-none : (e : Equations) (d : ℕ → Bool) (t : ℕ) → is_started e d t ≡ false → (p : ℕ) → p < e.places → IsTrue (d p) → (e.task t).makes p ≡ false
makes-none e d t h p lt wanted =
    false-if_not ((e.task t).makes p) (λ k.
    let known = stopped-lazy (e.task t).start _ h in
    let not_here = any-none (λ q. (e.task t).makes q && d q) e.places known.1 p lt in
    let here = both ((e.task t).makes p) (d p) k wanted in cc)

pub stopped-is-lazy : (e : Equations) (d : ℕ → Bool) (t : ℕ) → is_started e d t ≡ false → IsTrue (is_lazy (e.task t).start)
stopped-is-lazy e d t h = (stopped-lazy (e.task t).start _ h).0

IsSupplied : Equations → (ℕ → Bool) → Type 0
IsSupplied e c = (t : ℕ) → t < e.tasks → IsTrue (is_started e c t) → IsIn ((e.task t).uses (solution e)) c

pub demand-rounds : (e : Equations) → demand e ≡ demand_after e (e.places + 1)
unfolding demand
demand-rounds e = refl

-- once a round adds no place, no later one does
pub demand-stays : (e : Equations) (d : ℕ → Bool) (k : ℕ) → ((p : ℕ) → demand_after e k p ≡ d p) → ((p : ℕ) → demand_round e d p ≡ d p) → (m : ℕ) → k ≤ m → (p : ℕ) → demand_after e m p ≡ d p
demand-stays e d k is same zero le p = ap (λ n. demand_after e n p) (none k le) ∙ is p
  where
    none : (n : ℕ) → n ≤ 0 → 0 ≡ n
    none n h = omega (arith, h)
demand-stays e d k is same (suc m) le p =
    elim (cases_lt m k) [
      | inl last ↦ ap (λ n. demand_after e n p) (at_last m k last le) ∙ is p
      | inr before ↦ ap (λ (f : ℕ → Bool). demand_round e f p) (λ i q. demand-stays e d k is same m before q i) ∙ same p
    ]
  where
    at_last : (m n : ℕ) → m < n → n ≤ suc m → suc m ≡ n
    at_last m n below above = omega (arith, below, above)

module _ (e : Equations) (laws : IsMonotone e) where
  pub demand_after-places : (k p : ℕ) → IsTrue (demand_after e k p) → p < e.places
  demand_after-places zero p h = laws.shown_places p h
  demand_after-places (suc k) p h =
      elim (either (demand_after e k p) _ h) [
        | inl before ↦ demand_after-places k p before
        | inr new ↦ (let r = any-found (λ t. is_started e (demand_after e k) t && (e.task t).uses (solution e) p) e.tasks new in
            (laws.lawful r.at r.below).uses_places (solution e) p (parts (is_started e (demand_after e k) r.at) ((e.task r.at).uses (solution e) p) r.passes).1)
      ]

  round-grows : (d : ℕ → Bool) → IsIn d (demand_round e d)
  round-grows d p h = left (d p) _ h

  -- no round leaves what is supplied
  demand_after-within : (c : ℕ → Bool) → IsIn e.shown c → IsSupplied e c → (k : ℕ) → IsIn (demand_after e k) c
  unfolding IsSupplied
  demand_after-within c shown supplied zero p h = shown p h
  demand_after-within c shown supplied (suc k) p h =
      elim (either (demand_after e k p) _ h) [
        | inl before ↦ demand_after-within c shown supplied k p before
        | inr new ↦ (let r = any-found (λ t. is_started e (demand_after e k) t && (e.task t).uses (solution e) p) e.tasks new in
            let known = parts (is_started e (demand_after e k) r.at) ((e.task r.at).uses (solution e) p) r.passes in
            supplied r.at r.below (started-grows e (demand_after e k) c (demand_after-within c shown supplied k) r.at known.0) p known.1)
      ]

  IsStable : ℕ → Type 0
  IsStable k = (p : ℕ) → demand_after e k p ≡ demand_after e (suc k) p

  weight : ℕ → ℕ
  weight k = count_below (demand_after e k) e.places

  stable-weight : (k : ℕ) → weight (suc k) ≤ weight k → IsStable k
  unfolding weight IsStable
  stable-weight k le p =
      same-bool (demand_after e k p) (demand_after e (suc k) p) (round-grows (demand_after e k) p)
      (λ h. let lt = demand_after-places (suc k) p h in
      subst (λ b. IsTrue b) (sym (count_below-same (demand_after e k) (demand_after e (suc k)) e.places (λ q _. round-grows (demand_after e k) q) le p lt)) h)

  stable-next : (k : ℕ) → IsStable k → IsStable (suc k)
  unfolding IsStable
  stable-next k h p = ap (λ (d : ℕ → Bool). demand_round e d p) (λ i q. h q i)

  stable-or-heavy : (k : ℕ) → IsStable k ⊎ (k < weight (suc k))
  stable-or-heavy zero =
      elim (cases_lt (weight 0) (weight (suc 0))) [ inl more ↦ inr (omega arith) | inr same ↦ inl (stable-weight 0 same) ]
  stable-or-heavy (suc k) =
      elim (stable-or-heavy k) [
        | inl stable ↦ inl (stable-next k stable)
        | inr heavy ↦ elim (cases_lt (weight (suc k)) (weight (suc (suc k)))) [ inl more ↦ inr (omega arith) | inr same ↦ inl (stable-weight (suc k) same) ]
      ]

  weight-most : (k : ℕ) → weight k ≤ e.places
  unfolding weight
  weight-most k = count_below-most (demand_after e k) e.places

  stable-end : IsStable (suc e.places)
  stable-end =
      elim (stable-or-heavy e.places) [
        | inl stable ↦ stable-next e.places stable
        | inr heavy ↦ absurd (omega (arith, weight-most (suc e.places)))
      ]

  pub demand-is : (p : ℕ) → demand e p ≡ demand_after e (suc e.places) p
  unfolding demand
  demand-is p = ap (λ k. demand_after e k p) (add-one e.places)

  shown-within : (k : ℕ) → IsIn e.shown (demand_after e k)
  shown-within zero p h = h
  shown-within (suc k) p h = round-grows (demand_after e k) p (shown-within k p h)

  end-supplied : IsSupplied e (demand_after e (suc e.places))
  unfolding IsSupplied IsStable
  end-supplied t lt started p used =
      let d = demand_after e (suc e.places) in
      subst (λ b. IsTrue b) (sym (stable-end p))
      (right (d p) _ (any-here (λ u. is_started e d u && (e.task u).uses (solution e) p) e.tasks t lt (both (is_started e d t) ((e.task t).uses (solution e) p) started used)))

  end-least : IsLeastDemand e (demand_after e (suc e.places))
  unfolding IsSupplied
  end-least = record {
    holds_shown = shown-within (suc e.places);
    supplied = end-supplied;
    least = λ c shown supplied. demand_after-within c shown supplied (suc e.places);
  }

  demand-end : demand e ≡ demand_after e (suc e.places)
  demand-end = λ i p. demand-is p i

  pub demand-least : IsLeastDemand e (demand e)
  demand-least = subst (IsLeastDemand e) (sym demand-end) end-least

  pub demand-places : (p : ℕ) → IsTrue (demand e p) → p < e.places
  demand-places p h = demand_after-places (suc e.places) p (subst (λ b. IsTrue b) (demand-is p) h)
