-- Steps of a partial function on numbers, and where they come back.
use Rattle.std.proofs.Common.{◌≡◌, ℕ, zero, suc, ◌+◌, ◌-◌, ◌*◌, ◌<◌, ◌≤◌, true, Option, Some, None, option_and_then, unwrap_or, ⊎_elim, refl, sym, ap, subst, ◌∙◌, arith, zero-add, suc-add, suc-mul}
use Rattle.std.proofs.lemmas.Option.{option_and_then_some, same_Some}
use Rattle.std.proofs.lemmas.Bool.{or_cases, or_left, or_right, eqb-true, eq-eqb, cases_eq, false≢true}
use Rattle.fp_model.specs.ClassSet.{after_steps, comes_back, is_number}
use Rattle.fp_model.proofs.Pigeonhole.{two_share}

and_then-assoc : (f g : ℕ → Option ℕ) (o : Option ℕ) → option_and_then f (option_and_then g o) ≡ option_and_then (λ x. option_and_then f (g x)) o
and_then-assoc f g None = refl
and_then-assoc f g (Some x) = refl

-- first some steps and then others
pub after_steps-add : (next : ℕ → Option ℕ) (a b id : ℕ) → after_steps next (a + b) id ≡ option_and_then (after_steps next a) (after_steps next b id)
unfolding after_steps
after_steps-add next zero b id = rw zero-add (none_more (after_steps next b id))
  where
    none_more : (o : Option ℕ) → o ≡ option_and_then (λ x. Some x) o
    none_more None = refl
    none_more (Some x) = refl
after_steps-add next (suc a) b id = rw suc-add (ap (option_and_then next) (after_steps-add next a b id) ∙ and_then-assoc next (after_steps next a) (after_steps next b id))

-- so many steps lead from the first number to the second
pub record Leads (next : ℕ → Option ℕ) (steps from to : ℕ) : Type 0 where
  pub leads : after_steps next steps from ≡ Some to

Leads-zero : (next : ℕ → Option ℕ) (x : ℕ) → Leads next 0 x x
unfolding after_steps
Leads-zero next x = record { leads = refl }

Leads-add : {next : ℕ → Option ℕ} {x y z : ℕ} (a b : ℕ) → Leads next b x y → Leads next a y z → Leads next (a + b) x z
Leads-add {next} {x} {y} {z} a b first second = record { leads = after_steps-add next a b x ∙ ap (option_and_then (after_steps next a)) first.leads ∙ second.leads }

Leads-split : {next : ℕ → Option ℕ} {x z : ℕ} (a b : ℕ) → Leads next (a + b) x z → (y : ℕ) × Leads next b x y × Leads next a y z
Leads-split {next} {x} {z} a b whole =
    option_and_then_some (after_steps next a) (after_steps next b x) z (sym (after_steps-add next a b x) ∙ whole.leads)
    (λ y first second. (y, record { leads = first }, record { leads = second }))

Leads-same : {next : ℕ → Option ℕ} {x y z : ℕ} (a : ℕ) → Leads next a x y → Leads next a x z → y ≡ z
Leads-same {next} {x} {y} {z} a first second = same_Some y z (sym first.leads ∙ second.leads)

pub Leads-steps : {next : ℕ → Option ℕ} {x y : ℕ} (a b : ℕ) → a ≡ b → Leads next a x y → Leads next b x y
Leads-steps {next} {x} {y} a b e whole = let P : ℕ → Type 0 = λ k. Leads next k x y in subst P e whole

-- each step goes from a number below n to one below n
pub record IsWithin (next : ℕ → Option ℕ) (n : ℕ) : Type 0 where
  pub from : (x y : ℕ) → next x ≡ Some y → x < n
  pub to : (x y : ℕ) → next x ≡ Some y → y < n

last_step : {next : ℕ → Option ℕ} {x z : ℕ} (a : ℕ) → Leads next (suc a) x z → (y : ℕ) × Leads next a x y × (next y ≡ Some z)
unfolding after_steps
last_step {next} {x} {z} a whole =
    option_and_then_some next (after_steps next a x) z whole.leads (λ y first second. (y, record { leads = first }, second))

pub starts_within : {next : ℕ → Option ℕ} {n : ℕ} → IsWithin next n → (a x z : ℕ) → Leads next (suc a) x z → x < n
unfolding after_steps
starts_within {next} {n} within zero x z whole = within.from x z whole.leads
starts_within {next} {n} within (suc a) x z whole = let last = last_step (suc a) whole in starts_within within a x last.0 last.1

pub ends_within : {next : ℕ → Option ℕ} {n : ℕ} → IsWithin next n → (a x z : ℕ) → x < n → Leads next a x z → z < n
unfolding after_steps
ends_within {next} {n} within zero x z small whole = omega (arith, same_Some x z whole.leads)
ends_within {next} {n} within (suc a) x z small whole = let last = last_step a whole in within.to last.0 z last.2

-- round and round
comes_round : {next : ℕ → Option ℕ} {x : ℕ} (p m : ℕ) → Leads next p x x → Leads next (m * p) x x
comes_round {next} {x} p zero round = Leads-steps 0 (0 * p) (omega arith) (Leads-zero next x)
comes_round {next} {x} p (suc m) round = Leads-steps (p + m * p) (suc m * p) (rw suc-mul (omega arith)) (Leads-add p (m * p) (comes_round p m round) round)

-- any number of steps leads to what comes back, from some place
pub reached_by : {next : ℕ → Option ℕ} {x : ℕ} (p k : ℕ) → Leads next (suc p) x x → (y : ℕ) × Leads next k y x
reached_by {next} {x} p k round =
    let whole = Leads-steps (k * suc p) (k + k * p) (Prim.grind arith) (comes_round (suc p) k round) in
    let parts = Leads-split k (k * p) whole in
    (parts.0, parts.2)

-- the number that so many steps lead to, where they lead to one
place : (ℕ → Option ℕ) → ℕ → ℕ → ℕ
place next x steps = unwrap_or (after_steps next steps x) 0

passes_place : {next : ℕ → Option ℕ} {x z : ℕ} (k i : ℕ) → i ≤ k → Leads next k x z → Leads next i x (place next x i) × Leads next (k - i) (place next x i) z
unfolding place
passes_place {next} {x} {z} k i within whole =
    let parts = Leads-split (k - i) i (Leads-steps k (k - i + i) (omega arith) whole) in
    let is : parts.0 ≡ unwrap_or (after_steps next i x) 0 = ap (λ o. unwrap_or o 0) (sym parts.1.leads) in
    let P : ℕ → Type 0 = λ y. Leads next i x y × Leads next (k - i) y z in
    subst P is (parts.1, parts.2)

-- where a chain leads that takes as many steps as there are numbers, a shorter one comes back
pub comes_round_from : {next : ℕ → Option ℕ} {n : ℕ} → IsWithin next n → (k x z : ℕ) → n ≤ k → 0 < k → Leads next k x z → (p : ℕ) × (0 < p) × (p ≤ n) × Leads next p z z
comes_round_from {next} {n} within k x z long positive whole =
    let small : x < n = starts_within within (k - 1) x z (Leads-steps k (suc (k - 1)) (omega arith) whole) in
    let below : (i : ℕ) → i < suc n → place next x i < n = λ i lt. ends_within within i x (place next x i) small (passes_place k i (omega arith) whole).0 in
    let share = two_share n (place next x) below in
    round share.0 share.1 share.2 share.3 share.4
  where
    round : (i j : ℕ) → i < j → j < suc n → place next x i ≡ place next x j → (p : ℕ) × (0 < p) × (p ≤ n) × Leads next p z z
    round i j less few same =
        let at_i = passes_place k i (omega arith) whole in
        let at_j = passes_place k j (omega arith) whole in
        let from_i = passes_place j i (omega arith) at_j.0 in
        let P : ℕ → Type 0 = λ y. Leads next (j - i) (place next x i) y in
        let loop = subst P (sym same) from_i.1 in
        let round_first = Leads-add (k - i) (j - i) loop at_i.1 in
        let parts = Leads-split (j - i) (k - i) (Leads-steps (k - i + (j - i)) (j - i + (k - i)) (omega arith) round_first) in
        let Q : ℕ → Type 0 = λ y. Leads next (j - i) y z in
        (j - i, omega arith, omega arith, subst Q (Leads-same (k - i) parts.1 at_i.1) parts.2)

pub is_number-true : (n : ℕ) (o : Option ℕ) → is_number n o ≡ true → o ≡ Some n
is_number-true n None e = absurd (false≢true e)
is_number-true n (Some m) e = ap (λ x. Some x) (eqb-true m n e)

pub is_number-same : (n : ℕ) → is_number n (Some n) ≡ true
is_number-same n = eq-eqb n n refl

-- what `comes_back` tests
pub comes_back-true : (next : ℕ → Option ℕ) (m id : ℕ) → comes_back next m id ≡ true → (p : ℕ) × (0 < p) × (p ≤ m) × Leads next p id id
unfolding comes_back
comes_back-true next zero id e = absurd (false≢true e)
comes_back-true next (suc m) id e = ⊎_elim
    (λ before. let at = comes_back-true next m id before in (at.0, at.1, omega arith, at.3))
    (λ here. (suc m, omega arith, omega arith, record { leads = is_number-true id (after_steps next (suc m) id) here }))
    (or_cases (comes_back next m id) (is_number id (after_steps next (suc m) id)) e)

pub comes_back-from : (next : ℕ → Option ℕ) (m id p : ℕ) → 0 < p → p ≤ m → Leads next p id id → comes_back next m id ≡ true
unfolding comes_back
comes_back-from next zero id p positive within round = absurd (omega arith)
comes_back-from next (suc m) id p positive within round = ⊎_elim
    (λ here. or_right (comes_back next m id) (is_number id (after_steps next (suc m) id))
    (let at = Leads-steps p (suc m) here round in rw at.leads (is_number-same id)))
    (λ before. or_left (comes_back next m id) (is_number id (after_steps next (suc m) id))
    (comes_back-from next m id p positive (omega arith) round))
    (cases_eq p (suc m))

-- a chain of any length that comes back is found
pub comes_back-any : {next : ℕ → Option ℕ} {n : ℕ} → IsWithin next n → (steps id : ℕ) → Leads next (suc steps) id id → comes_back next n id ≡ true
comes_back-any {next} {n} within steps id round =
    let small = starts_within within steps id id round in
    let far = reached_by steps n round in
    let short = comes_round_from within n far.0 id (omega arith) (omega arith) far.1 in
    comes_back-from next n id short.0 short.1 short.2 short.3
