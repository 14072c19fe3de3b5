-- What is left after all methods, by sums.
use Rattle.std.proofs.Common.{◌≡◌, ℕ, ◌+◌, ◌-◌, ◌<◌, ◌≤◌, nat_lt, ◌||◌, Bool, true, false, List, [], ◌∷◌, length, refl, sym, ap, subst, ◌∙◌, arith, inl, inr}
use Rattle.std.specs.Prelude.{Option, Some, None, Result, Ok, Err, if◌then◌else◌}
use Rattle.std.specs.List.{flat_map, fold, list_any, range_with_len, sum_by}
use Rattle.std.proofs.lemmas.Bool.{lt-ltb, le-ltb, cases_lt}
use Rattle.std.proofs.lemmas.List.Concat.{flat_map-cons}
use Rattle.std.proofs.lemmas.List.Folds.{list_any-append}
use Rattle.std.proofs.lemmas.List.Sums.{sum_by-cons}
use Rattle.fp_model.specs.declared.limit.LimitName.{LimitName}
use Rattle.fp_model.specs.declared.limit.LimitName.TheVariants as limit
use Rattle.fp_model.specs.declared.class.Class.{Class}
use Rattle.fp_model.specs.ClassSet.{SetView, methods_of}
use Rattle.fp_facts.specs.declared.reference.Reference.{Reference}
use Rattle.fp_facts.specs.Behaviour.{allocs_of}
use Rattle.fp_facts.specs.Facts.{Coded, coded, coded_at, references_in}
use Rattle.fp_facts.specs.Steps.{steps}
use Rattle.fp_facts.proofs.ListedNumbers.{any-has, has-range}
use Rattle.fp_extract.specs.declared.fault.FactsFault.{FactsFault}
use Rattle.fp_extract.specs.declared.fault.FactsFault.TheVariants as fault
use Rattle.fp_extract.specs.declared.room.Left.{Left}
use Rattle.fp_extract.specs.declared.room.Room.{Room}
use Rattle.fp_extract.specs.Refusals.{TellsFault, TellsPairs, facts_refusal, has_many_pairs, room_left, room_of}
use Rattle.fp_extract.specs.Rooms.{call_cost, left_after, left_by, left_of, left_without, less, method_gives, method_places, method_uses, room_after, taken_gives, taken_places, taken_uses}

-- ---- numbers less others

less-over : (m n : ℕ) → m < n → less (Some m) n ≡ None
less-over m n over = (let is : nat_lt m n ≡ true = lt-ltb m n over in rw is refl)

less-within : (m n : ℕ) → n ≤ m → less (Some m) n ≡ Some (m - n)
less-within m n within = (let is : nat_lt m n ≡ false = le-ltb m n within in rw is refl)

less-both : (m a b : ℕ) → less (less (Some m) a) b ≡ less (Some m) (a + b)
less-both m a b = elim (cases_lt m a) [
  | inl over ↦ ap (λ (o : Option ℕ). less o b) (less-over m a over) ∙ sym (less-over m (a + b) (omega (arith, over)))
  | inr within ↦ ap (λ (o : Option ℕ). less o b) (less-within m a within) ∙ elim (cases_lt (m - a) b) [
    | inl over ↦ less-over (m - a) b over ∙ sym (less-over m (a + b) (omega (arith, within, over)))
    | inr rest ↦ less-within (m - a) b rest ∙ ap (λ (n : ℕ). Some n) (omega (arith, within, rest)) ∙ sym (less-within m (a + b) (omega (arith, within, rest)))
  ]
]

less-more : (o : Option ℕ) (a b : ℕ) → less (less o a) b ≡ less o (a + b)
less-more None a b = refl
less-more (Some m) a b = less-both m a b

less-zero : (o : Option ℕ) → less o 0 ≡ o
less-zero None = refl
less-zero (Some m) = less-within m 0 (omega arith) ∙ ap (λ (n : ℕ). Some n) (omega arith)

-- ---- sums

fold-less : {X : Type 0} (f : X → ℕ) (step : Left → X → Left) (get : Left → Option ℕ) → ((l : Left) (x : X) → get (step l x) ≡ less (get l) (f x)) → (xs : List X) (l : Left) → get (fold step l xs) ≡ less (get l) (sum_by f xs)
fold-less f step get one [] l = sym (less-zero (get l))
fold-less f step get one (x ∷ xs) l =
    fold-less f step get one xs (step l x) ∙ ap (λ (o : Option ℕ). less o (sum_by f xs)) (one l x) ∙ less-more (get l) (f x) (sum_by f xs)
    ∙ ap (less (get l)) (sym (sum_by-cons f x xs))

module _ (set : SetView) where
  after-places : (l : Left) (refs : List Reference) → (left_after set l refs).places ≡ less l.places (sum_by (λ r. (call_cost set r).places) refs)
  after-places l refs = fold-less (λ r. (call_cost set r).places) (λ (k : Left) (r : Reference). left_without k (call_cost set r)) (λ k. k.places) (λ k r. refl) refs l

  after-uses : (l : Left) (refs : List Reference) → (left_after set l refs).uses ≡ less l.uses (sum_by (λ r. (call_cost set r).uses) refs)
  after-uses l refs = fold-less (λ r. (call_cost set r).uses) (λ (k : Left) (r : Reference). left_without k (call_cost set r)) (λ k. k.uses) (λ k r. refl) refs l

  after-gives : (l : Left) (refs : List Reference) → (left_after set l refs).gives ≡ less l.gives (sum_by (λ r. (call_cost set r).gives) refs)
  after-gives l refs = fold-less (λ r. (call_cost set r).gives) (λ (k : Left) (r : Reference). left_without k (call_cost set r)) (λ k. k.gives) (λ k r. refl) refs l

  by-places : (l : Left) (m : Coded) → (left_by set l m).places ≡ less l.places (method_places set m)
  by-places l m =
      let refs = references_in m in
      let count = length (allocs_of (steps m.method m.code)) in
      ap (λ (o : Option ℕ). less o count) (after-places l refs) ∙ less-more l.places (sum_by (λ r. (call_cost set r).places) refs) count

  -- what is left after all methods
  pub left-told : (room : Room) (l : Left) → l ≡ fold (left_by set) (left_of room) (coded set.classes) →
      room_left l ≡ room_of (less (Some room.places) (taken_places set)) (less (Some room.uses) (taken_uses set)) (less (Some room.gives) (taken_gives set))
  left-told room l is =
      let all = coded set.classes in
      let end = fold (left_by set) (left_of room) all in
      let places : end.places ≡ less (Some room.places) (taken_places set) = fold-less (method_places set) (left_by set) (λ k. k.places) by-places all (left_of room) in
      let uses : end.uses ≡ less (Some room.uses) (taken_uses set) = fold-less (method_uses set) (left_by set) (λ k. k.uses) (λ k m. after-uses k (references_in m)) all (left_of room) in
      let gives : end.gives ≡ less (Some room.gives) (taken_gives set) = fold-less (method_gives set) (left_by set) (λ k. k.gives) (λ k m. after-gives k (references_in m)) all (left_of room) in
      ap room_left is
      ∙ ap (λ (o : Option ℕ). room_of o end.uses end.gives) places
      ∙ ap (λ (o : Option ℕ). room_of (less (Some room.places) (taken_places set)) o end.gives) uses
      ∙ ap (λ (o : Option ℕ). room_of (less (Some room.places) (taken_places set)) (less (Some room.uses) (taken_uses set)) o) gives

-- ---- the first bound that is passed

abbrev room_by : (x y z : Bool) (p u g : ℕ) → Result Room FactsFault
room_by x y z p u g = room_of (if x then None else Some p) (if y then None else Some u) (if z then None else Some g)

abbrev refusal_by : (x y z : Bool) → Option LimitName
refusal_by x y z = if x then Some limit.Places else if y then Some limit.Uses else if z then Some limit.Gives else None

room-in : Room → Result Room FactsFault → Room
room-in d (Ok r) = r
room-in d (Err e) = d

fault-in : FactsFault → Result Room FactsFault → FactsFault
fault-in d (Ok r) = d
fault-in d (Err e) = e

ok-by : (x y z : Bool) (p u g : ℕ) (left : Room) → room_by x y z p u g ≡ Ok left → (refusal_by x y z ≡ None) × (left ≡ record { places = p; uses = u; gives = g })
unfolding room-in
ok-by true y z p u g left is = absurd (let wrong : Err (fault.Limit limit.Places) ≡ Ok left = is in cc)
ok-by false true z p u g left is = absurd (let wrong : Err (fault.Limit limit.Uses) ≡ Ok left = is in cc)
ok-by false false true p u g left is = absurd (let wrong : Err (fault.Limit limit.Gives) ≡ Ok left = is in cc)
ok-by false false false p u g left is = (refl, sym (ap (room-in left) is))

err-by : (x y z : Bool) (p u g : ℕ) (e : FactsFault) → room_by x y z p u g ≡ Err e → TellsFault (refusal_by x y z) e
unfolding fault-in
err-by true y z p u g e is = subst (TellsFault (Some limit.Places)) (ap (fault-in e) is) refl
err-by false true z p u g e is = subst (TellsFault (Some limit.Uses)) (ap (fault-in e) is) refl
err-by false false true p u g e is = subst (TellsFault (Some limit.Gives)) (ap (fault-in e) is) refl
err-by false false false p u g e is = absurd (let wrong : Ok (record { places = p; uses = u; gives = g }) ≡ Err e = is in cc)

pub room-told : (set : SetView) (room : Room) (l : Left) (left : Room) → list_any has_many_pairs (coded set.classes) ≡ false → l ≡ fold (left_by set) (left_of room) (coded set.classes) →
    room_left l ≡ Ok left → (facts_refusal set room ≡ None) × (left ≡ room_after set room)
room-told set room l left few is told =
    let told-by = ok-by (nat_lt room.places (taken_places set)) (nat_lt room.uses (taken_uses set)) (nat_lt room.gives (taken_gives set)) (room.places - taken_places set) (room.uses - taken_uses set) (room.gives - taken_gives set) left (sym (left-told set room l is) ∙ told) in
    ((let none = told-by.0 in rw few none), told-by.1)

pub room-refused : (set : SetView) (room : Room) (l : Left) (e : FactsFault) → list_any has_many_pairs (coded set.classes) ≡ false → l ≡ fold (left_by set) (left_of room) (coded set.classes) →
    room_left l ≡ Err e → TellsFault (facts_refusal set room) e
room-refused set room l e few is told =
    let refused = err-by (nat_lt room.places (taken_places set)) (nat_lt room.uses (taken_uses set)) (nat_lt room.gives (taken_gives set)) (room.places - taken_places set) (room.uses - taken_uses set) (room.gives - taken_gives set) e (sym (left-told set room l is) ∙ told) in
    rw few refused

-- ---- too many origin pairs

any-flat : {X Y : Type 0} (p : Y → Bool) (f : X → List Y) (xs : List X) → list_any p (flat_map f xs) ≡ list_any (λ x. list_any p (f x)) xs
any-flat p f [] = refl
any-flat p f (x ∷ xs) = ap (list_any p) (flat_map-cons f x xs) ∙ list_any-append p (f x) (flat_map f xs) ∙ ap (λ b. list_any p (f x) || b) (any-flat p f xs)

pub pairs-of-all : (classes : List Class) (id : ℕ) (e : FactsFault) → id < length (methods_of classes) → TellsPairs (coded_at classes id) e → TellsPairs (coded classes) e
pairs-of-all classes id fault.Memory known told = tt
pairs-of-all classes id (fault.Limit bound) known told =
    let ids = range_with_len 0 (length (methods_of classes)) in
    (told.0, any-flat has_many_pairs (coded_at classes) ids ∙ any-has (λ k. list_any has_many_pairs (coded_at classes k)) ids id (has-range 0 (length (methods_of classes)) id (omega arith) (omega (arith, known))) told.1)

pub pairs-refused : (set : SetView) (room : Room) (e : FactsFault) → TellsPairs (coded set.classes) e → TellsFault (facts_refusal set room) e
pairs-refused set room fault.Memory told = tt
pairs-refused set room (fault.Limit bound) told = (let many = told.1 in rw many (ap (λ (n : LimitName). Some n) (sym told.0)))
