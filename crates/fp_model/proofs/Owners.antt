-- The numbers of members, and the classes that they are of.
use Rattle.std.proofs.Common.{◌≡◌, ℕ, ◌+◌, ◌-◌, ◌^◌, ◌<◌, ◌≤◌, List, length, map, get_or, take, flat_map, slice_index, slice_get, Option, Some, sym, ap, ap₂, subst, ◌∙◌, arith, take_all}
use Rattle.std.specs.List.{range_with_len}
use Rattle.std.proofs.lemmas.List.FromFn.{get_or-map-range_with_len, length-map-range_with_len}
use Rattle.std.proofs.lemmas.List.Concat.{get_or-flat_map}
use Rattle.std.proofs.lemmas.Option.{slice_get_within, get_or_from_slice_get, slice_get-get_or}
use Rattle.fp_model.specs.ClassSet.{SetView, IsIndexed}
use Rattle.fp_model.proofs.Members.{members_more, members_fit}

-- what holds of the fields of a set holds of its view
pub known : (view now : SetView) (index : List (Option ℕ)) (fields methods : List ℕ) → view ≡ now → IsIndexed view index fields methods → IsIndexed now index fields methods
known view now index fields methods is indexed = let P : SetView → Type 0 = λ v. IsIndexed v index fields methods in subst P is indexed

-- the first numbers of the classes, and behind them how many members there are
pub firsts_len : (f : ℕ → ℕ) (n : ℕ) (firsts : List ℕ) → firsts ≡ map f (range_with_len 0 (n + 1)) → length firsts ≡ n + 1
firsts_len f n firsts is = ap length is ∙ length-map-range_with_len f 0 (n + 1)

pub first_at : (f : ℕ → ℕ) (n k d : ℕ) (firsts : List ℕ) → firsts ≡ map f (range_with_len 0 (n + 1)) → k < n + 1 → get_or firsts k d ≡ f k
first_at f n k d firsts is within = ap (λ xs. get_or xs k d) is ∙ get_or-map-range_with_len f 0 (n + 1) k k d within (omega arith)

pub all_members : {X Y : Type 0} (f : X → List Y) (xs : List X) → length (flat_map f (take (length xs) xs)) ≡ length (flat_map f xs)
all_members f xs = ap (λ ys. length (flat_map f ys)) (take_all (length xs) xs (omega arith))

-- what the search of an owner takes
pub record HasOwner (firsts : List ℕ) (id : ℕ) : Type 0 where
  pub some : 0 < length firsts
  pub few : length firsts ≤ 2 ^ 32
  pub above : slice_index firsts 0 ≤ id
  pub below : id < slice_index firsts (length firsts - 1)

pub has_owner : (f : ℕ → ℕ) (n id : ℕ) (firsts : List ℕ) → firsts ≡ map f (range_with_len 0 (n + 1)) → n < 2 ^ 32 → f 0 ≡ 0 → id < f n → HasOwner firsts id
has_owner f n id firsts is few none within =
    let long = firsts_len f n firsts is in
    let last : length firsts - 1 ≡ n = omega arith in
    record {
      some = omega arith;
      few = omega arith;
      above = omega (arith, first_at f n 0 0 firsts is (omega arith));
      below = omega (arith, ap (slice_index firsts) last, first_at f n n 0 firsts is (omega arith));
    }

-- what it finds
pub record Owns (f : ℕ → ℕ) (n owner id : ℕ) : Type 0 where
  pub class : owner < n
  pub from : f owner ≤ id
  pub to : id < f (owner + 1)

pub owner_found : (f : ℕ → ℕ) (n owner id : ℕ) (firsts : List ℕ) → firsts ≡ map f (range_with_len 0 (n + 1)) → owner + 1 < length firsts → slice_index firsts owner ≤ id → id < slice_index firsts (owner + 1) → Owns f n owner id
owner_found f n owner id firsts is within from to =
    let long = firsts_len f n firsts is in
    record {
      class = omega arith;
      from = omega (arith, first_at f n owner 0 firsts is (omega arith));
      to = omega (arith, first_at f n (owner + 1) 0 firsts is (omega arith));
    }

-- a member among those of its class
member_more : {X Y : Type 0} (f : X → List Y) (xs : List X) (i : ℕ) (x : X) → slice_get xs i ≡ Some x → length (flat_map f (take i xs)) + length (f x) ≡ length (flat_map f (take (i + 1) xs))
member_more f xs i x at = members_more f xs i x (slice_get_within xs i x at) (sym (get_or_from_slice_get xs i x x at))

pub member_within : {X Y : Type 0} (f : X → List Y) (xs : List X) (i id : ℕ) (x : X) → slice_get xs i ≡ Some x → length (flat_map f (take i xs)) ≤ id → id < length (flat_map f (take (i + 1) xs)) → id - length (flat_map f (take i xs)) < length (f x)
member_within f xs i id x at from to = omega (arith, member_more f xs i x at)

pub member_at : {X Y : Type 0} (f : X → List Y) (xs : List X) (i id : ℕ) (x : X) (d : Y) → slice_get xs i ≡ Some x → length (flat_map f (take i xs)) ≤ id → id < length (flat_map f (take (i + 1) xs)) → slice_get (flat_map f xs) id ≡ Some (get_or (f x) (id - length (flat_map f (take i xs))) d)
member_at f xs i id x d at from to =
    let within = slice_get_within xs i x at in
    let is = get_or_from_slice_get xs i x x at in
    let inside : id - length (flat_map f (take i xs)) < length (f (get_or xs i x)) = rw is (member_within f xs i id x at from to) in
    let fits = members_fit f xs i x within (sym is) in
    let place : length (flat_map f (take i xs)) + (id - length (flat_map f (take i xs))) ≡ id = omega arith in
    slice_get-get_or (flat_map f xs) id d (omega (arith, member_more f xs i x at))
    ∙ ap (λ k. Some (get_or (flat_map f xs) k d)) (sym place)
    ∙ ap (λ y. Some y) (get_or-flat_map f xs i (id - length (flat_map f (take i xs))) x d within inside)
    ∙ ap (λ c. Some (get_or (f c) (id - length (flat_map f (take i xs))) d)) is

-- the same, as it is read
pub member_read : {X Y : Type 0} (f : X → List Y) (xs : List X) (i id first : ℕ) (x : X) (members : List Y) (d : Y) → slice_get xs i ≡ Some x → members ≡ f x → first ≡ length (flat_map f (take i xs)) → length (flat_map f (take i xs)) ≤ id → id < length (flat_map f (take (i + 1) xs)) → slice_get (flat_map f xs) id ≡ Some (get_or members (id - first) d)
member_read f xs i id first x members d at are begins from to =
    member_at f xs i id x d at from to ∙ ap₂ (λ k ys. Some (get_or ys (id - k) d)) (sym begins) (sym are)
