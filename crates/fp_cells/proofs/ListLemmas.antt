-- How lists of pieces are written piece after piece.
use Rattle.std.proofs.Common.{◌≡◌, ℕ, zero, suc, ◌+◌, ◌<◌, Bool, true, false, cond, List, [], ◌∷◌, ◌++◌, map, length, take, get_or, codes, Result, Ok, Err, refl, sym, ap, ◌∙◌, arith, add-one}
use Rattle.std.proofs.lemmas.List.{append_assoc, append-nil, map-append}
use Rattle.std.proofs.Math.Seq.{take-append_seam}
use Rattle.std.specs.List.{join_with_byte}
use Rattle.fp_cells.specs.Lists.{Extends}
use Rattle.std.specs.Result.{OnErr}
use Rattle.fp_cells.specs.declared.kind.KindId.{KindId}
use Rattle.fp_cells.specs.declared.kind.KindId.TheVariants.{Declared, Inst, Reach, Callees, Assign, Immut, Timmut, Fresh, Leak, Escape, Purity}
use Rattle.fp_cells.specs.Texts.{FitsKind, callees_text, listed, numbers, purity_text, target_text}
use Rattle.fp_cells.specs.Words.{is_set, passing_below}

abbrev pub is_nil : List (List ℕ) → Bool
is_nil [] = true
is_nil (piece ∷ pieces) = false

-- the pieces have been appended to `old`, which is `now`
pub record ListedSoFar (old : List ℕ) (pieces : List (List ℕ)) (now : List ℕ) (is_first : Bool) : Type 0 where
  pub text : now ≡ old ++ join_with_byte 44 pieces
  pub first : is_first ≡ is_nil pieces

abbrev pub separated : Bool → List ℕ → List ℕ
separated is_first piece = cond is_first piece (44 ∷ piece)

pub listed-none : (old : List ℕ) → ListedSoFar old [] old true
listed-none old = record { text = sym (append-nil old); first = refl }

join-push : (pieces : List (List ℕ)) (piece : List ℕ) → join_with_byte 44 (pieces ++ piece ∷ []) ≡ join_with_byte 44 pieces ++ separated (is_nil pieces) piece
join-push [] piece = refl
join-push (x ∷ []) piece = refl
join-push (x ∷ y ∷ xs) piece =
    ap (λ v. x ++ (44 ∷ v)) (join-push (y ∷ xs) piece) ∙ sym (append_assoc x (44 ∷ join_with_byte 44 (y ∷ xs)) (44 ∷ piece))

is_nil-push : (pieces : List (List ℕ)) (piece : List ℕ) → false ≡ is_nil (pieces ++ piece ∷ [])
is_nil-push [] piece = refl
is_nil-push (x ∷ xs) piece = refl

pub listed-more : (old : List ℕ) (pieces more : List (List ℕ)) (now later piece : List ℕ) (is_first : Bool) → ListedSoFar old pieces now is_first →
    later ≡ now ++ separated is_first piece → more ≡ pieces ++ piece ∷ [] → ListedSoFar old more later false
listed-more old pieces more now later piece is_first h is longer = record {
  text =
      is ∙ ap (λ v. v ++ separated is_first piece) h.text
      ∙ append_assoc old (join_with_byte 44 pieces) (separated is_first piece)
      ∙ ap (λ b. old ++ (join_with_byte 44 pieces ++ separated b piece)) h.first
      ∙ ap (λ v. old ++ v) (sym (join-push pieces piece))
      ∙ ap (λ v. old ++ join_with_byte 44 v) (sym longer);
  first = is_nil-push pieces piece ∙ ap is_nil (sym longer);
}

pub listed-same : (old : List ℕ) (pieces more : List (List ℕ)) (now : List ℕ) (is_first : Bool) → ListedSoFar old pieces now is_first → more ≡ pieces → ListedSoFar old more now is_first
listed-same old pieces more now is_first h same = rw same h

pub listed-dash : (old : List ℕ) (pieces : List (List ℕ)) (now later : List ℕ) (is_first : Bool) → ListedSoFar old pieces now is_first → is_first ≡ true → later ≡ now ++ 45 ∷ [] → later ≡ old ++ listed pieces
listed-dash old [] now later is_first h t is = is ∙ ap (λ v. v ++ 45 ∷ []) (h.text ∙ append-nil old)
listed-dash old (x ∷ xs) now later is_first h t is = let f = h.first in cc

pub listed-whole : (old : List ℕ) (pieces : List (List ℕ)) (now : List ℕ) (is_first : Bool) → ListedSoFar old pieces now is_first → is_first ≡ false → now ≡ old ++ listed pieces
listed-whole old [] now is_first h f = let g = h.first in cc
listed-whole old (x ∷ xs) now is_first h f = h.text

-- what is appended leaves the beginning
pub extends-append : (old more now : List ℕ) → now ≡ old ++ more → Extends old now
extends-append old more now is = ap (take (length old)) is ∙ take-append_seam old more

pub listed-extends : (old : List ℕ) (pieces : List (List ℕ)) (now : List ℕ) (is_first : Bool) → ListedSoFar old pieces now is_first → Extends old now
listed-extends old pieces now is_first h = extends-append old (join_with_byte 44 pieces) now h.text

pub extends-trans : (a b c : List ℕ) → Extends a b → Extends b c → Extends a c
extends-trans [] b c h k = refl
extends-trans (x ∷ xs) [] c h k = cc
extends-trans (x ∷ xs) (y ∷ ys) [] h k = cc
extends-trans (x ∷ xs) (y ∷ ys) (z ∷ zs) h k =
    let first : x ≡ z = cc in
    let one : take (length xs) ys ≡ xs = cc in
    let two : take (length ys) zs ≡ ys = cc in
    let rest : take (length xs) zs ≡ xs = extends-trans xs ys zs one two in
    cc

pub listed-failed : (old : List ℕ) (pieces : List (List ℕ)) (now later : List ℕ) (is_first : Bool) → ListedSoFar old pieces now is_first → Extends now later → Extends old later
listed-failed old pieces now later is_first h k = extends-trans old now later (listed-extends old pieces now is_first h) k

pub listed-stays : (old : List ℕ) (pieces : List (List ℕ)) (now later : List ℕ) (is_first : Bool) → ListedSoFar old pieces now is_first → later ≡ now → Extends old later
listed-stays old pieces now later is_first h is = rw is (listed-extends old pieces now is_first h)

-- ---- the numbers that pass a test

module _ (test : ℕ → Bool) (text : ℕ → List ℕ) (n : ℕ) where
  pub map-passing_more : test n ≡ true → map text (passing_below test (n + 1)) ≡ map text (passing_below test n) ++ text n ∷ []
  map-passing_more h =
      rw add-one (ap (λ b. map text (cond b (passing_below test n ++ n ∷ []) (passing_below test n))) h ∙ map-append text (passing_below test n) (n ∷ []))

  pub map-passing_same : test n ≡ false → map text (passing_below test (n + 1)) ≡ map text (passing_below test n)
  map-passing_same h = rw add-one (ap (λ b. map text (cond b (passing_below test n ++ n ∷ []) (passing_below test n))) h)

  pub passing_same : test n ≡ false → passing_below test (n + 1) ≡ passing_below test n
  passing_same h = rw add-one (ap (λ b. cond b (passing_below test n ++ n ∷ []) (passing_below test n)) h)

not-nil : (xs : List ℕ) (x : ℕ) → xs ++ x ∷ [] ≡ [] → ⊥
not-nil [] x h = cc
not-nil (y ∷ xs) x h = cc

-- a number that passes is among them
pub passing-some : (test : ℕ → Bool) (n i : ℕ) → i < n → test i ≡ true → passing_below test n ≡ [] → ⊥
passing-some test zero i lt hit none = elim lt [ ]
passing-some test (suc n) i lt hit none =
    (elim (test n) as (λ b. test n ≡ b → cond b (passing_below test n ++ n ∷ []) (passing_below test n) ≡ [] → ⊥) [
      | true ↦ λ _ e. not-nil (passing_below test n) n e
      | false ↦ λ missed e.
          let other : i ≡ n → ⊥ = λ (same : i ≡ n). let f = ap test same in cc in
          passing-some test n i (omega arith) hit e
    ]) refl none

-- ---- the texts of targets

pub get_or-map_within : {A B : Type 0} (f : A → B) (xs : List A) (i : ℕ) (d : A) (e : B) → i < length xs → get_or (map f xs) i e ≡ f (get_or xs i d)
get_or-map_within f [] i d e h = elim h [ ]
get_or-map_within f (x ∷ xs) zero d e h = refl
get_or-map_within f (x ∷ xs) (suc i) d e h = get_or-map_within f xs i d e (omega arith)

pub length-mapped : {A B : Type 0} (f : A → B) (xs : List A) → length (map f xs) ≡ length xs
length-mapped f [] = refl
length-mapped f (x ∷ xs) = ap suc (length-mapped f xs)

get_or-end : {A : Type 0} (xs : List A) (d : A) → get_or xs (length xs) d ≡ d
get_or-end [] d = refl
get_or-end (x ∷ xs) d = get_or-end xs d

module _ (words : List ℕ) (targets : List (List ℕ)) (n : ℕ) (old now later : List ℕ) (is_first : Bool) (ends : n ≡ length targets)
    (so_far : ListedSoFar old (map (target_text targets) (passing_below (is_set words) n)) now is_first) where
  pub callees-outside : is_set words (length targets) ≡ true → later ≡ now ++ separated is_first (codes "outside") → later ≡ old ++ callees_text words targets
  callees-outside hit is =
      let piece : target_text targets n ≡ codes "outside" = ap (target_text targets) ends ∙ get_or-end targets (codes "outside") in
      let appended = is ∙ ap (λ v. now ++ separated is_first v) (sym piece) in
      let more = map-passing_more (is_set words) (target_text targets) n (ap (is_set words) ends ∙ hit) in
      let all = listed-more old _ _ now later (target_text targets n) is_first so_far appended more in
      rw ends at (listed-whole old _ later false all refl)

  at_end : is_set words (length targets) ≡ false → ListedSoFar old (map (target_text targets) (passing_below (is_set words) (length targets + 1))) now is_first
  at_end missed = rw ends at (listed-same old _ _ now is_first so_far (map-passing_same (is_set words) (target_text targets) n (ap (is_set words) ends ∙ missed)))

  pub callees-inside : is_set words (length targets) ≡ false → is_first ≡ false → now ≡ old ++ callees_text words targets
  callees-inside missed f = listed-whole old _ now is_first (at_end missed) f

  pub callees-none : is_set words (length targets) ≡ false → is_first ≡ true → later ≡ now ++ 45 ∷ [] → later ≡ old ++ callees_text words targets
  callees-none missed f is = listed-dash old _ now later is_first (at_end missed) f is

-- ---- results

pub on_err : {T E P : Type 0} (r : Result T E) → P → OnErr r P
on_err (Ok x) p = tt
on_err (Err e) p = p

-- ---- what a method does

pub purity-effect : (reads effect : Bool) (arguments : List ℕ) → effect ≡ true → purity_text reads effect arguments ≡ codes "impure"
purity-effect reads effect arguments e = ap (λ b. purity_text reads b arguments) e

pub purity-none : (reads effect : Bool) (arguments : List ℕ) → effect ≡ false → arguments ≡ [] → purity_text reads effect arguments ≡ cond reads (codes "sef") (codes "pure")
purity-none true effect arguments e none = ap (λ b. purity_text true b arguments) e ∙ ap (purity_text true false) none
purity-none false effect arguments e none = ap (λ b. purity_text false b arguments) e ∙ ap (purity_text false false) none

pub purity-some : (reads effect : Bool) (arguments : List ℕ) → effect ≡ false → (arguments ≡ [] → ⊥) → purity_text reads effect arguments ≡ cond reads (codes "scontext ") (codes "context ") ++ numbers arguments
purity-some reads effect [] e some = absurd (some refl)
purity-some true effect (a ∷ more) e some = ap (λ b. purity_text true b (a ∷ more)) e
purity-some false effect (a ∷ more) e some = ap (λ b. purity_text false b (a ∷ more)) e

-- one word and no target are those of a cell of any kind
pub fits_one : (kind : KindId) → FitsKind kind 1 0
fits_one Declared = (refl, refl)
fits_one Inst = (refl, refl)
fits_one Reach = (refl, refl)
fits_one Callees = (refl, omega arith)
fits_one Assign = (refl, refl)
fits_one Immut = (refl, refl)
fits_one Timmut = (refl, refl)
fits_one Fresh = (refl, refl)
fits_one Leak = (omega arith, omega arith, refl)
fits_one Escape = (refl, refl)
fits_one Purity = (omega arith, omega arith, refl)

-- for functions that write it
pub ruleset purities = (purity-effect, purity-none, purity-some)
