-- Frames over a lattice of words are a lattice.
use Rattle.std.proofs.Common.{◌≡◌, ◌≤◌, ◌+◌, ◌*◌, ◌==◌, ◌&&◌, nat_le, ℕ, Bool, true, false, IsTrue, List, length, refl, sym, ap, ◌∙◌, arith}
use Rattle.std.specs.List.{list_all}
use Rattle.std.proofs.Math.Nat.{mul-le-mul_left}
use Rattle.std.proofs.lemmas.Bool.{and_parts, and_from, cond-true, cond-false, cond_both, eqb-true, eq-eqb, leb-true, le-leb, false_from_ne_true, both_ways}
use Rattle.fp_facts.specs.declared.label.Label.{Label}
use Rattle.fp_facts.specs.declared.label.Label.TheVariants.{Unreached, Bad, Frame}
use Rattle.fp_facts.specs.Lattices.{Lattice, IsLattice}
use Rattle.fp_facts.specs.Frames.{join_words, same_shape, join_labels, words_height, label_height, fits_label, frames}
use Rattle.fp_facts.proofs.JoinedWords.{length-join_words, join_words-assoc, join_words-comm, join_words-idem, join_words-fit, words_height-most, words_height-grows, words_height-same}

same_shape-parts : {W : Type 0} (l s m t : List W) → same_shape l s m t ≡ true → (length l ≡ length m) × (length s ≡ length t)
same_shape-parts l s m t h =
    let known = and_parts (length l == length m) (length s == length t) h in
    (eqb-true (length l) (length m) known.0, eqb-true (length s) (length t) known.1)

same_shape-from : {W : Type 0} (l s m t : List W) → length l ≡ length m → length s ≡ length t → same_shape l s m t ≡ true
same_shape-from l s m t h k = and_from (length l == length m) (length s == length t) (eq-eqb (length l) (length m) h) (eq-eqb (length s) (length t) k)

same_shape-comm : {W : Type 0} (l s m t : List W) → same_shape l s m t ≡ true → same_shape m t l s ≡ true
same_shape-comm l s m t h = let known = same_shape-parts l s m t h in same_shape-from m t l s (sym known.0) (sym known.1)

same_shape-not : {W : Type 0} (l s m t : List W) → same_shape l s m t ≡ false → same_shape m t l s ≡ false
same_shape-not l s m t h = false_from_ne_true (same_shape m t l s) (λ k. both_ways (same_shape l s m t) h (same_shape-comm m t l s k))

-- what a frame that fits has
record IsFitting {W : Type 0} (w : Lattice W) (locals stack : ℕ) (l s : List W) : Type 0 where
  pub locals_are : length l ≡ locals
  pub stack_most : length s ≤ stack
  pub locals_fit : list_all w.fits l ≡ true
  pub stack_fits : list_all w.fits s ≡ true

fitting-parts : {W : Type 0} (w : Lattice W) (locals stack : ℕ) (l s : List W) → IsTrue (fits_label w locals stack (Frame l s)) → IsFitting w locals stack l s
fitting-parts w locals stack l s h =
    let all = and_parts (length l == locals) (nat_le (length s) stack && (list_all w.fits l && list_all w.fits s)) h in
    let rest = and_parts (nat_le (length s) stack) (list_all w.fits l && list_all w.fits s) all.1 in
    let words = and_parts (list_all w.fits l) (list_all w.fits s) rest.1 in
    record {
      locals_are = eqb-true (length l) locals all.0;
      stack_most = leb-true (length s) stack rest.0;
      locals_fit = words.0;
      stack_fits = words.1;
    }

fitting-from : {W : Type 0} (w : Lattice W) (locals stack : ℕ) (l s : List W) → IsFitting w locals stack l s → IsTrue (fits_label w locals stack (Frame l s))
fitting-from w locals stack l s h =
    and_from (length l == locals) _ (eq-eqb (length l) locals h.locals_are)
    (and_from (nat_le (length s) stack) _ (le-leb (length s) stack h.stack_most)
    (and_from (list_all w.fits l) (list_all w.fits s) h.locals_fit h.stack_fits))

-- what a frame below another has
pub record IsFrameBelow {W : Type 0} (w : Lattice W) (l s m t : List W) : Type 0 where
  pub locals_long : length l ≡ length m
  pub stack_long : length s ≡ length t
  pub locals : join_words w.join l m ≡ m
  pub stack : join_words w.join s t ≡ t

module _ {W : Type 0} (w : Lattice W) (laws : IsLattice w) where
  join-same : (l s m t : List W) → same_shape l s m t ≡ true → join_labels w.join (Frame l s) (Frame m t) ≡ Frame (join_words w.join l m) (join_words w.join s t)
  join-same l s m t h = cond-true (same_shape l s m t) (Frame (join_words w.join l m) (join_words w.join s t)) Bad h

  join-other : (l s m t : List W) → same_shape l s m t ≡ false → join_labels w.join (Frame l s) (Frame m t) ≡ Bad
  join-other l s m t h = cond-false (same_shape l s m t) (Frame (join_words w.join l m) (join_words w.join s t)) Bad h

  join-unreached : (x : Label W) → join_labels w.join x Unreached ≡ x
  join-unreached Unreached = refl
  join-unreached Bad = refl
  join-unreached (Frame l s) = refl

  join-bad : (x : Label W) → join_labels w.join x Bad ≡ Bad
  join-bad Unreached = refl
  join-bad Bad = refl
  join-bad (Frame l s) = refl

  -- a join of two frames has the shape of both
  shape-left : (l s m t n u : List W) → same_shape l s m t ≡ true → same_shape (join_words w.join l m) (join_words w.join s t) n u ≡ same_shape m t n u
  shape-left l s m t n u h =
      let known = same_shape-parts l s m t h in
      let locals = length-join_words w laws l m known.0 in
      let stack = length-join_words w laws s t known.1 in cc

  shape-right : (l s m t n u : List W) → same_shape m t n u ≡ true → same_shape l s (join_words w.join m n) (join_words w.join t u) ≡ same_shape l s m t
  shape-right l s m t n u h =
      let known = same_shape-parts m t n u h in
      let locals = length-join_words w laws m n known.0 ∙ sym known.0 in
      let stack = length-join_words w laws t u known.1 ∙ sym known.1 in cc

  frames-assoc : (l s m t n u : List W) (a b : Bool) → same_shape l s m t ≡ a → same_shape m t n u ≡ b →
      join_labels w.join (join_labels w.join (Frame l s) (Frame m t)) (Frame n u) ≡ join_labels w.join (Frame l s) (join_labels w.join (Frame m t) (Frame n u))
  frames-assoc l s m t n u true true h k =
      let locals = join_words-assoc w laws l m n in
      let stack = join_words-assoc w laws s t u in
      let both : Frame (join_words w.join (join_words w.join l m) n) (join_words w.join (join_words w.join s t) u) ≡ Frame (join_words w.join l (join_words w.join m n)) (join_words w.join s (join_words w.join t u)) = cc in
      ap (λ v. join_labels w.join v (Frame n u)) (join-same l s m t h)
      ∙ join-same (join_words w.join l m) (join_words w.join s t) n u (shape-left l s m t n u h ∙ k)
      ∙ both
      ∙ sym (join-same l s (join_words w.join m n) (join_words w.join t u) (shape-right l s m t n u k ∙ h))
      ∙ sym (ap (λ v. join_labels w.join (Frame l s) v) (join-same m t n u k))
  frames-assoc l s m t n u true false h k =
      ap (λ v. join_labels w.join v (Frame n u)) (join-same l s m t h)
      ∙ join-other (join_words w.join l m) (join_words w.join s t) n u (shape-left l s m t n u h ∙ k)
      ∙ sym (ap (λ v. join_labels w.join (Frame l s) v) (join-other m t n u k))
  frames-assoc l s m t n u false true h k =
      ap (λ v. join_labels w.join v (Frame n u)) (join-other l s m t h)
      ∙ sym (join-other l s (join_words w.join m n) (join_words w.join t u) (shape-right l s m t n u k ∙ h))
      ∙ sym (ap (λ v. join_labels w.join (Frame l s) v) (join-same m t n u k))
  frames-assoc l s m t n u false false h k =
      ap (λ v. join_labels w.join v (Frame n u)) (join-other l s m t h)
      ∙ sym (ap (λ v. join_labels w.join (Frame l s) v) (join-other m t n u k))

  labels-assoc : (x y z : Label W) → join_labels w.join (join_labels w.join x y) z ≡ join_labels w.join x (join_labels w.join y z)
  labels-assoc Unreached y z = refl
  labels-assoc Bad y z = refl
  labels-assoc (Frame l s) Unreached z = refl
  labels-assoc (Frame l s) Bad z = refl
  labels-assoc (Frame l s) (Frame m t) Unreached = join-unreached (join_labels w.join (Frame l s) (Frame m t))
  labels-assoc (Frame l s) (Frame m t) Bad = join-bad (join_labels w.join (Frame l s) (Frame m t))
  labels-assoc (Frame l s) (Frame m t) (Frame n u) = frames-assoc l s m t n u (same_shape l s m t) (same_shape m t n u) refl refl

  frames-comm : (l s m t : List W) (a : Bool) → same_shape l s m t ≡ a → join_labels w.join (Frame l s) (Frame m t) ≡ join_labels w.join (Frame m t) (Frame l s)
  frames-comm l s m t true h =
      let locals = join_words-comm w laws l m in
      let stack = join_words-comm w laws s t in
      let both : Frame (join_words w.join l m) (join_words w.join s t) ≡ Frame (join_words w.join m l) (join_words w.join t s) = cc in
      join-same l s m t h ∙ both ∙ sym (join-same m t l s (same_shape-comm l s m t h))
  frames-comm l s m t false h = join-other l s m t h ∙ sym (join-other m t l s (same_shape-not l s m t h))

  labels-comm : (x y : Label W) → join_labels w.join x y ≡ join_labels w.join y x
  labels-comm Unreached y = sym (join-unreached y)
  labels-comm Bad y = sym (join-bad y)
  labels-comm (Frame l s) Unreached = refl
  labels-comm (Frame l s) Bad = refl
  labels-comm (Frame l s) (Frame m t) = frames-comm l s m t (same_shape l s m t) refl

  labels-idem : (x : Label W) → join_labels w.join x x ≡ x
  labels-idem Unreached = refl
  labels-idem Bad = refl
  labels-idem (Frame l s) =
      let locals = join_words-idem w laws l in
      let stack = join_words-idem w laws s in
      let both : Frame (join_words w.join l l) (join_words w.join s s) ≡ Frame l s = cc in
      join-same l s l s (same_shape-from l s l s refl refl) ∙ both

  frames-below : (l s m t : List W) (a : Bool) → same_shape l s m t ≡ a → join_labels w.join (Frame l s) (Frame m t) ≡ Frame m t → IsFrameBelow w l s m t
  frames-below l s m t true h below =
      let known = same_shape-parts l s m t h in
      let parts : Frame (join_words w.join l m) (join_words w.join s t) ≡ Frame m t = sym (join-same l s m t h) ∙ below in
      record { locals_long = known.0; stack_long = known.1; locals = cc; stack = cc }
  frames-below l s m t false h below = let parts : Bad ≡ Frame m t = sym (join-other l s m t h) ∙ below in absurd cc

  pub frame-below : (l s m t : List W) → join_labels w.join (Frame l s) (Frame m t) ≡ Frame m t → IsFrameBelow w l s m t
  frame-below l s m t below = frames-below l s m t (same_shape l s m t) refl below

  pub below-frame : (l s m t : List W) → IsFrameBelow w l s m t → join_labels w.join (Frame l s) (Frame m t) ≡ Frame m t
  below-frame l s m t h =
      let both : Frame (join_words w.join l m) (join_words w.join s t) ≡ Frame m t = cc in
      join-same l s m t (same_shape-from l s m t h.locals_long h.stack_long) ∙ both

  module _ (locals stack : ℕ) where
    labels-fit : (x y : Label W) → IsTrue (fits_label w locals stack x) → IsTrue (fits_label w locals stack y) → IsTrue (fits_label w locals stack (join_labels w.join x y))
    labels-fit Unreached y h k = k
    labels-fit Bad y h k = refl
    labels-fit (Frame l s) Unreached h k = h
    labels-fit (Frame l s) Bad h k = refl
    labels-fit (Frame l s) (Frame m t) h k =
        let left = fitting-parts w locals stack l s h in
        let right = fitting-parts w locals stack m t k in
        cond_both (same_shape l s m t) (Frame (join_words w.join l m) (join_words w.join s t)) Bad (λ v. IsTrue (fits_label w locals stack v))
        (λ same. let known = same_shape-parts l s m t same in
        fitting-from w locals stack (join_words w.join l m) (join_words w.join s t) (record {
          locals_are = length-join_words w laws l m known.0 ∙ right.locals_are;
          stack_most = omega (arith, length-join_words w laws s t known.1, right.stack_most);
          locals_fit = join_words-fit w laws l m left.locals_fit right.locals_fit;
          stack_fits = join_words-fit w laws s t left.stack_fits right.stack_fits;
        }))
        (λ _. refl)

    -- the words of a frame that fits are within the bound
    frame-most : (l s : List W) → IsFitting w locals stack l s → words_height w l + words_height w s ≤ w.most * (locals + stack)
    frame-most l s h =
        let first = words_height-most w laws l h.locals_fit in
        let second = words_height-most w laws s h.stack_fits in
        let few : length l + length s ≤ locals + stack = omega (arith, h.locals_are, h.stack_most) in
        let within = mul-le-mul_left w.most few in
        omega arith

    labels-most : (x : Label W) → IsTrue (fits_label w locals stack x) → label_height w (w.most * (locals + stack)) x ≤ 2 + w.most * (locals + stack)
    labels-most Unreached h = omega arith
    labels-most Bad h = omega arith
    labels-most (Frame l s) h = omega (arith, frame-most l s (fitting-parts w locals stack l s h))

    labels-grow : (x y : Label W) → IsTrue (fits_label w locals stack x) → IsTrue (fits_label w locals stack y) → join_labels w.join x y ≡ y →
        label_height w (w.most * (locals + stack)) x ≤ label_height w (w.most * (locals + stack)) y
    labels-grow Unreached y h k below = omega arith
    labels-grow Bad y h k below = omega (arith, ap (λ v. label_height w (w.most * (locals + stack)) v) below)
    labels-grow (Frame l s) Unreached h k below = absurd cc
    labels-grow (Frame l s) Bad h k below = omega (arith, frame-most l s (fitting-parts w locals stack l s h))
    labels-grow (Frame l s) (Frame m t) h k below =
        let left = fitting-parts w locals stack l s h in
        let right = fitting-parts w locals stack m t k in
        let known = frame-below l s m t below in
        omega (arith, words_height-grows w laws l m known.locals_long left.locals_fit right.locals_fit known.locals, words_height-grows w laws s t known.stack_long left.stack_fits right.stack_fits known.stack)

    labels-same : (x y : Label W) → IsTrue (fits_label w locals stack x) → IsTrue (fits_label w locals stack y) → join_labels w.join x y ≡ y →
        label_height w (w.most * (locals + stack)) y ≤ label_height w (w.most * (locals + stack)) x → x ≡ y
    labels-same Unreached Unreached h k below le = refl
    labels-same Unreached Bad h k below le = absurd (omega arith)
    labels-same Unreached (Frame m t) h k below le = absurd (omega arith)
    labels-same Bad y h k below le = below
    labels-same (Frame l s) Unreached h k below le = below
    labels-same (Frame l s) Bad h k below le = absurd (omega (arith, frame-most l s (fitting-parts w locals stack l s h)))
    labels-same (Frame l s) (Frame m t) h k below le =
        let left = fitting-parts w locals stack l s h in
        let right = fitting-parts w locals stack m t k in
        let known = frame-below l s m t below in
        let locals_grow = words_height-grows w laws l m known.locals_long left.locals_fit right.locals_fit known.locals in
        let stack_grows = words_height-grows w laws s t known.stack_long left.stack_fits right.stack_fits known.stack in
        let locals_are = words_height-same w laws l m known.locals_long left.locals_fit right.locals_fit known.locals (omega arith) in
        let stack_is = words_height-same w laws s t known.stack_long left.stack_fits right.stack_fits known.stack (omega arith) in cc

    pub frames-lattice : IsLattice (frames w locals stack)
    frames-lattice = record {
      associative = labels-assoc;
      commutative = labels-comm;
      idempotent = labels-idem;
      fits_join = labels-fit;
      height_most = labels-most;
      height_grows = labels-grow;
      height_same = labels-same;
    }
