-- The shape of a label: the label with a point for each word.
use Rattle.std.proofs.Common.{◌≡◌, ◌==◌, true, false, List, [], ◌∷◌, length, map, refl, sym, ap, ◌∙◌, arith}
use Rattle.std.specs.List.{list_all}
use Rattle.std.proofs.lemmas.Bool.{and_from, and_parts, eq-eqb, eqb-true}
use Rattle.std.proofs.lemmas.List.{length-map}
use Rattle.fp_facts.specs.declared.label.Label.{Label}
use Rattle.fp_facts.specs.declared.label.Label.TheVariants.{Unreached, Bad, Frame}
use Rattle.fp_facts.specs.Frames.{join_labels}
use Rattle.fp_facts.specs.Lattices.{Lattice, IsLattice}
use Rattle.fp_facts.specs.Moves.{map_label, same_label_shape}
use Rattle.fp_facts.specs.Transfer.{is_bad, is_unreached}
use Rattle.fp_facts.proofs.JoinedFrames.{frame-below}

abbrev pub Point : Type 0
Point = Unit {0}

abbrev pub points : Lattice Point
points = record { join = λ _ _. tt; height = λ _. 0; most = 0; fits = λ _. true }

same-point : (x y : Point) → x ≡ y
same-point x y = refl

pub points-lattice : IsLattice points
points-lattice = record {
  associative = λ _ _ _. refl;
  commutative = λ _ _. refl;
  idempotent = λ x. same-point tt x;
  fits_join = λ _ _ _ _. refl;
  height_most = λ _ _. omega arith;
  height_grows = λ _ _ _ _ _. omega arith;
  height_same = λ x y _ _ _ _. same-point x y;
}

pub points-fit : (l : List Point) → list_all points.fits l ≡ true
points-fit [] = refl
points-fit (x ∷ l) = points-fit l

pub same-points : (l m : List Point) → length l ≡ length m → l ≡ m
same-points [] [] long = refl
same-points [] (y ∷ m) long = absurd (omega arith)
same-points (x ∷ l) [] long = absurd (omega arith)
same-points (x ∷ l) (y ∷ m) long =
    let first = same-point x y in
    let same : length l ≡ length m = omega arith in
    let rest = same-points l m same in cc

-- ---- shapes

abbrev pub point : {W : Type 0} → W → Point
point _ = tt

abbrev pub shape : {W : Type 0} → Label W → Label Point
shape x = map_label point x

pub shape-unreached : {W : Type 0} (x : Label W) → is_unreached (shape x) ≡ is_unreached x
shape-unreached Unreached = refl
shape-unreached Bad = refl
shape-unreached (Frame l s) = refl

pub shape-bad : {W : Type 0} (x : Label W) → is_bad (shape x) ≡ is_bad x
shape-bad Unreached = refl
shape-bad Bad = refl
shape-bad (Frame l s) = refl

same-length : {W V : Type 0} (l : List W) (m : List V) → map point l ≡ map point m → (length l == length m) ≡ true
same-length l m same = eq-eqb (length l) (length m) (sym (length-map l point) ∙ ap length same ∙ length-map m point)

pub same_label_shape-from : {W V : Type 0} (x : Label W) (y : Label V) → shape x ≡ shape y → is_bad y ≡ false → same_label_shape x y ≡ true
same_label_shape-from Unreached Unreached same good = refl
same_label_shape-from Unreached Bad same good = absurd cc
same_label_shape-from Unreached (Frame m t) same good = absurd cc
same_label_shape-from Bad y same good = absurd (let bad : true ≡ is_bad y = ap is_bad same ∙ shape-bad y in cc)
same_label_shape-from (Frame l s) Unreached same good = absurd cc
same_label_shape-from (Frame l s) Bad same good = absurd cc
same_label_shape-from (Frame l s) (Frame m t) same good =
    let locals : map point l ≡ map point m = cc in
    let stack : map point s ≡ map point t = cc in
    and_from (length l == length m) (length s == length t) (same-length l m locals) (same-length s t stack)

-- what a label of the shape of a frame has
pub record IsShaped {W V : Type 0} (x : Label W) (m t : List V) : Type 0 where
  pub locals : List W
  pub stack : List W
  pub is : x ≡ Frame locals stack
  pub locals_long : length locals ≡ length m
  pub stack_long : length stack ≡ length t

pub same_label_shape-frame : {W V : Type 0} (x : Label W) (y : Label V) (m t : List V) → same_label_shape x y ≡ true → y ≡ Frame m t → IsShaped x m t
same_label_shape-frame x Unreached m t same is = absurd cc
same_label_shape-frame x Bad m t same is = absurd cc
same_label_shape-frame Unreached (Frame n u) m t same is = absurd cc
same_label_shape-frame Bad (Frame n u) m t same is = absurd cc
same_label_shape-frame (Frame l s) (Frame n u) m t same is =
    let known = and_parts (length l == length n) (length s == length u) same in
    let locals : n ≡ m = cc in
    let stack : u ≡ t = cc in
    record {
      locals = l;
      stack = s;
      is = refl;
      locals_long = eqb-true (length l) (length n) known.0 ∙ ap length locals;
      stack_long = eqb-true (length s) (length u) known.1 ∙ ap length stack;
    }

pub same_label_shape-unreached : {W V : Type 0} (x : Label W) (y : Label V) → same_label_shape x y ≡ true → y ≡ Unreached → x ≡ Unreached
same_label_shape-unreached Unreached y same is = refl
same_label_shape-unreached Bad Unreached same is = absurd cc
same_label_shape-unreached Bad Bad same is = absurd cc
same_label_shape-unreached Bad (Frame m t) same is = absurd cc
same_label_shape-unreached (Frame l s) Unreached same is = absurd cc
same_label_shape-unreached (Frame l s) Bad same is = absurd cc
same_label_shape-unreached (Frame l s) (Frame m t) same is = absurd cc

-- a shape below another that is not Bad is the other, where both are reached or neither is
pub same-shapes : (x y : Label Point) → join_labels points.join x y ≡ y → is_bad y ≡ false → is_unreached x ≡ is_unreached y → x ≡ y
same-shapes Unreached Unreached below good reached = refl
same-shapes Unreached Bad below good reached = absurd cc
same-shapes Unreached (Frame m t) below good reached = absurd cc
same-shapes Bad y below good reached = below
same-shapes (Frame l s) Unreached below good reached = absurd cc
same-shapes (Frame l s) Bad below good reached = absurd cc
same-shapes (Frame l s) (Frame m t) below good reached =
    let known = frame-below points points-lattice l s m t below in
    let locals = same-points l m known.locals_long in
    let stack = same-points s t known.stack_long in cc
