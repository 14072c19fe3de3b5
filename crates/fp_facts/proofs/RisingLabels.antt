-- Labels of sorts, one below another.
use Rattle.std.proofs.Common.{◌≡◌, ℕ, Bool, true, false, List, length, nat_le, cond, refl, ap, ◌∙◌}
use Rattle.fp_model.specs.declared.kind.Sort.{Sort}
use Rattle.fp_facts.specs.declared.label.Label.{Label}
use Rattle.fp_facts.specs.declared.label.Label.TheVariants.{Unreached, Bad, Frame}
use Rattle.fp_facts.specs.Frames.{join_labels, join_words}
use Rattle.fp_facts.specs.Sorts.{join_sorts, sorts}
use Rattle.fp_facts.specs.Transfer.{capped, carried, to_handler}
use Rattle.fp_facts.proofs.JoinedFrames.{frame-below, below-frame}
use Rattle.fp_facts.proofs.JoinedWords.{join_words-idem}
use Rattle.fp_facts.proofs.OrderedSorts.{sorts-lattice}

pub bad-above : (x : Label Sort) → join_labels join_sorts x Bad ≡ Bad
bad-above Unreached = refl
bad-above Bad = refl
bad-above (Frame l s) = refl

-- with one stack, only the local variables differ
pub frame-rises : (l m t : List Sort) → length l ≡ length m → join_words join_sorts l m ≡ m → join_labels join_sorts (Frame l t) (Frame m t) ≡ Frame m t
frame-rises l m t long below =
    below-frame sorts sorts-lattice l t m t (record { locals_long = long; stack_long = refl; locals = below; stack = join_words-idem sorts sorts-lattice t })

-- a test that holds above holds below
pub test-rises : (t u : Bool) (x y : Label Sort) → (u ≡ true → (t ≡ true) × (join_labels join_sorts x y ≡ y)) →
    join_labels join_sorts (cond t x Bad) (cond u y Bad) ≡ cond u y Bad
test-rises t false x y h = bad-above (cond t x Bad)
test-rises true true x y h = (h refl).1
test-rises false true x y h = let known = h refl in absurd cc

pub capped-rises : (most : ℕ) (x y : Label Sort) → join_labels join_sorts x y ≡ y → join_labels join_sorts (capped most x) (capped most y) ≡ capped most y
capped-rises most Unreached y below = refl
capped-rises most Bad y below = ap (λ v. capped most v) below
capped-rises most (Frame l s) Unreached below = absurd cc
capped-rises most (Frame l s) Bad below = bad-above (capped most (Frame l s))
capped-rises most (Frame l s) (Frame m t) below =
    let known = frame-below sorts sorts-lattice l s m t below in
    test-rises (nat_le (length s) most) (nat_le (length t) most) (Frame l s) (Frame m t)
    (λ few. (ap (λ n. nat_le n most) known.stack_long ∙ few, below))

handler-rises : (x y v w : Label Sort) → join_labels join_sorts x y ≡ y → join_labels join_sorts v w ≡ w →
    join_labels join_sorts (to_handler x v) (to_handler y w) ≡ to_handler y w
handler-rises x y Unreached w below behind = refl
handler-rises x y Bad w below behind = ap (λ v. to_handler y v) behind
handler-rises x y (Frame l s) Unreached below behind = absurd cc
handler-rises x y (Frame l s) Bad below behind = bad-above (to_handler x (Frame l s))
handler-rises Unreached y (Frame l s) (Frame m t) below behind = refl
handler-rises Bad y (Frame l s) (Frame m t) below behind = ap (λ v. to_handler v (Frame m t)) below
handler-rises (Frame k r) Unreached (Frame l s) (Frame m t) below behind = absurd cc
handler-rises (Frame k r) Bad (Frame l s) (Frame m t) below behind = refl
handler-rises (Frame k r) (Frame n u) (Frame l s) (Frame m t) below behind =
    let known = frame-below sorts sorts-lattice k r n u below in frame-rises k n _ known.locals_long known.locals

pub carried-rises : (handler : Bool) (x y v w : Label Sort) → join_labels join_sorts x y ≡ y → join_labels join_sorts v w ≡ w →
    join_labels join_sorts (carried handler x v) (carried handler y w) ≡ carried handler y w
carried-rises true x y v w below behind = handler-rises x y v w below behind
carried-rises false x y v w below behind = behind
