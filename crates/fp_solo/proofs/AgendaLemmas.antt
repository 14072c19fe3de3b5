-- What a wanted place starts, and that starts follow each other.
use Rattle.std.proofs.Common.{◌≡◌, ◌==◌, ◌<◌, ◌&&◌, ◌||◌, ℕ, Bool, true, false, not, IsTrue, refl, sym, ap, subst, ◌∙◌, inl, inr}
use Rattle.fp_eqs.specs.declared.start.Start.{Start}
use Rattle.fp_eqs.specs.declared.start.Start.TheVariants.{Always, Triggered, Lazy}
use Rattle.fp_eqs.specs.Demand.{any_below, is_started, runs}
use Rattle.fp_eqs.specs.Equations.{Equations}
use Rattle.fp_eqs.specs.Makers.{is_lazy, is_maker}
use Rattle.fp_eqs.specs.Tests.{left, right, either, both, parts, same-bool, same-place, place-here, any-here, any-found, any-grows, none-any, false-if_not}
use Rattle.fp_solo.specs.Agenda.{HasBegun}

-- ---- starts that follow each other

new-starts : (d s z y : Bool) → (IsTrue s → IsTrue z) → (IsTrue z → IsTrue y) → ((d || (z && not s)) || (y && not z)) ≡ (d || (y && not s))
new-starts true s z y h k = refl
new-starts false true true true h k = refl
new-starts false true true false h k = let wrong : false ≡ true = k refl in cc
new-starts false true false y h k = let wrong : false ≡ true = h refl in cc
new-starts false false true true h k = refl
new-starts false false true false h k = let wrong : false ≡ true = k refl in cc
new-starts false false false true h k = refl
new-starts false false false false h k = refl

no-starts : (d s : Bool) → d ≡ (d || (s && not s))
no-starts true s = refl
no-starts false true = refl
no-starts false false = refl

pub begun-both : (s z y d c b : ℕ → Bool) → HasBegun s z d c → HasBegun z y c b → HasBegun s y d b
begun-both s z y d c b h k = record {
  kept = λ t on. k.kept t (h.kept t on);
  due = λ t. k.due t ∙ ap (λ v. v || (y t && not (z t))) (h.due t) ∙ new-starts (d t) (s t) (z t) (y t) (h.kept t) (k.kept t);
}

pub begun-none : (s d : ℕ → Bool) → HasBegun s s d d
begun-none s d = record { kept = λ t on. on; due = λ t. no-starts (d t) (s t) }

-- ---- what one more wanted place starts

runs-more : (s : Start) (b c m : Bool) → c ≡ (b || m) → runs s c ≡ (runs s b || (is_lazy s && m))
runs-more Always b c m h = refl
runs-more (Triggered p) b c m h = refl
runs-more Lazy b c m h = h

pub started-more : (e : Equations) (w x : ℕ → Bool) (q : ℕ) → ((p : ℕ) → x p ≡ (w p || q == p)) → q < e.places → (t : ℕ) → is_started e x t ≡ (is_started e w t || is_maker q (e.task t))
started-more e w x q more inside t =
    runs-more (e.task t).start (any_below f e.places) (any_below g e.places) (makes q) (same-bool (any_below g e.places) (any_below f e.places || makes q) forth back)
  where
    makes : ℕ → Bool
    makes p = (e.task t).makes p

    f : ℕ → Bool
    f p = (e.task t).makes p && w p

    g : ℕ → Bool
    g p = (e.task t).makes p && x p

    forth : IsTrue (any_below g e.places) → IsTrue (any_below f e.places || makes q)
    forth h =
        let r = any-found g e.places h in
        let known = parts ((e.task t).makes r.at) (x r.at) r.passes in
        elim (either (w r.at) (q == r.at) (subst (λ b. IsTrue b) (more r.at) known.1)) [
          | inl before ↦ left (any_below f e.places) (makes q) (any-here f e.places r.at r.below (both ((e.task t).makes r.at) (w r.at) known.0 before))
          | inr here ↦ right (any_below f e.places) (makes q) (subst (λ p. IsTrue ((e.task t).makes p)) (sym (same-place q r.at here)) known.0)
        ]

    back : IsTrue (any_below f e.places || makes q) → IsTrue (any_below g e.places)
    back h = elim (either (any_below f e.places) (makes q) h) [
      | inl before ↦ any-grows f g e.places (λ p _ k. let known = parts ((e.task t).makes p) (w p) k in both ((e.task t).makes p) (x p) known.0 (subst (λ b. IsTrue b) (sym (more p)) (left (w p) (q == p) known.1))) before
      | inr here ↦ any-here g e.places q inside (both ((e.task t).makes q) (x q) here (subst (λ b. IsTrue b) (sym (more q)) (right (w q) (q == q) (place-here q))))
    ]

-- ---- where nothing is wanted

runs-eager : (s : Start) (b : Bool) → b ≡ false → IsTrue (runs s b) → is_lazy s ≡ false
runs-eager Always b h k = refl
runs-eager (Triggered p) b h k = refl
runs-eager Lazy b h k = (cc)

pub none-starts : (e : Equations) (w : ℕ → Bool) (t : ℕ) → ((p : ℕ) → w p ≡ false) → IsTrue (is_started e w t) → is_lazy (e.task t).start ≡ false
none-starts e w t none h =
    runs-eager (e.task t).start _ (none-any (λ p. (e.task t).makes p && w p) e.places (λ p _. false-if_not ((e.task t).makes p && w p) (λ k. let wanted = (parts ((e.task t).makes p) (w p) k).1 in let not_wanted = none p in cc))) h

-- tasks that were started where none was are due where none was
pub begun-all : (s z d c : ℕ → Bool) → ((t : ℕ) → s t ≡ false) → ((t : ℕ) → d t ≡ false) → HasBegun s z d c → (t : ℕ) → c t ≡ z t
begun-all s z d c no_start no_due h t = h.due t ∙ ap (λ b. b || (z t && not (s t))) (no_due t) ∙ ap (λ b. z t && not b) (no_start t) ∙ and-true (z t)
  where
    and-true : (b : Bool) → (b && true) ≡ b
    and-true true = refl
    and-true false = refl
