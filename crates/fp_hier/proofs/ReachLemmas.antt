-- What is reached, list by list.
use Rattle.std.proofs.Common.{◌≡◌, ℕ, suc, zero, ◌+◌, ◌<◌, Bool, true, false, List, [], ◌∷◌, ◌++◌, length, map, take, filter, get_or, ap, ◌∙◌, cond, refl, sym, subst, arith}
use Rattle.std.specs.List.{range_with_len}
use Rattle.std.proofs.lemmas.List.{map-append, take_more}
use Rattle.fp_facts.specs.Hierarchy.{has_number}
use Rattle.fp_facts.specs.Selection.{Reached}
use Rattle.fp_hier.specs.declared.targets.Targets.{Targets}
use Rattle.fp_hier.specs.Targets.{AreTargets, AreTargetsByClass}

-- none of some numbers stands in an empty list
pub none-stands : (numbers : List ℕ) → filter (has_number []) numbers ≡ []
none-stands [] = refl
none-stands (n ∷ numbers) = none-stands numbers

-- one class more
pub class-more : (methods : ℕ) (by_class : List (ℕ × Reached)) (told : List (ℕ × Targets)) (id : ℕ) (r : Reached) (t : Targets) → AreTargetsByClass methods by_class told → AreTargets methods r t →
    AreTargetsByClass methods (by_class ++ (id, r) ∷ []) (told ++ (id, t) ∷ [])
class-more methods [] [] id r t before here = (refl, (here, tt))
class-more methods [] (x ∷ told) id r t before here = absurd before
class-more methods (c ∷ by_class) [] id r t before here = absurd before
class-more methods (c ∷ by_class) (x ∷ told) id r t before here = (before.0, (before.1.0, class-more methods by_class told id r t before.1.1 here))

-- one number in front
with-first : (b : Bool) (from n i d : ℕ) (rest : List ℕ) → ((j : ℕ) → j < length rest → get_or rest j d < (from + 1) + n) → i < length (cond b (from ∷ rest) rest) → get_or (cond b (from ∷ rest) rest) i d < from + suc n
with-first true from n zero d rest below lt = omega arith
with-first true from n (suc i) d rest below lt = omega (arith, below i (omega arith))
with-first false from n i d rest below lt = omega (arith, below i lt)

-- what is chosen of the numbers from one on lies below their end
chosen-below : (p : ℕ → Bool) (from n i d : ℕ) → i < length (filter p (range_with_len from n)) → get_or (filter p (range_with_len from n)) i d < from + n
chosen-below p from zero i d lt = absurd (omega arith)
chosen-below p from (suc n) i d lt = with-first (p from) from n i d (filter p (range_with_len (from + 1) n)) (λ j h. chosen-below p (from + 1) n j d h) lt

-- what stands at a place of such a choice
pub chosen-at : (p : ℕ → Bool) (n i d : ℕ) (ids : List ℕ) → ids ≡ filter p (range_with_len 0 n) → i < length ids → get_or ids i d < n
chosen-at p n i d ids is lt =
    let P : List ℕ → Type 0 = λ l. i < length l → get_or l i d < n in
    subst P (sym is) (λ h. omega (arith, chosen-below p 0 n i d h)) lt

-- what each of some classes reaches, with one class more
pub each-more : (methods : ℕ) (f : ℕ → Reached) (ids : List ℕ) (i d : ℕ) (told more : List (ℕ × Targets)) (t : Targets) → i < length ids → AreTargetsByClass methods (map (λ id. (id, f id)) (take i ids)) told →
    AreTargets methods (f (get_or ids i d)) t → more ≡ told ++ (get_or ids i d, t) ∷ [] → AreTargetsByClass methods (map (λ id. (id, f id)) (take (i + 1) ids)) more
each-more methods f ids i d told more t lt before here is =
    let g : ℕ → ℕ × Reached = λ id. (id, f id) in
    let x = get_or ids i d in
    let front : take (i + 1) ids ≡ take i ids ++ x ∷ [] = take_more ids i d lt in
    let both : map g (take (i + 1) ids) ≡ map g (take i ids) ++ g x ∷ [] = ap (map g) front ∙ map-append g (take i ids) (x ∷ []) in
    let P : List (ℕ × Reached) → Type 0 = λ cs. AreTargetsByClass methods cs more in
    let Q : List (ℕ × Targets) → Type 0 = λ ts. AreTargetsByClass methods (map g (take i ids) ++ g x ∷ []) ts in
    subst P (sym both) (subst Q (sym is) (class-more methods (map g (take i ids)) told x (f x) t before here))
