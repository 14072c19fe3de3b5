-- The tasks of rows.
use Rattle.std.proofs.Common.{◌≡◌, ◌≤◌, ◌+◌, ◌-◌, ◌&&◌, ℕ, false, List, [], ◌∷◌, Option, Some, None, length, map, slice_get, refl, ap, subst, ◌∙◌, arith, zero, suc}
use Rattle.std.specs.Option.{option_map_or}
use Rattle.fp_eqs.specs.Counts.{count_below-none}
use Rattle.fp_eqs.specs.Makers.{is_lazy, is_maker, rank}
use Rattle.fp_rta.specs.declared.giver.Giver.{Giver}
use Rattle.fp_rta.specs.declared.site.Shape.{Shape}
use Rattle.fp_rta.specs.declared.site.Site.{Site}
use Rattle.fp_rta.specs.Meaning.{candidates_at, giver_task, row_task, row_tasks}
use Rattle.fp_rta.specs.Tasks.{listed_tasks, start_of}

pub row-count : (givers : List Giver) (shapes : List Shape) (sites : List Site) → (row_tasks givers shapes sites).count ≡ length givers + length sites
row-count [] shapes [] = refl
row-count [] shapes (s ∷ sites) = ap suc (row-count [] shapes sites) ∙ (let e : suc (0 + length sites) ≡ 0 + suc (length sites) = omega arith in e)
row-count (g ∷ givers) shapes sites = ap suc (row-count givers shapes sites) ∙ (let e : suc (length givers + length sites) ≡ suc (length givers) + length sites = omega arith in e)

pub giver-task : (givers : List Giver) (shapes : List Shape) (sites : List Site) (t : ℕ) (g : Giver) → slice_get givers t ≡ Some g → (row_tasks givers shapes sites).task t ≡ giver_task g
giver-task [] shapes sites t g h = cc
giver-task (f ∷ givers) shapes sites zero g h = let e : f ≡ g = cc in ap giver_task e
giver-task (f ∷ givers) shapes sites (suc t) g h = giver-task givers shapes sites t g h

site-alone : (shapes : List Shape) (sites : List Site) (t : ℕ) (s : Site) → slice_get sites t ≡ Some s → (listed_tasks (map (row_task shapes) sites)).task t ≡ row_task shapes s
site-alone shapes [] t s h = cc
site-alone shapes (r ∷ sites) zero s h = let e : r ≡ s = cc in ap (row_task shapes) e
site-alone shapes (r ∷ sites) (suc t) s h = site-alone shapes sites t s h

pub site-task : (givers : List Giver) (shapes : List Shape) (sites : List Site) (t : ℕ) (s : Site) → length givers ≤ t → slice_get sites (t - length givers) ≡ Some s → (row_tasks givers shapes sites).task t ≡ row_task shapes s
site-task [] shapes sites t s le h = site-alone shapes sites t s (let e : t - 0 ≡ t = omega arith in subst (λ n. slice_get sites n ≡ Some s) e h)
site-task (g ∷ givers) shapes sites zero s le h = absurd (omega arith)
site-task (g ∷ givers) shapes sites (suc t) s le h =
    site-task givers shapes sites t s (omega arith) (let e : suc t - suc (length givers) ≡ t - length givers = omega arith in subst (λ n. slice_get sites n ≡ Some s) e h)

pub shape-candidates : (shapes : List Shape) (n : ℕ) (s : Shape) → slice_get shapes n ≡ Some s → candidates_at shapes n ≡ s.candidates
shape-candidates shapes n s h = ap (λ o. option_map_or (λ (x : Shape). x.candidates) o []) h

-- ---- no task is lazy

giver-eager : (trigger : Option ℕ) → is_lazy (start_of trigger) ≡ false
giver-eager None = refl
giver-eager (Some q) = refl

pub rows-eager : (givers : List Giver) (shapes : List Shape) (sites : List Site) (t : ℕ) → is_lazy ((row_tasks givers shapes sites).task t).start ≡ false
rows-eager [] shapes [] t = refl
rows-eager [] shapes (s ∷ sites) zero = refl
rows-eager [] shapes (s ∷ sites) (suc t) = rows-eager [] shapes sites t
rows-eager (g ∷ givers) shapes sites zero = giver-eager g.trigger
rows-eager (g ∷ givers) shapes sites (suc t) = rows-eager givers shapes sites t

pub no-maker : (givers : List Giver) (shapes : List Shape) (sites : List Site) (place n : ℕ) → rank (row_tasks givers shapes sites).task place n ≡ 0
no-maker givers shapes sites place n =
    let tasks = row_tasks givers shapes sites in
    count_below-none (λ u. is_maker place (tasks.task u)) n (λ u lt. ap (λ b. b && (tasks.task u).makes place) (rows-eager givers shapes sites u))
