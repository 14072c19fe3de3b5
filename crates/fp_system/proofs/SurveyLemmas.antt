-- What a walk over cells has told, cell after cell.
use Rattle.std.proofs.Common.{◌≡◌, ℕ, ◌+◌, nat_lt, Bool, true, cond, ◌||◌, List, [], ◌∷◌, ◌++◌, Some, None, refl, sym, ap, subst, ◌∙◌, arith, append_assoc}
use Rattle.std.proofs.lemmas.Bool.Decides.{nat_tests}
use Rattle.std.proofs.lemmas.List.Folds.{list_any-append}
use Rattle.std.specs.List.{list_any}
use Rattle.std.specs.Str.{bytes_eq}
use Rattle.fp_base.specs.Names.{has_name}
use Rattle.fp_model.specs.ClassSet.{SetView}
use Rattle.fp_cells.specs.declared.kind.KindId.{KindId}
use Rattle.fp_cells.specs.declared.kind.Entity.{Entity}
use Rattle.fp_cells.specs.Cells.{Cell, places_of, total_places}
use Rattle.fp_system.specs.Java.{TooManyPlaces, places_refusal}
use Rattle.fp_system.specs.Limits.{most_places}
use Rattle.fp_system.specs.Shows.{cell_text}
use Rattle.fp_system.specs.Surveys.{HasSurveyed, told_places}
use Rattle.fp_system.proofs.ShowLemmas.{or-false}

told-more : (n p : ℕ) → told_places (told_places n + p) ≡ told_places (n + p)
told-more n p = grind (arith, nat_tests)

-- whether there are too many is told
pub told-many : (n : ℕ) → nat_lt most_places (told_places n) ≡ nat_lt most_places n
told-many n = grind (arith, nat_tests)

pub refusal-told : (n : ℕ) → places_refusal (told_places n) ≡ places_refusal n
refusal-told n = ap (λ b. cond b (Some TooManyPlaces) None) (told-many n)

total_places-push : (cells : List Cell) (cell : Cell) → total_places (cells ++ cell ∷ []) ≡ total_places cells + places_of cell.bits
total_places-push [] cell = omega arith
total_places-push (c ∷ cells) cell = omega (arith, total_places-push cells cell)

module _ (set : SetView) (items : List (List ℕ)) where
  -- no cell yet
  pub surveyed_none : (found : List (List ℕ)) → found ≡ [] → HasSurveyed set items 0 found []
  surveyed_none found none = record { counted = refl; noted = λ item there. ap (λ names. has_name names item) none }

  -- one cell more
  pub surveyed_more : (places now p bits : ℕ) (found later : List (List ℕ)) (before : List Cell) (kind : KindId) (entity : Entity) → now ≡ told_places (places + p)
      → ((item : List ℕ) → has_name items item ≡ true → has_name later item ≡ (has_name found item || bytes_eq item (cell_text set (record { kind = kind; entity = entity; bits = 0 }))))
      → p ≡ places_of bits → HasSurveyed set items places found before → HasSurveyed set items now later (before ++ record { kind = kind; entity = entity; bits = bits } ∷ [])
  surveyed_more places now p bits found later before kind entity counts notes is h =
      let cell : Cell = record { kind = kind; entity = entity; bits = bits } in
      record {
        counted =
            counts ∙ ap (λ n. told_places (n + p)) h.counted ∙ told-more (total_places before) p
            ∙ ap (λ k. told_places (total_places before + k)) is ∙ ap told_places (sym (total_places-push before cell));
        noted = λ item there.
            let test : Cell → Bool = λ c. bytes_eq item (cell_text set c) in
            notes item there ∙ ap (λ b. b || test cell) (h.noted item there)
            ∙ ap (λ b. list_any test before || b) (sym (or-false (test cell)))
            ∙ sym (list_any-append test before (cell ∷ []));
      }

  -- of other cells that are the same
  pub surveyed_same : (places : ℕ) (found : List (List ℕ)) (cells others : List Cell) → cells ≡ others → HasSurveyed set items places found cells → HasSurveyed set items places found others
  surveyed_same places found cells others is h = subst (HasSurveyed set items places found) is h

-- what nine steps have added
pub nine_joined : (a b c d e f g h i : List Cell) → ((((((((a ++ b) ++ c) ++ d) ++ e) ++ f) ++ g) ++ h) ++ i) ≡ a ++ (b ++ (c ++ (d ++ (e ++ (f ++ (g ++ (h ++ i)))))))
nine_joined a b c d e f g h i =
    let ab = a ++ b in
    let ac = ab ++ c in
    let ad = ac ++ d in
    let ae = ad ++ e in
    let af = ae ++ f in
    let ag = af ++ g in
    append_assoc ag h i
    ∙ append_assoc af g (h ++ i)
    ∙ append_assoc ae f (g ++ (h ++ i))
    ∙ append_assoc ad e (f ++ (g ++ (h ++ i)))
    ∙ append_assoc ac d (e ++ (f ++ (g ++ (h ++ i))))
    ∙ append_assoc ab c (d ++ (e ++ (f ++ (g ++ (h ++ i)))))
    ∙ append_assoc a b (c ++ (d ++ (e ++ (f ++ (g ++ (h ++ i))))))
