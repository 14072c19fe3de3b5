-- What is moved of a label that fits a code fits too.
use Rattle.std.proofs.Common.{◌≡◌, ◌≤◌, ◌+◌, ◌-◌, ◌==◌, ℕ, true, IsTrue, nat_le, List, [], ◌∷◌, ◌++◌, length, replicate, Option, Some, None, refl, ◌∙◌, arith}
use Rattle.std.specs.List.{list_all, slice_get}
use Rattle.std.specs.Option.{option_map_or}
use Rattle.std.proofs.lemmas.Bool.{and_parts, and_from, cond_both, eqb-true, eq-eqb, leb-true, le-leb}
use Rattle.std.proofs.lemmas.List.{length-append, length-replicate}
use Rattle.fp_model.specs.declared.class.Code.{Code}
use Rattle.fp_model.specs.declared.class.instr.Instr.{Instr}
use Rattle.fp_facts.specs.declared.effect.Effect.{Effect}
use Rattle.fp_facts.specs.declared.effect.Effect.TheVariants.{Loads, Stores, Counts, Keeps, Shuffles, Takes}
use Rattle.fp_facts.specs.declared.label.Label.{Label}
use Rattle.fp_facts.specs.declared.label.Label.TheVariants.{Unreached, Bad, Frame}
use Rattle.fp_facts.specs.Dataflow.{Edge}
use Rattle.fp_facts.specs.Effects.{effect_of}
use Rattle.fp_facts.specs.Frames.{fits_label}
use Rattle.fp_facts.specs.Lattices.{Lattice}
use Rattle.fp_facts.specs.Moves.{caught_label, entry_words, moved, moved_after, moved_along, moved_locals, moved_stack, written_at, Zipped}
use Rattle.fp_facts.specs.Moves.Zipped.{no_words, more_words}
use Rattle.fp_facts.specs.Sorts.{words_of}
use Rattle.fp_facts.specs.Transfer.{top_words}
use Rattle.fp_facts.proofs.MovedWords.{locals_related, stack_related}
use Rattle.fp_facts.proofs.ZippedWords.{zipped-append, zipped-replicate}

-- ---- how many local variables

length-written_at : {W : Type 0} (at : ℕ) (words l : List W) → length (written_at at words l) ≡ length l
length-written_at at words [] = refl
length-written_at at [] (old ∷ l) = refl
length-written_at at (x ∷ words) (old ∷ l) =
    cond_both (at == 0) (x ∷ written_at 0 words l) (old ∷ written_at (at - 1) (x ∷ words) l) (λ v. length v ≡ length (old ∷ l))
    (λ _. omega (arith, length-written_at 0 words l))
    (λ _. omega (arith, length-written_at (at - 1) (x ∷ words) l))

pub length-moved_locals : {W : Type 0} (e : Effect) (l t : List W) → length (moved_locals e l t) ≡ length l
length-moved_locals (Loads s at) l t = refl
length-moved_locals (Stores s at) l t = length-written_at at (top_words (length (words_of s)) t) l
length-moved_locals (Counts at) l t = refl
length-moved_locals Keeps l t = refl
length-moved_locals (Shuffles x) l t = refl
length-moved_locals (Takes operands results) l t = refl

module _ {W : Type 0} (w : Lattice W) where
  -- ---- words that fit

  abbrev Fits : W → W → Type 0
  Fits x y = IsTrue (w.fits x)

  zipped-fits : (l : List W) → list_all w.fits l ≡ true → Zipped Fits l l
  zipped-fits [] h = no_words
  zipped-fits (x ∷ l) h = let known = and_parts (w.fits x) (list_all w.fits l) h in more_words known.0 (zipped-fits l known.1)

  fits-zipped : {l m : List W} → Zipped Fits l m → list_all w.fits l ≡ true
  fits-zipped no_words = refl
  fits-zipped (more_words {x = x} {l = l} related rest) = and_from (w.fits x) (list_all w.fits l) related (fits-zipped rest)

  record IsFitting (locals stack : ℕ) (l s : List W) : Type 0 where
    pub locals_are : length l ≡ locals
    pub stack_most : length s ≤ stack
    pub locals_fit : Zipped Fits l l
    pub stack_fits : Zipped Fits s s

  fitting-parts : (locals stack : ℕ) (l s : List W) → IsTrue (fits_label w locals stack (Frame l s)) → IsFitting locals stack l s
  fitting-parts locals stack l s h =
      let all = and_parts (length l == locals) _ h in
      let rest = and_parts (nat_le (length s) stack) _ all.1 in
      let words = and_parts (list_all w.fits l) (list_all w.fits s) rest.1 in
      record {
        locals_are = eqb-true (length l) locals all.0;
        stack_most = leb-true (length s) stack rest.0;
        locals_fit = zipped-fits l words.0;
        stack_fits = zipped-fits s words.1;
      }

  fitting-from : (locals stack : ℕ) (l s : List W) → IsFitting locals stack l s → IsTrue (fits_label w locals stack (Frame l s))
  fitting-from locals stack l s h =
      and_from (length l == locals) _ (eq-eqb (length l) locals h.locals_are)
      (and_from (nat_le (length s) stack) _ (le-leb (length s) stack h.stack_most)
      (and_from (list_all w.fits l) (list_all w.fits s) (fits-zipped h.locals_fit) (fits-zipped h.stack_fits)))

  -- ---- labels that fit

  module _ (none caught : W) (none_fits : IsTrue (w.fits none)) (caught_fits : IsTrue (w.fits caught)) (locals : ℕ) where
    pub moved-fits : (most : ℕ) (made : List W) (e : Effect) → list_all w.fits made ≡ true → (x : Label W) →
        IsTrue (fits_label w locals (most + 1) x) → IsTrue (fits_label w locals (most + 1) (moved none most made e x))
    moved-fits most made e all Unreached h = refl
    moved-fits most made e all Bad h = refl
    moved-fits most made e all (Frame l s) h =
        let known = fitting-parts locals (most + 1) l s h in
        cond_both (nat_le (length (moved_stack none made e l s)) most) (Frame (moved_locals e l s) (moved_stack none made e l s)) Bad
        (λ v. IsTrue (fits_label w locals (most + 1) v))
        (λ few. fitting-from locals (most + 1) (moved_locals e l s) (moved_stack none made e l s) (record {
          locals_are = length-moved_locals e l s ∙ known.locals_are;
          stack_most = omega (arith, leb-true (length (moved_stack none made e l s)) most few);
          locals_fit = locals_related Fits e known.locals_fit known.stack_fits;
          stack_fits = stack_related Fits none none none_fits e (zipped-fits made all) known.locals_fit known.stack_fits;
        }))
        (λ _. refl)

    pub caught-fits : (most : ℕ) (x : Label W) → IsTrue (fits_label w locals (most + 1) x) → IsTrue (fits_label w locals (most + 1) (caught_label caught x))
    caught-fits most Unreached h = refl
    caught-fits most Bad h = refl
    caught-fits most (Frame l s) h =
        let known = fitting-parts locals (most + 1) l s h in
        fitting-from locals (most + 1) l (caught ∷ []) (record {
          locals_are = known.locals_are;
          stack_most = omega arith;
          locals_fit = known.locals_fit;
          stack_fits = more_words caught_fits no_words;
        })

  module _ (code : Code) (none caught : W) (none_fits : IsTrue (w.fits none)) (caught_fits : IsTrue (w.fits caught))
      (made : ℕ × Instr → List W) (made_fit : (i : ℕ × Instr) → list_all w.fits (made i) ≡ true) where
    looked-fits : (i : Option (ℕ × Instr)) (x : Label W) → IsTrue (fits_label w code.max_locals (code.max_stack + 1) x) →
        IsTrue (fits_label w code.max_locals (code.max_stack + 1) (option_map_or (λ j. moved none code.max_stack (made j) (effect_of j.1) x) i x))
    looked-fits None x h = h
    looked-fits (Some i) x h = moved-fits none caught none_fits caught_fits code.max_locals code.max_stack (made i) (effect_of i.1) (made_fit i) x h

    pub moved_along-fits : (e : Edge) (x : Label W) → IsTrue (fits_label w code.max_locals (code.max_stack + 1) x) →
        IsTrue (fits_label w code.max_locals (code.max_stack + 1) (moved_along none caught code made e x))
    moved_along-fits e x h =
        cond_both e.2 (caught_label caught x) (moved_after none code made e.0 x) (λ v. IsTrue (fits_label w code.max_locals (code.max_stack + 1) v))
        (λ _. caught-fits none caught none_fits caught_fits code.max_locals code.max_stack x h)
        (λ _. looked-fits (slice_get code.instrs e.0) x h)

  pub entry-fits : (code : Code) (none : W) → IsTrue (w.fits none) → (arguments : List W) → list_all w.fits arguments ≡ true → length arguments ≤ code.max_locals →
      IsTrue (fits_label w code.max_locals (code.max_stack + 1) (entry_words none code arguments))
  entry-fits code none none_fits arguments fit room =
      let rest = replicate (code.max_locals - length arguments) none in
      let long : length (arguments ++ rest) ≡ code.max_locals = omega (arith, length-append arguments rest, length-replicate (code.max_locals - length arguments) none) in
      fitting-from code.max_locals (code.max_stack + 1) (arguments ++ rest) [] (record {
        locals_are = long;
        stack_most = omega arith;
        locals_fit = zipped-append Fits (zipped-fits arguments fit) (zipped-replicate Fits none none none_fits (code.max_locals - length arguments));
        stack_fits = no_words;
      })
