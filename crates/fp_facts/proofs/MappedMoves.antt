-- A function of words that keeps their joins maps the solution of one dataflow problem of moved words to that of another.
use Rattle.std.proofs.Common.{◌≡◌, ◌-◌, ◌==◌, ℕ, Bool, true, false, nat_le, List, [], ◌∷◌, ◌++◌, length, map, replicate, Option, Some, None, cond, refl, sym, ap, ◌∙◌}
use Rattle.std.specs.List.{slice_get}
use Rattle.std.specs.Option.{option_map_or}
use Rattle.std.proofs.lemmas.List.{length-map}
use Rattle.fp_model.specs.declared.class.Code.{Code}
use Rattle.fp_model.specs.declared.class.instr.Instr.{Instr}
use Rattle.fp_facts.specs.declared.effect.Effect.{Effect}
use Rattle.fp_facts.specs.declared.label.Label.{Label}
use Rattle.fp_facts.specs.declared.label.Label.TheVariants.{Unreached, Bad, Frame}
use Rattle.fp_facts.specs.Dataflow.{Edge, IsLawful, solution}
use Rattle.fp_facts.specs.Effects.{effect_of}
use Rattle.fp_facts.specs.Frames.{join_labels, join_words, same_shape}
use Rattle.fp_facts.specs.Lattices.{Lattice}
use Rattle.fp_facts.specs.Moves.{caught_label, entry_words, first_words, map_label, moved, moved_after, moved_along, moved_locals, moved_stack, moves_problem, Zipped}
use Rattle.fp_facts.specs.Moves.Zipped.{no_words, more_words}
use Rattle.fp_facts.proofs.MappedFlows.{solution-mapped}
use Rattle.fp_facts.proofs.MovedWords.{locals_related, stack_related}
use Rattle.fp_facts.proofs.ZippedWords.{zipped-append, zipped-length, zipped-replicate}

module _ {W V : Type 0} (h : W → V) where
  abbrev IsMapped : W → V → Type 0
  IsMapped x y = h x ≡ y

  zipped-mapped : (l : List W) → Zipped IsMapped l (map h l)
  zipped-mapped [] = no_words
  zipped-mapped (x ∷ l) = more_words refl (zipped-mapped l)

  mapped-zipped : {l : List W} {m : List V} → Zipped IsMapped l m → map h l ≡ m
  mapped-zipped no_words = refl
  mapped-zipped (more_words related rest) = let words = mapped-zipped rest in cc

  -- a frame, or none, by one test
  frame-mapped : (t u : Bool) (l s : List W) (m k : List V) → t ≡ u → map h l ≡ m → map h s ≡ k → map_label h (cond t (Frame l s) Bad) ≡ cond u (Frame m k) Bad
  frame-mapped true true l s m k same locals stack = cc
  frame-mapped true false l s m k same locals stack = absurd cc
  frame-mapped false true l s m k same locals stack = absurd cc
  frame-mapped false false l s m k same locals stack = refl

  module _ (none caught : W) where
    pub moved-mapped : (most : ℕ) (made : List W) (e : Effect) (x : Label W) → map_label h (moved none most made e x) ≡ moved (h none) most (map h made) e (map_label h x)
    moved-mapped most made e Unreached = refl
    moved-mapped most made e Bad = refl
    moved-mapped most made e (Frame l s) =
        let stack = stack_related IsMapped none (h none) refl e (zipped-mapped made) (zipped-mapped l) (zipped-mapped s) in
        frame-mapped (nat_le (length (moved_stack none made e l s)) most) (nat_le (length (moved_stack (h none) (map h made) e (map h l) (map h s))) most)
        (moved_locals e l s) (moved_stack none made e l s) (moved_locals e (map h l) (map h s)) (moved_stack (h none) (map h made) e (map h l) (map h s))
        (ap (λ n. nat_le n most) (zipped-length IsMapped stack))
        (mapped-zipped (locals_related IsMapped e (zipped-mapped l) (zipped-mapped s)))
        (mapped-zipped stack)

    caught-mapped : (x : Label W) → map_label h (caught_label caught x) ≡ caught_label (h caught) (map_label h x)
    caught-mapped Unreached = refl
    caught-mapped Bad = refl
    caught-mapped (Frame l s) = refl

    module _ (code : Code) (made : ℕ × Instr → List W) where
      looked-mapped : (i : Option (ℕ × Instr)) (x : Label W) →
          map_label h (option_map_or (λ j. moved none code.max_stack (made j) (effect_of j.1) x) i x)
          ≡ option_map_or (λ j. moved (h none) code.max_stack (map h (made j)) (effect_of j.1) (map_label h x)) i (map_label h x)
      looked-mapped None x = refl
      looked-mapped (Some i) x = moved-mapped code.max_stack (made i) (effect_of i.1) x

      chosen-mapped : (handler : Bool) (number : ℕ) (x : Label W) →
          map_label h (cond handler (caught_label caught x) (moved_after none code made number x))
          ≡ cond handler (caught_label (h caught) (map_label h x)) (moved_after (h none) code (λ i. map h (made i)) number (map_label h x))
      chosen-mapped true number x = caught-mapped x
      chosen-mapped false number x = looked-mapped (slice_get code.instrs number) x

      carry-mapped : (e : Edge) (x : Label W) → map_label h (moved_along none caught code made e x) ≡ moved_along (h none) (h caught) code (λ i. map h (made i)) e (map_label h x)
      carry-mapped e x = chosen-mapped e.2 e.0 x

    module _ (code : Code) (arguments : List W) where
      pub entry-mapped : map_label h (entry_words none code arguments) ≡ entry_words (h none) code (map h arguments)
      entry-mapped =
          let many = code.max_locals - length arguments in
          let words : map h (arguments ++ replicate many none) ≡ map h arguments ++ replicate many (h none) =
          mapped-zipped (zipped-append IsMapped (zipped-mapped arguments) (zipped-replicate IsMapped none (h none) refl many)) in
          ap (λ (l : List V). Frame l []) words
          ∙ ap (λ n. Frame (map h arguments ++ replicate (code.max_locals - n) (h none)) []) (sym (length-map arguments h))

      pub first-mapped : (p : ℕ) → map_label h (first_words none code arguments p) ≡ first_words (h none) code (map h arguments) p
      first-mapped p = first-chosen (p == 0) where
        first-chosen : (t : Bool) → map_label h (cond t (entry_words none code arguments) Unreached) ≡ cond t (entry_words (h none) code (map h arguments)) Unreached
        first-chosen true = entry-mapped
        first-chosen false = refl

  -- ---- joins

  module _ (j : W → W → W) (k : V → V → V) (keeps : (x y : W) → h (j x y) ≡ k (h x) (h y)) where
    words-mapped : (l m : List W) → map h (join_words j l m) ≡ join_words k (map h l) (map h m)
    words-mapped [] m = refl
    words-mapped (x ∷ l) [] = refl
    words-mapped (x ∷ l) (y ∷ m) = let first = keeps x y in let rest = words-mapped l m in cc

    pub join-mapped : (x y : Label W) → map_label h (join_labels j x y) ≡ join_labels k (map_label h x) (map_label h y)
    join-mapped Unreached y = refl
    join-mapped Bad y = refl
    join-mapped (Frame l s) Unreached = refl
    join-mapped (Frame l s) Bad = refl
    join-mapped (Frame l s) (Frame m t) =
        let shape : same_shape l s m t ≡ same_shape (map h l) (map h s) (map h m) (map h t) =
        (let a = length-map l h in let b = length-map s h in let c = length-map m h in let d = length-map t h in cc) in
        frame-mapped (same_shape l s m t) (same_shape (map h l) (map h s) (map h m) (map h t))
        (join_words j l m) (join_words j s t) (join_words k (map h l) (map h m)) (join_words k (map h s) (map h t))
        shape (words-mapped l m) (words-mapped s t)

module _ {W V : Type 0} (w : Lattice W) (v : Lattice V) (h : W → V) (keeps : (x y : W) → h (w.join x y) ≡ v.join (h x) (h y)) where
  pub moves-mapped : (none caught : W) (code : Code) (made : ℕ × Instr → List W) (arguments : List W) (edges : List Edge) →
      IsLawful (moves_problem w none caught code made arguments edges) →
      IsLawful (moves_problem v (h none) (h caught) code (λ i. map h (made i)) (map h arguments) edges) → (p : ℕ) →
      solution (moves_problem v (h none) (h caught) code (λ i. map h (made i)) (map h arguments) edges) p
      ≡ map_label h (solution (moves_problem w none caught code made arguments edges) p)
  moves-mapped none caught code made arguments edges laws others p =
      sym (solution-mapped (moves_problem w none caught code made arguments edges) (moves_problem v (h none) (h caught) code (λ i. map h (made i)) (map h arguments) edges)
      (map_label h) (join-mapped h w.join v.join keeps) (carry-mapped h none caught code made) (first-mapped h none caught code arguments) refl refl laws others p)
