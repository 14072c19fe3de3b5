-- The frames of moved words have the shape of the frames of kinds.
use Rattle.std.proofs.Common.{◌≡◌, ◌<◌, ℕ, Bool, true, false, IsTrue, List, length, slice_index_or, map, All, Some, Option, None, refl, sym, ap, subst, ◌∙◌, arith}
use Rattle.std.specs.List.{slice_get}
use Rattle.std.specs.Option.{option_map_or}
use Rattle.std.proofs.lemmas.Bool.{both_ways}
use Rattle.std.proofs.lemmas.List.{length-map}
use Rattle.fp_model.specs.declared.class.Code.{Code}
use Rattle.fp_model.specs.declared.class.Method.{Method}
use Rattle.fp_model.specs.declared.class.instr.Instr.{Instr}
use Rattle.fp_model.specs.declared.kind.Sort.{Sort}
use Rattle.fp_model.specs.declared.kind.Sort.TheVariants.{Unset}
use Rattle.fp_model.specs.SoundCode.{IsSoundMethod}
use Rattle.fp_facts.specs.declared.label.Label.{Label}
use Rattle.fp_facts.specs.declared.label.Label.TheVariants.{Unreached, Bad, Frame}
use Rattle.fp_facts.specs.Dataflow.{IsLawful, IsLeastFlow, IsSettled, Problem, Reaches, solution}
use Rattle.fp_facts.specs.Edges.{edges_of}
use Rattle.fp_facts.specs.Effects.{effect_of}
use Rattle.fp_facts.specs.Frames.{join_labels}
use Rattle.fp_facts.specs.Kinded.{IsKindedCode}
use Rattle.fp_facts.specs.Lattices.{Lattice, IsBelow}
use Rattle.fp_facts.specs.Moves.{moves_problem, same_label_shape}
use Rattle.fp_facts.specs.Origins.{made_sorts}
use Rattle.fp_facts.specs.Sorts.{argument_words, join_sorts, result_words}
use Rattle.fp_facts.specs.Transfer.{after, carried, first_label, frame_before, is_bad, is_unreached, is_wrong, kinds_problem, label_after}
use Rattle.fp_facts.proofs.Flows.{solution-least}
use Rattle.fp_facts.proofs.LabelShapes.{Point, point, points, points-fit, points-lattice, same-points, same-shapes, same_label_shape-from, shape, shape-bad, shape-unreached}
use Rattle.fp_facts.proofs.LawfulKinds.{kinds-lawful}
use Rattle.fp_facts.proofs.LawfulMoves.{moves-lawful}
use Rattle.fp_facts.proofs.MappedMoves.{first-mapped, join-mapped, moves-mapped}
use Rattle.fp_facts.proofs.Reached.{reaches-kept}
use Rattle.fp_facts.proofs.ReachedKinds.{labelled-reaches, reaches-labelled}
use Rattle.fp_facts.proofs.ReachedMoves.{moved-reaches, reaches-moved}
use Rattle.fp_facts.proofs.ShapedEffects.{carry-shaped, made_points}
use Rattle.fp_facts.proofs.SoundEntries.{sound-room, sound-some}

-- nothing is right behind a label that is Bad
bad-behind : (most instrs number : ℕ) (results : List Sort) (i : Option (ℕ × Instr)) → is_bad (option_map_or (λ j. after most (is_wrong instrs number results j.1) (effect_of j.1) Bad) i Bad) ≡ true
bad-behind most instrs number results None = refl
bad-behind most instrs number results (Some i) = refl

good-before : (code : Code) (results : List Sort) (number : ℕ) (x : Label Sort) → is_bad (label_after code results number x) ≡ false → is_bad x ≡ false
good-before code results number Unreached h = refl
good-before code results number Bad h = absurd (both_ways _ h (bad-behind code.max_stack (length code.instrs) number results (slice_get code.instrs number)))
good-before code results number (Frame l s) h = refl

module _ (m : Method) (code : Code) (sound : IsSoundMethod m) (is : m.code ≡ Some code) (kinded : IsKindedCode m code)
    (within : All (λ e. (e.0 < length code.instrs) × (e.1 < length code.instrs)) (edges_of code)) where
  abbrev kinds : Problem (Label Sort)
  kinds = kinds_problem code (argument_words m) (result_words m.kinds.result) (edges_of code)

  -- the problem of points
  abbrev skeleton : Problem (Label Point)
  skeleton = moves_problem points tt tt code made_points (map point (argument_words m)) (edges_of code)

  kinds-least : IsLeastFlow kinds (frame_before m code)
  unfolding frame_before
  kinds-least =
      solution-least kinds
      (kinds-lawful code (argument_words m) (result_words m.kinds.result) (edges_of code) (sound-some m code sound is) (sound-room m code sound is) within)

  points-lawful : (made : ℕ × Instr → List Point) (arguments : List Point) → length arguments ≡ length (argument_words m) → IsLawful (moves_problem points tt tt code made arguments (edges_of code))
  points-lawful made arguments long =
      moves-lawful points points-lattice tt tt code made arguments (edges_of code) (sound-some m code sound is) (let room = sound-room m code sound is in omega arith) within
      refl refl (points-fit arguments) (λ i. points-fit (made i))

  -- ---- which frames are reached, and that none is Bad

  reaches-within : (p : ℕ) → Reaches (edges_of code) p → p < length code.instrs
  reaches-within = reaches-kept (edges_of code) (λ p. p < length code.instrs) (sound-some m code sound is) (λ i e in_edges from. (within i e in_edges).1)

  frame-reaches : (p : ℕ) → is_unreached (frame_before m code p) ≡ false → Reaches (edges_of code) p
  unfolding frame_before
  frame-reaches p h = labelled-reaches code (argument_words m) (result_words m.kinds.result) (edges_of code) p h

  reaches-frame : (p : ℕ) → Reaches (edges_of code) p → is_unreached (frame_before m code p) ≡ false
  unfolding frame_before
  reaches-frame p reached = reaches-labelled code (argument_words m) (result_words m.kinds.result) (edges_of code) (sound-some m code sound is) within p reached

  good-by : (x : Label Sort) → (is_unreached x ≡ false → is_bad x ≡ false) → is_bad x ≡ false
  good-by Unreached h = refl
  good-by Bad h = h refl
  good-by (Frame l s) h = refl

  pub frame-good : (p : ℕ) → is_bad (frame_before m code p) ≡ false
  frame-good p =
      good-by (frame_before m code p)
      (λ reached. good-before code (result_words m.kinds.result) p (frame_before m code p) (kinded p (reaches-within p (frame-reaches p reached))))

  same_test : (a b : Bool) → (a ≡ false → b ≡ false) → (b ≡ false → a ≡ false) → a ≡ b
  same_test true true h k = refl
  same_test true false h k = absurd (let no_test : true ≡ false = k refl in cc)
  same_test false true h k = absurd (let no_test : true ≡ false = h refl in cc)
  same_test false false h k = refl

  skeleton-reached : (p : ℕ) → is_unreached (solution skeleton p) ≡ is_unreached (shape (frame_before m code p))
  skeleton-reached p =
      same_test (is_unreached (solution skeleton p)) (is_unreached (frame_before m code p))
      (λ h. reaches-frame p (moved-reaches points tt tt code made_points (map point (argument_words m)) (edges_of code) p h))
      (λ h. reaches-moved points tt tt code made_points (map point (argument_words m)) (edges_of code) (sound-some m code sound is) within p (frame-reaches p h))
      ∙ sym (shape-unreached (frame_before m code p))

  -- ---- the shapes of frames are settled

  shapes-joined : (x y : Label Sort) → join_labels join_sorts x y ≡ y → join_labels points.join (shape x) (shape y) ≡ shape y
  shapes-joined x y below = sym (join-mapped point join_sorts points.join (λ _ _. refl) x y) ∙ ap shape below

  shapes-first : (p : ℕ) → IsBelow skeleton.lattice (skeleton.first p) (shape (frame_before m code p))
  shapes-first p =
      subst (λ v. join_labels points.join v (shape (frame_before m code p)) ≡ shape (frame_before m code p)) (first-mapped point Unset Unset code (argument_words m) p)
      (shapes-joined (first_label code (argument_words m) p) (frame_before m code p) (kinds-least.holds_first p))

  shapes-settled : All (IsSettled skeleton (λ p. shape (frame_before m code p))) (edges_of code)
  shapes-settled i d in_edges =
      let e = slice_index_or (edges_of code) i d in
      let before = frame_before m code e.0 in
      let behind = carried e.2 before (label_after code (result_words m.kinds.result) e.0 before) in
      let good = kinded e.0 (within i d in_edges).0 in
      subst (λ v. join_labels points.join v (shape (frame_before m code e.1)) ≡ shape (frame_before m code e.1)) (sym (carry-shaped code (result_words m.kinds.result) e before good))
      (shapes-joined behind (frame_before m code e.1) (kinds-least.settled i d in_edges))

  skeleton-shape : (p : ℕ) → solution skeleton p ≡ shape (frame_before m code p)
  skeleton-shape p =
      same-shapes (solution skeleton p) (shape (frame_before m code p))
      ((solution-least skeleton (points-lawful made_points (map point (argument_words m)) (length-map (argument_words m) point))).least (λ q. shape (frame_before m code q)) shapes-first shapes-settled p)
      (shape-bad (frame_before m code p) ∙ frame-good p)
      (skeleton-reached p)

  -- ---- any words

  module _ {W : Type 0} (w : Lattice W) (none caught : W) (made : ℕ × Instr → List W) (arguments : List W)
      (long : length arguments ≡ length (argument_words m)) (made_long : (i : ℕ × Instr) → length (made i) ≡ length (made_sorts (effect_of i.1))) where
    arguments-are : map point arguments ≡ map point (argument_words m)
    arguments-are = same-points (map point arguments) (map point (argument_words m)) (length-map arguments point ∙ long ∙ sym (length-map (argument_words m) point))

    made-are : (λ (i : ℕ × Instr). map point (made i)) ≡ made_points
    made-are = λ j i.
        same-points (map point (made i)) (made_points i) (length-map (made i) point ∙ made_long i ∙ sym (length-map (made_sorts (effect_of i.1)) point)) j

    pub moves-shape : IsLawful (moves_problem w none caught code made arguments (edges_of code)) → (p : ℕ) →
        shape (solution (moves_problem w none caught code made arguments (edges_of code)) p) ≡ shape (frame_before m code p)
    moves-shape laws p =
        sym (moves-mapped w points point (λ _ _. refl) none caught code made arguments (edges_of code) laws
        (points-lawful (λ i. map point (made i)) (map point arguments) (length-map arguments point ∙ long)) p)
        ∙ ap (λ (f : ℕ × Instr → List Point). solution (moves_problem points tt tt code f (map point arguments) (edges_of code)) p) made-are
        ∙ ap (λ (l : List Point). solution (moves_problem points tt tt code made_points l (edges_of code)) p) arguments-are
        ∙ skeleton-shape p

    pub moves-shaped : IsLawful (moves_problem w none caught code made arguments (edges_of code)) → (p : ℕ) →
        IsTrue (same_label_shape (solution (moves_problem w none caught code made arguments (edges_of code)) p) (frame_before m code p))
    moves-shaped laws p =
        same_label_shape-from (solution (moves_problem w none caught code made arguments (edges_of code)) p) (frame_before m code p) (moves-shape laws p) (frame-good p)
