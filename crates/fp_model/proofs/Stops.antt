-- Where texts that pass a test go on, and where they stop.
use Rattle.std.proofs.Common.{◌≡◌, ℕ, ◌+◌, ◌≤◌, inl, inr, Bool, true, false, List, [], ◌∷◌, ◌++◌, length, take, drop, sym, ap, ◌∙◌, arith, length-append}
use Rattle.std.specs.Prelude.{Option, Some, None, IfSome, IfNone, is_some, not}
use Rattle.std.proofs.lemmas.List.{append_assoc, take-append-drop}
use Rattle.std.proofs.lemmas.Grind.{common_steps}
use Rattle.std.proofs.Math.Seq.{take-append_seam, take-append-add}
use Rattle.std.proofs.lemmas.Bool.{both_ways, cases_lt, false_from_ne_true}
use Rattle.fp_model.specs.Descriptor.{GoesOn, StopsAt}

-- a text stops at a byte behind which none that passes goes on
pub StopsAt-byte : (test : List ℕ → Bool) (front : List ℕ) (byte : ℕ) (rest : List ℕ) → GoesOn test front → ((more : List ℕ) → test (front ++ byte ∷ more) ≡ false) → StopsAt test (front ++ byte ∷ rest) (length front)
StopsAt-byte test front byte rest goes stops = record {
  within = omega (arith, length-append front (byte ∷ rest));
  before = rw (take-append_seam front (byte ∷ rest)) goes;
  after = λ lt on.
      let one : take (length front + 1) (front ++ byte ∷ rest) ≡ front ++ byte ∷ [] = take-append-add front (byte ∷ rest) 1 in
      let text : test ((take (length front + 1) (front ++ byte ∷ rest)) ++ on.0) ≡ false = rw (one, append_assoc front (byte ∷ []) on.0) (stops on.0) in
      both_ways _ text on.1;
  whole = λ e. absurd (omega (arith, length-append front (byte ∷ rest)));
}

-- a text that ends too early stops at its end
pub StopsAt-end : (test : List ℕ → Bool) (text : List ℕ) → GoesOn test text → test text ≡ false → StopsAt test text (length text)
StopsAt-end test text goes fails = record {
  within = omega arith;
  before = let all : take (length text) text ≡ text = grind (arith, common_steps) in rw all goes;
  after = λ lt on. absurd (omega arith);
  whole = λ e. fails;
}

-- a text that stops does not pass
pub StopsAt-fails : (test : List ℕ → Bool) (text : List ℕ) (at : ℕ) → StopsAt test text at → test text ≡ false
StopsAt-fails test text at stops = elim (cases_lt at (length text)) [
  | inl lt ↦ false_from_ne_true (test text) (λ passes. stops.after lt (drop (at + 1) text, ap test (take-append-drop (at + 1) text) ∙ passes))
  | inr ge ↦ let within : at ≤ length text = stops.within in stops.whole (omega arith)
]

-- a text passes where it stops nowhere
pub passes_or_stops : (test : List ℕ → Bool) (text : List ℕ) (place : Option ℕ) (passed : Bool) → IfNone place (test text ≡ true) → IfSome place (StopsAt test text) → is_some place ≡ not passed → passed ≡ test text
passes_or_stops test text None true passes stops is = sym passes
passes_or_stops test text None false passes stops is = absurd cc
passes_or_stops test text (Some at) true passes stops is = absurd cc
passes_or_stops test text (Some at) false passes stops is = sym (StopsAt-fails test text at stops)
