-- What sinks tell of pieces that follow one another, and of a first part of a piece.
use Rattle.std.proofs.Common.{◌≡◌, ℕ, List, [], ◌++◌, take, drop, Option, Some, None, refl, sym, ap, ◌∙◌, append_assoc, arith}
use Rattle.std.proofs.lemmas.List.{take-append-drop}
use Rattle.std.proofs.lemmas.Grind.{common_steps}
use Rattle.std.specs.Io.KnownBytes.{append_known}
use Rattle.fp_base.specs.Faults.{AppendsPart}

-- two pieces make one
pub append_known-append : (known : Option (List ℕ)) (xs ys : List ℕ) → append_known (append_known known xs) ys ≡ append_known known (xs ++ ys)
append_known-append None xs ys = refl
append_known-append (Some known) xs ys = ap Some (append_assoc known xs ys)

-- an empty piece changes nothing
pub append_known-empty : (known : Option (List ℕ)) → known ≡ append_known known []
append_known-empty None = refl
append_known-empty (Some known) = ap Some (grind (arith, common_steps))

-- nothing is a first part
pub part-none : (old : Option (List ℕ)) (whole : List ℕ) → AppendsPart old old whole
part-none old whole =
    record { part = []; rest = whole; split = refl; appended = append_known-empty old }

-- all is a first part
pub part-all : (old new : Option (List ℕ)) (whole : List ℕ) → new ≡ append_known old whole → AppendsPart old new whole
part-all old new whole is =
    record { part = whole; rest = []; split = grind (arith, common_steps); appended = is }

-- so are the first bytes
pub part-take : (old new : Option (List ℕ)) (count : ℕ) (whole : List ℕ) → new ≡ append_known old (take count whole) → AppendsPart old new whole
part-take old new count whole is =
    record { part = take count whole; rest = drop count whole; split = sym (take-append-drop count whole); appended = is }

-- a first part of a piece that follows what was put is a first part of the whole
pub part-more : (old mid new : Option (List ℕ)) (done piece rest whole : List ℕ) → mid ≡ append_known old done → whole ≡ done ++ (piece ++ rest) → AppendsPart mid new piece → AppendsPart old new whole
part-more old mid new done piece rest whole before parts more =
    record {
      part = done ++ more.part;
      rest = more.rest ++ rest;
      split = parts ∙ ap (λ p. done ++ (p ++ rest)) more.split ∙ simp append_assoc;
      appended = more.appended ∙ ap (λ k. append_known k more.part) before ∙ append_known-append old done more.part;
    }
