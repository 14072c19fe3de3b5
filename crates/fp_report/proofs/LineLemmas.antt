-- Lines that are put one after another.
use Rattle.std.proofs.Common.{◌≡◌, ℕ, zero, suc, ◌<◌, List, [], ◌∷◌, ◌++◌, length, map, get_or, take, drop, refl, sym, ap, ◌∙◌, append_assoc, arith}
use Rattle.std.specs.Prelude.{Vec}
use Rattle.std.specs.declared.alloc.Global.{Global}
use Rattle.std.specs.List.{flat_map}
use Rattle.fp_model.specs.ClassSet.{SetView}
use Rattle.fp_report.specs.Report.{target_texts}

-- the bytes of lines, one after another
abbrev pub joined : List (Vec ℕ Global) → List ℕ
joined lines = flat_map (λ line. line.items) lines

-- the lines before one, that line, and those behind it
pub joined-split : (lines : List (Vec ℕ Global)) (i : ℕ) (line : Vec ℕ Global) → i < length lines → line ≡ get_or lines i line → joined lines ≡ joined (take i lines) ++ (line.items ++ joined (drop (suc i) lines))
joined-split [] i line lt is = absurd (omega (arith, lt))
joined-split (l ∷ ls) zero line lt is = rw is refl
joined-split (l ∷ ls) (suc i) line lt is =
    ap (λ rest. l.items ++ rest) (joined-split ls i line (omega (arith, lt)) is)
    ∙ sym (append_assoc l.items (joined (take i ls)) (line.items ++ joined (drop (suc i) ls)))

-- the bytes of the lines' texts are theirs
pub joined-texts : (lines : List (Vec ℕ Global)) → flat_map (λ line. line) (map (λ line. line.items) lines) ≡ joined lines
joined-texts [] = refl
joined-texts (l ∷ ls) = ap (λ rest. l.items ++ rest) (joined-texts ls)

mapped-length : {X Y : Type 0} (f : X → Y) (xs : List X) → length (map f xs) ≡ length xs
mapped-length f [] = refl
mapped-length f (x ∷ xs) = omega (arith, mapped-length f xs)

-- each method has a text
pub length-texts : (set : SetView) (texts : List (Vec ℕ Global)) (methods : List ℕ) → map (λ t. t.items) texts ≡ target_texts set methods → length texts ≡ length methods
length-texts set texts methods is =
    sym (mapped-length (λ (t : Vec ℕ Global). t.items) texts) ∙ ap (λ (l : List (List ℕ)). length l) is ∙ mapped-length _ methods

-- the bytes of lines that are those of a report
pub joined-report : (put lines : List (Vec ℕ Global)) (made : List (List ℕ)) → put ≡ lines → map (λ line. line.items) lines ≡ made → joined put ≡ flat_map (λ line. line) made
joined-report put lines made same is =
    ap (λ (l : List (Vec ℕ Global)). joined l) same ∙ sym (joined-texts lines) ∙ ap (λ (l : List (List ℕ)). flat_map (λ line. line) l) is
