-- Places that are asked one after the other.
use Rattle.std.proofs.Common.{◌≡◌, ◌==◌, ◌<◌, ◌+◌, ◌||◌, ℕ, Bool, true, false, not, List, [], ◌∷◌, ◌++◌, Contains, get_or, length, take, refl, sym, ap, subst, ◌∙◌}
use Rattle.std.specs.List.{list_any}
use Rattle.std.proofs.lemmas.List.{append_assoc, map-append, take_more}
use Rattle.std.proofs.lemmas.List.Folds.{list_any-append}
use Rattle.fp_facts.specs.Hierarchy.{has_number}
use Rattle.fp_eqs.specs.Answers.{asked, Agrees, told}
use Rattle.fp_eqs.proofs.Told.{agrees-earlier, asked-after, or-false}
use Rattle.fp_rta.specs.Contributions.{any_set, ones}
use Rattle.fp_rta.specs.Meaning.{IsLater}

pub or-apart : (a b c : Bool) → ((a || b) || c) ≡ (a || (b || c))
or-apart true b c = refl
or-apart false b c = refl

-- a test of one element more
pub any-more : (f : ℕ → Bool) (xs : List ℕ) (i : ℕ) → i < length xs → list_any f (take (i + 1) xs) ≡ (list_any f (take i xs) || f (get_or xs i 0))
any-more f xs i lt =
    ap (list_any f) (take_more xs i 0 lt) ∙ list_any-append f (take i xs) (get_or xs i 0 ∷ []) ∙ ap (λ b. list_any f (take i xs) || b) (or-false (f (get_or xs i 0)))

pub later-same : (es : List (ℕ × ℕ)) → IsLater es es
later-same es a h = h

pub later-told : (before now : List (ℕ × ℕ)) (p w : ℕ) (after : List (ℕ × ℕ)) → after ≡ told now p w → IsLater before now → IsLater before after
later-told before now p w after e h a k = h a (agrees-earlier a now p w (subst (λ es. Agrees a es) e k))

-- one place more was asked
pub asked-more : (before now after : List (ℕ × ℕ)) (places : List ℕ) (i w : ℕ) → i < length places →
    ((p : ℕ) → asked now p ≡ (asked before p || has_number (take i places) p)) → after ≡ told now (get_or places i 0) w →
    (p : ℕ) → asked after p ≡ (asked before p || has_number (take (i + 1) places) p)
asked-more before now after places i w lt h e p =
    let q = get_or places i 0 in
    ap (λ es. asked es p) e ∙ asked-after now q w p ∙ ap (λ b. b || q == p) (h p) ∙ or-apart (asked before p) (has_number (take i places) p) (q == p)
    ∙ ap (λ b. asked before p || b) (sym (any-more (λ m. m == p) places i lt))

-- one word more was seen
pub set-more : (a : ℕ → ℕ) (any : Bool) (now after : List (ℕ × ℕ)) (places : List ℕ) (i w : ℕ) → i < length places →
    ((b : ℕ → ℕ) → Agrees b now → any ≡ any_set b (take i places)) → after ≡ told now (get_or places i 0) w → Contains after (get_or places i 0, w) →
    Agrees a after → (any || not (w == 0)) ≡ any_set a (take (i + 1) places)
set-more a any now after places i w lt h e given k =
    let q = get_or places i 0 in
    let word : a q ≡ w = k q w given in
    let before : any ≡ any_set a (take i places) = h a (agrees-earlier a now q w (subst (λ es. Agrees a es) e k)) in
    ap (λ b. b || not (w == 0)) before ∙ ap (λ v. any_set a (take i places) || not (v == 0)) (sym word) ∙ sym (any-more (λ p. not (a p == 0)) places i lt)

-- one place more is given 1
pub ones-more : (before now after : List (ℕ × ℕ)) (places : List ℕ) (i : ℕ) → i < length places →
    now ≡ before ++ ones (take i places) → after ≡ now ++ (get_or places i 0, 1) ∷ [] → after ≡ before ++ ones (take (i + 1) places)
ones-more before now after places i lt h e =
    let pair : List (ℕ × ℕ) = (get_or places i 0, 1) ∷ [] in
    let more : ones (take (i + 1) places) ≡ ones (take i places) ++ pair = ap ones (take_more places i 0 lt) ∙ map-append (λ (p : ℕ). (p, 1)) (take i places) (get_or places i 0 ∷ []) in
    e ∙ ap (λ (es : List (ℕ × ℕ)). es ++ pair) h ∙ append_assoc before (ones (take i places)) pair ∙ ap (λ (es : List (ℕ × ℕ)). before ++ es) (sym more)
