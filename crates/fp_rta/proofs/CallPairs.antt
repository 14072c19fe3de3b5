-- The contributions of the first candidates, and the places that these ask.
use Rattle.std.proofs.Common.{◌≡◌, ◌==◌, ◌<◌, ◌+◌, ◌||◌, ℕ, Bool, true, false, IsTrue, List, [], ◌∷◌, ◌++◌, cond, get_or, length, take, refl, sym, ap, subst, ◌∙◌, arith, zero, suc}
use Rattle.std.proofs.lemmas.List.{append_assoc, append-nil, take_more}
use Rattle.std.proofs.lemmas.List.Folds.{list_any-append}
use Rattle.std.proofs.lemmas.Grind.{flat_map-append}
use Rattle.fp_facts.specs.Hierarchy.{has_number}
use Rattle.fp_eqs.specs.Answers.{asked}
use Rattle.fp_eqs.specs.Tests.{left, right}
use Rattle.fp_rta.specs.declared.candidate.Candidate.{Candidate}
use Rattle.fp_rta.specs.Contributions.{bit_pairs, pairs_from, sources_of}

pub pairs-append : (test : Candidate → Bool) (callees bit : ℕ) (xs ys : List Candidate) → pairs_from test callees bit (xs ++ ys) ≡ pairs_from test callees bit xs ++ pairs_from test callees (bit + length xs) ys
pairs-append test callees bit [] ys = ap (λ n. pairs_from test callees n ys) (sym (let e : bit + 0 ≡ bit = omega arith in e))
pairs-append test callees bit (k ∷ xs) ys =
    let here : List (ℕ × ℕ) = cond (test k) (bit_pairs callees bit k.target) [] in
    let next : (bit + 1) + length xs ≡ bit + suc (length xs) = omega arith in
    ap (λ (es : List (ℕ × ℕ)). here ++ es) (pairs-append test callees (bit + 1) xs ys)
    ∙ sym (append_assoc here (pairs_from test callees (bit + 1) xs) (pairs_from test callees ((bit + 1) + length xs) ys))
    ∙ ap (λ n. (here ++ pairs_from test callees (bit + 1) xs) ++ pairs_from test callees n ys) next

taken-length : (ks : List Candidate) (i : ℕ) → i < length ks → length (take i ks) ≡ i
taken-length [] zero lt = refl
taken-length [] (suc i) lt = absurd (omega arith)
taken-length (k ∷ ks) zero lt = refl
taken-length (k ∷ ks) (suc i) lt = let e = taken-length ks i (omega arith) in omega (arith, e)

-- those of one candidate more
pub pairs-more : (test : Candidate → Bool) (callees : ℕ) (ks : List Candidate) (i : ℕ) (k : Candidate) → i < length ks → k ≡ get_or ks i k →
    pairs_from test callees 0 (take (i + 1) ks) ≡ pairs_from test callees 0 (take i ks) ++ cond (test k) (bit_pairs callees i k.target) []
pairs-more test callees ks i k lt item =
    let one : List Candidate = k ∷ [] in
    let so_far = take i ks in
    let place : 0 + length so_far ≡ i = (let e = taken-length ks i lt in omega (arith, e)) in
    ap (pairs_from test callees 0) (take_more ks i k lt ∙ ap (λ (j : Candidate). so_far ++ j ∷ []) (sym item))
    ∙ pairs-append test callees 0 so_far one
    ∙ ap (λ n. pairs_from test callees 0 so_far ++ pairs_from test callees n one) place
    ∙ ap (λ (es : List (ℕ × ℕ)). pairs_from test callees 0 so_far ++ es) (append-nil (cond (test k) (bit_pairs callees i k.target) []))

-- what is given so far, and one candidate more
pub given-more : (before now after : List (ℕ × ℕ)) (test : Candidate → Bool) (callees : ℕ) (ks : List Candidate) (i : ℕ) (k : Candidate) (on : Bool) → i < length ks → k ≡ get_or ks i k →
    on ≡ test k → now ≡ before ++ pairs_from test callees 0 (take i ks) → after ≡ now ++ cond on (bit_pairs callees i k.target) [] →
    after ≡ before ++ pairs_from test callees 0 (take (i + 1) ks)
given-more before now after test callees ks i k on lt item same h e =
    let here : List (ℕ × ℕ) = cond (test k) (bit_pairs callees i k.target) [] in
    e ∙ ap (λ (b : Bool). now ++ cond b (bit_pairs callees i k.target) []) same ∙ ap (λ (es : List (ℕ × ℕ)). es ++ here) h
    ∙ append_assoc before (pairs_from test callees 0 (take i ks)) here ∙ ap (λ (es : List (ℕ × ℕ)). before ++ es) (sym (pairs-more test callees ks i k lt item))

pub sources-more : (ks : List Candidate) (i : ℕ) (k : Candidate) → i < length ks → k ≡ get_or ks i k → sources_of (take (i + 1) ks) ≡ sources_of (take i ks) ++ k.sources
sources-more ks i k lt item =
    ap sources_of (take_more ks i k lt ∙ ap (λ (j : Candidate). take i ks ++ j ∷ []) (sym item))
    ∙ flat_map-append (λ (j : Candidate). j.sources) (take i ks) (k ∷ [])
    ∙ ap (λ (ps : List ℕ). sources_of (take i ks) ++ ps) (append-nil k.sources)

or-apart : (a b c : Bool) → ((a || b) || c) ≡ (a || (b || c))
or-apart true b c = refl
or-apart false b c = refl

-- the places of one candidate more were asked
pub asked-more_of : (before now after : List (ℕ × ℕ)) (ks : List Candidate) (i : ℕ) (k : Candidate) → i < length ks → k ≡ get_or ks i k →
    ((p : ℕ) → asked now p ≡ (asked before p || has_number (sources_of (take i ks)) p)) → ((p : ℕ) → asked after p ≡ (asked now p || has_number k.sources p)) →
    (p : ℕ) → asked after p ≡ (asked before p || has_number (sources_of (take (i + 1) ks)) p)
asked-more_of before now after ks i k lt item h e p =
    e p ∙ ap (λ b. b || has_number k.sources p) (h p) ∙ or-apart (asked before p) (has_number (sources_of (take i ks)) p) (has_number k.sources p)
    ∙ ap (λ b. asked before p || b) (sym (ap (λ ps. has_number ps p) (sources-more ks i k lt item) ∙ list_any-append (λ (m : ℕ). m == p) (sources_of (take i ks)) k.sources))

-- a candidate's places are among those of all
pub source-among : (ks : List Candidate) (i : ℕ) (k : Candidate) (p : ℕ) → i < length ks → k ≡ get_or ks i k → IsTrue (has_number k.sources p) → IsTrue (has_number (sources_of ks) p)
source-among [] i k p lt item h = absurd (omega arith)
source-among (j ∷ ks) zero k p lt item h =
    subst (λ b. IsTrue b) (sym (list_any-append (λ (m : ℕ). m == p) j.sources (sources_of ks)))
    (left (has_number j.sources p) (has_number (sources_of ks) p) (subst (λ (x : Candidate). IsTrue (has_number x.sources p)) item h))
source-among (j ∷ ks) (suc i) k p lt item h =
    subst (λ b. IsTrue b) (sym (list_any-append (λ (m : ℕ). m == p) j.sources (sources_of ks)))
    (right (has_number j.sources p) (has_number (sources_of ks) p) (source-among ks i k p (omega arith) item h))
