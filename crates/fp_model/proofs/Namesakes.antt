-- How many classes have a name, one class after the other.
use Rattle.std.proofs.Common.{◌≡◌, ℕ, ◌+◌, ◌<◌, ◌≤◌, cond, ◌==◌, nat_lt, List, [], ◌∷◌, ◌++◌, length, map, get_or, set, take, count_by, ⊎_elim, sym, ap, ◌∙◌, arith, eq-eqb, ne_eqb, get_or-set_same, get_or-set_other}
use Rattle.std.specs.List.{range_with_len}
use Rattle.std.proofs.lemmas.Bool.{cases_eq, cond-true, cond-false}
use Rattle.std.proofs.lemmas.List.{get_or_default, take_more, map_push, length-take-le}
use Rattle.std.proofs.lemmas.List.FromFn.{get_or-map-range_with_len}
use Rattle.std.proofs.lemmas.List.Sums.{sum_by_more, count_by-le-length}
use Rattle.fp_model.specs.declared.class.Class.{Class}
use Rattle.fp_model.specs.ClassSet.{has_namesake}

-- one class more
count_named_more : (classes : List Class) (i : ℕ) (c : Class) (k : ℕ) → i < length classes → c ≡ get_or classes i c → count_by (λ d. d.name == k) (take (i + 1) classes) ≡ count_by (λ d. d.name == k) (take i classes) + cond (c.name == k) 1 0
count_named_more classes i c k within is =
    sum_by_more (λ (d : Class). cond (d.name == k) 1 0) classes i c within
    ∙ ap (λ (d : Class). count_by (λ e. e.name == k) (take i classes) + cond (d.name == k) 1 0) (sym is)

pub counts_more : (classes : List Class) (counts : List ℕ) (i : ℕ) (c : Class) (old : ℕ) → i < length classes → c ≡ get_or classes i c → c.name < length counts → old ≡ get_or counts c.name old → ((k : ℕ) → k < length counts → get_or counts k 0 ≡ count_by (λ d. d.name == k) (take i classes)) → (k : ℕ) → k < length counts → get_or (set counts c.name (old + 1)) k 0 ≡ count_by (λ d. d.name == k) (take (i + 1) classes)
counts_more classes counts i c old within is named was counted k small = ⊎_elim
    (λ here.
    ap (λ n. get_or (set counts c.name (old + 1)) n 0) here
    ∙ get_or-set_same counts c.name (old + 1) 0 named
    ∙ ap (λ n. n + 1) (was ∙ get_or_default counts c.name old 0 named ∙ ap (λ n. get_or counts n 0) (sym here) ∙ counted k small)
    ∙ ap (λ n. count_by (λ d. d.name == k) (take i classes) + n) (sym (cond-true (c.name == k) 1 0 (eq-eqb c.name k (sym here))))
    ∙ sym (count_named_more classes i c k within is))
    (λ other.
    get_or-set_other counts c.name k (old + 1) 0 other
    ∙ counted k small
    ∙ none_more (count_by (λ d. d.name == k) (take i classes)) (cond (c.name == k) 1 0) (cond-false (c.name == k) 1 0 (ne_eqb c.name k (λ e. other (sym e))))
    ∙ sym (count_named_more classes i c k within is))
    (cases_eq k c.name)
  where
    none_more : (a b : ℕ) → b ≡ 0 → a ≡ a + b
    none_more a b e = omega arith

-- there are at most as many as classes
pub counts_fit : (classes : List Class) (counts : List ℕ) (i : ℕ) (c : Class) (old : ℕ) → i < length classes → c.name < length counts → old ≡ get_or counts c.name old → ((k : ℕ) → k < length counts → get_or counts k 0 ≡ count_by (λ d. d.name == k) (take i classes)) → old + 1 ≤ length classes
counts_fit classes counts i c old within named was counted =
    let is : old ≡ count_by (λ d. d.name == c.name) (take i classes) = was ∙ get_or_default counts c.name old 0 named ∙ counted c.name named in
    omega (arith, count_by-le-length (λ (d : Class). d.name == c.name) (take i classes), length-take-le i classes (omega arith))

-- the mark of one class more
pub namesakes_more : (classes : List Class) (counts : List ℕ) (i m : ℕ) (c : Class) (count : ℕ) → i < length classes → c ≡ get_or classes i c → counts ≡ map (λ name. count_by (λ d. d.name == name) classes) (range_with_len 0 m) → c.name < m → count ≡ get_or counts c.name count → map (has_namesake classes) (take i classes) ++ nat_lt 1 count ∷ [] ≡ map (has_namesake classes) (take (i + 1) classes)
namesakes_more classes counts i m c count within is table named was =
    ap (λ n. map (has_namesake classes) (take i classes) ++ nat_lt 1 n ∷ [])
    (was ∙ ap (λ xs. get_or xs c.name count) table ∙ get_or-map-range_with_len (λ name. count_by (λ (d : Class). d.name == name) classes) 0 m c.name c.name count named (omega arith))
    ∙ sym (map_push (has_namesake classes) (take i classes) c)
    ∙ ap (map (has_namesake classes)) (ap (λ (d : Class). take i classes ++ d ∷ []) is ∙ sym (take_more classes i c within))
