-- What a binary search finds among the targets of sites that ascend.
use Rattle.std.proofs.Common.{◌≡◌, ◌⊎◌, inl, inr, ℕ, zero, suc, ◌<◌, ◌≤◌, ◌==◌, nat_lt, true, false, ◌&&◌, ◌||◌, List, [], ◌∷◌, length, get_or, Some, None, Ordering, Less, Equal, Greater, Result, Ok, Err, IfOk, IfErr, refl, sym, ap, ◌∙◌, arith}
use Rattle.std.specs.List.Sorted.{IsBinarySearchResult, IsNonDecreasingBy, IsSearchInRange}
use Rattle.std.specs.Ordering.{nat_cmp, ordering_index, ordering_then}
use Rattle.std.proofs.lemmas.Bool.{and_parts, cases_lt, cond-false, cond-true}
use Rattle.std.proofs.lemmas.Bool.Decides.{nat_tests}
use Rattle.fp_model.specs.declared.class.SiteId.{SiteId}
use Rattle.fp_report.specs.Report.{is_site, targets_of, IsSiteAt}
use Rattle.fp_report.specs.Sites.{are_ascending, are_behind, is_site_before}

-- how a site compares with another
abbrev pub compared : SiteId → SiteId → Ordering
compared a b = ordering_then (nat_cmp a.method b.method) (nat_cmp a.pc b.pc)

before_more : (am ap bm bp cm cp : ℕ) → (nat_lt am bm || ((am == bm) && nat_lt ap bp)) ≡ true → (nat_lt bm cm || ((bm == cm) && nat_lt bp cp)) ≡ true → (nat_lt am cm || ((am == cm) && nat_lt ap cp)) ≡ true
before_more am ap bm bp cm cp one other = grind (arith, nat_tests)

-- a site that comes before the first of those that ascend comes before each
before_all : (site : SiteId) (l : List (SiteId × List ℕ)) (j : ℕ) (d : SiteId × List ℕ) → are_behind (Some site) l ≡ true → are_ascending l ≡ true → j < length l → is_site_before site (get_or l j d).0 ≡ true
before_all site [] j d first up within = absurd (omega (arith, within))
before_all site (x ∷ xs) zero d first up within = first
before_all site (x ∷ xs) (suc j) d first up within =
    let parts = and_parts (are_behind (Some x.0) xs) (are_ascending xs) up in
    before_more site.method site.pc x.0.method x.0.pc _ _ first (before_all x.0 xs j d parts.0 parts.1 (omega (arith, within)))

-- the sites of later pairs come later
later : (l : List (SiteId × List ℕ)) (i j : ℕ) (d : SiteId × List ℕ) → are_ascending l ≡ true → i < j → j < length l → is_site_before (get_or l i d).0 (get_or l j d).0 ≡ true
later [] i j d up lt within = absurd (omega (arith, within))
later (x ∷ xs) i zero d up lt within = absurd (omega (arith, lt))
later (x ∷ xs) zero (suc j) d up lt within =
    let parts = and_parts (are_behind (Some x.0) xs) (are_ascending xs) up in
    before_all x.0 xs j d parts.0 parts.1 (omega (arith, within))
later (x ∷ xs) (suc i) (suc j) d up lt within =
    later xs i j d (and_parts (are_behind (Some x.0) xs) (are_ascending xs) up).1 (omega (arith, lt)) (omega (arith, within))

-- a later site compares no lower
no_lower : (am ap bm bp km kp : ℕ) → (nat_lt am bm || ((am == bm) && nat_lt ap bp)) ≡ true → ordering_index (ordering_then (nat_cmp am km) (nat_cmp ap kp)) ≤ ordering_index (ordering_then (nat_cmp bm km) (nat_cmp bp kp))
no_lower am ap bm bp km kp before = grind (arith, nat_tests)

equal_is : (am ap bm bp : ℕ) → ordering_then (nat_cmp am bm) (nat_cmp ap bp) ≡ Equal → ((am == bm) && (ap == bp)) ≡ true
equal_is am ap bm bp same = grind (arith, nat_tests)

less_is_not : (am ap bm bp : ℕ) → ordering_then (nat_cmp am bm) (nat_cmp ap bp) ≡ Less → ((am == bm) && (ap == bp)) ≡ false
less_is_not am ap bm bp less = grind (arith, nat_tests)

greater_is_not : (am ap bm bp : ℕ) → ordering_then (nat_cmp am bm) (nat_cmp ap bp) ≡ Greater → ((am == bm) && (ap == bp)) ≡ false
greater_is_not am ap bm bp greater = grind (arith, nat_tests)

before_is_not : (am ap bm bp : ℕ) → (nat_lt am bm || ((am == bm) && nat_lt ap bp)) ≡ true → ((am == bm) && (ap == bp)) ≡ false
before_is_not am ap bm bp before = grind (arith, nat_tests)

-- sites that are the same come before the same ones
same_before : (am ap bm bp km kp : ℕ) → ((bm == km) && (bp == kp)) ≡ true → (nat_lt am bm || ((am == bm) && nat_lt ap bp)) ≡ true → (nat_lt am km || ((am == km) && nat_lt ap kp)) ≡ true
same_before am ap bm bp km kp same before = grind (arith, nat_tests)

-- no pair is of the site
none_of_site : (l : List (SiteId × List ℕ)) (site : SiteId) (d : SiteId × List ℕ) → ((j : ℕ) → j < length l → is_site (get_or l j d).0 site ≡ false) → targets_of l site ≡ []
none_of_site [] site d none = refl
none_of_site (x ∷ xs) site d none =
    cond-false (is_site x.0 site) x.1 (targets_of xs site) (none zero (omega arith))
    ∙ none_of_site xs site d (λ j lt. none (suc j) (omega (arith, lt)))

-- the first pair of the site
first_of_site : (l : List (SiteId × List ℕ)) (site : SiteId) (at : ℕ) (d : SiteId × List ℕ) → at < length l → is_site (get_or l at d).0 site ≡ true → ((j : ℕ) → j < at → is_site (get_or l j d).0 site ≡ false) → (get_or l at d).1 ≡ targets_of l site
first_of_site [] site at d within is before = absurd (omega (arith, within))
first_of_site (x ∷ xs) site zero d within is before = sym (cond-true (is_site x.0 site) x.1 (targets_of xs site) is)
first_of_site (x ∷ xs) site (suc at) d within is before =
    first_of_site xs site at d (omega (arith, within)) is (λ j lt. before (suc j) (omega (arith, lt)))
    ∙ sym (cond-false (is_site x.0 site) x.1 (targets_of xs site) (before zero (omega arith)))

module _ (l : List (SiteId × List ℕ)) (site : SiteId) (up : are_ascending l ≡ true) where
  -- the comparisons with the site rise, as a binary search asks
  comparisons_rise : IsNonDecreasingBy (λ pair. ordering_index (compared pair.0 site)) l
  comparisons_rise i j d le within = elim (lt_or_same i j le) [
    | inl lt ↦ no_lower _ _ _ _ site.method site.pc (later l i j d up lt within)
    | inr same ↦ let e : ordering_index (compared (get_or l i d).0 site) ≡ ordering_index (compared (get_or l j d).0 site) = ap (λ k. ordering_index (compared (get_or l k d).0 site)) same in omega (arith, e)
  ]
    where
      lt_or_same : (i j : ℕ) → i ≤ j → (i < j) ⊎ (i ≡ j)
      lt_or_same i j le = elim (cases_lt i j) [
        | inl lt ↦ inl lt
        | inr ge ↦ inr (omega (arith, le, ge))
      ]

  pub searched : (r : Result ℕ ℕ) → IsSearchInRange r (length l) → IsBinarySearchResult (λ pair. compared pair.0 site) l r → IfOk r (IsSiteAt l site) × IfErr r (λ at. targets_of l site ≡ [])
  searched (Ok at) within equal = (
    record {
      within = within;
      methods_are = λ d.
          let here : is_site (get_or l at d).0 site ≡ true = equal_is _ _ site.method site.pc (equal d) in
          first_of_site l site at d within here (λ j lt. before_is_not _ _ site.method site.pc (same_before _ _ _ _ site.method site.pc here (later l j at d up lt within)));
    },
    tt,
  )
  searched (Err at) within parted =
      let d : SiteId × List ℕ = (site, []) in
      let sides = parted comparisons_rise in (
        tt,
        none_of_site l site d (λ j lt. elim (cases_lt j at) [
          | inl below ↦ less_is_not _ _ site.method site.pc (sides.0 j d (omega arith) below)
          | inr above ↦ greater_is_not _ _ site.method site.pc (sides.1 j d above lt)
        ]),
      )

-- ---- whether they ascend

pub starts : (l : List (SiteId × List ℕ)) → are_ascending l ≡ (are_behind None l && are_ascending l)
starts [] = refl
starts (x ∷ xs) = refl
