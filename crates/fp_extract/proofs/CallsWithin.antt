-- Each call of the facts has the number of one of the references.
use Rattle.std.proofs.Common.{◌≡◌, ℕ, ◌<◌, Bool, true, false, ◌||◌, List, [], ◌∷◌, All, length, map, inl, inr, refl, sym, ap, subst, ◌∙◌, arith}
use Rattle.std.specs.Prelude.{Option, Some, None}
use Rattle.std.specs.List.{flat_map, list_all, list_any, position_or_len}
use Rattle.std.specs.Option.{option_map_or, option_to_list}
use Rattle.std.proofs.lemmas.List.{length-map}
use Rattle.std.proofs.lemmas.List.Concat.{flat_map-cons}
use Rattle.std.proofs.lemmas.List.Elements.{All-append, All-cons, All-nil}
use Rattle.std.proofs.lemmas.List.Folds.{list_all-append, list_any-append}
use Rattle.fp_model.specs.ClassSet.{SetView}
use Rattle.fp_facts.specs.declared.assume.Assume.{Assume}
use Rattle.fp_facts.specs.declared.facts.CallSite.{CallSite}
use Rattle.fp_facts.specs.declared.facts.MethodFacts.{MethodFacts}
use Rattle.fp_facts.specs.declared.reference.Reference.{Reference}
use Rattle.fp_facts.specs.Behaviour.{call_arguments, references_of, site_of, sites_of}
use Rattle.fp_facts.specs.Facts.{Coded, code_facts, coded, facts_of, references, references_in}
use Rattle.fp_facts.specs.References.{has_reference, number_in, reference_of, same_reference, with_reference, with_references}
use Rattle.fp_facts.specs.Steps.{Step, steps}
use Rattle.fp_extract.specs.Rooms.{targets_of}
use Rattle.fp_extract.specs.Within.{AreCallsKnown}
use Rattle.fp_extract.proofs.MetReferences.{gained-all, known-or-not, number-told, same-self, table-told}
use Rattle.fp_extract.proofs.SameReferences.{and-true}

-- ---- references that were met are there

first-within : (p : Reference → Bool) (rs : List Reference) → list_any p rs ≡ true → position_or_len p rs < length rs
first-within p [] has = let wrong : false ≡ true = has in cc
first-within p (r ∷ rs) has = elim (known-or-not (p r)) [
  | inl here ↦ rw here (omega arith)
  | inr not ↦ (let rest = first-within p rs (sym (ap (λ b. b || list_any p rs) not) ∙ has) in rw not (omega (arith, rest)))
]

number-within : (table : List Reference) (r : Reference) → has_reference table r ≡ true → number_in table r < length table
number-within table r has = subst (λ n. n < length table) (sym (number-told table r)) (first-within (same_reference r) table has)

met-one : (table : List Reference) (r : Reference) → has_reference (with_reference table r) r ≡ true
met-one table r = elim (known-or-not (has_reference table r)) [
  | inl has ↦ ap (λ t. has_reference t r) (table-told table r ∙ rw has refl) ∙ has
  | inr none ↦
      ap (λ t. has_reference t r) (table-told table r ∙ rw none refl) ∙ list_any-append (same_reference r) table (r ∷ [])
      ∙ (let self = same-self r in rw (none, self) refl)
]

still-met : (table rs : List Reference) (r : Reference) → has_reference table r ≡ true → has_reference (with_references table rs) r ≡ true
still-met table rs r has =
    let grown = gained-all table rs in
    ap (λ t. has_reference t r) grown.is ∙ list_any-append (same_reference r) table grown.gained ∙ rw has refl

all-met : (table rs : List Reference) → list_all (has_reference (with_references table rs)) rs ≡ true
all-met table [] = refl
all-met table (r ∷ rs) =
    let here = still-met (with_reference table r) rs r (met-one table r) in
    let rest = all-met (with_reference table r) rs in
    rw (here, rest) refl

-- ---- calls

site-within : (table : List Reference) (caller : ℕ) (s : Step) (found : Option Reference) → list_all (has_reference table) (option_to_list found) ≡ true →
    All (λ (site : CallSite). site.call < length table) (option_map_or (λ r. record { pc = s.pc; call = number_in table r; args = call_arguments s.instr s.words } ∷ []) found [])
site-within table caller s None met = All-nil _
site-within table caller s (Some r) met =
    All-cons (λ (site : CallSite). site.call < length table) (record { pc = s.pc; call = number_in table r; args = call_arguments s.instr s.words }) [] (number-within table r (and-true (has_reference table r) true met).0) (All-nil _)

sites-within : (table : List Reference) (caller : ℕ) (ss : List Step) → list_all (has_reference table) (references_of caller ss) ≡ true → All (λ (site : CallSite). site.call < length table) (sites_of table caller ss)
sites-within table caller [] met = All-nil _
sites-within table caller (s ∷ ss) met =
    let P : CallSite → Type 0 = λ site. site.call < length table in
    let here = option_to_list (reference_of caller s.instr) in
    let both = and-true (list_all (has_reference table) here) (list_all (has_reference table) (references_of caller ss))
    (sym (list_all-append (has_reference table) here (references_of caller ss)) ∙ ap (list_all (has_reference table)) (sym (flat_map-cons (λ (t : Step). option_to_list (reference_of caller t.instr)) s ss)) ∙ met) in
    subst (All P) (sym (flat_map-cons (site_of table caller) s ss))
    (All-append P (site_of table caller s) (sites_of table caller ss) (site-within table caller s (reference_of caller s.instr) both.0) (sites-within table caller ss both.1))

methods-within : (set : SetView) (table : List Reference) (ms : List Coded) → list_all (has_reference table) (flat_map references_in ms) ≡ true →
    All (λ (m : MethodFacts). All (λ (site : CallSite). site.call < length table) m.sites) (map (code_facts set table) ms)
methods-within set table [] met = All-nil _
methods-within set table (m ∷ ms) met =
    let both = and-true (list_all (has_reference table) (references_in m)) (list_all (has_reference table) (flat_map references_in ms))
    (sym (list_all-append (has_reference table) (references_in m) (flat_map references_in ms)) ∙ ap (list_all (has_reference table)) (sym (flat_map-cons references_in m ms)) ∙ met) in
    All-cons (λ (f : MethodFacts). All (λ (site : CallSite). site.call < length table) f.sites) (code_facts set table m) (map (code_facts set table) ms)
    (sites-within table m.caller (steps m.method m.code) both.0) (methods-within set table ms both.1)

pub facts-within : (set : SetView) (roots : List ℕ) (assume : Assume) → AreCallsKnown (facts_of set roots assume)
facts-within set roots assume =
    let table = references set.classes in
    subst (λ n. All (λ (m : MethodFacts). All (λ (site : CallSite). site.call < n) m.sites) (map (code_facts set table) (coded set.classes))) (sym (length-map table (targets_of set)))
    (methods-within set table (coded set.classes) (all-met [] (flat_map references_in (coded set.classes))))
