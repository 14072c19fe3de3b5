-- What is known of texts stays true while texts are taken into the table of names.
use Rattle.std.proofs.Common.{◌≡◌, ◌⊎◌, inl, inr, ℕ, zero, suc, ◌<◌, true, ◌||◌, List, [], ◌∷◌, ◌++◌, Result, Ok, Option, Some, None, length, length-set, drop, replicate, set, refl, sym, ap, ◌∙◌, subst, arith}
use Rattle.std.proofs.lemmas.Bool.{and_parts, and_from}
use Rattle.std.proofs.lemmas.List.{length-replicate}
use Rattle.std.proofs.lemmas.List.Folds.{list_any-append}
use Rattle.std.specs.List.{list_all, slice_get}
use Rattle.std.specs.Option.{is_some, option_to_list, unwrap_or}
use Rattle.std.specs.Str.{bytes_eq}
use Rattle.fp_base.specs.Names.{has_name, with_name, with_names}
use Rattle.fp_base.specs.declared.names.NameFault.{NameFault}
use Rattle.fp_base.proofs.NameLemmas.{has_name-at, has_name-interned, has_name-kept, with_name-known, slice_get-append}
use Rattle.fp_model.specs.declared.raw.pool.Entry.{Entry}
use Rattle.fp_model.specs.declared.kind.Descr.{Descr}
use Rattle.fp_model.specs.declared.kind.Kind.{Kind}
use Rattle.fp_model.specs.Descriptor.{descr_names, kind_names, IsDescrOf, IsKindOf}
use Rattle.fp_model.specs.Entries.{text_at, class_name_at}
use Rattle.fp_model.proofs.LongerTables.{descr_kept, IsKindOf-kept, Keeps}
use Rattle.fp_ops.specs.declared.memo.Memo.{Memo}
use Rattle.fp_model.specs.Interning.{Interned}
use Rattle.fp_model.specs.Taking.{Taken}
use Rattle.fp_model.proofs.Taking.{taken_ok}
use Rattle.fp_ops.specs.References.{IsClassName}
use Rattle.fp_ops.specs.Memos.{element_names, known_at, AreKnown, IsElementOf, IsMemo, IsSaidAt, IsTextNumber}
use Rattle.fp_model.proofs.Interned.{interned_ok}

-- ---- lists of what is known

nothing_known : {X : Type 0} (n i : ℕ) → known_at {X = X} (replicate n None) i ≡ None
nothing_known zero i = refl
nothing_known (suc n) zero = refl
nothing_known (suc n) (suc i) = nothing_known n i

one_known : {X : Type 0} (known : List (Option X)) (i j : ℕ) (x y : X) → known_at (set known i (Some x)) j ≡ Some y → (known_at known j ≡ Some y) ⊎ ((j ≡ i) × (x ≡ y))
one_known [] i j x y e = inl e
one_known (o ∷ known) zero zero x y e = inr (refl, cc)
one_known (o ∷ known) zero (suc j) x y e = inl e
one_known (o ∷ known) (suc i) zero x y e = inl e
one_known (o ∷ known) (suc i) (suc j) x y e =
    elim (one_known known i j x y e) [ inl old ↦ inl old | inr new ↦ inr (ap suc new.0, new.1) ]

-- ---- texts that the table has

pub all_held : (names texts : List (List ℕ)) → list_all (has_name (with_names names texts)) texts ≡ true
all_held names [] = refl
all_held names (text ∷ texts) =
    and_from (has_name (with_names (with_name names text) texts) text) (list_all (has_name (with_names (with_name names text) texts)) texts)
    (has_name-kept (with_name names text) texts text (has_name-interned names text)) (all_held (with_name names text) texts)

pub with_names_held : (names texts : List (List ℕ)) → list_all (has_name names) texts ≡ true → with_names names texts ≡ names
with_names_held names [] held = refl
with_names_held names (text ∷ texts) held =
    let parts = and_parts (has_name names text) (list_all (has_name names) texts) held in
    ap (λ table. with_names table texts) (with_name-known names text parts.0) ∙ with_names_held names texts parts.1

pub held_longer : (names more texts : List (List ℕ)) → list_all (has_name names) texts ≡ true → list_all (has_name (names ++ more)) texts ≡ true
held_longer names more [] held = refl
held_longer names more (text ∷ texts) held =
    let parts = and_parts (has_name names text) (list_all (has_name names) texts) held in
    and_from (has_name (names ++ more) text) (list_all (has_name (names ++ more)) texts)
    (list_any-append (bytes_eq text) names more ∙ ap (λ b. b || has_name more text) parts.0) (held_longer names more texts parts.1)

-- ---- in a longer table

pub known_to : {X : Type 0} (P Q : X → ℕ → Type 0) (count : ℕ) (known : List (Option X)) → ((x : X) (i : ℕ) → P x i → Q x i) → AreKnown P count known → AreKnown Q count known
known_to P Q count known f all = record { size = all.size; at = λ i x e. f x i (all.at i x e) }

module _ (names more longer : List (List ℕ)) (is : longer ≡ names ++ more) where
  pub keeps : Keeps names longer
  keeps = record { stands = λ i text at. subst (λ t. slice_get t i ≡ Some text) (sym is) (slice_get-append names more i text at) }

  number_longer : (entries : List Entry) (n index : ℕ) → IsTextNumber names entries n index → IsTextNumber longer entries n index
  number_longer entries n index known = record { text = known.text; text_is = known.text_is; number = keeps.stands n known.text known.number }

  said_longer : {X : Type 0} (Says SaysLonger : List ℕ → X → Type 0) (names_in : List ℕ → List (List ℕ)) (entries : List Entry) (x : X) (index : ℕ) → ((text : List ℕ) → Says text x → SaysLonger text x) → IsSaidAt Says names_in names entries x index → IsSaidAt SaysLonger names_in longer entries x index
  said_longer Says SaysLonger names_in entries x index f known = record {
    text = known.text;
    text_is = known.text_is;
    says = f known.text known.says;
    held = subst (λ t. list_all (has_name t) (names_in known.text) ≡ true) (sym is) (held_longer names more (names_in known.text) known.held);
  }

  pub memo_longer : (entries : List Entry) (memo : Memo) → IsMemo names entries memo → IsMemo longer entries memo
  memo_longer entries memo known = record {
    numbers = known_to (IsTextNumber names entries) (IsTextNumber longer entries) (length entries) memo.numbers.items (number_longer entries) known.numbers;
    kinds = known_to (IsSaidAt (IsKindOf names) kind_names names entries) (IsSaidAt (IsKindOf longer) kind_names longer entries) (length entries) memo.kinds.items
        (λ k i. said_longer (IsKindOf names) (IsKindOf longer) kind_names entries k i (λ text. IsKindOf-kept names longer keeps text k)) known.kinds;
    elements = known_to (IsSaidAt (IsElementOf names) element_names names entries) (IsSaidAt (IsElementOf longer) element_names longer entries) (length entries) memo.elements.items
        (λ k i. said_longer (IsElementOf names) (IsElementOf longer) element_names entries k i (λ text. IsKindOf-kept names longer keeps (drop 1 text) k)) known.elements;
    descrs = known_to (IsSaidAt (IsDescrOf names) descr_names names entries) (IsSaidAt (IsDescrOf longer) descr_names longer entries) (length entries) memo.descrs.items
        (λ d i. said_longer (IsDescrOf names) (IsDescrOf longer) descr_names entries d i (λ text. descr_kept names longer keeps text d)) known.descrs;
  }

-- ---- what the memo tells

pub there : (o : Option (List ℕ)) → is_some o ≡ true → o ≡ Some (unwrap_or o [])
there None h = absurd (cc)
there (Some x) h = refl

-- a text's index is one of the pool
pub text_within : (entries : List Entry) (i : ℕ) (text : List ℕ) → text_at entries i ≡ Some text → i < length entries
text_within [] i text at = absurd (cc)
text_within (e ∷ entries) zero text at = omega arith
text_within (e ∷ entries) (suc i) text at = omega (arith, text_within entries i text at)

-- the index of a text has its place
pub place_within : {X : Type 0} (P : X → ℕ → Type 0) (entries : List Entry) (known : List (Option X)) (i : ℕ) → AreKnown P (length entries) known → is_some (text_at entries i) ≡ true → i < length known
place_within P entries known i all some = omega (arith, all.size, text_within entries i (unwrap_or (text_at entries i) []) (there (text_at entries i) some))

pub number_told : (names : List (List ℕ)) (entries : List Entry) (memo : Memo) (i n : ℕ) → IsMemo names entries memo → known_at memo.numbers.items i ≡ Some n → slice_get names n ≡ text_at entries i
number_told names entries memo i n known at = let it = known.numbers.at i n at in it.number ∙ sym it.text_is

pub number_interned : (names : List (List ℕ)) (entries : List Entry) (memo : Memo) (i n : ℕ) → IsMemo names entries memo → known_at memo.numbers.items i ≡ Some n → Interned (Ok n) names names (unwrap_or (text_at entries i) [] ∷ [])
number_interned names entries memo i n known at =
    let it = known.numbers.at i n at in
    subst (λ o. Interned (Ok n) names names (unwrap_or o [] ∷ [])) (sym it.text_is)
    (interned_ok n names names (it.text ∷ []) (sym (with_name-known names it.text (has_name-at names n it.text it.number))))

module _ {X : Type 0} (Says : List ℕ → X → Type 0) (names_in : List ℕ → List (List ℕ)) (names : List (List ℕ)) (entries : List Entry) (x : X) (i : ℕ) (it : IsSaidAt Says names_in names entries x i) where
  said_told : Says (unwrap_or (text_at entries i) []) x
  said_told = subst (λ o. Says (unwrap_or o []) x) (sym it.text_is) it.says

  -- its names are in the table
  said_same : names ≡ with_names names (names_in (unwrap_or (text_at entries i) []))
  said_same = subst (λ o. names ≡ with_names names (names_in (unwrap_or o []))) (sym it.text_is) (sym (with_names_held names (names_in it.text) it.held))

pub kind_told : (names : List (List ℕ)) (entries : List Entry) (memo : Memo) (i : ℕ) (k : Kind) → IsMemo names entries memo → known_at memo.kinds.items i ≡ Some k → IsKindOf names (unwrap_or (text_at entries i) []) k
kind_told names entries memo i k known at = said_told (IsKindOf names) kind_names names entries k i (known.kinds.at i k at)

pub kind_interned : (names : List (List ℕ)) (entries : List Entry) (memo : Memo) (i : ℕ) (k : Kind) → IsMemo names entries memo → known_at memo.kinds.items i ≡ Some k → Interned (Ok k) names names (kind_names (unwrap_or (text_at entries i) []))
kind_interned names entries memo i k known at = interned_ok k names names (kind_names (unwrap_or (text_at entries i) [])) (said_same (IsKindOf names) kind_names names entries k i (known.kinds.at i k at))

pub element_told : (names : List (List ℕ)) (entries : List Entry) (memo : Memo) (i : ℕ) (k : Kind) → IsMemo names entries memo → known_at memo.elements.items i ≡ Some k → IsKindOf names (drop 1 (unwrap_or (text_at entries i) [])) k
element_told names entries memo i k known at = said_told (IsElementOf names) element_names names entries k i (known.elements.at i k at)

pub element_interned : (names : List (List ℕ)) (entries : List Entry) (memo : Memo) (i : ℕ) (k : Kind) → IsMemo names entries memo → known_at memo.elements.items i ≡ Some k → Interned (Ok k) names names (kind_names (drop 1 (unwrap_or (text_at entries i) [])))
element_interned names entries memo i k known at = interned_ok k names names (element_names (unwrap_or (text_at entries i) [])) (said_same (IsElementOf names) element_names names entries k i (known.elements.at i k at))

pub descr_told : (names : List (List ℕ)) (entries : List Entry) (memo : Memo) (i : ℕ) (d : Descr) → IsMemo names entries memo → known_at memo.descrs.items i ≡ Some d → IsDescrOf names (unwrap_or (text_at entries i) []) d
descr_told names entries memo i d known at = said_told (IsDescrOf names) descr_names names entries d i (known.descrs.at i d at)

pub descr_taken : (names : List (List ℕ)) (entries : List Entry) (memo : Memo) (i : ℕ) (d : Descr) → IsMemo names entries memo → known_at memo.descrs.items i ≡ Some d → Taken (Ok d) names names (descr_names (unwrap_or (text_at entries i) []))
descr_taken names entries memo i d known at = taken_ok d names names (descr_names (unwrap_or (text_at entries i) [])) (said_same (IsDescrOf names) descr_names names entries d i (known.descrs.at i d at))

-- ---- what is put into it

neither : {X : Type 0} {x : X} → None ≡ Some x → ⊥
neither e = cc

pub none_known : {X : Type 0} (P : X → ℕ → Type 0) (count : ℕ) (known : List (Option X)) → known ≡ replicate count None → AreKnown P count known
none_known P count known is = record {
  size = ap length is ∙ length-replicate count None;
  at = λ i x e. absurd (neither (sym (ap (λ l. known_at l i) is ∙ nothing_known count i) ∙ e));
}

pub nothing_noted : (names : List (List ℕ)) (entries : List Entry) (memo : Memo) → memo.numbers.items ≡ replicate (length entries) None → memo.kinds.items ≡ replicate (length entries) None → memo.elements.items ≡ replicate (length entries) None → memo.descrs.items ≡ replicate (length entries) None → IsMemo names entries memo
nothing_noted names entries memo numbers kinds elements descrs = record {
  numbers = none_known (IsTextNumber names entries) (length entries) memo.numbers.items numbers;
  kinds = none_known (IsSaidAt (IsKindOf names) kind_names names entries) (length entries) memo.kinds.items kinds;
  elements = none_known (IsSaidAt (IsElementOf names) element_names names entries) (length entries) memo.elements.items elements;
  descrs = none_known (IsSaidAt (IsDescrOf names) descr_names names entries) (length entries) memo.descrs.items descrs;
}

-- one more is known
pub one_noted : {X : Type 0} (P : X → ℕ → Type 0) (count : ℕ) (known after : List (Option X)) (i : ℕ) (x : X) → AreKnown P count known → P x i → after ≡ set known i (Some x) → AreKnown P count after
one_noted P count known after i x all one is = record {
  size = ap length is ∙ length-set known i (Some x) ∙ all.size;
  at = λ j y e. elim (one_known known i j x y (sym (ap (λ l. known_at l j) is) ∙ e)) [
    | inl before ↦ all.at j y before
    | inr here ↦ subst (P y) (sym here.0) (subst (λ z. P z i) here.1 one)
  ];
}

said_now : {X : Type 0} (Says : List ℕ → X → Type 0) (names_in : List ℕ → List (List ℕ)) (old new : List (List ℕ)) (entries : List Entry) (x : X) (i : ℕ) → is_some (text_at entries i) ≡ true → Says (unwrap_or (text_at entries i) []) x → new ≡ with_names old (names_in (unwrap_or (text_at entries i) [])) → IsSaidAt Says names_in new entries x i
said_now Says names_in old new entries x i some says names =
    let texts = names_in (unwrap_or (text_at entries i) []) in
    record {
      text = unwrap_or (text_at entries i) [];
      text_is = there (text_at entries i) some;
      says = says;
      held = subst (λ t. list_all (has_name t) texts ≡ true) (sym names) (all_held old texts);
    }

module _ (old new : List (List ℕ)) (entries : List Entry) (memo after : Memo) (i : ℕ) (known : IsMemo old entries memo) (some : is_some (text_at entries i) ≡ true) where
  pub number_noted : (texts : List (List ℕ)) (n : ℕ) → Interned (Ok n) old new texts → slice_get new n ≡ text_at entries i
      → after.numbers.items ≡ set memo.numbers.items i (Some n) → after.kinds.items ≡ memo.kinds.items → after.elements.items ≡ memo.elements.items → after.descrs.items ≡ memo.descrs.items → IsMemo new entries after
  number_noted texts n taken number numbers kinds elements descrs =
      let kept = memo_longer old taken.grown.0 new taken.grown.1 entries memo known in
      let its = there (text_at entries i) some in
      record {
        numbers = one_noted (IsTextNumber new entries) (length entries) memo.numbers.items after.numbers.items i n kept.numbers
            (record { text = unwrap_or (text_at entries i) []; text_is = its; number = number ∙ its }) numbers;
        kinds = subst (AreKnown (IsSaidAt (IsKindOf new) kind_names new entries) (length entries)) (sym kinds) kept.kinds;
        elements = subst (AreKnown (IsSaidAt (IsElementOf new) element_names new entries) (length entries)) (sym elements) kept.elements;
        descrs = subst (AreKnown (IsSaidAt (IsDescrOf new) descr_names new entries) (length entries)) (sym descrs) kept.descrs;
      }

  pub kind_noted : (k : Kind) → Interned (Ok k) old new (kind_names (unwrap_or (text_at entries i) [])) → IsKindOf new (unwrap_or (text_at entries i) []) k
      → after.kinds.items ≡ set memo.kinds.items i (Some k) → after.numbers.items ≡ memo.numbers.items → after.elements.items ≡ memo.elements.items → after.descrs.items ≡ memo.descrs.items → IsMemo new entries after
  kind_noted k taken says kinds numbers elements descrs =
      let kept = memo_longer old taken.grown.0 new taken.grown.1 entries memo known in
      record {
        numbers = subst (AreKnown (IsTextNumber new entries) (length entries)) (sym numbers) kept.numbers;
        kinds = one_noted (IsSaidAt (IsKindOf new) kind_names new entries) (length entries) memo.kinds.items after.kinds.items i k kept.kinds
            (said_now (IsKindOf new) kind_names old new entries k i some says taken.names) kinds;
        elements = subst (AreKnown (IsSaidAt (IsElementOf new) element_names new entries) (length entries)) (sym elements) kept.elements;
        descrs = subst (AreKnown (IsSaidAt (IsDescrOf new) descr_names new entries) (length entries)) (sym descrs) kept.descrs;
      }

  pub element_noted : (k : Kind) → Interned (Ok k) old new (kind_names (drop 1 (unwrap_or (text_at entries i) []))) → IsKindOf new (drop 1 (unwrap_or (text_at entries i) [])) k
      → after.elements.items ≡ set memo.elements.items i (Some k) → after.numbers.items ≡ memo.numbers.items → after.kinds.items ≡ memo.kinds.items → after.descrs.items ≡ memo.descrs.items → IsMemo new entries after
  element_noted k taken says elements numbers kinds descrs =
      let kept = memo_longer old taken.grown.0 new taken.grown.1 entries memo known in
      record {
        numbers = subst (AreKnown (IsTextNumber new entries) (length entries)) (sym numbers) kept.numbers;
        kinds = subst (AreKnown (IsSaidAt (IsKindOf new) kind_names new entries) (length entries)) (sym kinds) kept.kinds;
        elements = one_noted (IsSaidAt (IsElementOf new) element_names new entries) (length entries) memo.elements.items after.elements.items i k kept.elements
            (said_now (IsElementOf new) element_names old new entries k i some says taken.names) elements;
        descrs = subst (AreKnown (IsSaidAt (IsDescrOf new) descr_names new entries) (length entries)) (sym descrs) kept.descrs;
      }

  pub descr_noted : (d : Descr) → Taken (Ok d) old new (descr_names (unwrap_or (text_at entries i) [])) → IsDescrOf new (unwrap_or (text_at entries i) []) d
      → after.descrs.items ≡ set memo.descrs.items i (Some d) → after.numbers.items ≡ memo.numbers.items → after.kinds.items ≡ memo.kinds.items → after.elements.items ≡ memo.elements.items → IsMemo new entries after
  descr_noted d taken says descrs numbers kinds elements =
      let kept = memo_longer old taken.grown.0 new taken.grown.1 entries memo known in
      record {
        numbers = subst (AreKnown (IsTextNumber new entries) (length entries)) (sym numbers) kept.numbers;
        kinds = subst (AreKnown (IsSaidAt (IsKindOf new) kind_names new entries) (length entries)) (sym kinds) kept.kinds;
        elements = subst (AreKnown (IsSaidAt (IsElementOf new) element_names new entries) (length entries)) (sym elements) kept.elements;
        descrs = one_noted (IsSaidAt (IsDescrOf new) descr_names new entries) (length entries) memo.descrs.items after.descrs.items i d kept.descrs
            (said_now (IsDescrOf new) descr_names old new entries d i some says taken.names) descrs;
      }

-- ---- the name of a class

pub class_named : (names : List (List ℕ)) (entries : List Entry) (n index : ℕ) (o : Option (List ℕ)) → class_name_at entries index ≡ o → is_some o ≡ true → slice_get names n ≡ o → IsClassName names entries n index
class_named names entries n index o is some number = record {
  text = unwrap_or o [];
  number = number ∙ there o some;
  name = is ∙ there o some;
}

pub class_interned : {X : Type 0} (result : Result X NameFault) (old new : List (List ℕ)) (o : Option (List ℕ)) → is_some o ≡ true → Interned result old new (unwrap_or o [] ∷ []) → Interned result old new (option_to_list o)
class_interned result old new None some taken = absurd (cc)
class_interned result old new (Some x) some taken = taken
