-- The texts of the constant pool, numbered one after the other.
use Rattle.std.proofs.Common.{◌≡◌, inl, inr, ℕ, zero, suc, ◌+◌, ◌<◌, ◌≤◌, List, [], ◌∷◌, ◌++◌, Some, IfSome, length, get_or, refl, sym, ap, ◌∙◌, subst, arith, length-append}
use Rattle.std.proofs.lemmas.Bool.{cases_Bool, cases_lt}
use Rattle.std.proofs.lemmas.List.{get_or_append_left, get_or_push, length_push}
use Rattle.std.specs.List.{slice_get}
use Rattle.std.specs.Option.{option_to_list}
use Rattle.fp_base.specs.Names.{has_name, with_name, with_names, AreDistinct}
use Rattle.fp_base.proofs.NameLemmas.{with_name-known, with_name-new, slice_get-with_names, AreDistinct-nil, AreDistinct-with_names}
use Rattle.fp_model.specs.declared.raw.pool.Entry.{Entry}
use Rattle.fp_model.specs.Entries.{text_in, text_at}
use Rattle.fp_ops.proofs.Memos.{text_within}
use Rattle.fp_class.specs.Keys.{IsNumbering}

-- a table gets at most one text more
pub with_name-few : (names : List (List ℕ)) (text : List ℕ) → length (with_name names text) ≤ length names + 1
with_name-few names text =
    elim (cases_Bool (has_name names text)) [
      | inl known ↦ rw (with_name-known names text known) (omega arith)
      | inr new ↦ rw (with_name-new names text new) (omega (arith, length-append names (text ∷ [])))
    ]

-- the texts below an index have their numbers
pub record IsNumberedTo (names : List (List ℕ)) (entries : List Entry) (numbers : List ℕ) (i : ℕ) : Type 0 where
  pub size : length numbers ≡ i
  pub few : length names ≤ i
  pub distinct : AreDistinct names
  pub stands : (k : ℕ) (text : List ℕ) → k < i → text_at entries k ≡ Some text → slice_get names (get_or numbers k 0) ≡ Some text

pub none_numbered : (entries : List Entry) → IsNumberedTo [] entries [] 0
none_numbered entries = record { size = refl; few = omega arith; distinct = AreDistinct-nil; stands = λ k text lt at. absurd (omega arith) }

pub one_numbered : (names longer : List (List ℕ)) (entries : List Entry) (numbers : List ℕ) (i n : ℕ) (e : Entry) → IsNumberedTo names entries numbers i → slice_get entries i ≡ Some e → IfSome (text_in (Some e)) (λ text. slice_get longer n ≡ Some text) → longer ≡ with_names names (option_to_list (text_in (Some e))) → length longer ≤ length names + 1 → IsNumberedTo longer entries (numbers ++ n ∷ []) (i + 1)
one_numbered names longer entries numbers i n e so_far at number is few =
    let texts = option_to_list (text_in (Some e)) in
    record {
      size = length_push numbers n ∙ ap (λ m. m + 1) so_far.size;
      few = omega (arith, so_far.few);
      distinct = subst AreDistinct (sym is) (AreDistinct-with_names names texts so_far.distinct);
      stands = λ k text lt found. elim (cases_lt k i) [
        | inl below ↦
            ap (slice_get longer) (get_or_append_left numbers (n ∷ []) 0 k (omega (arith, so_far.size)))
            ∙ ap (λ table. slice_get table (get_or numbers k 0)) is
            ∙ slice_get-with_names names texts (get_or numbers k 0) text (so_far.stands k text below found)
        | inr above ↦
            let here : k ≡ i = omega arith in
            let its : text_in (Some e) ≡ Some text = sym (ap text_in (ap (slice_get entries) here ∙ at)) ∙ found in
            ap (λ m. slice_get longer (get_or (numbers ++ n ∷ []) m 0)) here
            ∙ ap (slice_get longer) (get_or_push numbers n 0 i so_far.size)
            ∙ subst (λ o. IfSome o (λ t. slice_get longer n ≡ Some t)) its number
      ];
    }

pub all_numbered : (names : List (List ℕ)) (entries : List Entry) (numbers : List ℕ) (i : ℕ) → IsNumberedTo names entries numbers i → i ≡ length entries → IsNumbering entries numbers
all_numbered names entries numbers i done whole = record {
  size = done.size ∙ whole;
  same = λ j k a b at other.
      let first : slice_get names (get_or numbers j 0) ≡ Some a = done.stands j a (omega (arith, text_within entries j a at)) at in
      let second : slice_get names (get_or numbers k 0) ≡ Some b = done.stands k b (omega (arith, text_within entries k b other)) other in
      (λ same. some_same (sym first ∙ ap (slice_get names) same ∙ second), λ same. done.distinct.same_number _ _ a first (second ∙ ap Some (sym same)));
}
  where
    some_same : {x y : List ℕ} → Some x ≡ Some y → x ≡ y
    some_same e = cc
