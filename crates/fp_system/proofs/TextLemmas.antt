-- Tables of texts, one text after another.
use Rattle.std.proofs.Common.{◌≡◌, ℕ, ◌+◌, ◌<◌, Bool, true, false, ◌||◌, List, [], ◌∷◌, ◌++◌, length, take, drop, get_or, suc, cond, ◌==◌, ◌≤◌, refl, sym, ap, subst, ◌∙◌, add-one, arith, append-nil, append_assoc, take_all}
use Rattle.std.proofs.Math.Seq.{drop-cons}
use Rattle.std.proofs.lemmas.List.{take_more, map-append, drop_all}
use Rattle.std.proofs.lemmas.List.Folds.{list_any-append}
use Rattle.std.proofs.lemmas.Slice.Eq.{bytes_eq-Decides}
use Rattle.std.specs.Prelude.{String, string_bytes}
use Rattle.std.specs.declared.alloc.Global.{Global}
use Rattle.std.specs.Str.{bytes_eq}
use Rattle.fp_base.specs.Files.{texts}
use Rattle.fp_base.specs.Names.{has_name, with_name}
use Rattle.fp_base.proofs.NameLemmas.{has_name-with_name}
use Rattle.fp_system.specs.Java.{has_text}
use Rattle.fp_system.specs.Shows.{KnowsParts}
use Rattle.fp_system.specs.Texts.{AreWithin, first_parts, part_before}

same-bool : (b c : Bool) → (b ≡ true → c ≡ true) → (c ≡ true → b ≡ true) → b ≡ c
same-bool true c h k = sym (h refl)
same-bool false true h k = k refl
same-bool false false h k = refl

bytes_eq-swap : (a b : List ℕ) → bytes_eq a b ≡ bytes_eq b a
bytes_eq-swap a b = same-bool (bytes_eq a b) (bytes_eq b a)
    (λ h. (bytes_eq-Decides b a).1 (sym ((bytes_eq-Decides a b).0 h)))
    (λ h. (bytes_eq-Decides a b).1 (sym ((bytes_eq-Decides b a).0 h)))

-- the table has the texts so far
abbrev pub HasTexts : List (List ℕ) → List (List ℕ) → Type 0
HasTexts names texts = (text : List ℕ) → has_name names text ≡ has_text texts text

or-false : (b : Bool) → (b || false) ≡ b
or-false true = refl
or-false false = refl

pub has_texts-more : (names texts : List (List ℕ)) (new : List ℕ) → HasTexts names texts → HasTexts (with_name names new) (texts ++ new ∷ [])
has_texts-more names texts new h text =
    has_name-with_name names new text ∙ ap (λ b. b || bytes_eq text new) (h text)
    ∙ ap (λ b. has_text texts text || b) (bytes_eq-swap text new ∙ sym (or-false (bytes_eq new text)))
    ∙ sym (list_any-append (λ other. bytes_eq other text) texts (new ∷ []))

-- one word more
pub words_more : (words : List (String Global)) (i : ℕ) (word : String Global) → i < length words → word ≡ get_or words i word → texts (take (i + 1) words) ≡ texts (take i words) ++ string_bytes word ∷ []
words_more words i word within is =
    ap texts (take_more words i word within ∙ ap (λ v. take i words ++ v ∷ []) (sym is)) ∙ map-append string_bytes (take i words) (word ∷ [])

pub words_step : (words : List (String Global)) (i : ℕ) (word : String Global) (names later : List (List ℕ)) (text : List ℕ) → i < length words → word ≡ get_or words i word → text ≡ string_bytes word → later ≡ with_name names text →
    HasTexts names (texts (take i words)) → HasTexts later (texts (take (i + 1) words))
words_step words i word names later text within is bytes added h =
    let step = has_texts-more names (texts (take i words)) (string_bytes word) h in
    subst (HasTexts later) (sym (words_more words i word within is)) (subst (λ v. HasTexts v (texts (take i words) ++ string_bytes word ∷ [])) (sym (added ∙ ap (with_name names) bytes)) step)

or-cases : (a b : Bool) (P : Type 0) → (a ≡ true → P) → (b ≡ true → P) → (a || b) ≡ true → P
or-cases true b P f g h = f refl
or-cases false b P f g h = g h

-- the longest of the texts so far
pub longest_step : (words : List (String Global)) (i : ℕ) (word : String Global) (longest later : ℕ) (text : List ℕ) → i < length words → word ≡ get_or words i word → text ≡ string_bytes word → longest ≤ later → length text ≤ later →
    ((t : List ℕ) → has_text (texts (take i words)) t ≡ true → length t ≤ longest) → (t : List ℕ) → has_text (texts (take (i + 1) words)) t ≡ true → length t ≤ later
longest_step words i word longest later text within is bytes above fits h = λ t there.
    let split = list_any-append (λ other. bytes_eq other t) (texts (take i words)) (string_bytes word ∷ []) in
    let both : (has_text (texts (take i words)) t || bytes_eq (string_bytes word) t) ≡ true =
    ap (λ b. has_text (texts (take i words)) t || b) (sym (or-false (bytes_eq (string_bytes word) t))) ∙ sym split ∙ ap (λ v. has_text v t) (sym (words_more words i word within is)) ∙ there in
    or-cases (has_text (texts (take i words)) t) (bytes_eq (string_bytes word) t) (length t ≤ later)
    (λ before. omega (arith, h t before, above))
    (λ same. let long : length text ≡ length t = ap length (bytes ∙ (bytes_eq-Decides (string_bytes word) t).0 same) in omega (arith, long, fits)) both

-- a table has the texts, so none of it is longer
pub longest_known : (names all : List (List ℕ)) (longest : ℕ) → HasTexts names all → ((t : List ℕ) → has_text all t ≡ true → length t ≤ longest) → AreWithin longest names
longest_known names all longest same h text there = h text (sym (same text) ∙ there)

pub parts_step : (words : List (String Global)) (i : ℕ) (word : String Global) (names later : List (List ℕ)) (text part : List ℕ) → i < length words → word ≡ get_or words i word → text ≡ string_bytes word → part ≡ part_before text → later ≡ with_name names part →
    HasTexts names (first_parts (texts (take i words))) → HasTexts later (first_parts (texts (take (i + 1) words)))
parts_step words i word names later text part within is bytes cut added h =
    let step = has_texts-more names (first_parts (texts (take i words))) (part_before (string_bytes word)) h in
    let more : first_parts (texts (take (i + 1) words)) ≡ first_parts (texts (take i words)) ++ part_before (string_bytes word) ∷ [] =
    ap first_parts (words_more words i word within is) ∙ map-append part_before (texts (take i words)) (string_bytes word ∷ []) in
    subst (HasTexts later) (sym more) (subst (λ v. HasTexts v (first_parts (texts (take i words)) ++ part_before (string_bytes word) ∷ [])) (sym (added ∙ ap (with_name names) (cut ∙ ap part_before bytes))) step)

-- ---- the first part of a text

part_hit : (xs : List ℕ) (at b : ℕ) → at < length xs → b ≡ get_or xs at b → b ≡ 61 → part_before (drop at xs) ≡ []
part_hit xs at b lt is hit =
    let here : (get_or xs at b == 61) ≡ true = ap (λ v. v == 61) (sym is ∙ hit) in
    ap part_before (drop-cons xs at b lt) ∙ ap (λ c. cond c [] (get_or xs at b ∷ part_before (drop (suc at) xs))) here

part_miss : (xs : List ℕ) (at b : ℕ) → at < length xs → b ≡ get_or xs at b → (b == 61) ≡ false → part_before (drop at xs) ≡ b ∷ part_before (drop (suc at) xs)
part_miss xs at b lt is miss =
    let here : (get_or xs at b == 61) ≡ false = ap (λ v. v == 61) (sym is) ∙ miss in
    ap part_before (drop-cons xs at b lt) ∙ ap (λ c. cond c [] (get_or xs at b ∷ part_before (drop (suc at) xs))) here
    ∙ ap (λ v. v ∷ part_before (drop (suc at) xs)) (sym is)

-- what is left has the rest of the first part
pub part_ends : (xs : List ℕ) (at b : ℕ) → at < length xs → b ≡ get_or xs at b → b ≡ 61 → part_before xs ≡ take at xs ++ part_before (drop at xs) → take at xs ≡ part_before xs
part_ends xs at b lt is hit h = sym (h ∙ ap (λ v. take at xs ++ v) (part_hit xs at b lt is hit) ∙ append-nil (take at xs))

pub part_goes_on : (xs : List ℕ) (at b : ℕ) → at < length xs → b ≡ get_or xs at b → (b == 61) ≡ false → part_before xs ≡ take at xs ++ part_before (drop at xs) → part_before xs ≡ take (at + 1) xs ++ part_before (drop (at + 1) xs)
part_goes_on xs at b lt is miss h =
    let more : take (at + 1) xs ≡ take at xs ++ b ∷ [] = take_more xs at b lt ∙ ap (λ v. take at xs ++ v ∷ []) (sym is) in
    h ∙ ap (λ v. take at xs ++ v) (part_miss xs at b lt is miss)
    ∙ sym (append_assoc (take at xs) (b ∷ []) (part_before (drop (suc at) xs)))
    ∙ ap (λ v. v ++ part_before (drop (suc at) xs)) (sym more)
    ∙ ap (λ n. take (at + 1) xs ++ part_before (drop n xs)) (sym (add-one at))

pub part_whole : (xs : List ℕ) (at : ℕ) → length xs ≤ at → part_before xs ≡ take at xs ++ part_before (drop at xs) → xs ≡ part_before xs
part_whole xs at past h =
    sym (h ∙ ap (λ v. v ++ part_before (drop at xs)) (take_all at xs past) ∙ ap (λ v. xs ++ part_before v) (drop_all at xs past) ∙ append-nil xs)

or-right : (b c : Bool) → c ≡ true → (b || c) ≡ true
or-right true c h = refl
or-right false c h = h

-- ---- the first parts of the items that there are

part_known : (all : List (List ℕ)) (text : List ℕ) → has_text all text ≡ true → has_text (first_parts all) (part_before text) ≡ true
part_known [] text h = cc
part_known (other ∷ all) text h =
    (elim (bytes_eq other text) as (λ b. bytes_eq other text ≡ b → (b || has_text all text) ≡ true → (bytes_eq (part_before other) (part_before text) || has_text (first_parts all) (part_before text)) ≡ true) [
      | true ↦ λ same _.
          let own : bytes_eq (part_before other) (part_before text) ≡ true = (bytes_eq-Decides (part_before other) (part_before text)).1 (ap part_before ((bytes_eq-Decides other text).0 same)) in
          ap (λ b. b || has_text (first_parts all) (part_before text)) own
      | false ↦ λ _ rest. or-right (bytes_eq (part_before other) (part_before text)) (has_text (first_parts all) (part_before text)) (part_known all text rest)
    ]) refl h

pub parts_known : (items parts all : List (List ℕ)) → HasTexts items all → HasTexts parts (first_parts all) → KnowsParts items parts
parts_known items parts all h k text there = k (part_before text) ∙ part_known all text (sym (h text) ∙ there)
