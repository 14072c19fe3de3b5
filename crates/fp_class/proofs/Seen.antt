-- Members seen before, by the numbers of their names and descriptors.
use Rattle.std.proofs.Common.{◌≡◌, inl, inr, ℕ, Bool, true, false, ◌&&◌, ◌||◌, not, cond, List, [], ◌∷◌, ◌++◌, Option, Some, None, get_or, ◌==◌, refl, sym, ap, ◌∙◌, arith}
use Rattle.std.proofs.lemmas.Bool.{and_parts, cases_Bool, cond-true, cond-false}
use Rattle.std.proofs.lemmas.Bool.Decides.{nat_tests, same_from_decides, Decides-eqb}
use Rattle.std.proofs.lemmas.List.Folds.{list_any-append}
use Rattle.std.proofs.lemmas.Slice.Eq.{bytes_eq-Decides}
use Rattle.std.specs.List.{list_all, list_any, slice_get}
use Rattle.std.specs.Ordering.{is_eq}
use Rattle.std.specs.Str.{bytes_eq}
use Rattle.fp_model.specs.declared.raw.pool.Entry.{Entry}
use Rattle.fp_model.specs.declared.raw.pool.Entry.TheVariants as entry
use Rattle.fp_model.specs.declared.raw.RawMember.{RawMember}
use Rattle.fp_model.specs.Entries.{tag_at, tag_in, text_at, text_in}
use Rattle.fp_class.specs.declared.numbers.Key.{Key}
use Rattle.fp_class.specs.Keys.{IsNumbering, found_key, has_key, has_texts, key_cmp, key_of}
use Rattle.fp_class.specs.Members.{are_same, is_new, is_repeat}
use Rattle.fp_class.proofs.Sorts.{text_tagged}

-- keys are equal where both numbers are
key_equal : (a b : Key) → is_eq (key_cmp a b) ≡ ((a.name == b.name) && (a.descr == b.descr))
key_equal a b = grind (arith, nat_tests)

key_equal_back : (a b : Key) → is_eq (key_cmp a b) ≡ is_eq (key_cmp b a)
key_equal_back a b = grind (arith, nat_tests)

-- the key that two texts have
record Found (entries : List Entry) (numbers : List ℕ) (name descr : ℕ) (key : Key) : Type 0 where
  has_name : (tag_at entries name == 1) ≡ true
  has_descr : (tag_at entries descr == 1) ≡ true
  name_is : key.name ≡ get_or numbers name 0
  descr_is : key.descr ≡ get_or numbers descr 0

found : (entries : List Entry) (numbers : List ℕ) (name descr : ℕ) (key : Key) → found_key entries numbers name descr ≡ Some key → Found entries numbers name descr key
found entries numbers name descr key e = elim (cases_Bool ((tag_at entries name == 1) && (tag_at entries descr == 1))) [
  | inl both ↦
      let parts = and_parts (tag_at entries name == 1) (tag_at entries descr == 1) both in
      let made : Key = record { name = get_or numbers name 0; descr = get_or numbers descr 0 } in
      let is : Some made ≡ Some key = sym (cond-true _ (Some made) None both) ∙ e in
      let same : made ≡ key = cc in
      record { has_name = parts.0; has_descr = parts.1; name_is = sym (ap (λ (k : Key). k.name) same); descr_is = sym (ap (λ (k : Key). k.descr) same) }
  | inr other ↦
      let none : None ≡ Some key = sym (cond-false _ (Some (record { name = get_or numbers name 0; descr = get_or numbers descr 0 })) None other) ∙ e in
      absurd (cc)
]

no_text : (o : Option Entry) → (tag_in o == 1) ≡ false → text_in o ≡ None
no_text None is = refl
no_text (Some (entry.Utf8 text)) is = absurd (cc)
no_text (Some entry.Unused) is = refl
no_text (Some (entry.Integer bits)) is = refl
no_text (Some (entry.Float bits)) is = refl
no_text (Some (entry.Long bits)) is = refl
no_text (Some (entry.Double bits)) is = refl
no_text (Some (entry.Class name)) is = refl
no_text (Some (entry.Text text)) is = refl
no_text (Some (entry.FieldRef class pair)) is = refl
no_text (Some (entry.MethodRef class pair)) is = refl
no_text (Some (entry.InterfaceRef class pair)) is = refl
no_text (Some (entry.Pair name descr)) is = refl
no_text (Some (entry.Handle kind index)) is = refl
no_text (Some (entry.MethodType descr)) is = refl
no_text (Some (entry.Dynamic boot pair)) is = refl
no_text (Some (entry.InvokeDynamic boot pair)) is = refl
no_text (Some (entry.Module name)) is = refl
no_text (Some (entry.Package name)) is = refl

and_false : (b : Bool) → (b && false) ≡ false
and_false true = refl
and_false false = refl

-- what lacks a text repeats nothing
repeats_nothing : (entries : List Entry) (name descr : ℕ) (before : List RawMember) → ((tag_at entries name == 1) && (tag_at entries descr == 1)) ≡ false → list_any (is_repeat entries name descr) before ≡ false
repeats_nothing entries name descr [] lacks = refl
repeats_nothing entries name descr (m ∷ before) lacks =
    let here : is_repeat entries name descr m ≡ false = elim (cases_Bool (tag_at entries name == 1)) [
      | inl named ↦
          let none : text_at entries descr ≡ None = no_text (slice_get entries descr) (sym (ap (λ b. b && (tag_at entries descr == 1)) named) ∙ lacks) in
          ap (λ o. are_same (text_at entries name) (text_at entries m.name) && are_same o (text_at entries m.descr)) none ∙ and_false (are_same (text_at entries name) (text_at entries m.name))
      | inr unnamed ↦
          let none : text_at entries name ≡ None = no_text (slice_get entries name) unnamed in
          ap (λ o. are_same o (text_at entries m.name) && are_same (text_at entries descr) (text_at entries m.descr)) none
    ] in
    ap (λ b. b || list_any (is_repeat entries name descr) before) here ∙ repeats_nothing entries name descr before lacks

pub new_without_text : (entries : List Entry) (numbers : List ℕ) (name descr : ℕ) (before : List RawMember) → found_key entries numbers name descr ≡ None → true ≡ is_new entries before name descr
new_without_text entries numbers name descr before e = elim (cases_Bool ((tag_at entries name == 1) && (tag_at entries descr == 1))) [
  | inl both ↦
      let made : Key = record { name = get_or numbers name 0; descr = get_or numbers descr 0 } in
      let is : Some made ≡ None = sym (cond-true _ (Some made) None both) ∙ e in
      absurd (cc)
  | inr lacks ↦ sym (ap not (repeats_nothing entries name descr before lacks))
]

module _ (entries : List Entry) (numbers : List ℕ) (numbering : IsNumbering entries numbers) where
  -- two texts are equal where their numbers are
  same_text : (i j : ℕ) → (tag_at entries i == 1) ≡ true → (tag_at entries j == 1) ≡ true → are_same (text_at entries i) (text_at entries j) ≡ (get_or numbers i 0 == get_or numbers j 0)
  same_text i j first second =
      let a = text_tagged entries i first in
      let b = text_tagged entries j second in
      let same = numbering.same i j a.0 b.0 a.1 b.1 in
      let decides = Decides-eqb (get_or numbers i 0) (get_or numbers j 0) in
      rw (a.1, b.1) (same_from_decides (bytes_eq a.0 b.0) (get_or numbers i 0 == get_or numbers j 0) (bytes_eq-Decides a.0 b.0) ((λ h. same.0 (decides.0 h)), (λ h. decides.1 (same.1 h))))

  same_member : (name descr : ℕ) (key : Key) (m : RawMember) → Found entries numbers name descr key → has_texts entries m ≡ true → is_repeat entries name descr m ≡ is_eq (key_cmp key (key_of numbers m))
  same_member name descr key m is texts =
      let parts = and_parts (tag_at entries m.name == 1) (tag_at entries m.descr == 1) texts in
      ap (λ x. x && are_same (text_at entries descr) (text_at entries m.descr)) (same_text name m.name is.has_name parts.0)
      ∙ ap (λ x. (get_or numbers name 0 == get_or numbers m.name 0) && x) (same_text descr m.descr is.has_descr parts.1)
      ∙ ap (λ n. (n == get_or numbers m.name 0) && (get_or numbers descr 0 == get_or numbers m.descr 0)) (sym is.name_is)
      ∙ ap (λ n. (key.name == get_or numbers m.name 0) && (n == get_or numbers m.descr 0)) (sym is.descr_is)
      ∙ sym (key_equal key (key_of numbers m))

  repeats_key : (name descr : ℕ) (key : Key) (before : List RawMember) → Found entries numbers name descr key → list_all (has_texts entries) before ≡ true → list_any (is_repeat entries name descr) before ≡ has_key numbers before key
  repeats_key name descr key [] is all = refl
  repeats_key name descr key (m ∷ before) is all =
      let parts = and_parts (has_texts entries m) (list_all (has_texts entries) before) all in
      ap (λ b. b || list_any (is_repeat entries name descr) before) (same_member name descr key m is parts.0)
      ∙ ap (λ b. is_eq (key_cmp key (key_of numbers m)) || b) (repeats_key name descr key before is parts.1)

  -- a key that is added is new where no member before has it
  pub new_key : (name descr : ℕ) (key : Key) (before : List RawMember) (added seen : Bool) → found_key entries numbers name descr ≡ Some key → list_all (has_texts entries) before ≡ true → added ≡ not seen → seen ≡ has_key numbers before key → added ≡ is_new entries before name descr
  new_key name descr key before added seen e all adds sees =
      adds ∙ ap not (sees ∙ sym (repeats_key name descr key before (found entries numbers name descr key e) all))

  -- the keys seen, and that of one member more
  pub one_seen : (name descr : ℕ) (key q : Key) (before : List RawMember) (m : RawMember) (old new : Bool) → found_key entries numbers name descr ≡ Some key → m.name ≡ name → m.descr ≡ descr → old ≡ has_key numbers before q → new ≡ cond (is_eq (key_cmp key q)) true old → new ≡ has_key numbers (before ++ m ∷ []) q
  one_seen name descr key q before m old new e named described sees updated =
      let is = found entries numbers name descr key e in
      let its : key ≡ key_of numbers m = one_key key (key_of numbers m) (is.name_is ∙ ap (λ n. get_or numbers n 0) (sym named)) (is.descr_is ∙ ap (λ n. get_or numbers n 0) (sym described)) in
      let test = λ (other : RawMember). is_eq (key_cmp q (key_of numbers other)) in
      let parts : has_key numbers (before ++ m ∷ []) q ≡ (has_key numbers before q || (is_eq (key_cmp q (key_of numbers m)) || false)) = list_any-append test before (m ∷ []) in
      updated ∙ ap (λ b. cond (is_eq (key_cmp key q)) true b) sees
      ∙ last (is_eq (key_cmp key q)) (is_eq (key_cmp q (key_of numbers m))) (has_key numbers before q) (ap (λ k. is_eq (key_cmp k q)) its ∙ key_equal_back (key_of numbers m) q)
      ∙ sym parts
    where
      last : (a b c : Bool) → a ≡ b → cond a true c ≡ (c || (b || false))
      last a b c same = grind arith

      one_key : (a b : Key) → a.name ≡ b.name → a.descr ≡ b.descr → a ≡ b
      one_key a b x y = ap (λ n. record { name = n; descr = a.descr }) x ∙ ap (λ n. record { name = b.name; descr = n }) y
