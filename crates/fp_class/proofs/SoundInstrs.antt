-- What a checked instruction names is there: where it branches to, its local, and its form.
use Rattle.std.proofs.Common.{◌≡◌, inl, inr, ℕ, ◌+◌, ◌-◌, ◌/◌, ◌%◌, ◌<◌, ◌≤◌, Bool, true, false, cond, ◌||◌, ◌==◌, List, [], ◌∷◌, ◌++◌, Option, Some, None, codes, refl, sym, ap, ◌∙◌, subst, arith}
use Rattle.std.specs.Prelude.{nat_le, nat_lt, slice_index, IfSome}
use Rattle.std.specs.Int.{w8, w16}
use Rattle.std.specs.List.{list_all}
use Rattle.std.specs.Option.{option_map, option_or}
use Rattle.std.proofs.lemmas.Bool.{and_from, and_parts, cases_Bool, eqb-true, le-leb, ltb-false, ltb-true, or_cases, or_left, or_right}
use Rattle.std.proofs.lemmas.Bool.Decides.{nat_tests}
use Rattle.std.proofs.lemmas.List.Folds.{list_all-append}
use Rattle.fp_model.specs.declared.class.instr.Instr.{Instr}
use Rattle.fp_model.specs.declared.class.instr.Instr.TheVariants as instr
use Rattle.fp_model.specs.declared.form.Form.{Form}
use Rattle.fp_model.specs.declared.form.Form.TheVariants as form
use Rattle.fp_model.specs.declared.kind.Kind.{Kind}
use Rattle.fp_model.specs.declared.kind.Sort.{Sort}
use Rattle.fp_model.specs.declared.kind.Sort.TheVariants as sort
use Rattle.fp_model.specs.declared.raw.attribute.BootRow.{BootRow}
use Rattle.fp_model.specs.declared.raw.attribute.RawIns.{RawIns}
use Rattle.fp_model.specs.declared.raw.pool.Entry.{Entry}
use Rattle.fp_model.specs.declared.raw.pool.Entry.TheVariants as entry
use Rattle.fp_model.specs.Branches.{far_target, leads_to, near_target, targets_of}
use Rattle.fp_model.specs.Descriptor.{is_among}
use Rattle.fp_model.specs.Entries.{class_name_at, passes}
use Rattle.fp_model.specs.Form.{form_of, near, type_words}
use Rattle.fp_model.specs.Instructions.{constant_instr, descr_instr, entry_instr, fixed_instr, found, found_entry, letter_instr, local_in, operand_instr, places_after, plain_instr, primitive_array, primitive_kind, short_place, switch_instr, type_sort}
use Rattle.fp_model.specs.NamedInstructions.{is_call_op, is_class_op, is_field_op, member_at, IsArrayInstr, IsCallInstr, IsClassInstr, IsFieldInstr, IsMultiArrayInstr, IsNamedInstr, IsOf, MemberTexts}
use Rattle.fp_model.specs.Reading.{number_at}
use Rattle.fp_model.specs.References.{descr_at}
use Rattle.fp_model.specs.SoundCode.{branches_to, is_of_form, is_value_sort, is_within, locals_asked, sort_words}
use Rattle.fp_ops.specs.CallSites.{site_at, IsSiteInstr, SiteTexts}
use Rattle.fp_ops.specs.Forms.{dims_in, index_in, is_named_op, is_site_op, takes_names, IsInstrOf}
use Rattle.fp_class.proofs.CheckedLocals.{fits_frame, has_locals, is_in_frame}

-- ---- opcodes

inside : (first last op : ℕ) → first ≤ op → op ≤ last → is_within first last op ≡ true
inside first last op least most = and_from (nat_le first op) (nat_le op last) (le-leb first op least) (le-leb op last most)

is_plain_op : (op : ℕ) → 96 ≤ op → (op == 132) ≡ false → op < 153 → (is_within 96 131 op || is_within 133 152 op) ≡ true
is_plain_op op least other most = grind (arith, nat_tests)

near_load : (op : ℕ) → 26 ≤ op → op < 46 → form_of op ≡ near (op - 26)
unfolding form_of
near_load op least most = grind (arith, nat_tests)

near_store : (op : ℕ) → 59 ≤ op → op < 79 → form_of op ≡ near (op - 59)
unfolding form_of
near_store op least most = grind (arith, nat_tests)

local_load : (op : ℕ) → 21 ≤ op → op < 26 → form_of op ≡ form.Local (type_words (op - 21))
unfolding form_of
local_load op least most = grind (arith, nat_tests)

local_store : (op : ℕ) → 54 ≤ op → op < 59 → form_of op ≡ form.Local (type_words (op - 54))
unfolding form_of
local_store op least most = grind (arith, nat_tests)

increment : (op : ℕ) → op ≡ 132 → form_of op ≡ form.Increment
unfolding form_of
increment op is = rw is refl

near_branch : (op : ℕ) → 153 ≤ op → op < 168 → form_of op ≡ form.Branch 2
unfolding form_of
near_branch op least most = grind (arith, nat_tests)

null_branch : (op : ℕ) → 198 ≤ op → op < 200 → form_of op ≡ form.Branch 2
unfolding form_of
null_branch op least most = grind (arith, nat_tests)

far_branch : (op : ℕ) → op ≡ 200 → form_of op ≡ form.Branch 4
unfolding form_of
far_branch op is = rw is refl

-- ---- sorts by types

either : {A : Type 0} (P : A → Type 0) (b : Bool) (x y : A) → P x → P y → P (cond b x y)
either P true x y one other = one
either P false x y one other = other

is_value : (type : ℕ) → is_value_sort (type_sort type) ≡ true
is_value type =
    let P : Sort → Type 0 = λ s. is_value_sort s ≡ true in
    either P (type == 0) _ _ refl (either P (type == 1) _ _ refl (either P (type == 2) _ _ refl (either P (type == 3) _ _ refl refl)))

same_words : (type : ℕ) → sort_words (type_sort type) ≡ type_words type
same_words type = grind (arith, nat_tests)

-- ---- what holds of an instruction

pub record Suits (test : ℕ → Bool) (max_locals : ℕ) (i : Instr) : Type 0 where
  pub branches : list_all test (branches_to i) ≡ true
  pub locals : nat_le (locals_asked i) max_locals ≡ true
  pub form : is_of_form i ≡ true

module _ (test : ℕ → Bool) (max_locals : ℕ) where
  abbrev Suit : Option Instr → Type 0
  Suit o = IfSome o (Suits test max_locals)

  no_locals : nat_le 0 max_locals ≡ true
  no_locals = le-leb 0 max_locals (omega arith)

  -- it branches nowhere and names no local
  alone : (i : Instr) → branches_to i ≡ [] → locals_asked i ≡ 0 → is_of_form i ≡ true → Suits test max_locals i
  alone i nowhere none formed = record {
    branches = ap (list_all test) nowhere;
    locals = ap (λ n. nat_le n max_locals) none ∙ no_locals;
    form = formed;
  }

  row : (b : Bool) (x y : Option Instr) → (b ≡ true → Suit x) → (b ≡ false → Suit y) → Suit (cond b x y)
  row true x y here later = here refl
  row false x y here later = later refl

  or_suits : (o p : Option Instr) → Suit o → Suit p → Suit (option_or o p)
  or_suits None p first second = second
  or_suits (Some i) p first second = first

  load_suits : (type at : ℕ) → is_in_frame max_locals (type_words type) at ≡ true → Suits test max_locals (instr.Load (type_sort type) at)
  load_suits type at fits = record {
    branches = refl;
    locals = ap (λ n. nat_le (at + n) max_locals) (same_words type) ∙ fits;
    form = is_value type;
  }

  store_suits : (type at : ℕ) → is_in_frame max_locals (type_words type) at ≡ true → Suits test max_locals (instr.Store (type_sort type) at)
  store_suits type at fits = record {
    branches = refl;
    locals = ap (λ n. nat_le (at + n) max_locals) (same_words type) ∙ fits;
    form = is_value type;
  }

  increment_suits : (at : ℕ) → is_in_frame max_locals 1 at ≡ true → Suits test max_locals (instr.Inc at)
  increment_suits at fits = record { branches = refl; locals = fits; form = refl }

  if_suits : (op to : ℕ) → (is_within 153 166 op || is_within 198 199 op) ≡ true → test to ≡ true → Suits test max_locals (instr.If op to)
  if_suits op to formed there = record { branches = and_from (test to) true there refl; locals = no_locals; form = formed }

  goto_suits : (to : ℕ) → test to ≡ true → Suits test max_locals (instr.Goto to)
  goto_suits to there = record { branches = and_from (test to) true there refl; locals = no_locals; form = refl }

  -- ---- by the opcode alone

  fixed_suits : (op : ℕ) (wide : Bool) (args : List ℕ) → fits_frame max_locals wide (form_of op) args ≡ true → Suit (fixed_instr op)
  unfolding fixed_instr
  fixed_suits op wide args fits =
      row (op == 0) _ _ (λ _. alone instr.Nop refl refl refl) (λ _.
      row (op == 1) _ _ (λ _. alone instr.Null refl refl refl) (λ _.
      row (nat_lt op 9) _ _ (λ _. alone (instr.Const sort.Int) refl refl refl) (λ _.
      row (nat_lt op 11) _ _ (λ _. alone (instr.Const sort.Long) refl refl refl) (λ _.
      row (nat_lt op 14) _ _ (λ _. alone (instr.Const sort.Float) refl refl refl) (λ _.
      row (nat_lt op 16) _ _ (λ _. alone (instr.Const sort.Double) refl refl refl) (λ _.
      row (nat_lt op 18) _ _ (λ _. alone (instr.Const sort.Int) refl refl refl) (λ _.
      row (nat_lt op 26) _ _ (λ _. tt) (λ past.
      row (nat_lt op 46) _ _ (λ lt. load_suits ((op - 26) / 4) ((op - 26) % 4) (in_frame (op - 26) (near_load op (ltb-false op 26 past) (ltb-true op 46 lt)))) (λ past.
      row (nat_lt op 54) _ _ (λ lt. alone (instr.ArrayLoad op) refl refl (inside 46 53 op (ltb-false op 46 past) (below 53 lt))) (λ past.
      row (nat_lt op 59) _ _ (λ _. tt) (λ past.
      row (nat_lt op 79) _ _ (λ lt. store_suits ((op - 59) / 4) ((op - 59) % 4) (in_frame (op - 59) (near_store op (ltb-false op 59 past) (ltb-true op 79 lt)))) (λ past.
      row (nat_lt op 87) _ _ (λ lt. alone (instr.ArrayStore op) refl refl (inside 79 86 op (ltb-false op 79 past) (below 86 lt))) (λ past.
      row (nat_lt op 96) _ _ (λ lt. alone (instr.Shuffle op) refl refl (inside 87 95 op (ltb-false op 87 past) (below 95 lt))) (λ past.
      row (op == 132) _ _ (λ _. tt) (λ other.
      row (nat_lt op 153) _ _ (λ lt. alone (instr.Op op) refl refl (is_plain_op op (ltb-false op 96 past) other (ltb-true op 153 lt))) (λ _.
      row (nat_lt op 172) _ _ (λ _. tt) (λ past.
      row (nat_lt op 178) _ _ (λ lt. alone (instr.Return op) refl refl (inside 172 177 op (ltb-false op 172 past) (below 177 lt))) (λ _.
      row (op == 190) _ _ (λ _. alone instr.ArrayLength refl refl refl) (λ _.
      row (op == 191) _ _ (λ _. alone instr.Throw refl refl refl) (λ _.
      row ((op == 194) || (op == 195)) _ _ (λ _. alone instr.Monitor refl refl refl) (λ _. tt)))))))))))))))))))))
    where
      in_frame : (n : ℕ) → form_of op ≡ near n → is_in_frame max_locals (type_words (n / 4)) (n % 4) ≡ true
      in_frame n is = ap (λ f. fits_frame max_locals wide f args) (sym is) ∙ fits

      below : (last : ℕ) → nat_lt op (last + 1) ≡ true → op ≤ last
      below last lt = omega (arith, ltb-true op (last + 1) lt)

  -- ---- by its operands

  map_suits : (f : ℕ → Instr) (good : ℕ → Bool) (o : Option ℕ) → passes good o ≡ true → ((n : ℕ) → good n ≡ true → Suits test max_locals (f n)) → Suit (option_map f o)
  map_suits f good None passed suits = tt
  map_suits f good (Some n) passed suits = suits n passed

  short_suits : (f : ℕ → Instr) (o : Option ℕ) → passes test o ≡ true → ((to : ℕ) → test to ≡ true → Suits test max_locals (f to)) → Suit (option_map f (short_place o))
  short_suits f None passed suits = tt
  short_suits f (Some place) passed suits =
      elim (nat_lt place 65536) as (λ b. Suit (option_map f (cond b (Some place) None))) [
        | true ↦ suits place passed
        | false ↦ tt
      ]

  near_led : (pc : ℕ) (args : List ℕ) → list_all (passes test) (targets_of pc (form.Branch 2) args) ≡ true → passes test (near_target pc args 0) ≡ true
  unfolding targets_of
  near_led pc args all = (and_parts (passes test (near_target pc args 0)) true all).0

  far_led : (pc : ℕ) (args : List ℕ) → list_all (passes test) (targets_of pc (form.Branch 4) args) ≡ true → passes test (far_target pc args 0) ≡ true
  unfolding targets_of
  far_led pc args all = (and_parts (passes test (far_target pc args 0)) true all).0

  kind_suits : (k : Option Kind) → Suit (option_map (λ k. instr.NewArray 1 k) k)
  kind_suits None = tt
  kind_suits (Some k) = alone (instr.NewArray 1 k) refl refl refl

  array_suits : (code : Option ℕ) → Suit (primitive_array code)
  array_suits None = tt
  array_suits (Some code) = kind_suits (primitive_kind code)

  places_suit : (targets : List (Option ℕ)) (before : List ℕ) → list_all test before ≡ true → list_all (passes test) targets ≡ true → IfSome (places_after before targets) (λ to. list_all test to ≡ true)
  unfolding places_after
  places_suit [] before passed all = passed
  places_suit (None ∷ targets) before passed all = tt
  places_suit (Some place ∷ targets) before passed all =
      let parts = and_parts (test place) (list_all (passes test) targets) all in
      let one : list_all test (place ∷ []) ≡ true = and_from (test place) true parts.0 refl in
      let longer : list_all test (before ++ place ∷ []) ≡ true = list_all-append test before (place ∷ []) ∙ and_from (list_all test before) (list_all test (place ∷ [])) passed one in
      elim (nat_lt place 65536) as (λ b. IfSome (cond b (places_after (before ++ place ∷ []) targets) None) (λ to. list_all test to ≡ true)) [
        | true ↦ places_suit targets (before ++ place ∷ []) longer parts.1
        | false ↦ tt
      ]

  to_suit : (to : Option (List ℕ)) → IfSome to (λ to. list_all test to ≡ true) → Suit (option_map (λ to. instr.Switch to) to)
  to_suit None all = tt
  to_suit (Some to) all = record { branches = all; locals = no_locals; form = refl }

  module _ (pc : ℕ) (ins : RawIns) (fits : has_locals max_locals ins ≡ true) (leads : leads_to test pc ins ≡ true) where
    fits_as : (f : Form) → form_of ins.op ≡ f → fits_frame max_locals ins.wide f ins.args ≡ true
    fits_as f is = ap (λ g. fits_frame max_locals ins.wide g ins.args) (sym is) ∙ fits

    leads_as : (f : Form) → form_of ins.op ≡ f → list_all (passes test) (targets_of pc f ins.args) ≡ true
    leads_as f is = ap (λ g. list_all (passes test) (targets_of pc g ins.args)) (sym is) ∙ leads

    near_there : form_of ins.op ≡ form.Branch 2 → passes test (near_target pc ins.args 0) ≡ true
    near_there is = near_led pc ins.args (leads_as (form.Branch 2) is)

    null_op : (op : ℕ) → ((op == 198) || (op == 199)) ≡ true → (198 ≤ op) × (op < 200)
    null_op op is = elim (cases_Bool (op == 198)) [
      | inl one ↦ let same = eqb-true op 198 one in (omega (arith, same), omega (arith, same))
      | inr other ↦ let same = eqb-true op 199 (sym (ap (λ b. b || (op == 199)) other) ∙ is) in (omega (arith, same), omega (arith, same))
    ]

    operand_suits : Suit (operand_instr pc ins)
    unfolding operand_instr
    operand_suits =
        let op = ins.op in
        row (nat_lt op 21) _ _ (λ _. tt) (λ past.
        row (nat_lt op 26) _ _ (λ lt. map_suits _ (is_in_frame max_locals (type_words (op - 21))) (local_in ins) (fits_as _ (local_load op (ltb-false op 21 past) (ltb-true op 26 lt))) (load_suits (op - 21))) (λ _.
        row (nat_lt op 54) _ _ (λ _. tt) (λ past.
        row (nat_lt op 59) _ _ (λ lt. map_suits _ (is_in_frame max_locals (type_words (op - 54))) (local_in ins) (fits_as _ (local_store op (ltb-false op 54 past) (ltb-true op 59 lt))) (store_suits (op - 54))) (λ _.
        row (op == 132) _ _ (λ is. map_suits _ (is_in_frame max_locals 1) (local_in ins) (fits_as _ (increment op (eqb-true op 132 is))) increment_suits) (λ _.
        row (nat_lt op 153) _ _ (λ _. tt) (λ past.
        row (nat_lt op 167) _ _ (λ lt. short_suits _ (near_target pc ins.args 0) (near_there (near_branch op (ltb-false op 153 past) (omega (arith, ltb-true op 167 lt)))) (λ to there. if_suits op to (or_left (is_within 153 166 op) (is_within 198 199 op) (inside 153 166 op (ltb-false op 153 past) (omega (arith, ltb-true op 167 lt)))) there)) (λ _.
        row (op == 167) _ _ (λ is. short_suits _ (near_target pc ins.args 0) (near_there (near_branch op (omega (arith, eqb-true op 167 is)) (omega (arith, eqb-true op 167 is)))) goto_suits) (λ _.
        row (op == 188) _ _ (λ _. array_suits (found (number_at w8 ins.args 0))) (λ _.
        row ((op == 198) || (op == 199)) _ _ (λ is. let between = null_op op is in short_suits _ (near_target pc ins.args 0) (near_there (null_branch op between.0 between.1)) (λ to there. if_suits op to (or_right (is_within 153 166 op) (is_within 198 199 op) (inside 198 199 op between.0 (omega (arith, between.1)))) there)) (λ _.
        row (op == 200) _ _ (λ is. short_suits _ (far_target pc ins.args 0) (far_led pc ins.args (leads_as (form.Branch 4) (far_branch op (eqb-true op 200 is)))) goto_suits) (λ _. tt)))))))))))

    switch_suits : Suit (switch_instr pc ins)
    unfolding switch_instr
    switch_suits =
        row ((ins.op == 170) || (ins.op == 171)) _ _ (λ _. to_suit (places_after [] (targets_of pc (form_of ins.op) ins.args)) (places_suit (targets_of pc (form_of ins.op) ins.args) [] refl leads)) (λ _. tt)

  -- ---- by a constant

  letter_suits : (letter : ℕ) → Suits test max_locals (letter_instr letter)
  letter_suits letter =
      let P : Instr → Type 0 = Suits test max_locals in
      either P (is_among (codes "BCISZ") letter) _ _ (alone (instr.Const sort.Int) refl refl refl)
      (either P (letter == 74) _ _ (alone (instr.Const sort.Long) refl refl refl)
      (either P (letter == 70) _ _ (alone (instr.Const sort.Float) refl refl refl)
      (either P (letter == 68) _ _ (alone (instr.Const sort.Double) refl refl refl) (alone instr.ConstRef refl refl refl))))

  descr_suits : (descr : Option (List ℕ)) → Suit (descr_instr descr)
  descr_suits None = tt
  descr_suits (Some descr) = letter_suits (slice_index descr 0)

  entry_suits : (entries : List Entry) (e : Option Entry) → Suit (entry_instr entries e)
  entry_suits entries (Some (entry.Integer bits)) = alone (instr.Const sort.Int) refl refl refl
  entry_suits entries (Some (entry.Float bits)) = alone (instr.Const sort.Float) refl refl refl
  entry_suits entries (Some (entry.Long bits)) = alone (instr.Const sort.Long) refl refl refl
  entry_suits entries (Some (entry.Double bits)) = alone (instr.Const sort.Double) refl refl refl
  entry_suits entries (Some (entry.Class name)) = alone instr.ConstRef refl refl refl
  entry_suits entries (Some (entry.Text text)) = alone instr.ConstRef refl refl refl
  entry_suits entries (Some (entry.Handle kind index)) = alone instr.ConstRef refl refl refl
  entry_suits entries (Some (entry.MethodType descr)) = alone instr.ConstRef refl refl refl
  entry_suits entries (Some (entry.Dynamic boot pair)) = descr_suits (descr_at entries pair)
  entry_suits entries _ = tt

  constant_suits : (entries : List Entry) (ins : RawIns) → Suit (constant_instr entries ins)
  unfolding constant_instr
  constant_suits entries ins =
      row (ins.op == 18) _ _ (λ _. entry_suits entries (found_entry entries (found (number_at w8 ins.args 0)))) (λ _.
      row ((ins.op == 19) || (ins.op == 20)) _ _ (λ _. entry_suits entries (found_entry entries (found (number_at w16 ins.args 0)))) (λ _. tt))

  plain_suits : (entries : List Entry) (pc : ℕ) (ins : RawIns) (i : Instr) → has_locals max_locals ins ≡ true → leads_to test pc ins ≡ true → plain_instr entries pc ins ≡ Some i → Suits test max_locals i
  plain_suits entries pc ins i fits leads is =
      let all : Suit (plain_instr entries pc ins) =
      or_suits (fixed_instr ins.op) _ (fixed_suits ins.op ins.wide ins.args fits)
      (or_suits (operand_instr pc ins) _ (operand_suits pc ins fits leads)
      (or_suits (constant_instr entries ins) (switch_instr pc ins) (constant_suits entries ins) (switch_suits pc ins fits leads))) in
      subst Suit is all

  -- ---- by names

  field_suits : (names : List (List ℕ)) (op : ℕ) (texts : MemberTexts) (i : Instr) → IsFieldInstr names op texts i → Suits test max_locals i
  field_suits names op texts (instr.GetStatic class name descr k) is = alone (instr.GetStatic class name descr k) refl refl refl
  field_suits names op texts (instr.PutStatic class name descr k) is = alone (instr.PutStatic class name descr k) refl refl refl
  field_suits names op texts (instr.GetField class name descr k) is = alone (instr.GetField class name descr k) refl refl refl
  field_suits names op texts (instr.PutField class name descr k) is = alone (instr.PutField class name descr k) refl refl refl
  field_suits names op texts _ is = absurd is

  class_suits : (names : List (List ℕ)) (op : ℕ) (text : List ℕ) (i : Instr) → IsClassInstr names op text i → Suits test max_locals i
  class_suits names op text (instr.New class) is = alone (instr.New class) refl refl refl
  class_suits names op text (instr.CheckCast class) is = alone (instr.CheckCast class) refl refl refl
  class_suits names op text (instr.InstanceOf class) is = alone (instr.InstanceOf class) refl refl refl
  class_suits names op text _ is = absurd is

  array_of_suits : (names : List (List ℕ)) (text : List ℕ) (i : Instr) → IsArrayInstr names text i → Suits test max_locals i
  array_of_suits names text (instr.NewArray dims element) is = alone (instr.NewArray dims element) refl refl refl
  array_of_suits names text _ is = absurd is

  multi_suits : (names : List (List ℕ)) (dims : ℕ) (text : List ℕ) (i : Instr) → IsMultiArrayInstr names dims text i → Suits test max_locals i
  multi_suits names dims text (instr.NewArray made element) is = alone (instr.NewArray made element) refl refl refl
  multi_suits names dims text _ is = absurd is

  call_suits : (names : List (List ℕ)) (op : ℕ) (texts : MemberTexts) (i : Instr) → IsCallInstr names op texts i → Suits test max_locals i
  call_suits names op texts (instr.InvokeVirtual class name descr kinds) is = alone (instr.InvokeVirtual class name descr kinds) refl refl refl
  call_suits names op texts (instr.InvokeSpecial class name descr kinds) is = alone (instr.InvokeSpecial class name descr kinds) refl refl refl
  call_suits names op texts (instr.InvokeStatic class name descr kinds) is = alone (instr.InvokeStatic class name descr kinds) refl refl refl
  call_suits names op texts (instr.InvokeInterface class name descr kinds) is = alone (instr.InvokeInterface class name descr kinds) refl refl refl
  call_suits names op texts _ is = absurd is

  site_suits : (names : List (List ℕ)) (entries : List Entry) (site : SiteTexts) (i : Instr) → IsSiteInstr names entries site i → Suits test max_locals i
  site_suits names entries site (instr.InvokeDynamic name descr boot args) is = alone (instr.InvokeDynamic name descr boot args) refl refl refl
  site_suits names entries site _ is = absurd is

  -- what is there says so
  of_suits : {A : Type 0} (P : A → Type 0) (i : Instr) (o : Option A) → ((x : A) → P x → Suits test max_locals i) → IsOf P o → Suits test max_locals i
  of_suits P i None f is = absurd is
  of_suits P i (Some x) f is = f x is

  named_suits : (names : List (List ℕ)) (entries : List Entry) (op index dims : ℕ) (i : Instr) → is_named_op op ≡ true → IsNamedInstr names entries op index dims i → Suits test max_locals i
  named_suits names entries op index dims i named is = elim (or_cases (is_field_op op) _ named) [
    | inl field ↦ of_suits (λ texts. IsFieldInstr names op texts i) i (member_at entries index) (λ texts h. field_suits names op texts i h) (is.field field)
    | inr more ↦ elim (or_cases (is_class_op op) _ more) [
      | inl class ↦ of_suits (λ text. IsClassInstr names op text i) i (class_name_at entries index) (λ text h. class_suits names op text i h) (is.class class)
      | inr rest ↦ elim (or_cases (op == 189) (op == 197) rest) [
        | inl array ↦ of_suits (λ text. IsArrayInstr names text i) i (class_name_at entries index) (λ text h. array_of_suits names text i h) (is.array (eqb-true op 189 array))
        | inr multi ↦ of_suits (λ text. IsMultiArrayInstr names dims text i) i (class_name_at entries index) (λ text h. multi_suits names dims text i h) (is.multi_array (eqb-true op 197 multi))
      ]
    ]
  ]

  -- ---- any instruction

  pub instr_suits : (names : List (List ℕ)) (entries : List Entry) (boots : List BootRow) (pc : ℕ) (ins : RawIns) (i : Instr) → has_locals max_locals ins ≡ true → leads_to test pc ins ≡ true → IsInstrOf names entries boots pc ins i → Suits test max_locals i
  instr_suits names entries boots pc ins i fits leads is = elim (cases_Bool (takes_names ins.op)) [
    | inr plain ↦ plain_suits entries pc ins i fits leads (is.plain plain)
    | inl taking ↦ elim (or_cases (is_named_op ins.op) _ taking) [
      | inl named ↦ of_suits (λ index. IsNamedInstr names entries ins.op index (dims_in ins) i) i (index_in ins) (λ index h. named_suits names entries ins.op index (dims_in ins) i named h) (is.named named)
      | inr more ↦ elim (or_cases (is_call_op ins.op) (is_site_op ins.op) more) [
        | inl call ↦ of_suits (λ index. IsOf (λ texts. IsCallInstr names ins.op texts i) (member_at entries index)) i (index_in ins) (λ index h. of_suits (λ texts. IsCallInstr names ins.op texts i) i (member_at entries index) (λ texts h. call_suits names ins.op texts i h) h) (is.call call)
        | inr computed ↦ of_suits (λ index. IsOf (λ site. IsSiteInstr names entries site i) (site_at entries boots index)) i (index_in ins) (λ index h. of_suits (λ site. IsSiteInstr names entries site i) i (site_at entries boots index) (λ site h. site_suits names entries site i h) h) (is.site computed)
      ]
    ]
  ]
