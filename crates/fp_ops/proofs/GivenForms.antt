-- What an instruction asks for is there, by its opcode.
use Rattle.std.proofs.Common.{◌≡◌, inl, inr, ℕ, ◌+◌, ◌-◌, ◌<◌, ◌≤◌, Bool, true, false, ◌&&◌, ◌||◌, ◌==◌, List, [], eqb, ltb, Option, Some, None, refl, ap, ◌∙◌, subst, arith}
use Rattle.std.specs.Prelude.{if◌then◌else◌, is_some, nat_le, nat_lt, slice_get}
use Rattle.std.specs.Int.{w8, w16}
use Rattle.std.specs.List.{list_all}
use Rattle.std.specs.Option.{option_map, option_or}
use Rattle.std.proofs.lemmas.Bool.{and_from, and_parts, cases_Bool, cases_lt, cond-false, cond-true, eqb-false, eqb-true, ltb-false, ltb-true, or_parts}
use Rattle.std.proofs.lemmas.Bool.Decides.{nat_tests}
use Rattle.fp_model.specs.declared.class.instr.Instr.{Instr}
use Rattle.fp_model.specs.declared.class.instr.Instr.TheVariants as instr
use Rattle.fp_model.specs.declared.form.Form.{Form}
use Rattle.fp_model.specs.declared.raw.attribute.BootRow.{BootRow}
use Rattle.fp_model.specs.declared.raw.attribute.RawIns.{RawIns}
use Rattle.fp_model.specs.declared.raw.pool.Entry.{Entry}
use Rattle.fp_model.specs.Branches.{far_target, near_target, targets_of}
use Rattle.fp_model.specs.Decoding.{constant_words}
use Rattle.fp_model.specs.Descriptor.{is_array_like, is_class_text, is_method_descriptor}
use Rattle.fp_model.specs.Entries.{class_name_at, is_class_index, passes, tag_at}
use Rattle.fp_model.specs.Form.{form_of}
use Rattle.fp_model.specs.Instructions.{constant_instr, entry_instr, fixed_instr, found, found_entry, local_in, operand_instr, places_after, plain_instr, primitive_array, primitive_kind, short_place, switch_instr, type_sort}
use Rattle.fp_model.specs.NamedInstructions.{is_array_text, is_call_op, is_class_op, is_entry_text, is_field_op, is_named_sound, member_at}
use Rattle.fp_model.specs.Reading.{number_at}
use Rattle.fp_model.specs.References.{holds_of}
use Rattle.fp_ops.specs.CallSites.{is_sound_site_at}
use Rattle.fp_ops.specs.Checked.{GivesForms}
use Rattle.fp_ops.specs.Forms.{index_in, is_named_op, is_site_op, is_sound_ins, takes_names}
use Rattle.fp_ops.proofs.AskedOperands.{asked, is_asked, local_width}
use Rattle.fp_ops.proofs.NamedParts.{passes-is_some}
use Rattle.fp_ops.proofs.ShortTargets.{far_there, is_short, near_there, passes_weaker, places_there}

-- ---- chains of tests

-- the row of a table by opcodes that is the first to be passed
below : {G : Type 0} (P : Form → Type 0) (op n : ℕ) {x y : Form} → P (if nat_lt op n then x else y) → (op < n → P x → G) → (n ≤ op → P y → G) → G
below P op n {x} {y} row here later = elim (cases_Bool (ltb op n)) [
  | inl is ↦ here (ltb-true op n is) (subst P (cond-true (ltb op n) x y is) row)
  | inr past ↦ later (ltb-false op n past) (subst P (cond-false (ltb op n) x y past) row)
]

above : (op n : ℕ) → n ≤ op → eqb op n ≡ false → n < op
above op n least other = elim (cases_lt n op) [
  | inl lt ↦ lt
  | inr ge ↦ absurd (eqb-false op n other (omega (arith, least, ge)))
]

one : {G : Type 0} (P : Form → Type 0) (op n : ℕ) {x y : Form} → n ≤ op → P (if op == n then x else y) → (op ≡ n → P x → G) → (n < op → P y → G) → G
one P op n {x} {y} least row here later = elim (cases_Bool (eqb op n)) [
  | inl is ↦ here (eqb-true op n is) (subst P (cond-true (eqb op n) x y is) row)
  | inr other ↦ later (above op n least other) (subst P (cond-false (eqb op n) x y other) row)
]

-- there is something behind a test that isn't passed, and at one that is
some_later : {A : Type 0} (b : Bool) (x y : Option A) → b ≡ false → is_some y ≡ true → is_some (if b then x else y) ≡ true
some_later b x y past there = ap is_some (cond-false b x y past) ∙ there

some_here : {A : Type 0} (b : Bool) (x y : Option A) → b ≡ true → is_some x ≡ true → is_some (if b then x else y) ≡ true
some_here b x y is there = ap is_some (cond-true b x y is) ∙ there

past_lt : (op n : ℕ) → n ≤ op → nat_lt op n ≡ false
past_lt op n le = grind (arith, nat_tests)

here_lt : (op n : ℕ) → op < n → nat_lt op n ≡ true
here_lt op n lt = grind (arith, nat_tests)

past_eq : (op n : ℕ) → n < op → (op == n) ≡ false
past_eq op n lt = grind (arith, nat_tests)

here_eq : (op n : ℕ) → op ≡ n → (op == n) ≡ true
here_eq op n is = grind (arith, nat_tests)

past_two : (op n m : ℕ) → n < op → m < op → ((op == n) || (op == m)) ≡ false
past_two op n m lt ltm = grind (arith, nat_tests)

here_two : (op n : ℕ) → n ≤ op → op < n + 2 → ((op == n) || (op == n + 1)) ≡ true
here_two op n le lt = grind (arith, nat_tests)

some_map : {A B : Type 0} (f : A → B) (o : Option A) → is_some o ≡ true → is_some (option_map f o) ≡ true
some_map f None is = absurd (cc)
some_map f (Some x) is = refl

some_first : {A : Type 0} (o p : Option A) → is_some o ≡ true → is_some (option_or o p) ≡ true
some_first None p is = absurd (cc)
some_first (Some x) p is = refl

some_second : {A : Type 0} (o p : Option A) → is_some p ≡ true → is_some (option_or o p) ≡ true
some_second None p is = is
some_second (Some x) p is = refl

false_true : false ≡ true → ⊥
false_true is = absurd (cc)

either : (b : Bool) → (b || b) ≡ true → b ≡ true
either true is = refl
either false is = absurd (cc)

-- ---- by the opcode alone

fixed_low : (op : ℕ) → op < 18 → is_some (fixed_instr op) ≡ true
unfolding fixed_instr
fixed_low op lt = grind (arith, nat_tests)

fixed_loads : (op : ℕ) → 26 ≤ op → op < 54 → is_some (fixed_instr op) ≡ true
unfolding fixed_instr
fixed_loads op le lt = grind (arith, nat_tests)

fixed_stores : (op : ℕ) → 59 ≤ op → op < 132 → is_some (fixed_instr op) ≡ true
unfolding fixed_instr
fixed_stores op le lt = grind (arith, nat_tests)

fixed_changes : (op : ℕ) → 132 < op → op < 153 → is_some (fixed_instr op) ≡ true
unfolding fixed_instr
fixed_changes op le lt = grind (arith, nat_tests)

fixed_returns : (op : ℕ) → 172 ≤ op → op < 178 → is_some (fixed_instr op) ≡ true
unfolding fixed_instr
fixed_returns op le lt = grind (arith, nat_tests)

fixed_high : (op : ℕ) → 190 ≤ op → op < 192 → is_some (fixed_instr op) ≡ true
unfolding fixed_instr
fixed_high op le lt = grind (arith, nat_tests)

fixed_monitors : (op : ℕ) → 194 ≤ op → op < 196 → is_some (fixed_instr op) ≡ true
unfolding fixed_instr
fixed_monitors op le lt = grind (arith, nat_tests)

-- ---- which opcodes take names

none_low : (op : ℕ) → op < 178 → takes_names op ≡ false
none_low op lt = grind (arith, nat_tests)

none_primitive : (op : ℕ) → op ≡ 188 → takes_names op ≡ false
none_primitive op is = grind (arith, nat_tests)

none_middle : (op : ℕ) → 190 ≤ op → op < 192 → takes_names op ≡ false
none_middle op le lt = grind (arith, nat_tests)

none_monitors : (op : ℕ) → 194 ≤ op → op < 196 → takes_names op ≡ false
none_monitors op le lt = grind (arith, nat_tests)

none_high : (op : ℕ) → 197 < op → takes_names op ≡ false
none_high op lt = grind (arith, nat_tests)

is_field : (op : ℕ) → 178 ≤ op → op < 182 → is_field_op op ≡ true
is_field op le lt = grind (arith, nat_tests)

no_field : (op : ℕ) → 182 ≤ op → is_field_op op ≡ false
no_field op le = grind (arith, nat_tests)

new_class : (op : ℕ) → op ≡ 187 → is_class_op op ≡ true
new_class op is = grind (arith, nat_tests)

type_class : (op : ℕ) → 192 ≤ op → op < 194 → is_class_op op ≡ true
type_class op le lt = grind (arith, nat_tests)

array_no_class : (op : ℕ) → op ≡ 189 → is_class_op op ≡ false
array_no_class op is = grind (arith, nat_tests)

multi_no_class : (op : ℕ) → op ≡ 197 → is_class_op op ≡ false
multi_no_class op is = grind (arith, nat_tests)

named_field : (op : ℕ) → 178 ≤ op → op < 182 → is_named_op op ≡ true
named_field op le lt = grind (arith, nat_tests)

named_new : (op : ℕ) → op ≡ 187 → is_named_op op ≡ true
named_new op is = grind (arith, nat_tests)

named_array : (op : ℕ) → op ≡ 189 → is_named_op op ≡ true
named_array op is = grind (arith, nat_tests)

named_type : (op : ℕ) → 192 ≤ op → op < 194 → is_named_op op ≡ true
named_type op le lt = grind (arith, nat_tests)

named_multi : (op : ℕ) → op ≡ 197 → is_named_op op ≡ true
named_multi op is = grind (arith, nat_tests)

no_name : (op : ℕ) → 182 ≤ op → op < 187 → is_named_op op ≡ false
no_name op le lt = grind (arith, nat_tests)

is_call : (op : ℕ) → 182 ≤ op → op < 186 → is_call_op op ≡ true
is_call op le lt = grind (arith, nat_tests)

no_call : (op : ℕ) → op ≡ 186 → is_call_op op ≡ false
no_call op is = grind (arith, nat_tests)

-- ---- by operands

module _ (pc : ℕ) (ins : RawIns) where
  load_there : 21 ≤ ins.op → ins.op < 26 → is_some (local_in ins) ≡ true → is_some (operand_instr pc ins) ≡ true
  unfolding operand_instr
  load_there le lt there =
      some_later (nat_lt ins.op 21) _ _ (past_lt ins.op 21 le)
      (some_here (nat_lt ins.op 26) _ _ (here_lt ins.op 26 lt) (some_map _ (local_in ins) there))

  store_there : 54 ≤ ins.op → ins.op < 59 → is_some (local_in ins) ≡ true → is_some (operand_instr pc ins) ≡ true
  unfolding operand_instr
  store_there le lt there =
      some_later (nat_lt ins.op 21) _ _ (past_lt ins.op 21 (omega (arith, le)))
      (some_later (nat_lt ins.op 26) _ _ (past_lt ins.op 26 (omega (arith, le)))
      (some_later (nat_lt ins.op 54) _ _ (past_lt ins.op 54 le)
      (some_here (nat_lt ins.op 59) _ _ (here_lt ins.op 59 lt) (some_map _ (local_in ins) there))))

  -- behind the loads and stores
  operand_later : (rest : Option Instr) → 59 ≤ ins.op → is_some rest ≡ true → is_some (if nat_lt ins.op 21 then None else if nat_lt ins.op 26 then option_map (λ at. instr.Load (type_sort (ins.op - 21)) at) (local_in ins) else if nat_lt ins.op 54 then None else if nat_lt ins.op 59 then option_map (λ at. instr.Store (type_sort (ins.op - 54)) at) (local_in ins) else rest) ≡ true
  operand_later rest le there =
      some_later (nat_lt ins.op 21) _ _ (past_lt ins.op 21 (omega (arith, le)))
      (some_later (nat_lt ins.op 26) _ _ (past_lt ins.op 26 (omega (arith, le)))
      (some_later (nat_lt ins.op 54) _ _ (past_lt ins.op 54 (omega (arith, le)))
      (some_later (nat_lt ins.op 59) _ _ (past_lt ins.op 59 le) there)))

  increment_there : ins.op ≡ 132 → is_some (local_in ins) ≡ true → is_some (operand_instr pc ins) ≡ true
  unfolding operand_instr
  increment_there is there = operand_later _ (omega (arith, is)) (some_here (ins.op == 132) _ _ (here_eq ins.op 132 is) (some_map _ (local_in ins) there))

  -- a branch of two bytes
  if_there : 153 ≤ ins.op → ins.op < 168 → is_some (short_place (near_target pc ins.args 0)) ≡ true → is_some (operand_instr pc ins) ≡ true
  unfolding operand_instr
  if_there le lt there =
      operand_later _ (omega (arith, le))
      (some_later (ins.op == 132) _ _ (past_eq ins.op 132 (omega (arith, le)))
      (some_later (nat_lt ins.op 153) _ _ (past_lt ins.op 153 le)
      (elim (cases_Bool (nat_lt ins.op 167)) [
        | inl is ↦ some_here (nat_lt ins.op 167) _ _ is (some_map _ (short_place (near_target pc ins.args 0)) there)
        | inr past ↦
            some_later (nat_lt ins.op 167) _ _ past
            (some_here (ins.op == 167) _ _ (here_eq ins.op 167 (omega (arith, ltb-false ins.op 167 past, lt))) (some_map _ (short_place (near_target pc ins.args 0)) there))
      ])))

  -- behind the branches of two bytes and `goto`
  branch_later : (rest : Option Instr) → 167 < ins.op → is_some rest ≡ true → is_some (if ins.op == 132 then option_map (λ at. instr.Inc at) (local_in ins) else if nat_lt ins.op 153 then None else if nat_lt ins.op 167 then option_map (λ to. instr.If ins.op to) (short_place (near_target pc ins.args 0)) else if ins.op == 167 then option_map (λ to. instr.Goto to) (short_place (near_target pc ins.args 0)) else rest) ≡ true
  branch_later rest le there =
      some_later (ins.op == 132) _ _ (past_eq ins.op 132 (omega (arith, le)))
      (some_later (nat_lt ins.op 153) _ _ (past_lt ins.op 153 (omega (arith, le)))
      (some_later (nat_lt ins.op 167) _ _ (past_lt ins.op 167 (omega (arith, le)))
      (some_later (ins.op == 167) _ _ (past_eq ins.op 167 le) there)))

  primitive_there : ins.op ≡ 188 → is_some (primitive_array (found (number_at w8 ins.args 0))) ≡ true → is_some (operand_instr pc ins) ≡ true
  unfolding operand_instr
  primitive_there is there = operand_later _ (omega (arith, is)) (branch_later _ (omega (arith, is)) (some_here (ins.op == 188) _ _ (here_eq ins.op 188 is) there))

  null_there : 198 ≤ ins.op → ins.op < 200 → is_some (short_place (near_target pc ins.args 0)) ≡ true → is_some (operand_instr pc ins) ≡ true
  unfolding operand_instr
  null_there le lt there =
      operand_later _ (omega (arith, le))
      (branch_later _ (omega (arith, le))
      (some_later (ins.op == 188) _ _ (past_eq ins.op 188 (omega (arith, le)))
      (some_here ((ins.op == 198) || (ins.op == 199)) _ _ (here_two ins.op 198 le (omega (arith, lt))) (some_map _ (short_place (near_target pc ins.args 0)) there))))

  far_goto_there : ins.op ≡ 200 → is_some (short_place (far_target pc ins.args 0)) ≡ true → is_some (operand_instr pc ins) ≡ true
  unfolding operand_instr
  far_goto_there is there =
      operand_later _ (omega (arith, is))
      (branch_later _ (omega (arith, is))
      (some_later (ins.op == 188) _ _ (past_eq ins.op 188 (omega (arith, is)))
      (some_later ((ins.op == 198) || (ins.op == 199)) _ _ (past_two ins.op 198 199 (omega (arith, is)) (omega (arith, is)))
      (some_here (ins.op == 200) _ _ (here_eq ins.op 200 is) (some_map _ (short_place (far_target pc ins.args 0)) there)))))

  switch_there : ((ins.op == 170) || (ins.op == 171)) ≡ true → list_all (passes is_short) (targets_of pc (form_of ins.op) ins.args) ≡ true → is_some (switch_instr pc ins) ≡ true
  unfolding switch_instr
  switch_there is short = some_here ((ins.op == 170) || (ins.op == 171)) _ _ is (some_map _ (places_after [] (targets_of pc (form_of ins.op) ins.args)) (places_there [] (targets_of pc (form_of ins.op) ins.args) short))

is_primitive : (code : ℕ) → (nat_le 4 code && nat_le code 11) ≡ true → is_some (primitive_kind code) ≡ true
is_primitive code is = grind (arith, nat_tests)

array_of : (o : Option ℕ) → passes (λ code. nat_le 4 code && nat_le code 11) o ≡ true → is_some (primitive_array o) ≡ true
array_of None is = absurd (cc)
array_of (Some code) is = some_map _ (primitive_kind code) (is_primitive code is)

-- ---- by a constant

module _ (entries : List Entry) (boots : List BootRow) (given : GivesForms entries boots) where
  constant_of : (words : ℕ) (o : Option ℕ) → 0 < words → passes (λ index. constant_words entries (slice_get entries index) == words) o ≡ true → is_some (entry_instr entries (found_entry entries o)) ≡ true
  constant_of words None some is = absurd (cc)
  constant_of words (Some index) some is = given.constant index (omega (arith, some, eqb-true (constant_words entries (slice_get entries index)) words is))

  short_load : (ins : RawIns) → ins.op ≡ 18 → passes (λ index. constant_words entries (slice_get entries index) == 1) (found (number_at w8 ins.args 0)) ≡ true → is_some (constant_instr entries ins) ≡ true
  unfolding constant_instr
  short_load ins is words = some_here (ins.op == 18) _ _ (here_eq ins.op 18 is) (constant_of 1 (found (number_at w8 ins.args 0)) (omega arith) words)

  long_load : (ins : RawIns) (words : ℕ) → 0 < words → 19 ≤ ins.op → ins.op < 21 → passes (λ index. constant_words entries (slice_get entries index) == words) (found (number_at w16 ins.args 0)) ≡ true → is_some (constant_instr entries ins) ≡ true
  unfolding constant_instr
  long_load ins words some le lt is =
      some_later (ins.op == 18) _ _ (past_eq ins.op 18 le)
      (some_here ((ins.op == 19) || (ins.op == 20)) _ _ (here_two ins.op 19 le lt) (constant_of words (found (number_at w16 ins.args 0)) some is))

  -- ---- by names

  field_sound : (op index : ℕ) → 178 ≤ op → op < 182 → ((tag_at entries index == 9) || (tag_at entries index == 9)) ≡ true → is_named_sound entries op index ≡ true
  field_sound op index le lt tag = cond-true (is_field_op op) _ _ (is_field op le lt) ∙ given.field index (eqb-true (tag_at entries index) 9 (either (tag_at entries index == 9) tag))

  class_there : (index : ℕ) → ((tag_at entries index == 7) || (tag_at entries index == 7)) ≡ true → passes (is_entry_text is_class_text) (class_name_at entries index) ≡ true
  class_there index tag = given.class index (eqb-true (tag_at entries index) 7 (either (tag_at entries index == 7) tag))

  class_sound : (op index : ℕ) → 182 ≤ op → is_class_op op ≡ true → is_some (class_name_at entries index) ≡ true → is_named_sound entries op index ≡ true
  class_sound op index le is there = cond-false (is_field_op op) _ _ (no_field op le) ∙ cond-true (is_class_op op) _ _ is ∙ there

  array_sound : (op index : ℕ) → op ≡ 189 → ((tag_at entries index == 7) || (tag_at entries index == 7)) ≡ true → is_named_sound entries op index ≡ true
  array_sound op index is tag =
      cond-false (is_field_op op) _ _ (no_field op (omega (arith, is))) ∙ cond-false (is_class_op op) _ _ (array_no_class op is) ∙ cond-true (op == 189) _ _ (here_eq op 189 is) ∙ class_there index tag

  held : (test good : List ℕ → Bool) (o : Option (List ℕ)) → passes good o ≡ true → holds_of test o ≡ true → passes test o ≡ true
  held test good None there holds = absurd (cc)
  held test good (Some text) there holds = holds

  multi_sound : (op index : ℕ) → op ≡ 197 → (((tag_at entries index == 7) || (tag_at entries index == 7)) && holds_of is_array_like (class_name_at entries index)) ≡ true → is_named_sound entries op index ≡ true
  multi_sound op index is asks =
      let parts = and_parts ((tag_at entries index == 7) || (tag_at entries index == 7)) (holds_of is_array_like (class_name_at entries index)) asks in
      let tag = eqb-true (tag_at entries index) 7 (either (tag_at entries index == 7) parts.0) in
      let like = held is_array_like (is_entry_text is_class_text) (class_name_at entries index) (class_there index parts.0) parts.1 in
      cond-false (is_field_op op) _ _ (no_field op (omega (arith, is))) ∙ cond-false (is_class_op op) _ _ (multi_no_class op is) ∙ cond-false (op == 189) _ _ (past_eq op 189 (omega (arith, is)))
      ∙ and_from (op == 197) (passes (is_entry_text is_array_text) (class_name_at entries index)) (here_eq op 197 is) (given.array index tag like)

  class_index_sound : (op index : ℕ) → op ≡ 187 → is_class_index entries index ≡ true → is_named_sound entries op index ≡ true
  class_index_sound op index is class = class_sound op index (omega (arith, is)) (new_class op is) (passes-is_some _ (class_name_at entries index) class)

  type_sound : (op index : ℕ) → 192 ≤ op → op < 194 → ((tag_at entries index == 7) || (tag_at entries index == 7)) ≡ true → is_named_sound entries op index ≡ true
  type_sound op index le lt tag = class_sound op index (omega (arith, le)) (type_class op le lt) (passes-is_some _ (class_name_at entries index) (class_there index tag))

  -- ---- by the form

  module _ (pc : ℕ) (ins : RawIns) where
    plain_sound : takes_names ins.op ≡ false → is_some (plain_instr entries pc ins) ≡ true → is_sound_ins entries boots pc ins ≡ true
    plain_sound none there =
        let names = or_parts (is_named_op ins.op) (is_call_op ins.op || is_site_op ins.op) none in
        let calls = or_parts (is_call_op ins.op) (is_site_op ins.op) names.1 in
        cond-false (is_named_op ins.op) _ _ names.0 ∙ cond-false (is_call_op ins.op) _ _ calls.0 ∙ cond-false (is_site_op ins.op) _ _ calls.1 ∙ there

    by_fixed : takes_names ins.op ≡ false → is_some (fixed_instr ins.op) ≡ true → is_sound_ins entries boots pc ins ≡ true
    by_fixed none there = plain_sound none (some_first (fixed_instr ins.op) _ there)

    by_operands : takes_names ins.op ≡ false → is_some (operand_instr pc ins) ≡ true → is_sound_ins entries boots pc ins ≡ true
    by_operands none there = plain_sound none (some_second (fixed_instr ins.op) _ (some_first (operand_instr pc ins) _ there))

    by_constant : takes_names ins.op ≡ false → is_some (constant_instr entries ins) ≡ true → is_sound_ins entries boots pc ins ≡ true
    by_constant none there = plain_sound none (some_second (fixed_instr ins.op) _ (some_second (operand_instr pc ins) _ (some_first (constant_instr entries ins) _ there)))

    by_switch : takes_names ins.op ≡ false → is_some (switch_instr pc ins) ≡ true → is_sound_ins entries boots pc ins ≡ true
    by_switch none there = plain_sound none (some_second (fixed_instr ins.op) _ (some_second (operand_instr pc ins) _ (some_second (constant_instr entries ins) _ there)))

    by_name : (test : ℕ → Bool) → is_named_op ins.op ≡ true → ((index : ℕ) → test index ≡ true → is_named_sound entries ins.op index ≡ true) → passes test (index_in ins) ≡ true → is_sound_ins entries boots pc ins ≡ true
    by_name test named says passed = cond-true (is_named_op ins.op) _ _ named ∙ passes_weaker test (is_named_sound entries ins.op) says (index_in ins) passed

    by_call : (test : ℕ → Bool) → 182 ≤ ins.op → ins.op < 186 → ((index : ℕ) → test index ≡ true → ((tag_at entries index == 10) || (tag_at entries index == 11)) ≡ true) → passes test (index_in ins) ≡ true → is_sound_ins entries boots pc ins ≡ true
    by_call test le lt says passed =
        cond-false (is_named_op ins.op) _ _ (no_name ins.op le (omega (arith, lt))) ∙ cond-true (is_call_op ins.op) _ _ (is_call ins.op le lt)
        ∙ passes_weaker test (λ index. passes (λ texts. is_entry_text is_method_descriptor texts.descr) (member_at entries index)) (λ index is. given.method index (says index is)) (index_in ins) passed

    by_site : ins.op ≡ 186 → passes (λ index. (tag_at entries index == 18) || (tag_at entries index == 18)) (index_in ins) ≡ true → is_sound_ins entries boots pc ins ≡ true
    by_site is passed =
        cond-false (is_named_op ins.op) _ _ (no_name ins.op (omega (arith, is)) (omega (arith, is))) ∙ cond-false (is_call_op ins.op) _ _ (no_call ins.op is) ∙ cond-true (is_site_op ins.op) _ _ (here_eq ins.op 186 is)
        ∙ passes_weaker (λ index. (tag_at entries index == 18) || (tag_at entries index == 18)) (is_sound_site_at entries boots) (λ index tag. given.site index (eqb-true (tag_at entries index) 18 (either (tag_at entries index == 18) tag))) (index_in ins) passed

    local_there : passes (λ local. true) (found (number_at (local_width ins.wide) ins.args 0)) ≡ true → is_some (local_in ins) ≡ true
    local_there passed = passes-is_some _ (local_in ins) passed

    -- what the operands name is asked for, and the branches lead to short places
    record IsGiven (f : Form) : Type 0 where
      pub names : asked entries ins.wide f ins.args ≡ true
      pub leads : list_all (passes is_short) (targets_of pc f ins.args) ≡ true

    tag_method : (n : ℕ) → ((n == 10) || (n == 10)) ≡ true → ((n == 10) || (n == 11)) ≡ true
    tag_method n is = grind (arith, nat_tests)

    tag_interface : (n : ℕ) → ((n == 11) || (n == 11)) ≡ true → ((n == 10) || (n == 11)) ≡ true
    tag_interface n is = grind (arith, nat_tests)

    pub form_sound : is_asked entries ins ≡ true → list_all (passes is_short) (targets_of pc (form_of ins.op) ins.args) ≡ true → is_sound_ins entries boots pc ins ≡ true
    unfolding form_of
    form_sound names leads =
        let op = ins.op in
        let given_form : IsGiven (form_of ins.op) = record { names = names; leads = leads } in
        below IsGiven op 16 given_form (λ lt h. by_fixed (none_low op (omega (arith, lt))) (fixed_low op (omega (arith, lt)))) (λ le row.
        one IsGiven op 16 le row (λ is h. by_fixed (none_low op (omega (arith, is))) (fixed_low op (omega (arith, is)))) (λ le row.
        one IsGiven op 17 (omega (arith, le)) row (λ is h. by_fixed (none_low op (omega (arith, is))) (fixed_low op (omega (arith, is)))) (λ le row.
        one IsGiven op 18 (omega (arith, le)) row (λ is h. by_constant (none_low op (omega (arith, is))) (short_load ins is h.names)) (λ le row.
        one IsGiven op 19 (omega (arith, le)) row (λ is h. by_constant (none_low op (omega (arith, is))) (long_load ins 1 (omega arith) (omega (arith, is)) (omega (arith, is)) h.names)) (λ le row.
        one IsGiven op 20 (omega (arith, le)) row (λ is h. by_constant (none_low op (omega (arith, is))) (long_load ins 2 (omega arith) (omega (arith, is)) (omega (arith, is)) h.names)) (λ le row.
        below IsGiven op 26 row (λ lt h. by_operands (none_low op (omega (arith, lt))) (load_there pc ins (omega (arith, le)) lt (local_there h.names))) (λ le row.
        below IsGiven op 46 row (λ lt h. by_fixed (none_low op (omega (arith, lt))) (fixed_loads op le (omega (arith, lt)))) (λ le row.
        below IsGiven op 54 row (λ lt h. by_fixed (none_low op (omega (arith, lt))) (fixed_loads op (omega (arith, le)) lt)) (λ le row.
        below IsGiven op 59 row (λ lt h. by_operands (none_low op (omega (arith, lt))) (store_there pc ins le lt (local_there h.names))) (λ le row.
        below IsGiven op 79 row (λ lt h. by_fixed (none_low op (omega (arith, lt))) (fixed_stores op le (omega (arith, lt)))) (λ le row.
        below IsGiven op 132 row (λ lt h. by_fixed (none_low op (omega (arith, lt))) (fixed_stores op (omega (arith, le)) lt)) (λ le row.
        one IsGiven op 132 le row (λ is h. by_operands (none_low op (omega (arith, is))) (increment_there pc ins is (local_there h.names))) (λ le row.
        below IsGiven op 153 row (λ lt h. by_fixed (none_low op (omega (arith, lt))) (fixed_changes op le lt)) (λ le row.
        below IsGiven op 168 row (λ lt h. by_operands (none_low op (omega (arith, lt))) (if_there pc ins le lt (near_there pc ins.args h.leads))) (λ le row.
        below IsGiven op 170 row (λ lt h. absurd (false_true h.names)) (λ le row.
        one IsGiven op 170 le row (λ is h. by_switch (none_low op (omega (arith, is))) (switch_there pc ins (here_two op 170 (omega (arith, is)) (omega (arith, is))) leads)) (λ le row.
        one IsGiven op 171 (omega (arith, le)) row (λ is h. by_switch (none_low op (omega (arith, is))) (switch_there pc ins (here_two op 170 (omega (arith, is)) (omega (arith, is))) leads)) (λ le row.
        below IsGiven op 178 row (λ lt h. by_fixed (none_low op lt) (fixed_returns op (omega (arith, le)) lt)) (λ le row.
        below IsGiven op 182 row (λ lt h. by_name (λ n. (tag_at entries n == 9) || (tag_at entries n == 9)) (named_field op le lt) (λ index tag. field_sound op index le lt tag) h.names) (λ le row.
        one IsGiven op 182 le row (λ is h. by_call (λ n. (tag_at entries n == 10) || (tag_at entries n == 10)) (omega (arith, is)) (omega (arith, is)) (λ index tag. tag_method (tag_at entries index) tag) h.names) (λ le row.
        below IsGiven op 185 row (λ lt h. by_call (λ n. (tag_at entries n == 10) || (tag_at entries n == 11)) (omega (arith, le)) (omega (arith, lt)) (λ index tag. tag) h.names) (λ le row.
        one IsGiven op 185 le row (λ is h. by_call (λ n. (tag_at entries n == 11) || (tag_at entries n == 11)) (omega (arith, is)) (omega (arith, is)) (λ index tag. tag_interface (tag_at entries index) tag) h.names) (λ le row.
        one IsGiven op 186 (omega (arith, le)) row (λ is h. by_site is h.names) (λ le row.
        one IsGiven op 187 (omega (arith, le)) row (λ is h. by_name (is_class_index entries) (named_new op is) (λ index class. class_index_sound op index is class) h.names) (λ le row.
        one IsGiven op 188 (omega (arith, le)) row (λ is h. by_operands (none_primitive op is) (primitive_there pc ins is (array_of (found (number_at w8 ins.args 0)) h.names))) (λ le row.
        one IsGiven op 189 (omega (arith, le)) row (λ is h. by_name (λ n. (tag_at entries n == 7) || (tag_at entries n == 7)) (named_array op is) (λ index tag. array_sound op index is tag) h.names) (λ le row.
        below IsGiven op 192 row (λ lt h. by_fixed (none_middle op (omega (arith, le)) lt) (fixed_high op (omega (arith, le)) lt)) (λ le row.
        below IsGiven op 194 row (λ lt h. by_name (λ n. (tag_at entries n == 7) || (tag_at entries n == 7)) (named_type op le lt) (λ index tag. type_sound op index le lt tag) h.names) (λ le row.
        below IsGiven op 196 row (λ lt h. by_fixed (none_monitors op le lt) (fixed_monitors op le lt)) (λ le row.
        one IsGiven op 196 le row (λ is h. absurd (false_true h.names)) (λ le row.
        one IsGiven op 197 (omega (arith, le)) row (λ is h. by_name (λ n. ((tag_at entries n == 7) || (tag_at entries n == 7)) && holds_of is_array_like (class_name_at entries n)) (named_multi op is) (λ index asks. multi_sound op index is asks) h.names) (λ le row.
        below IsGiven op 200 row (λ lt h. by_operands (none_high op (omega (arith, le))) (null_there pc ins (omega (arith, le)) lt (near_there pc ins.args h.leads))) (λ le row.
        one IsGiven op 200 le row (λ is h. by_operands (none_high op (omega (arith, is))) (far_goto_there pc ins is (far_there pc ins.args h.leads))) (λ le row.
        one IsGiven op 201 (omega (arith, le)) row (λ is h. absurd (false_true h.names)) (λ le row.
        absurd (false_true row.names))))))))))))))))))))))))))))))))))))
