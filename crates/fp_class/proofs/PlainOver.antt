-- An instruction that takes no name from the constant pool asks for nothing of a table of names.
use Rattle.std.proofs.Common.{◌≡◌, ℕ, ◌-◌, Bool, true, false, cond, ◌||◌, ◌==◌, List, [], Option, Some, None, codes, refl, subst}
use Rattle.std.specs.Prelude.{nat_lt, slice_index, IfSome}
use Rattle.std.specs.Int.{w8, w16}
use Rattle.std.specs.Option.{option_map, option_or}
use Rattle.fp_model.specs.declared.class.instr.Instr.{Instr}
use Rattle.fp_model.specs.declared.class.instr.Instr.TheVariants as instr
use Rattle.fp_model.specs.declared.kind.Kind.{Kind}
use Rattle.fp_model.specs.declared.raw.attribute.RawIns.{RawIns}
use Rattle.fp_model.specs.declared.raw.pool.Entry.{Entry}
use Rattle.fp_model.specs.declared.raw.pool.Entry.TheVariants as entry
use Rattle.fp_model.specs.Branches.{far_target, near_target, targets_of}
use Rattle.fp_model.specs.CodeOver.{IsElementOver, IsInstrOver}
use Rattle.fp_model.specs.Descriptor.{is_among}
use Rattle.fp_model.specs.Form.{form_of}
use Rattle.fp_model.specs.Instructions.{constant_instr, descr_instr, entry_instr, fixed_instr, found, found_entry, letter_instr, local_in, operand_instr, places_after, plain_instr, primitive_array, primitive_kind, short_place, switch_instr, type_sort}
use Rattle.fp_model.specs.Reading.{number_at}
use Rattle.fp_model.specs.References.{descr_at}

either : {A : Type 0} (P : A → Type 0) (b : Bool) (x y : A) → P x → P y → P (cond b x y)
either P true x y one other = one
either P false x y one other = other

module _ (names : List (List ℕ)) where
  abbrev Over : Option Instr → Type 0
  Over o = IfSome o (IsInstrOver names)

  row : (b : Bool) (x y : Option Instr) → Over x → Over y → Over (cond b x y)
  row true x y here later = here
  row false x y here later = later

  or_over : (o p : Option Instr) → Over o → Over p → Over (option_or o p)
  or_over None p first second = second
  or_over (Some i) p first second = first

  map_over : {A : Type 0} (f : A → Instr) (o : Option A) → ((x : A) → IsInstrOver names (f x)) → Over (option_map f o)
  map_over f None over = tt
  map_over f (Some x) over = over x

  -- ---- by the opcode alone

  fixed_over : (op : ℕ) → Over (fixed_instr op)
  unfolding fixed_instr
  fixed_over op =
      row (op == 0) _ _ tt
      (row (op == 1) _ _ tt
      (row (nat_lt op 9) _ _ tt
      (row (nat_lt op 11) _ _ tt
      (row (nat_lt op 14) _ _ tt
      (row (nat_lt op 16) _ _ tt
      (row (nat_lt op 18) _ _ tt
      (row (nat_lt op 26) _ _ tt
      (row (nat_lt op 46) _ _ tt
      (row (nat_lt op 54) _ _ tt
      (row (nat_lt op 59) _ _ tt
      (row (nat_lt op 79) _ _ tt
      (row (nat_lt op 87) _ _ tt
      (row (nat_lt op 96) _ _ tt
      (row (op == 132) _ _ tt
      (row (nat_lt op 153) _ _ tt
      (row (nat_lt op 172) _ _ tt
      (row (nat_lt op 178) _ _ tt
      (row (op == 190) _ _ tt
      (row (op == 191) _ _ tt
      (row ((op == 194) || (op == 195)) _ _ tt tt))))))))))))))))))))

  -- ---- by its operands

  abbrev Primitive : Option Kind → Type 0
  Primitive o = IfSome o (IsElementOver names 1)

  primitive_over : (code : ℕ) → Primitive (primitive_kind code)
  primitive_over code =
      either Primitive (code == 4) _ _ refl
      (either Primitive (code == 5) _ _ refl
      (either Primitive (code == 6) _ _ refl
      (either Primitive (code == 7) _ _ refl
      (either Primitive (code == 8) _ _ refl
      (either Primitive (code == 9) _ _ refl
      (either Primitive (code == 10) _ _ refl
      (either Primitive (code == 11) _ _ refl tt)))))))

  kind_over : (k : Option Kind) → Primitive k → Over (option_map (λ k. instr.NewArray 1 k) k)
  kind_over None over = tt
  kind_over (Some k) over = over

  array_over : (code : Option ℕ) → Over (primitive_array code)
  array_over None = tt
  array_over (Some code) = kind_over (primitive_kind code) (primitive_over code)

  operand_over : (pc : ℕ) (ins : RawIns) → Over (operand_instr pc ins)
  unfolding operand_instr
  operand_over pc ins =
      let op = ins.op in
      row (nat_lt op 21) _ _ tt
      (row (nat_lt op 26) _ _ (map_over (λ at. instr.Load (type_sort (op - 21)) at) (local_in ins) (λ at. tt))
      (row (nat_lt op 54) _ _ tt
      (row (nat_lt op 59) _ _ (map_over (λ at. instr.Store (type_sort (op - 54)) at) (local_in ins) (λ at. tt))
      (row (op == 132) _ _ (map_over (λ at. instr.Inc at) (local_in ins) (λ at. tt))
      (row (nat_lt op 153) _ _ tt
      (row (nat_lt op 167) _ _ (map_over (λ to. instr.If op to) (short_place (near_target pc ins.args 0)) (λ to. tt))
      (row (op == 167) _ _ (map_over (λ to. instr.Goto to) (short_place (near_target pc ins.args 0)) (λ to. tt))
      (row (op == 188) _ _ (array_over (found (number_at w8 ins.args 0)))
      (row ((op == 198) || (op == 199)) _ _ (map_over (λ to. instr.If op to) (short_place (near_target pc ins.args 0)) (λ to. tt))
      (row (op == 200) _ _ (map_over (λ to. instr.Goto to) (short_place (far_target pc ins.args 0)) (λ to. tt)) tt))))))))))

  switch_over : (pc : ℕ) (ins : RawIns) → Over (switch_instr pc ins)
  unfolding switch_instr
  switch_over pc ins =
      row ((ins.op == 170) || (ins.op == 171)) _ _ (map_over (λ to. instr.Switch to) (places_after [] (targets_of pc (form_of ins.op) ins.args)) (λ to. tt)) tt

  -- ---- by a constant

  letter_over : (letter : ℕ) → IsInstrOver names (letter_instr letter)
  letter_over letter =
      let P : Instr → Type 0 = IsInstrOver names in
      either P (is_among (codes "BCISZ") letter) _ _ tt
      (either P (letter == 74) _ _ tt
      (either P (letter == 70) _ _ tt
      (either P (letter == 68) _ _ tt tt)))

  descr_over : (descr : Option (List ℕ)) → Over (descr_instr descr)
  descr_over None = tt
  descr_over (Some descr) = letter_over (slice_index descr 0)

  entry_over : (entries : List Entry) (e : Option Entry) → Over (entry_instr entries e)
  entry_over entries (Some (entry.Integer bits)) = tt
  entry_over entries (Some (entry.Float bits)) = tt
  entry_over entries (Some (entry.Long bits)) = tt
  entry_over entries (Some (entry.Double bits)) = tt
  entry_over entries (Some (entry.Class name)) = tt
  entry_over entries (Some (entry.Text text)) = tt
  entry_over entries (Some (entry.Handle kind index)) = tt
  entry_over entries (Some (entry.MethodType descr)) = tt
  entry_over entries (Some (entry.Dynamic boot pair)) = descr_over (descr_at entries pair)
  entry_over entries _ = tt

  constant_over : (entries : List Entry) (ins : RawIns) → Over (constant_instr entries ins)
  unfolding constant_instr
  constant_over entries ins =
      row (ins.op == 18) _ _ (entry_over entries (found_entry entries (found (number_at w8 ins.args 0))))
      (row ((ins.op == 19) || (ins.op == 20)) _ _ (entry_over entries (found_entry entries (found (number_at w16 ins.args 0)))) tt)

  -- ---- all of these

  pub plain_over : (entries : List Entry) (pc : ℕ) (ins : RawIns) (i : Instr) → plain_instr entries pc ins ≡ Some i → IsInstrOver names i
  plain_over entries pc ins i is =
      let all : Over (plain_instr entries pc ins) =
      or_over (fixed_instr ins.op) _ (fixed_over ins.op)
      (or_over (operand_instr pc ins) _ (operand_over pc ins)
      (or_over (constant_instr entries ins) (switch_instr pc ins) (constant_over entries ins) (switch_over pc ins))) in
      subst Over is all
