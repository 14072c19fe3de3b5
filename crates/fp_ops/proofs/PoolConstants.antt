-- Constants that can be loaded of a constant pool without a fault.
use Rattle.std.proofs.Common.{◌≡◌, ℕ, ◌+◌, ◌<◌, true, List, Option, Some, Ok, refl, ap, ◌∙◌, arith}
use Rattle.std.specs.Prelude.{slice_get, is_some}
use Rattle.fp_model.specs.declared.raw.pool.Entry.{Entry}
use Rattle.fp_model.specs.declared.raw.pool.Entry.TheVariants as entry
use Rattle.fp_model.specs.Descriptor.{is_field_descriptor}
use Rattle.fp_model.specs.References.{descr_at, descr_index_in, entry_checked, text_of_index}
use Rattle.fp_model.specs.Decoding.{constant_words}
use Rattle.fp_model.specs.Instructions.{descr_instr, entry_instr}
use Rattle.fp_ops.specs.Checked.{IsCheckedPool}
use Rattle.fp_ops.proofs.PoolMembers.{pair_there}
use Rattle.fp_ops.proofs.PoolTexts.{at_index}

module _ (entries : List Entry) (checked : IsCheckedPool entries) where
  constant_passes : (o : Option Entry) → ((x : Entry) → o ≡ Some x → (at : ℕ) × (entry_checked entries at x ≡ Ok tt)) → 0 < constant_words entries o → is_some (entry_instr entries o) ≡ true
  unfolding entry_checked
  constant_passes (Some (entry.Integer bits)) check some = refl
  constant_passes (Some (entry.Float bits)) check some = refl
  constant_passes (Some (entry.Long bits)) check some = refl
  constant_passes (Some (entry.Double bits)) check some = refl
  constant_passes (Some (entry.Class name)) check some = refl
  constant_passes (Some (entry.Text text)) check some = refl
  constant_passes (Some (entry.Handle kind index)) check some = refl
  constant_passes (Some (entry.MethodType descr)) check some = refl
  constant_passes (Some (entry.Dynamic boot pair)) check some =
      let passed = check (entry.Dynamic boot pair) refl in
      let both = pair_there entries checked is_field_descriptor is_field_descriptor (λ text either is. is) (passed.0 + 3) pair passed.1 in
      let there : descr_at entries pair ≡ Some both.descr.words = ap (λ o. text_of_index entries (descr_index_in o)) both.is ∙ both.descr.is in
      ap (λ o. is_some (descr_instr o)) there
  constant_passes _ check some = absurd (omega (arith, some))

  pub constant_there : (index : ℕ) → 0 < constant_words entries (slice_get entries index) → is_some (entry_instr entries (slice_get entries index)) ≡ true
  constant_there index some = constant_passes (slice_get entries index) (at_index entries checked index) some
