-- Method handles and call sites of a constant pool without a fault.
use Rattle.std.proofs.Common.{◌≡◌, ℕ, ◌+◌, true, ◌&&◌, ◌==◌, List, [], ◌∷◌, Option, Some, None, Ok, length, refl, ap, ◌∙◌, arith}
use Rattle.std.specs.Prelude.{slice_get, is_some, nat_le}
use Rattle.std.specs.List.{list_all}
use Rattle.std.proofs.lemmas.Bool.{and_from, eqb-true, ltb-true}
use Rattle.std.proofs.lemmas.Bool.Decides.{nat_tests}
use Rattle.fp_model.specs.declared.raw.pool.Entry.{Entry}
use Rattle.fp_model.specs.declared.raw.pool.Entry.TheVariants as entry
use Rattle.fp_model.specs.Descriptor.{is_method_descriptor}
use Rattle.fp_model.specs.NamedInstructions.{is_entry_text, member_at, MemberTexts}
use Rattle.fp_model.specs.Reading.{demanded}
use Rattle.fp_model.specs.Entries.{tag_at, tag_in, passes, text_at}
use Rattle.fp_model.specs.References.{entry_checked, handle_checked, suits_handle}
use Rattle.fp_model.proofs.Readers.{opened, demanded-true}
use Rattle.fp_model.specs.declared.raw.attribute.BootRow.{BootRow}
use Rattle.fp_ops.specs.CallSites.{handle_at, handle_in, handle_with, is_sound_arg_at, is_sound_arg_of, is_sound_site, is_sound_site_at, site_at, site_by, site_in, site_with}
use Rattle.fp_ops.specs.Checked.{has_row, AreCheckedBoots, IsCheckedPool}
use Rattle.fp_ops.proofs.PassedEntries.{each_of, item_there, some_is}
use Rattle.fp_ops.proofs.PoolMembers.{is_member_tag, member_there, pair_there, HasPair}
use Rattle.fp_ops.proofs.PoolTexts.{at_index, text_passes, text_there-passes}

handle_some : (kind : ℕ) (o : Option MemberTexts) → is_some o ≡ true → is_some (handle_with kind o) ≡ true
handle_some kind None is = absurd (cc)
handle_some kind (Some member) is = refl

handle_of_tag : (o : Option Entry) → tag_in o ≡ 15 → (kind : ℕ) × (index : ℕ) × (o ≡ Some (entry.Handle kind index))
handle_of_tag (Some (entry.Handle kind index)) is = (kind, index, refl)
handle_of_tag _ is = absurd (omega (arith, is))

site_of_tag : (o : Option Entry) → tag_in o ≡ 18 → (boot : ℕ) × (pair : ℕ) × (o ≡ Some (entry.InvokeDynamic boot pair))
site_of_tag (Some (entry.InvokeDynamic boot pair)) is = (boot, pair, refl)
site_of_tag _ is = absurd (omega (arith, is))

suits_member : (kind tag : ℕ) → suits_handle kind tag ≡ true → is_member_tag tag ≡ true
suits_member kind tag is = grind (arith, nat_tests)

module _ (entries : List Entry) (checked : IsCheckedPool entries) where
  -- ---- method handles and what bootstrap methods take

  handle_member : (at kind index : ℕ) → handle_checked entries at kind index ≡ Ok tt → is_some (member_at entries index) ≡ true
  unfolding handle_checked
  handle_member at kind index e =
      opened (demanded (nat_le 1 kind && nat_le kind 9) _) _ (λ u known more.
      member_there entries checked index (suits_member kind (tag_at entries index) (demanded-true (suits_handle kind (tag_at entries index)) _ more))) e

  handle_there : (index : ℕ) → tag_at entries index ≡ 15 → is_some (handle_at entries index) ≡ true
  unfolding entry_checked
  handle_there index is =
      let handle = handle_of_tag (slice_get entries index) is in
      let passed = at_index entries checked index (entry.Handle handle.0 handle.1) handle.2 in
      ap (λ o. is_some (handle_in entries o)) handle.2 ∙ handle_some handle.0 (member_at entries handle.1) (handle_member passed.0 handle.0 handle.1 passed.1)

  arg_passes : (o : Option Entry) → ((x : Entry) → o ≡ Some x → (at : ℕ) × (entry_checked entries at x ≡ Ok tt)) → is_sound_arg_of entries o ≡ true
  unfolding entry_checked
  arg_passes (Some (entry.MethodType descr)) check =
      let passed = check (entry.MethodType descr) refl in
      text_there-passes is_method_descriptor (text_at entries descr) (text_passes entries checked is_method_descriptor (passed.0 + 1) descr passed.1)
  arg_passes (Some (entry.Handle kind index)) check =
      let passed = check (entry.Handle kind index) refl in
      handle_member passed.0 kind index passed.1
  arg_passes _ check = refl

  args_pass : (indexes : List ℕ) → list_all (is_sound_arg_at entries) indexes ≡ true
  args_pass [] = refl
  args_pass (index ∷ indexes) = and_from (is_sound_arg_at entries index) (list_all (is_sound_arg_at entries) indexes) (arg_passes (slice_get entries index) (at_index entries checked index)) (args_pass indexes)

  -- ---- call sites

  site_pair : (index boot pair : ℕ) → slice_get entries index ≡ Some (entry.InvokeDynamic boot pair) → HasPair entries is_method_descriptor (slice_get entries pair)
  unfolding entry_checked
  site_pair index boot pair is =
      let passed = at_index entries checked index (entry.InvokeDynamic boot pair) is in
      pair_there entries checked is_method_descriptor is_method_descriptor (λ text either is. is) (passed.0 + 3) pair passed.1

  pub site_there : (boots : List BootRow) → AreCheckedBoots entries boots → (index : ℕ) → tag_at entries index ≡ 18 → is_sound_site_at entries boots index ≡ true
  site_there boots rows index is =
      let site = site_of_tag (slice_get entries index) is in
      let both = site_pair index site.0 site.1 site.2 in
      let row : has_row boots (entry.InvokeDynamic site.0 site.1) ≡ true = each_of (has_row boots) entries rows.rows index (entry.InvokeDynamic site.0 site.1) site.2 in
      let found = some_is (slice_get boots site.0) (item_there boots site.0 (ltb-true site.0 (length boots) row)) in
      let handled : (tag_at entries found.0.method == 15) ≡ true = each_of (λ row. tag_at entries row.method == 15) boots rows.handles site.0 found.0 found.1 in
      let method = some_is (handle_at entries found.0.method) (handle_there found.0.method (eqb-true (tag_at entries found.0.method) 15 handled)) in
      let there : site_at entries boots index ≡ Some (record { name = both.name.words; descr = both.descr.words; method = method.0; args = found.0.args }) =
      ap (site_in entries boots) site.2
      ∙ ap (λ o. site_with entries o (slice_get entries site.1)) found.1
      ∙ ap (site_with entries (Some found.0)) both.is
      ∙ ap (λ o. site_by o (text_at entries both.descr_index) (handle_at entries found.0.method) found.0.args) both.name.is
      ∙ ap (λ o. site_by (Some both.name.words) o (handle_at entries found.0.method) found.0.args) both.descr.is
      ∙ ap (λ o. site_by (Some both.name.words) (Some both.descr.words) o found.0.args) method.1 in
      ap (passes (is_sound_site entries)) there ∙ and_from (is_entry_text is_method_descriptor both.descr.words) (list_all (is_sound_arg_at entries) found.0.args) both.descr.passes_test (args_pass found.0.args)
