-- References to members, by the indexes of their texts.
use Rattle.std.proofs.Common.{◌≡◌, ℕ, Bool, true, List, [], Option, Some, None, refl, ap, ◌∙◌, subst}
use Rattle.std.proofs.lemmas.Bool.{and_parts}
use Rattle.std.specs.List.{list_all}
use Rattle.std.specs.Option.{is_some, unwrap_or}
use Rattle.fp_model.specs.declared.raw.pool.Entry.{Entry}
use Rattle.fp_model.specs.Descriptor.{is_method_descriptor}
use Rattle.fp_model.specs.Entries.{passes, text_at}
use Rattle.fp_model.specs.NamedInstructions.{all_texts, is_entry_text, MemberTexts}
use Rattle.fp_ops.specs.CallSites.{handle_with, is_sound_arg_at, is_sound_site, site_by}
use Rattle.fp_ops.specs.References.{texts_at, AreTexts}
use Rattle.fp_ops.proofs.Memos.{there}

record HasAll (class name descr : Option (List ℕ)) : Type 0 where
  class_there : is_some class ≡ true
  name_there : is_some name ≡ true
  descr_there : is_some descr ≡ true
  all : all_texts class name descr ≡ Some (record { class = unwrap_or class []; name = unwrap_or name []; descr = unwrap_or descr [] })

has_all : (class name descr : Option (List ℕ)) → is_some (all_texts class name descr) ≡ true → HasAll class name descr
has_all (Some class) (Some name) (Some descr) some = record { class_there = refl; name_there = refl; descr_there = refl; all = refl }
has_all None name descr some = absurd (cc)
has_all (Some class) None descr some = absurd (cc)
has_all (Some class) (Some name) None some = absurd (cc)

module _ (entries : List Entry) (member : Option MemberTexts) (class name descr : ℕ) (is : member ≡ all_texts (text_at entries class) (text_at entries name) (text_at entries descr)) (some : is_some member ≡ true) where
  parts : HasAll (text_at entries class) (text_at entries name) (text_at entries descr)
  parts = has_all (text_at entries class) (text_at entries name) (text_at entries descr) (subst (λ o. is_some o ≡ true) is some)

  pub reference_there : AreTexts entries class name descr
  reference_there = record { class_there = parts.class_there; name_there = parts.name_there; descr_there = parts.descr_there }

  pub reference_is : member ≡ Some (texts_at entries class name descr)
  reference_is = is ∙ parts.all

  -- the descriptor passes the test that the member's passes
  pub reference_passes : (test : List ℕ → Bool) → passes (λ texts. is_entry_text test texts.descr) member ≡ true → passes (is_entry_text test) (text_at entries descr) ≡ true
  reference_passes test passed =
      ap (passes (is_entry_text test)) (there (text_at entries descr) parts.descr_there)
      ∙ subst (λ o. passes (λ texts. is_entry_text test texts.descr) o ≡ true) reference_is passed

-- ---- call sites

-- what a sound call site asks for is there
pub site_descr : (entries : List Entry) (name descr : Option (List ℕ)) (kind : ℕ) (member : Option MemberTexts) (args : List ℕ) → passes (is_sound_site entries) (site_by name descr (handle_with kind member) args) ≡ true → passes (is_entry_text is_method_descriptor) descr ≡ true
site_descr entries (Some name) (Some descr) kind (Some member) args sound = (and_parts (is_entry_text is_method_descriptor descr) (list_all (is_sound_arg_at entries) args) sound).0
site_descr entries None descr kind member args sound = absurd (cc)
site_descr entries (Some name) None kind member args sound = absurd (cc)
site_descr entries (Some name) (Some descr) kind None args sound = absurd (cc)

pub site_member : (entries : List Entry) (name descr : Option (List ℕ)) (kind : ℕ) (member : Option MemberTexts) (args : List ℕ) → passes (is_sound_site entries) (site_by name descr (handle_with kind member) args) ≡ true → is_some member ≡ true
site_member entries (Some name) (Some descr) kind (Some member) args sound = refl
site_member entries None descr kind member args sound = absurd (cc)
site_member entries (Some name) None kind member args sound = absurd (cc)
site_member entries (Some name) (Some descr) kind None args sound = absurd (cc)
