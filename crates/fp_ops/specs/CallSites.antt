-- Call sites that a bootstrap method computes (JVMS SE 21 sections 4.4.10, 4.7.23 and 6.5.invokedynamic).
use Rattle.std.specs.Prelude.{◌≡◌, ℕ, Bool, true, ◌&&◌, List, [], ◌∷◌, ◌++◌, slice_get, is_some, Option, Some, None}
use Rattle.std.specs.List.{list_all, flat_map, AllZip}
use Rattle.fp_model.specs.declared.class.instr.Instr.{Instr}
use Rattle.fp_model.specs.declared.class.instr.Instr.TheVariants as instr
use Rattle.fp_model.specs.declared.class.instr.BootRef.{BootRef}
use Rattle.fp_model.specs.declared.class.instr.BootArg.{BootArg}
use Rattle.fp_model.specs.declared.class.instr.BootArg.TheVariants as arg
use Rattle.fp_model.specs.declared.raw.attribute.BootRow.{BootRow}
use Rattle.fp_model.specs.declared.raw.pool.Entry.{Entry}
use Rattle.fp_model.specs.declared.raw.pool.Entry.TheVariants as entry
use Rattle.fp_model.specs.Descriptor.{descr_names, is_method_descriptor, IsDescrOf}
use Rattle.fp_model.specs.Entries.{passes, text_at}
use Rattle.fp_model.specs.NamedInstructions.{is_entry_text, member_at, texts_by, IsMember, IsOf, MemberTexts}

-- ---- method handles (section 4.4.8)

-- a method handle: its kind, and the texts of the member that it refers to
pub record HandleTexts : Type 0 where
  pub kind : ℕ
  pub member : MemberTexts

-- where the member is there
abbrev pub handle_with : ℕ → Option MemberTexts → Option HandleTexts
handle_with kind None = None
handle_with kind (Some member) = Some (record { kind = kind; member = member })

abbrev pub handle_in : List Entry → Option Entry → Option HandleTexts
handle_in entries (Some (entry.Handle kind index)) = handle_with kind (member_at entries index)
handle_in entries _ = None

-- the method handle at an index
abbrev pub handle_at : List Entry → ℕ → Option HandleTexts
handle_at entries index = handle_in entries (slice_get entries index)

-- a reference over a table of names is that of a method handle
pub record IsBootRef (names : List (List ℕ)) (handle : HandleTexts) (reference : BootRef) : Type 0 where
  pub kind_is : reference.kind ≡ handle.kind
  pub member_is : IsMember names handle.member reference.class reference.name reference.descr

-- the texts that it takes
abbrev pub handle_texts : HandleTexts → List (List ℕ)
handle_texts handle = handle.member.class ∷ (handle.member.name ∷ (handle.member.descr ∷ []))

-- ---- static arguments

-- the argument of a method type, by its descriptor
abbrev pub IsTypeArg : List (List ℕ) → List ℕ → BootArg → Type 0
IsTypeArg names text (arg.Sig kinds) = IsDescrOf names text kinds
IsTypeArg names text _ = ⊥

-- that of a method handle
abbrev pub IsHandleArg : List (List ℕ) → HandleTexts → BootArg → Type 0
IsHandleArg names handle (arg.Ref reference) = IsBootRef names handle reference
IsHandleArg names handle _ = ⊥

-- that of a constant, by its sort
abbrev pub IsArgOf : List (List ℕ) → List Entry → Option Entry → BootArg → Type 0
IsArgOf names entries (Some (entry.MethodType descr)) a = IsOf (λ text. IsTypeArg names text a) (text_at entries descr)
IsArgOf names entries (Some (entry.Handle kind index)) a = IsOf (λ handle. IsHandleArg names handle a) (handle_with kind (member_at entries index))
IsArgOf names entries _ a = a ≡ arg.Other

abbrev pub IsArgAt : List (List ℕ) → List Entry → ℕ → BootArg → Type 0
IsArgAt names entries index a = IsArgOf names entries (slice_get entries index) a

-- the texts that it takes
abbrev pub arg_texts_of : List Entry → Option Entry → List (List ℕ)
arg_texts_of entries (Some (entry.MethodType descr)) = texts_by descr_names (text_at entries descr)
arg_texts_of entries (Some (entry.Handle kind index)) = texts_by handle_texts (handle_with kind (member_at entries index))
arg_texts_of entries _ = []

abbrev pub arg_texts_at : List Entry → ℕ → List (List ℕ)
arg_texts_at entries index = arg_texts_of entries (slice_get entries index)

-- a method type has a method descriptor, and a method handle refers to a member
abbrev pub is_sound_arg_of : List Entry → Option Entry → Bool
is_sound_arg_of entries (Some (entry.MethodType descr)) = passes (is_entry_text is_method_descriptor) (text_at entries descr)
is_sound_arg_of entries (Some (entry.Handle kind index)) = is_some (member_at entries index)
is_sound_arg_of entries _ = true

abbrev pub is_sound_arg_at : List Entry → ℕ → Bool
is_sound_arg_at entries index = is_sound_arg_of entries (slice_get entries index)

-- the indexes of those of the row of a number, none where there is no row
abbrev pub row_args_in : Option BootRow → List ℕ
row_args_in None = []
row_args_in (Some row) = row.args

abbrev pub row_args_at : List BootRow → ℕ → List ℕ
row_args_at boots number = row_args_in (slice_get boots number)

-- ---- call sites

-- a call site: the texts of its name and descriptor, its bootstrap method, and the indexes of the static arguments
pub record SiteTexts : Type 0 where
  pub name : List ℕ
  pub descr : List ℕ
  pub method : HandleTexts
  pub args : List ℕ

-- where there are all of these
abbrev pub site_by : (name descr : Option (List ℕ)) → Option HandleTexts → List ℕ → Option SiteTexts
site_by (Some name) (Some descr) (Some method) args = Some (record { name = name; descr = descr; method = method; args = args })
site_by _ _ _ args = None

-- that of a row of bootstrap methods, and of a name and type
abbrev pub site_with : List Entry → Option BootRow → Option Entry → Option SiteTexts
site_with entries (Some row) (Some (entry.Pair name descr)) = site_by (text_at entries name) (text_at entries descr) (handle_at entries row.method) row.args
site_with entries _ _ = None

abbrev pub site_in : List Entry → List BootRow → Option Entry → Option SiteTexts
site_in entries boots (Some (entry.InvokeDynamic boot pair)) = site_with entries (slice_get boots boot) (slice_get entries pair)
site_in entries boots _ = None

-- the call site at an index
abbrev pub site_at : List Entry → List BootRow → ℕ → Option SiteTexts
site_at entries boots index = site_in entries boots (slice_get entries index)

-- a call at a call site
abbrev pub IsSiteInstr : List (List ℕ) → List Entry → SiteTexts → Instr → Type 0
IsSiteInstr names entries site (instr.InvokeDynamic name descr boot args) =
    (slice_get names name ≡ Some site.name) × IsDescrOf names site.descr descr × IsBootRef names site.method boot × AllZip (IsArgAt names entries) site.args args
IsSiteInstr names entries site _ = ⊥

-- the texts that it takes, in the order of its fields
abbrev pub site_texts : List Entry → SiteTexts → List (List ℕ)
site_texts entries site = site.name ∷ (descr_names site.descr ++ (handle_texts site.method ++ flat_map (arg_texts_at entries) site.args))

-- its descriptor is a method's, and each argument is sound
abbrev pub is_sound_site : List Entry → SiteTexts → Bool
is_sound_site entries site = is_entry_text is_method_descriptor site.descr && list_all (is_sound_arg_at entries) site.args

-- the same by the index of the call site
abbrev pub IsSiteAt : List (List ℕ) → List Entry → List BootRow → ℕ → Instr → Type 0
IsSiteAt names entries boots index i = IsOf (λ site. IsSiteInstr names entries site i) (site_at entries boots index)

abbrev pub site_texts_at : List Entry → List BootRow → ℕ → List (List ℕ)
site_texts_at entries boots index = texts_by (site_texts entries) (site_at entries boots index)

abbrev pub is_sound_site_at : List Entry → List BootRow → ℕ → Bool
is_sound_site_at entries boots index = passes (is_sound_site entries) (site_at entries boots index)
