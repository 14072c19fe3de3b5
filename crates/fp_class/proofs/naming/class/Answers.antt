use Rattle.std.proofs.Common.{◌∙◌, ap, not, Ok, Err, refl, subst}
use Rattle.std.proofs.lemmas.Result.{err_from_is_err_and}
use Rattle.std.specs.List.{flat_map}
use Rattle.std.specs.Option.{option_to_list}
use Rattle.fp_model.specs.Descriptor.{is_array_like}
use Rattle.fp_model.specs.Entries.{class_name_at}
use Rattle.fp_model.specs.Taking.{Taken}
use Rattle.fp_model.proofs.Taking.{kept_by, taken_first, taken_stop}
use Rattle.fp_class.specs.ClassFile.{boots_of}
use Rattle.fp_class.specs.Classes.{field_names, method_names}
use Rattle.fp_class.proofs.Facts.{facts_of}
use Rattle.fp_class.proofs.NamedClass.{class_over, texts_whole}
use Rattle.fp_class.proofs.NamedParts.{passes-is_some}
use Rattle.fp_class.proofs.SoundCodes.{sound_codes}
use Rattle.fp_ops.proofs.TakenTexts.{after_two, after_three, five_taken, last_of_five, taken_of}
use Rattle.fp_class.proofs.naming.class.Goals as goal

pub class_name-requires-clause-there : goal.class_name-requires-clause-there
class_name-requires-clause-there c =
    rw c.as_slice-entries.ensures
    (passes-is_some (λ name. not (is_array_like name)) (class_name_at c.args.raw.now.pool.entries c.args.raw.now.this) (facts_of c.args.raw.now c.requires).this)

pub class_names-requires-clause-classes : goal.class_names-requires-clause-classes
class_names-requires-clause-classes c = rw (c.as_slice-entries.ensures, c.as_slice-2.ensures) (facts_of c.args.raw.now c.requires).interfaces

pub fields-requires-clause-pool : goal.fields-requires-clause-pool
fields-requires-clause-pool c = rw c.as_slice-entries.ensures (facts_of c.args.raw.now c.requires).checked.short

pub fields-requires-clause-sound : goal.fields-requires-clause-sound
fields-requires-clause-sound c = rw (c.as_slice-entries.ensures, c.as_slice-3.ensures) (facts_of c.args.raw.now c.requires).fields

pub methods-requires-clause-pool : goal.methods-requires-clause-pool
methods-requires-clause-pool c = (facts_of c.args.raw.now c.requires).checked.short

pub methods-requires-clause-sound : goal.methods-requires-clause-sound
methods-requires-clause-sound c = rw c.as_slice-4.ensures (facts_of c.args.raw.now c.requires).methods

pub methods-requires-clause-codes : goal.methods-requires-clause-codes
methods-requires-clause-codes c = rw (c.as_slice-4.ensures, c.boot_rows-boots.ensures, c.as_slice.ensures) (sound_codes c.args.raw.now c.requires)

pub returns-in_err-this-clause-names : goal.returns-in_err-this-clause-names
returns-in_err-this-clause-names c =
    let p = err_from_is_err_and c.from_residual.result c.from_residual.ensures.1 in
    let raw = c.args.raw.now in
    rw (p.1, p.2)
    (subst (Taken (Err c.in_err-this.field-0.0) c.args.names.now c.class_name.new.names)
    (texts_whole raw c.as_slice-entries.result.now (boots_of raw.attributes) raw.interfaces raw.fields raw.methods c.as_slice-entries.ensures refl refl refl refl)
    (taken_first c.in_err-this.field-0.0 c.args.names.now c.class_name.new.names _ _ (taken_of _ _ _ _ c.in_err-this.ensures.names)))

pub returns-in_err-parent-clause-names : goal.returns-in_err-parent-clause-names
returns-in_err-parent-clause-names c =
    let p = err_from_is_err_and c.from_residual-in_err-parent.result c.from_residual-in_err-parent.ensures.1 in
    let raw = c.args.raw.now in
    rw (p.1, p.2)
    (subst (Taken (Err c.in_err-parent.field-0.0) c.args.names.now c.parent_name.new.names)
    (texts_whole raw c.as_slice-entries.result.now (boots_of raw.attributes) raw.interfaces raw.fields raw.methods c.as_slice-entries.ensures refl refl refl refl)
    (taken_stop c.in_err-parent.field-0.0 c.args.names.now c.class_name.new.names c.parent_name.new.names _ _ _ c.in_ok-this.ensures.names.names (taken_of _ _ _ _ c.in_err-parent.ensures.names)))

pub returns-in_err-interfaces-clause-names : goal.returns-in_err-interfaces-clause-names
returns-in_err-interfaces-clause-names c =
    let p = err_from_is_err_and c.from_residual-in_err-interfaces.result c.from_residual-in_err-interfaces.ensures.1 in
    let raw = c.args.raw.now in
    rw (p.1, p.2)
    (subst (Taken (Err c.in_err-interfaces.field-0.0) c.args.names.now c.class_names.new.names)
    (texts_whole raw c.as_slice-entries.result.now (boots_of raw.attributes) c.as_slice-2.result.now raw.fields raw.methods c.as_slice-entries.ensures refl c.as_slice-2.ensures refl refl)
    (after_two c.in_err-interfaces.field-0.0 c.args.names.now c.class_name.new.names c.parent_name.new.names c.class_names.new.names _ _ _ _
    c.in_ok-this.ensures.names.names c.in_ok-parent.ensures.names.names (taken_of _ _ _ _ c.in_err-interfaces.ensures.names)))

pub returns-in_err-fields-clause-names : goal.returns-in_err-fields-clause-names
returns-in_err-fields-clause-names c =
    let p = err_from_is_err_and c.from_residual-in_err-fields.result c.from_residual-in_err-fields.ensures.1 in
    let raw = c.args.raw.now in
    let entries = c.as_slice-entries.result.now in
    rw (p.1, p.2)
    (subst (Taken (Err c.in_err-fields.field-0.0) c.args.names.now c.fields.new.names)
    (texts_whole raw entries (boots_of raw.attributes) c.as_slice-2.result.now c.as_slice-3.result.now raw.methods c.as_slice-entries.ensures refl c.as_slice-2.ensures c.as_slice-3.ensures refl)
    (after_three c.in_err-fields.field-0.0 c.args.names.now c.class_name.new.names c.parent_name.new.names c.class_names.new.names c.fields.new.names
    (option_to_list (class_name_at entries raw.this))
    (option_to_list (class_name_at entries raw.parent))
    (flat_map (λ index. option_to_list (class_name_at entries index)) c.as_slice-2.result.now)
    (flat_map (field_names entries) c.as_slice-3.result.now)
    (flat_map (method_names raw.pool.entries (boots_of raw.attributes)) raw.methods)
    c.in_ok-this.ensures.names.names c.in_ok-parent.ensures.names.names c.in_ok-interfaces.ensures.names.names (taken_of _ _ _ _ c.in_err-fields.ensures.names)))

pub returns-in_err-methods-clause-names : goal.returns-in_err-methods-clause-names
returns-in_err-methods-clause-names c =
    let p = err_from_is_err_and c.from_residual-in_err-methods.result c.from_residual-in_err-methods.ensures.1 in
    let raw = c.args.raw.now in
    let entries = c.as_slice-entries.result.now in
    let boots = c.boot_rows-boots.result.now in
    rw (p.1, p.2)
    (subst (Taken (Err c.in_err-methods.field-0.0) c.args.names.now c.methods.new.names)
    (texts_whole raw entries boots c.as_slice-2.result.now c.as_slice-3.result.now c.as_slice-4.result.now c.as_slice-entries.ensures (c.boot_rows-boots.ensures ∙ ap boots_of c.as_slice.ensures) c.as_slice-2.ensures c.as_slice-3.ensures c.as_slice-4.ensures)
    (last_of_five c.in_err-methods.field-0.0 c.args.names.now c.class_name.new.names c.parent_name.new.names c.class_names.new.names c.fields.new.names c.methods.new.names
    (option_to_list (class_name_at entries raw.this))
    (option_to_list (class_name_at entries raw.parent))
    (flat_map (λ index. option_to_list (class_name_at entries index)) c.as_slice-2.result.now)
    (flat_map (field_names entries) c.as_slice-3.result.now)
    (flat_map (method_names raw.pool.entries boots) c.as_slice-4.result.now)
    c.in_ok-this.ensures.names.names c.in_ok-parent.ensures.names.names c.in_ok-interfaces.ensures.names.names c.in_ok-fields.ensures.names.names c.in_err-methods.ensures.names))

pub returns-clause-class : goal.returns-clause-class
returns-clause-class c =
    class_over c.args.raw.now c.as_slice-entries.result.now c.boot_rows-boots.result.now c.as_slice-2.result.now c.as_slice-3.result.now c.as_slice-4.result.now
    c.as_slice-entries.ensures (c.boot_rows-boots.ensures ∙ ap boots_of c.as_slice.ensures) c.as_slice-2.ensures c.as_slice-3.ensures c.as_slice-4.ensures
    c.class_name.new.names c.parent_name.new.names c.class_names.new.names c.fields.new.names c.methods.new.names
    c.in_ok-this.this c.in_ok-parent.parent c.in_ok-interfaces.interfaces c.in_ok-fields.fields c.in_ok-methods.methods
    c.in_ok-this.ensures.number (kept_by _ _ _ _ (taken_of _ _ _ _ c.in_ok-parent.ensures.names))
    c.in_ok-parent.ensures.number (kept_by _ _ _ _ (taken_of _ _ _ _ c.in_ok-interfaces.ensures.names))
    c.in_ok-interfaces.ensures.numbers (kept_by _ _ _ _ (taken_of _ _ _ _ c.in_ok-fields.ensures.names))
    c.in_ok-fields.ensures.fields (kept_by _ _ _ _ c.in_ok-methods.ensures.names)
    c.in_ok-methods.ensures.methods

pub returns-clause-names : goal.returns-clause-names
returns-clause-names c =
    let raw = c.args.raw.now in
    let entries = c.as_slice-entries.result.now in
    let boots = c.boot_rows-boots.result.now in
    subst (Taken (Ok _) c.args.names.now c.methods.new.names)
    (texts_whole raw entries boots c.as_slice-2.result.now c.as_slice-3.result.now c.as_slice-4.result.now c.as_slice-entries.ensures (c.boot_rows-boots.ensures ∙ ap boots_of c.as_slice.ensures) c.as_slice-2.ensures c.as_slice-3.ensures c.as_slice-4.ensures)
    (five_taken _ c.args.names.now c.class_name.new.names c.parent_name.new.names c.class_names.new.names c.fields.new.names c.methods.new.names
    (option_to_list (class_name_at entries raw.this))
    (option_to_list (class_name_at entries raw.parent))
    (flat_map (λ index. option_to_list (class_name_at entries index)) c.as_slice-2.result.now)
    (flat_map (field_names entries) c.as_slice-3.result.now)
    (flat_map (method_names raw.pool.entries boots) c.as_slice-4.result.now)
    c.in_ok-this.ensures.names.names c.in_ok-parent.ensures.names.names c.in_ok-interfaces.ensures.names.names c.in_ok-fields.ensures.names.names c.in_ok-methods.ensures.names.names)
