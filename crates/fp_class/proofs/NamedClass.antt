-- A class by its parts in numbers of a table of names.
use Rattle.std.proofs.Common.{◌≡◌, ℕ, ◌<◌, List, ◌++◌, Option, length, refl, sym, ◌∙◌, subst}
use Rattle.std.specs.List.{flat_map, AllZip}
use Rattle.std.specs.Option.{option_to_list}
use Rattle.fp_model.specs.declared.class.Field.{Field}
use Rattle.fp_model.specs.declared.class.Method.{Method}
use Rattle.fp_model.specs.declared.raw.attribute.BootRow.{BootRow}
use Rattle.fp_model.specs.declared.raw.pool.Entry.{Entry}
use Rattle.fp_model.specs.declared.raw.Raw.{Raw}
use Rattle.fp_model.specs.declared.raw.RawMember.{RawMember}
use Rattle.fp_model.specs.ClassSet.{IsFieldOver, IsMethodOver}
use Rattle.fp_model.specs.Entries.{class_name_at}
use Rattle.fp_model.proofs.LongerTables.{Keeps}
use Rattle.fp_model.proofs.Interned.{Keeps-then}
use Rattle.fp_class.specs.ClassFile.{boots_of}
use Rattle.fp_class.specs.Classes.{field_names, method_names, raw_names, IsClassOf, IsFieldOf, IsMethodOf}
use Rattle.fp_class.specs.Interning.{IsClassName, IsNamedField, IsParentName}
use Rattle.fp_class.specs.Naming.{IsNamedMethod}
use Rattle.fp_class.proofs.NamedMethods.{method_of, method_over}
use Rattle.fp_class.proofs.NamedParts.{field_of, field_over, names_of, parent_of, parent_over, within, AllZip-All, AllZip-to, IsClassName-kept, IsNamedField-kept, IsParentName-kept}

class_made : (names : List (List ℕ)) (raw : Raw) (name : ℕ) (parent : Option ℕ) (interfaces : List ℕ) (fields : List Field) (methods : List Method)
    → IsClassName names raw.pool.entries name raw.this → IsParentName names raw.pool.entries parent raw.parent → AllZip (IsClassName names raw.pool.entries) interfaces raw.interfaces
    → AllZip (IsNamedField names raw.pool.entries) fields raw.fields → AllZip (IsNamedMethod names raw.pool.entries (boots_of raw.attributes)) methods raw.methods
    → IsClassOf names (record { name = name; parent = parent; interfaces = interfaces; flags = raw.flags; fields = fields; methods = methods }) raw
class_made names raw name parent interfaces fields methods this above others members bodies =
    let entries = raw.pool.entries in
    let boots = boots_of raw.attributes in
    record {
      over = record {
        name = within names name this.text this.number;
        parent = parent_over names entries parent raw.parent above;
        interfaces = AllZip-All (IsClassName names entries) (λ n. n < length names) interfaces raw.interfaces (λ n index is. within names n is.text is.number) others;
        fields = AllZip-All (IsNamedField names entries) (IsFieldOver names) fields raw.fields (λ f member is. field_over names entries f member is) members;
        methods = AllZip-All (IsNamedMethod names entries boots) (IsMethodOver names) methods raw.methods (λ m member is. method_over names entries boots m member is) bodies;
      };
      flags = refl;
      name = this.number ∙ sym this.name;
      parent = parent_of names entries parent raw.parent above;
      interfaces = names_of names entries interfaces raw.interfaces others;
      fields = AllZip-to (IsNamedField names entries) (IsFieldOf names entries) fields raw.fields (λ f member is. field_of names entries f member is) members;
      methods = AllZip-to (IsNamedMethod names entries boots) (IsMethodOf names entries boots) methods raw.methods (λ m member is. method_of names entries boots m member is) bodies;
    }

-- what the parts of a file are read from is the file's
module _ (raw : Raw) (entries : List Entry) (boots : List BootRow) (indexes : List ℕ) (members bodies : List RawMember)
    (is : entries ≡ raw.pool.entries) (b_is : boots ≡ boots_of raw.attributes) (i_is : indexes ≡ raw.interfaces) (m_is : members ≡ raw.fields) (s_is : bodies ≡ raw.methods) where
  -- parts that were named one after the other, over tables that grew
  pub class_over : (n1 n2 n3 n4 n5 : List (List ℕ)) (name : ℕ) (parent : Option ℕ) (interfaces : List ℕ) (fields : List Field) (methods : List Method)
      → IsClassName n1 entries name raw.this → Keeps n1 n2 → IsParentName n2 entries parent raw.parent → Keeps n2 n3 → AllZip (IsClassName n3 entries) interfaces indexes → Keeps n3 n4
      → AllZip (IsNamedField n4 entries) fields members → Keeps n4 n5 → AllZip (IsNamedMethod n5 raw.pool.entries boots) methods bodies
      → IsClassOf n5 (record { name = name; parent = parent; interfaces = interfaces; flags = raw.flags; fields = fields; methods = methods }) raw
  class_over n1 n2 n3 n4 n5 name parent interfaces fields methods this k12 above k23 others k34 all k45 named =
      let k35 = Keeps-then n3 n4 n5 k34 k45 in
      let k25 = Keeps-then n2 n3 n5 k23 k35 in
      let k15 = Keeps-then n1 n2 n5 k12 k25 in
      class_made n5 raw name parent interfaces fields methods
      (subst (λ e. IsClassName n5 e name raw.this) is (IsClassName-kept n1 n5 entries name raw.this k15 this))
      (subst (λ e. IsParentName n5 e parent raw.parent) is (IsParentName-kept n2 n5 entries parent raw.parent k25 above))
      (subst (AllZip (IsClassName n5 raw.pool.entries) interfaces) i_is
      (subst (λ e. AllZip (IsClassName n5 e) interfaces indexes) is
      (AllZip-to (IsClassName n3 entries) (IsClassName n5 entries) interfaces indexes (λ n index one. IsClassName-kept n3 n5 entries n index k35 one) others)))
      (subst (AllZip (IsNamedField n5 raw.pool.entries) fields) m_is
      (subst (λ e. AllZip (IsNamedField n5 e) fields members) is
      (AllZip-to (IsNamedField n4 entries) (IsNamedField n5 entries) fields members (λ f member one. IsNamedField-kept n4 n5 entries f member k45 one) all)))
      (subst (λ b. AllZip (IsNamedMethod n5 raw.pool.entries b) methods raw.methods) b_is
      (subst (AllZip (IsNamedMethod n5 raw.pool.entries boots) methods) s_is named))

  -- the texts of a class by its parts
  pub texts_whole : (option_to_list (class_name_at entries raw.this) ++ (option_to_list (class_name_at entries raw.parent) ++ (flat_map (λ index. option_to_list (class_name_at entries index)) indexes ++ (flat_map (field_names entries) members ++ flat_map (method_names raw.pool.entries boots) bodies)))) ≡ raw_names raw
  texts_whole = rw (is, b_is, i_is, m_is, s_is) refl
