-- Sets whose classes have no two members of one name and descriptor, and what the texts of their entities tell.
use Rattle.std.specs.Prelude.{◌≡◌, ℕ, ◌<◌, ◌^◌, List, length, slice_get, Some}
use Rattle.fp_model.specs.declared.class.Class.{Class}
use Rattle.fp_model.specs.declared.class.SiteId.{SiteId}
use Rattle.fp_model.specs.ClassSet.{SetView, fields_of, methods_of}
use Rattle.fp_cells.specs.declared.kind.Entity.TheVariants as entity
use Rattle.fp_cells.specs.Entities.{entity_text}

-- no two of them have one name and one descriptor
pub record AreApart {M : Type 0} (name_of descr_of : M → ℕ) (members : List M) : Type 0 where
  pub apart : (i j : ℕ) (a b : M) → slice_get members i ≡ Some a → slice_get members j ≡ Some b → name_of a ≡ name_of b → descr_of a ≡ descr_of b → i ≡ j

-- so with the fields of a class (JVMS SE 21 section 4.5), and with its methods (section 4.6)
pub record HasApartMembers (c : Class) : Type 0 where
  pub of_fields : AreApart (λ f. f.name) (λ f. f.descr) c.fields
  pub of_methods : AreApart (λ m. m.name) (λ m. m.descr) c.methods

-- the text of an entity is that of no other one of its kind
pub record TellEntities (set : SetView) : Type 0 where
  pub classes : (a b : ℕ) → a < length set.classes → b < length set.classes → entity_text set (entity.Class a) ≡ entity_text set (entity.Class b) → a ≡ b
  pub fields : (a b : ℕ) → a < length (fields_of set.classes) → b < length (fields_of set.classes) → entity_text set (entity.Field a) ≡ entity_text set (entity.Field b) → a ≡ b
  pub methods : (a b : ℕ) → a < length (methods_of set.classes) → b < length (methods_of set.classes) → entity_text set (entity.Method a) ≡ entity_text set (entity.Method b) → a ≡ b
  pub sites : (a b : SiteId) → a.method < length (methods_of set.classes) → b.method < length (methods_of set.classes) → a.pc < 2 ^ 16 → b.pc < 2 ^ 16 → entity_text set (entity.Site a) ≡ entity_text set (entity.Site b) → a ≡ b
