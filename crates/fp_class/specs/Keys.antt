-- The texts of a constant pool by numbers, and members by the numbers of their names and descriptors.
use Rattle.std.specs.Prelude.{◌≡◌, ℕ, ◌==◌, ◌↔◌, ◌&&◌, Bool, List, length, slice_index, Option, Some, None, if◌then◌else◌}
use Rattle.std.specs.List.{list_any}
use Rattle.std.specs.declared.cmp.Ordering.{Ordering}
use Rattle.std.specs.Ordering.{nat_cmp, ordering_then, is_eq}
use Rattle.fp_model.specs.declared.raw.pool.Entry.{Entry}
use Rattle.fp_model.specs.declared.raw.RawMember.{RawMember}
use Rattle.fp_model.specs.Entries.{tag_at, text_at}
use Rattle.fp_class.specs.declared.numbers.Key.{Key}

-- a number for each index, equal ones exactly for equal texts
pub record IsNumbering (entries : List Entry) (numbers : List ℕ) : Type 0 where
  pub size : length numbers ≡ length entries
  pub same : (i j : ℕ) (a b : List ℕ) → text_at entries i ≡ Some a → text_at entries j ≡ Some b → (slice_index numbers i ≡ slice_index numbers j) ↔ (a ≡ b)

-- the numbers of a member's name and descriptor
abbrev pub key_of : List ℕ → RawMember → Key
key_of numbers member = record { name = slice_index numbers member.name; descr = slice_index numbers member.descr }

-- by name, and then by descriptor
abbrev pub key_cmp : Key → Key → Ordering
key_cmp a b = ordering_then (nat_cmp a.name b.name) (nat_cmp a.descr b.descr)

-- one of the members has the key
abbrev pub has_key : List ℕ → List RawMember → Key → Bool
has_key numbers members key = list_any (λ member. is_eq (key_cmp key (key_of numbers member))) members

-- a member's name and descriptor are texts
abbrev pub has_texts : List Entry → RawMember → Bool
has_texts entries member = (tag_at entries member.name == 1) && (tag_at entries member.descr == 1)

-- the numbers of the texts at two indexes, where both are texts
abbrev pub found_key : List Entry → List ℕ → (name descr : ℕ) → Option Key
found_key entries numbers name descr =
    if (tag_at entries name == 1) && (tag_at entries descr == 1)
    then Some (record { name = slice_index numbers name; descr = slice_index numbers descr })
    else None
