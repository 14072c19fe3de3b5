-- A text that is there has the sort that is asked for where it passes the test.
use Rattle.std.proofs.Common.{◌≡◌, ℕ, Bool, true, ◌==◌, List, Option, Some, None, refl}
use Rattle.std.specs.List.{slice_get}
use Rattle.fp_model.specs.declared.raw.pool.Entry.{Entry}
use Rattle.fp_model.specs.declared.raw.pool.Entry.TheVariants as entry
use Rattle.fp_model.specs.Entries.{passes, tag_at, tag_in, text_at, text_in}
use Rattle.fp_model.specs.References.{holds_of}

text_of : (o : Option Entry) → (tag_in o == 1) ≡ true → (text : List ℕ) × (text_in o ≡ Some text)
text_of (Some (entry.Utf8 text)) is = (text, refl)
text_of None is = absurd (cc)
text_of (Some entry.Unused) is = absurd (cc)
text_of (Some (entry.Integer bits)) is = absurd (cc)
text_of (Some (entry.Float bits)) is = absurd (cc)
text_of (Some (entry.Long bits)) is = absurd (cc)
text_of (Some (entry.Double bits)) is = absurd (cc)
text_of (Some (entry.Class name)) is = absurd (cc)
text_of (Some (entry.Text text)) is = absurd (cc)
text_of (Some (entry.FieldRef class pair)) is = absurd (cc)
text_of (Some (entry.MethodRef class pair)) is = absurd (cc)
text_of (Some (entry.InterfaceRef class pair)) is = absurd (cc)
text_of (Some (entry.Pair name descr)) is = absurd (cc)
text_of (Some (entry.Handle kind index)) is = absurd (cc)
text_of (Some (entry.MethodType descr)) is = absurd (cc)
text_of (Some (entry.Dynamic boot pair)) is = absurd (cc)
text_of (Some (entry.InvokeDynamic boot pair)) is = absurd (cc)
text_of (Some (entry.Module name)) is = absurd (cc)
text_of (Some (entry.Package name)) is = absurd (cc)

-- what has the tag of a text is one
pub text_tagged : (entries : List Entry) (index : ℕ) → (tag_at entries index == 1) ≡ true → (text : List ℕ) × (text_at entries index ≡ Some text)
text_tagged entries index is = text_of (slice_get entries index) is

-- where it is one, both tests are the same
pub sorted : (entries : List Entry) (index : ℕ) (test : List ℕ → Bool) → (tag_at entries index == 1) ≡ true → holds_of test (text_at entries index) ≡ passes test (text_at entries index)
sorted entries index test is = let t = text_tagged entries index is in rw t.1 refl
