-- What is marked of texts, by their indexes.
use Rattle.std.proofs.Common.{◌≡◌, ℕ, zero, suc, Bool, false, List, [], ◌∷◌, Option, None, Some, map, refl, ap, ◌∙◌}
use Rattle.std.specs.List.{slice_get}
use Rattle.std.specs.Option.{option_flatten, unwrap_or}
use Rattle.fp_model.specs.declared.raw.pool.Entry.{Entry}
use Rattle.fp_model.specs.Descriptor.{is_field_descriptor}
use Rattle.fp_model.specs.Entries.{passes, text_at}
use Rattle.fp_class.specs.Descriptors.{descriptor_marks}
use Rattle.fp_class.specs.Texts.{words_at, words_in}

mark_of : (entries : List Entry) (i : ℕ) → unwrap_or (slice_get (descriptor_marks entries) i) false ≡ passes is_field_descriptor (text_at entries i)
mark_of [] i = refl
mark_of (e ∷ entries) zero = refl
mark_of (e ∷ entries) (suc i) = mark_of entries i

pub marked : (entries : List Entry) (marks : List Bool) (i : ℕ) → marks ≡ descriptor_marks entries → unwrap_or (slice_get marks i) false ≡ passes is_field_descriptor (text_at entries i)
marked entries marks i is = ap (λ m. unwrap_or (slice_get m i) false) is ∙ mark_of entries i

words_of : (entries : List Entry) (i : ℕ) → option_flatten (slice_get (map words_in entries) i) ≡ words_at entries i
words_of [] i = refl
words_of (e ∷ entries) zero = flat (words_in e)
  where
    flat : {A : Type 0} (o : Option A) → option_flatten (Some o) ≡ o
    flat None = refl
    flat (Some x) = refl
words_of (e ∷ entries) (suc i) = words_of entries i

pub worded : (entries : List Entry) (words : List (Option ℕ)) (i : ℕ) → words ≡ map words_in entries → option_flatten (slice_get words i) ≡ words_at entries i
worded entries words i is = ap (λ w. option_flatten (slice_get w i)) is ∙ words_of entries i
