-- What the marks of descriptors tell of the texts.
use Rattle.std.proofs.Common.{◌≡◌, ℕ, zero, suc, List, [], ◌∷◌, Option, None, refl, ap, ◌∙◌}
use Rattle.std.specs.List.{slice_get}
use Rattle.std.specs.Option.{unwrap_or, option_map}
use Rattle.fp_model.specs.declared.raw.pool.Entry.{Entry}
use Rattle.fp_model.specs.Entries.{text_at}
use Rattle.fp_pool.specs.Sorts.{sort_marks, sorts_of}
use Rattle.fp_pool.specs.declared.sorts.Sorts.{Sorts}

mark_of : (entries : List Entry) (i : ℕ) → unwrap_or (slice_get (sort_marks entries) i) None ≡ option_map sorts_of (text_at entries i)
mark_of [] i = refl
mark_of (e ∷ entries) zero = refl
mark_of (e ∷ entries) (suc i) = mark_of entries i

pub marked : (entries : List Entry) (marks : List (Option Sorts)) (i : ℕ) → marks ≡ sort_marks entries → unwrap_or (slice_get marks i) None ≡ option_map sorts_of (text_at entries i)
marked entries marks i is = ap (λ m. unwrap_or (slice_get m i) None) is ∙ mark_of entries i
