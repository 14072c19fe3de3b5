-- A table that lacks room for one of the texts would have too many names with all of them.
use Rattle.std.proofs.Common.{◌≡◌, ℕ, cond, ◌+◌, ◌<◌, ◌≤◌, Bool, true, false, not, ◌||◌, List, [], ◌∷◌, ◌++◌, length, refl, sym, ap, ◌∙◌, subst, length-append, arith}
use Rattle.std.specs.List.{list_any}
use Rattle.fp_base.specs.Names.{has_name, with_name, with_names}
use Rattle.fp_base.proofs.NameLemmas.{with_names-extends, with_names-append, with_name-known}
use Rattle.fp_model.specs.Descriptor.{LacksRoom}

length-with_name-new : (names : List (List ℕ)) (text : List ℕ) → has_name names text ≡ false → length (with_name names text) ≡ length names + 1
unfolding with_name
length-with_name-new names text new = ap (λ b. length (cond b names (names ++ text ∷ []))) new ∙ length-append names (text ∷ [])

-- a table loses no names
pub length-with_names-ge : (names texts : List (List ℕ)) → length names ≤ length (with_names names texts)
length-with_names-ge names texts =
    let longer = with_names-extends names texts in
    omega (arith, ap length longer.1, length-append names longer.0)

crowded_by : (names : List (List ℕ)) (text : List ℕ) (texts : List (List ℕ)) (has : Bool) → has_name names text ≡ has → length names ≡ 16777216 → not has || list_any (λ t. not (has_name names t)) texts ≡ true
    → (LacksRoom names texts → 16777216 < length (with_names names texts)) → 16777216 < length (with_names (with_name names text) texts)
crowded_by names text texts true known full lacks rest = subst (λ table. 16777216 < length (with_names table texts)) (sym (with_name-known names text known)) (rest (full, lacks))
crowded_by names text texts false new full lacks rest =
    omega (arith, full, length-with_name-new names text new, length-with_names-ge (with_name names text) texts)

pub crowded : (names texts : List (List ℕ)) → LacksRoom names texts → 16777216 < length (with_names names texts)
crowded names [] lacks = absurd (cc)
crowded names (text ∷ texts) lacks =
    crowded_by names text texts (has_name names text) refl lacks.0 lacks.1 (crowded names texts)

-- behind more texts, and before more of them
pub crowded_later : (old mid a b : List (List ℕ)) → mid ≡ with_names old a → 16777216 < length (with_names mid b) → 16777216 < length (with_names old (a ++ b))
crowded_later old mid a b is many = subst (λ t. 16777216 < length t) (ap (λ t. with_names t b) is ∙ sym (with_names-append old a b)) many

pub crowded_sooner : (old a b : List (List ℕ)) → 16777216 < length (with_names old a) → 16777216 < length (with_names old (a ++ b))
crowded_sooner old a b many = omega (arith, many, length-with_names-ge (with_names old a) b, ap length (with_names-append old a b))
