-- What the set that keeps the names says of their texts.
use Rattle.std.proofs.Common.{◌≡◌, ℕ, ◌<◌, false, ◌||◌, cond, List, [], ◌∷◌, ◌++◌, Some, map, length, get_or, refl, sym, ap, ◌∙◌, arith}
use Rattle.std.proofs.lemmas.Option.{slice_get-get_or, slice_get-map}
use Rattle.std.proofs.lemmas.List.{map-append}
use Rattle.std.proofs.lemmas.List.Quantifiers.{position-Some}
use Rattle.std.proofs.lemmas.Slice.Eq.{bytes_eq-Decides}
use Rattle.std.specs.List.{list_any, slice_get, position}
use Rattle.std.specs.Option.{option_map}
use Rattle.std.specs.Str.{bytes_eq}
use Rattle.fp_base.specs.Names.{has_name}

-- whether a key has the text
pub has_name-map : {K : Type 0} (items : K → List ℕ) (keys : List K) (text : List ℕ) → has_name (map items keys) text ≡ list_any (λ key. bytes_eq text (items key)) keys
has_name-map items [] text = refl
has_name-map items (key ∷ keys) text = ap (λ b. bytes_eq text (items key) || b) (has_name-map items keys text)

-- the key at the first position of the text has it
pub slice_get-position : {K : Type 0} (items : K → List ℕ) (keys : List K) (text : List ℕ) (i : ℕ) → position (λ key. bytes_eq text (items key)) keys ≡ Some i → slice_get (map items keys) i ≡ Some text
slice_get-position items [] text i found = grind arith
slice_get-position items (key ∷ keys) text i found =
    let first = position-Some (λ k. bytes_eq text (items k)) (key ∷ keys) i key found in
    let within : i < length (key ∷ keys) = first.0 in
    let same : text ≡ items (get_or (key ∷ keys) i key) = (bytes_eq-Decides text (items (get_or (key ∷ keys) i key))).0 first.1 in
    slice_get-map items (key ∷ keys) i ∙ ap (option_map items) (slice_get-get_or (key ∷ keys) i key within) ∙ ap Some (sym same)

-- a set's texts after a new one is inserted
pub map-inserted : {K : Type 0} (items : K → List ℕ) (keys longer : List K) (key : K) (text : List ℕ) → items key ≡ text → has_name (map items keys) text ≡ false → longer ≡ cond (list_any (λ k. bytes_eq (items key) (items k)) keys) keys (keys ++ key ∷ []) → map items longer ≡ map items keys ++ text ∷ []
map-inserted items keys longer key text is new inserted =
    let absent : list_any (λ k. bytes_eq (items key) (items k)) keys ≡ false = sym (has_name-map items keys (items key)) ∙ ap (has_name (map items keys)) is ∙ new in
    ap (map items) (inserted ∙ ap (λ b. cond b keys (keys ++ key ∷ [])) absent) ∙ map-append items keys (key ∷ []) ∙ ap (λ t. map items keys ++ t ∷ []) is
