-- What tasks give, as lists of places and words.
use Rattle.std.specs.Prelude.{ℕ, ◌+◌, ◌/◌, ◌%◌, ◌^◌, ◌==◌, Bool, not, ◌||◌, List, [], ◌∷◌, ◌++◌, map, Option, if◌then◌else◌}
use Rattle.std.specs.List.{flat_map, list_any}
use Rattle.std.specs.Option.{option_to_list}
use Rattle.fp_rta.specs.declared.candidate.Candidate.{Candidate}

-- 1 to each of some places
abbrev pub ones : List ℕ → List (ℕ × ℕ)
ones places = map (λ p. (p, 1)) places

-- some of the places isn't 0
abbrev pub any_set : (ℕ → ℕ) → List ℕ → Bool
any_set a places = list_any (λ p. not (a p == 0)) places

-- a bit of a call is set: it always is, or a class that sets it has objects
abbrev pub is_on : (ℕ → ℕ) → Candidate → Bool
is_on a k = k.always || any_set a k.sources

-- the word of a bit, in the place of 64 bits that it stands in
abbrev pub bit_word : (bit : ℕ) → ℕ
bit_word bit = 2 ^ (bit % 64) % 2 ^ 64

-- a bit of a call, and that its target is reached
abbrev pub bit_pairs : (callees bit : ℕ) → Option ℕ → List (ℕ × ℕ)
bit_pairs callees bit target = (callees + bit / 64, bit_word bit) ∷ ones (option_to_list target)

-- those of the candidates that pass a test, the first of which has a bit
abbrev pub pairs_from : (Candidate → Bool) → (callees bit : ℕ) → List Candidate → List (ℕ × ℕ)
pairs_from test callees bit [] = []
pairs_from test callees bit (k ∷ ks) = (if test k then bit_pairs callees bit k.target else []) ++ pairs_from test callees (bit + 1) ks

-- the places of all classes that set a bit
abbrev pub sources_of : List Candidate → List ℕ
sources_of ks = flat_map (λ k. k.sources) ks
