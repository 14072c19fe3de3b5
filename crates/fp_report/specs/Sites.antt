-- The order of call sites.
use Rattle.std.specs.Prelude.{ℕ, ◌==◌, nat_lt, Bool, true, ◌&&◌, ◌||◌, List, [], ◌∷◌, Option, None, Some}
use Rattle.fp_model.specs.declared.class.SiteId.{SiteId}

-- one comes before another: by their methods, and in one method by their places in its code
abbrev pub is_site_before : SiteId → SiteId → Bool
is_site_before a b = nat_lt a.method b.method || ((a.method == b.method) && nat_lt a.pc b.pc)

-- it comes behind the last one, where there is one
abbrev pub is_behind : Option SiteId → SiteId → Bool
is_behind None site = true
is_behind (Some last) site = is_site_before last site

-- so with the first of these
abbrev pub are_behind : Option SiteId → List (SiteId × List ℕ) → Bool
are_behind last [] = true
are_behind last (pair ∷ pairs) = is_behind last pair.0

-- each comes before the next
abbrev pub are_ascending : List (SiteId × List ℕ) → Bool
are_ascending [] = true
are_ascending (pair ∷ pairs) = are_behind (Some pair.0) pairs && are_ascending pairs
