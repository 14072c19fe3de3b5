-- Lists that begin with a list.
use Rattle.std.specs.Prelude.{◌≡◌, ℕ, List, length, take}

-- the longer list begins with the shorter one
abbrev pub Extends : List ℕ → List ℕ → Type 0
Extends shorter longer = take (length shorter) longer ≡ shorter
