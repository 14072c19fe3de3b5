-- The names of bounds.
use Rattle.std.specs.Prelude.{ℕ, List, codes}
use Rattle.fp_model.specs.declared.limit.LimitName.{LimitName}
use Rattle.fp_model.specs.declared.limit.LimitName.TheVariants as limit

-- the name of what is bounded
abbrev pub limit_name_text : LimitName → List ℕ
limit_name_text limit.Files = codes "files"
limit_name_text limit.FileBytes = codes "file-bytes"
limit_name_text limit.AllBytes = codes "all-bytes"
limit_name_text limit.Names = codes "names"
limit_name_text limit.FrameWords = codes "frame-words"
limit_name_text limit.Methods = codes "methods"
limit_name_text limit.OriginPairs = codes "origin-pairs"
limit_name_text limit.Places = codes "places"
limit_name_text limit.Uses = codes "uses"
limit_name_text limit.Gives = codes "gives"
