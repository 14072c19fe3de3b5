-- A report, put together of its lines.
use Rattle.std.proofs.Common.{◌≡◌, ℕ, Bool, List, [], ◌∷◌, ◌++◌, map, slice_index, refl, ap, ap₂, ◌∙◌}
use Rattle.std.specs.Prelude.{Vec}
use Rattle.std.specs.declared.alloc.Global.{Global}
use Rattle.fp_base.specs.Order.{in_text_order}
use Rattle.fp_model.specs.declared.class.SiteId.{SiteId}
use Rattle.fp_model.specs.ClassSet.{SetView}
use Rattle.fp_cells.specs.Cells.{Cell}
use Rattle.fp_report.specs.Report.{count_line, demanded_from, line_at, report}

-- the bytes of lines
abbrev pub bytes_of : List (Vec ℕ Global) → List (List ℕ)
bytes_of lines = map (λ l. l.items) lines

bytes-more : (lines : List (Vec ℕ Global)) (last : Vec ℕ Global) → bytes_of (lines ++ last ∷ []) ≡ bytes_of lines ++ last.items ∷ []
bytes-more [] last = refl
bytes-more (l ∷ ls) last = ap (λ rest. l.items ∷ rest) (bytes-more ls last)

pub report-made : (set : SetView) (cells : List Cell) (targets : List (SiteId × List ℕ)) (shown values : List ℕ) (wanted : ℕ → Bool) (lines sorted ended pushed : List (Vec ℕ Global)) (last : Vec ℕ Global) (count : ℕ)
    → bytes_of lines ≡ map (line_at set cells targets (slice_index values)) shown → bytes_of sorted ≡ in_text_order (bytes_of lines) → bytes_of ended ≡ map (λ line. line ++ 10 ∷ []) (bytes_of sorted)
    → last.items ≡ count_line count → count ≡ demanded_from wanted 0 cells → pushed ≡ ended ++ last ∷ []
    → bytes_of pushed ≡ report set cells targets shown (slice_index values) wanted
unfolding report
report-made set cells targets shown values wanted lines sorted ended pushed last count lines_are sorted_are ended_are last_is count_is pushed_is =
    ap (λ (l : List (Vec ℕ Global)). bytes_of l) pushed_is ∙ bytes-more ended last
    ∙ ap₂ (λ (xs : List (List ℕ)) (y : List ℕ). xs ++ y ∷ []) (ended_are ∙ ap (λ (xs : List (List ℕ)). map (λ line. line ++ 10 ∷ []) xs) (sorted_are ∙ ap in_text_order lines_are)) (last_is ∙ ap count_line count_is)
