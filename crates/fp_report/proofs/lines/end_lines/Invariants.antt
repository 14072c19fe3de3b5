use Rattle.std.proofs.Common.{◌≡◌, ◌++◌, ◌∷◌, [], map}
use Rattle.fp_report.proofs.lines.end_lines.Given as goal

-- the lines so far have their ends
abbrev pub invariant-loop-line : goal.invariant-loop-line
invariant-loop-line l = map (λ line. line.items) l.ended.items ≡ map (λ line. line ++ 10 ∷ []) (map (λ line. line.items) l.yielded)
