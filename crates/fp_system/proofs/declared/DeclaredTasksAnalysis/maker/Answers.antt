use Rattle.std.proofs.Common.{arith, length}
use Rattle.fp_system.proofs.RowLemmas.{maker_here, maker_none, maker_once}
use Rattle.fp_system.proofs.declared.DeclaredTasksAnalysis.maker.Goals as goal
use Rattle.fp_system.proofs.declared.DeclaredTasksAnalysis.maker.Goals.{else-is_made-via-then-is_made+else-k-eq0, else-is_made-via-else-is_made}

pub returns-then-k-eq0 : goal.returns-then-k-eq0
returns-then-k-eq0 c = let d = c.args.self.now in maker_here d.places d.rows c.args.place c.args.k d.over (omega arith) c.if-k-eq0.true

pub returns-else-is_made : goal.returns-else-is_made
returns-else-is_made c =
    let d = c.args.self.now in
    elim c.else-is_made.branch [
      | else-is_made-via-then-is_made+else-k-eq0 w ↦ omega (arith, maker_once d.places d.rows c.args.place (length d.rows) d.over)
      | else-is_made-via-else-is_made w ↦ omega (arith, maker_none d.places d.rows c.args.place (length d.rows) d.over (omega arith))
    ]
