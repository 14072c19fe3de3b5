use Rattle.std.proofs.Common.{◌≡◌, ◌∷◌, map, take}
use Rattle.fp_rta.specs.Meaning.{AreGiversShort, body_row, root_row}
use Rattle.fp_rta.proofs.givers.givers.Given as goal

abbrev pub invariant-loop-method : goal.invariant-loop-method
invariant-loop-method l = record {
  givers : l.givers.items ≡ root_row l.set l.facts l.cells ∷ map (body_row l.set l.cells) (take l.method-index l.method-items);
  short : AreGiversShort l.givers.items;
}
