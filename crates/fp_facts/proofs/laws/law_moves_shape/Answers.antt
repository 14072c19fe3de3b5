use Rattle.fp_facts.proofs.ShapedMoves.{moves-shaped}
use Rattle.fp_facts.proofs.laws.law_moves_shape.Goals as goal

pub returns : goal.returns
returns g c =
    λ m code w none caught made arguments sound is kinded within long made_long laws p.
    moves-shaped m code sound is kinded within w none caught made arguments long made_long laws p
