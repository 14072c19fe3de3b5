use Rattle.std.proofs.Common.{◌≡◌, ◌<◌, ◌∷◌, ◌++◌, [], length, false, ap, arith, rules}
use Rattle.fp_base.specs.Names.{has_name, texts_of}
use Rattle.fp_base.proofs.NameLemmas.{IsNameTable-push}
use Rattle.fp_base.proofs.names.Names.intern.Goals as goal

pub invariant_of-self-2 : goal.invariant_of-self-2
invariant_of-self-2 c =
    let new : has_name (texts_of c.self.inside.set) c.args.text.now ≡ false = search rules in
    let room : length (texts_of c.self.inside.set) < 16777216 = omega (arith, ap length c.self.view_is) in
    let longer : texts_of c.add_new.new.set ≡ texts_of c.self.inside.set ++ c.args.text.now ∷ [] = search rules in
    IsNameTable-push (texts_of c.self.inside.set) (texts_of c.add_new.new.set) c.args.text.now c.self.invariant new room longer
