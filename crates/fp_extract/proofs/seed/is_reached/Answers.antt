use Rattle.std.proofs.Common.{◌≡◌, ◌+◌, ◌*◌, arith}
use Rattle.fp_extract.specs.SeedGraph.{most_names}
use Rattle.fp_extract.proofs.SeedNames.{class-over, class-within}
use Rattle.fp_extract.proofs.seed.is_reached.Goals as goal

pub number-requires : goal.number-requires
number-requires c = (class-within c.args.set.now most_names c.args.class c.class-class.result.now c.class-class.ensures.set c.requires.few c.class-class.ensures.class).name

pub bounds-flags-number : goal.bounds-flags-number
bounds-flags-number c =
    let own = (class-over c.args.set.now c.args.class c.class-class.result.now c.class-class.ensures.set c.class-class.ensures.class).name in
    let is : c.number.result ≡ 3 * c.class-class.result.now.name + 2 = c.number.ensures in
    omega (arith, is, own, c.requires.flags)
