use Rattle.std.proofs.Common.{◌∙◌, length, ap, sym, arith}
use Rattle.fp_facts.specs.Initialisation.{is_initialiser}
use Rattle.fp_rta.proofs.PlaceLists.{member-below, position-within}
use Rattle.fp_rta.proofs.initialiser.initialiser.Goals as goal

pub overflow_add-result : goal.overflow_add-result
overflow_add-result c =
    let set = c.args.set.now in
    let own = c.class.result.now in
    let found = sym c.initialiser_among.ensures ∙ c.in_ok-at.was in
    let within = position-within (is_initialiser c.names.result.now) c.as_slice.result.now c.in_ok-at.at found in
    let below = member-below set.classes c.args.class own c.in_ok-at.at c.class.ensures.class (omega (arith, within, ap length c.as_slice.ensures)) in
    omega (arith, below, c.class.ensures.set.few.methods, c.first_method.ensures)

pub overflow_cast-result : goal.overflow_cast-result
overflow_cast-result c =
    let set = c.args.set.now in
    let own = c.class.result.now in
    let found = sym c.initialiser_among.ensures ∙ c.in_ok-at.was in
    let within = position-within (is_initialiser c.names.result.now) c.as_slice.result.now c.in_ok-at.at found in
    let below = member-below set.classes c.args.class own c.in_ok-at.at c.class.ensures.class (omega (arith, within, ap length c.as_slice.ensures)) in
    omega (arith, below, c.class.ensures.set.few.methods)
