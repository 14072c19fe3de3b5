use Rattle.std.proofs.Common.{◌++◌, ◌∙◌, List, ℕ, ap, sym}
use Rattle.std.proofs.lemmas.List.{append-nil}
use Rattle.fp_rta.specs.Listed.{places_at}
use Rattle.fp_rta.proofs.PlaceLists.{none-watched}
use Rattle.fp_rta.proofs.candidates.add_watched.Goals as goal

pub returns-in-None-clause-lists : goal.returns-in-None-clause-lists
returns-in-None-clause-lists c b within =
    let here = places_at c.args.lists.now.items b in
    sym (ap (λ (l : List ℕ). here ++ l) (none-watched c.args.cells.now b c.args.class c.args.bits.now (sym c.inst_place.ensures ∙ c.in-None.is)) ∙ append-nil here)
