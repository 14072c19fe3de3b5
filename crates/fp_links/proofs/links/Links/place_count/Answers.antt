use Rattle.std.proofs.Common.{length, ap, arith}
use Rattle.fp_links.specs.Linked.{Linked}
use Rattle.fp_links.proofs.LinkLemmas.{places-are}
use Rattle.fp_links.proofs.links.Links.place_count.Goals as goal

pub returns : goal.returns
returns c = let i = c.self.inside in omega (arith, i.places.ok, ap (λ (v : Linked). length v.rows) c.self.view_is, places-are i.edges.items i.places.items i.firsts.items i.spare)
