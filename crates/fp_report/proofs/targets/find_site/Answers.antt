use Rattle.std.proofs.Common.{rules}
use Rattle.std.proofs.lemmas.List.Sorted.{answers_always}
use Rattle.fp_report.proofs.SiteLemmas.{searched}
use Rattle.fp_report.proofs.targets.find_site.Goals as goal

pub returns-clause-found : goal.returns-clause-found
returns-clause-found c =
    let facts = c.binary_search_by_key.ensures in
    let by_key = facts.position (λ pair. (pair.0.method, pair.0.pc)) (answers_always _ _ _ (λ f a r g called. search rules)) in
    (searched c.args.targets.now c.args.site c.requires c.binary_search_by_key.result facts.bound by_key).0

pub returns-clause-absent : goal.returns-clause-absent
returns-clause-absent c =
    let facts = c.binary_search_by_key.ensures in
    let by_key = facts.position (λ pair. (pair.0.method, pair.0.pc)) (answers_always _ _ _ (λ f a r g called. search rules)) in
    (searched c.args.targets.now c.args.site c.requires c.binary_search_by_key.result facts.bound by_key).1
